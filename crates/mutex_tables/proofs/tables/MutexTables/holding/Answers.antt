use Rattle.std.proofs.Common.{◌∙◌, ℕ, Some, ap, sym}
use Rattle.rt_plain.specs.kernel.Priority.{holding_of}
use Rattle.mutex_tie.proofs.NameLemmas.{number-there}
use Rattle.mutex_tables.specs.MutexTabled.{MutexTabled, plain_state}
use Rattle.mutex_tables.proofs.HoldLemmas.{held, held-by, held-free, held-none}
use Rattle.mutex_tables.proofs.SeenLemmas.{inside-stands, view_of}
use Rattle.mutex_tables.proofs.tables.MutexTables.holding.Goals as goal

pub returns-in_default : goal.returns-in_default
returns-in_default c =
    let k = c.self.inside in
    held-none (plain_state (view_of k)) k.names.mutex k.graph c.args.name.now (inside-stands k c.self.invariant) (sym c.in_default.ensures)
    ∙ ap (λ (v : MutexTabled). held (holding_of (plain_state v) c.args.name.now)) c.self.view_is

pub owner-requires : goal.owner-requires
owner-requires c = c.self.invariant.graph.there c.in-Some.no ∙ number-there c.self.inside.names.mutex.objects c.args.name.now c.in-Some.no (sym c.in-Some.ensures)

pub returns-in_default-owner : goal.returns-in_default-owner
returns-in_default-owner c =
    let k = c.self.inside in
    held-free (plain_state (view_of k)) k.names.mutex k.graph c.args.name.now c.in-Some.no (inside-stands k c.self.invariant) (sym c.in-Some.ensures) (sym c.in_default-owner.ensures)
    ∙ ap (λ (v : MutexTabled). held (holding_of (plain_state v) c.args.name.now)) c.self.view_is

pub hold-requires : goal.hold-requires
hold-requires c = c.self.invariant.graph.there c.in-Some.no ∙ number-there c.self.inside.names.mutex.objects c.args.name.now c.in-Some.no (sym c.in-Some.ensures)

pub returns : goal.returns
returns c =
    let k = c.self.inside in
    ap (λ (hold : ℕ). Some (c.in-Some-owner.owner, hold)) c.hold.ensures
    ∙ held-by (plain_state (view_of k)) k.names.mutex k.graph c.args.name.now c.in-Some.no c.in-Some-owner.owner (inside-stands k c.self.invariant) (sym c.in-Some.ensures) (sym c.in-Some-owner.ensures)
    ∙ ap (λ (v : MutexTabled). held (holding_of (plain_state v) c.args.name.now)) c.self.view_is
