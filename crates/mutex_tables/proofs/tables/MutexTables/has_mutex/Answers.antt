use Rattle.std.proofs.Common.{◌≡◌, ◌∙◌, Option, None, Some, ℕ, false, ap, sym, refl, subst, is_some}
use Rattle.rt_plain.specs.kernel.Priority.{holding_of}
use Rattle.mutex_tables.specs.MutexTabled.{MutexTabled, plain_state}
use Rattle.mutex_tables.proofs.CreateLemmas.{inside-known}
use Rattle.mutex_tables.proofs.HoldLemmas.{holding-none}
use Rattle.mutex_tables.proofs.SeenLemmas.{inside-stands, view_of}
use Rattle.mutex_tables.proofs.tables.MutexTables.has_mutex.Goals as goal

pub returns-clause-there : goal.returns-clause-there
returns-clause-there c = c.is_some.ensures ∙ ap (λ (o : Option ℕ). is_some o) c.find.ensures ∙ sym (inside-known c.self.inside c.args.self.now c.args.name.now c.self.view_is)

no-number : (o : Option ℕ) → is_some o ≡ false → o ≡ None
no-number None e = refl
no-number (Some n) e = absurd cc

pub returns-clause-free : goal.returns-clause-free
returns-clause-free c missing =
    let k = c.self.inside in
    subst (λ (v : MutexTabled). holding_of (plain_state v) c.args.name.now ≡ None) c.self.view_is
    (holding-none (plain_state (view_of k)) k.names.mutex k.graph c.args.name.now (inside-stands k c.self.invariant) (sym c.find.ensures ∙ no-number c.find.result (sym c.is_some.ensures ∙ missing)))
