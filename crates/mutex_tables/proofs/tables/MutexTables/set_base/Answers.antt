use Rattle.std.proofs.Common.{ℕ, ◌≡◌, ◌∙◌, ◌<◌, arith, false, refl, sym, ap, subst, length, List, slice_set}
use Rattle.rt_plain.specs.kernel.State.{is_closed}
use Rattle.rt_plain.specs.kernel.Ownership.{CurChange, base_edit, changes}
use Rattle.kernel_tables.specs.Threads.{row_at, with_row}
use Rattle.mutex_chain.specs.Graph.{ChangeList}
use Rattle.mutex_tables.specs.MutexTabled.{MutexTabled, seen}
use Rattle.mutex_tables.specs.Moved.{AreWithin, MovesOne, moved_behind, renewed}
use Rattle.mutex_tables.proofs.SeenLemmas.{inside-there}
use Rattle.mutex_tables.proofs.StageLemmas.{inside-stage}
use Rattle.mutex_tables.proofs.StopLemmas.{inside-member, inside-room}
use Rattle.mutex_tables.proofs.FollowLemmas.{MayFollow, follow-within, follow-keeps, follow-changes, follow-keeps-by, follow-seen-by, renewed-by-list, follow-list, base-follows, base-seen}
use Rattle.mutex_tables.proofs.OneLemmas.{based-one}
use Rattle.mutex_tables.proofs.tables.MutexTables.set_base.Goals as goal
use Rattle.mutex_tables.proofs.tables.MutexTables.set_base.Given.{Over}

pub set_base-requires-clause-there : goal.set_base-requires-clause-there
set_base-requires-clause-there g c = inside-member c.self.inside c.args.self.now c.args.t c.self.view_is c.self.invariant c.requires.there c.requires.live

pub set_base-requires-clause-room : goal.set_base-requires-clause-room
set_base-requires-clause-room g c = inside-room c.self.inside c.args.self.now c.args.out.now.threads c.self.view_is c.self.invariant c.requires.room

pub index_mut-requires : goal.index_mut-requires
index_mut-requires g c = omega (arith, c.t.view_is, inside-there c.self.inside c.args.self.now c.args.t c.self.view_is c.requires.there, c.self.invariant.sized)

pub renew-requires : goal.renew-requires
renew-requires g c =
    let k = c.self.inside in
    let there : c.args.t < length k.tables.threads = inside-there k c.args.self.now c.args.t c.self.view_is c.requires.there in
    let live : is_closed (row_at k.tables.threads c.args.t).stage ≡ false = ap is_closed (inside-stage k c.args.self.now c.args.t c.self.view_is c.self.invariant c.requires.there) ∙ c.requires.live in
    let level : c.args.base < k.tables.levels = subst (λ (v : MutexTabled). c.args.base < v.levels) (sym c.self.view_is) c.requires.level in
    subst (AreWithin k.tables) (sym (c.as_slice.ensures ∙ ap (λ (x : ChangeList). x.changes) c.set_base.ensures.changes ∙ ap (changes k.graph) c.set_base.ensures.graph))
    (follow-within k.tables.ready k.tables (slice_set k.bases.items c.args.t c.args.base) k.names.mutex k.graph (base_edit c.args.t c.args.base k.graph) (base-follows k c.args.t c.args.base c.self.invariant there live level))

pub invariant_of-self : goal.invariant_of-self
invariant_of-self g c =
    let k = c.self.inside in
    let p = base_edit c.args.t c.args.base k.graph in
    let bases : List ℕ = slice_set k.bases.items c.args.t c.args.base in
    let there : c.args.t < length k.tables.threads = inside-there k c.args.self.now c.args.t c.self.view_is c.requires.there in
    let live : is_closed (row_at k.tables.threads c.args.t).stage ≡ false = ap is_closed (inside-stage k c.args.self.now c.args.t c.self.view_is c.self.invariant c.requires.there) ∙ c.requires.live in
    let level : c.args.base < k.tables.levels = subst (λ (v : MutexTabled). c.args.base < v.levels) (sym c.self.view_is) c.requires.level in
    follow-keeps-by c.renew.new.tables k.tables bases (slice_set k.bases.items c.t.inside.0 c.args.base) k.names.mutex k.graph p c.set_base.new.self
    (renewed-by-list c.renew.new.tables k.tables c.as_slice.result.now c.args.out.now c.set_base.new.out k.graph p c.set_base.new.self c.renew.ensures c.as_slice.ensures c.set_base.ensures.changes c.set_base.ensures.graph)
    (ap (λ n. slice_set k.bases.items n c.args.base) c.t.view_is) c.set_base.ensures.graph
    (follow-keeps k.tables.ready k.tables bases k.names.mutex k.graph p (base-follows k c.args.t c.args.base c.self.invariant there live level))

-- what contracts see then
shown : (g : Over) (c : goal.After-renew g) → seen c.renew.new.tables (slice_set c.self.inside.bases.items c.t.inside.0 c.args.base) c.self.inside.names.mutex c.set_base.new.self
    ≡ seen (renewed c.self.inside.tables (changes c.self.inside.graph (base_edit c.args.t c.args.base c.self.inside.graph))) (slice_set c.self.inside.bases.items c.args.t c.args.base) c.self.inside.names.mutex (base_edit c.args.t c.args.base c.self.inside.graph)
shown g c =
    let k = c.self.inside in
    let p = base_edit c.args.t c.args.base k.graph in
    follow-seen-by c.renew.new.tables k.tables (slice_set k.bases.items c.args.t c.args.base) (slice_set k.bases.items c.t.inside.0 c.args.base) k.names.mutex k.graph p c.set_base.new.self
    (renewed-by-list c.renew.new.tables k.tables c.as_slice.result.now c.args.out.now c.set_base.new.out k.graph p c.set_base.new.self c.renew.ensures c.as_slice.ensures c.set_base.ensures.changes c.set_base.ensures.graph)
    (ap (λ n. slice_set k.bases.items n c.args.base) c.t.view_is) c.set_base.ensures.graph

pub returns-clause-changes : goal.returns-clause-changes
returns-clause-changes g c =
    let k = c.self.inside in
    let p = base_edit c.args.t c.args.base k.graph in
    let bases : List ℕ = slice_set k.bases.items c.args.t c.args.base in
    let there : c.args.t < length k.tables.threads = inside-there k c.args.self.now c.args.t c.self.view_is c.requires.there in
    let live : is_closed (row_at k.tables.threads c.args.t).stage ≡ false = ap is_closed (inside-stage k c.args.self.now c.args.t c.self.view_is c.self.invariant c.requires.there) ∙ c.requires.live in
    let level : c.args.base < k.tables.levels = subst (λ (v : MutexTabled). c.args.base < v.levels) (sym c.self.view_is) c.requires.level in
    let follows = subst (λ (ready : List ℕ). MayFollow ready k.tables bases k.names.mutex k.graph p) (ap (λ (v : MutexTabled). v.ready) c.self.view_is) (base-follows k c.args.t c.args.base c.self.invariant there live level) in
    follow-list c.args.out.now c.set_base.new.out k.graph p c.set_base.new.self c.args.self.now (seen (renewed k.tables (changes k.graph p)) bases k.names.mutex p) _ c.set_base.ensures.changes c.set_base.ensures.graph
    (follow-changes k c.args.self.now k.tables bases k.names.mutex p c.self.view_is c.self.invariant follows refl (λ u lives. lives)) (shown g c)

pub returns-clause-state : goal.returns-clause-state
returns-clause-state g c =
    let k = c.self.inside in
    let v : MutexTabled = c.args.self.now in
    let there : c.args.t < length k.tables.threads = inside-there k c.args.self.now c.args.t c.self.view_is c.requires.there in
    let live : is_closed (row_at k.tables.threads c.args.t).stage ≡ false = ap is_closed (inside-stage k c.args.self.now c.args.t c.self.view_is c.self.invariant c.requires.there) ∙ c.requires.live in
    let level : c.args.base < k.tables.levels = subst (λ (v : MutexTabled). c.args.base < v.levels) (sym c.self.view_is) c.requires.level in
    shown g c
    ∙ base-seen k v c.args.t c.args.base c.self.view_is c.self.invariant there live level
    ∙ ap (λ (cs : List CurChange). record v { threads = with_row v.threads c.args.t (λ row. record row { base = c.args.base }); ready = moved_behind v.ready cs v.ready }) (sym (ap (λ (x : ChangeList). x.changes) c.set_base.ensures.changes ∙ ap (changes k.graph) c.set_base.ensures.graph))

pub returns-clause-one : goal.returns-clause-one
returns-clause-one g c out =
    subst (MovesOne c.args.self.now.ready) (sym (ap (λ (x : ChangeList). x.changes) c.set_base.ensures.changes ∙ ap (changes c.self.inside.graph) c.set_base.ensures.graph))
    (based-one c.self.inside c.args.self.now c.args.t c.args.base c.self.view_is c.self.invariant out)
