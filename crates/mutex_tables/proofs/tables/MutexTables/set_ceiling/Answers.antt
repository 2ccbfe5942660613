use Rattle.std.proofs.Common.{ℕ, ◌≡◌, ◌∙◌, refl, sym, ap, subst, List}
use Rattle.rt_plain.specs.kernel.Ownership.{CurChange, Ownership, ceiling_edit, changes}
use Rattle.rt_plain.specs.kernel.MutexCalls.{with_mutex}
use Rattle.mutex_chain.specs.Graph.{ChangeList}
use Rattle.mutex_tie.proofs.NameLemmas.{number-there}
use Rattle.mutex_tables.specs.MutexTabled.{MutexTabled, plain_state, seen}
use Rattle.mutex_tables.specs.Moved.{AreWithin, MovesOne, renewed}
use Rattle.mutex_tables.specs.Mutexes.{followed}
use Rattle.mutex_tables.proofs.StopLemmas.{inside-room}
use Rattle.mutex_tables.proofs.CreateLemmas.{inside-known}
use Rattle.mutex_tables.proofs.FollowLemmas.{follow-within, follow-keeps, follow-keeps-by, follow-seen-by, renewed-by-list, follow-list}
use Rattle.mutex_tables.proofs.TakeLemmas.{ceiling-found, ceiling-graph, ceiling-seen, still-changes, still-follows}
use Rattle.mutex_tables.proofs.OneLemmas.{ceiling-one}
use Rattle.mutex_tables.proofs.tables.MutexTables.set_ceiling.Goals as goal
use Rattle.mutex_tables.proofs.tables.MutexTables.set_ceiling.Given.{Over}

pub number_in-no-requires : goal.number_in-no-requires
number_in-no-requires g c = sym (inside-known c.self.inside c.args.self.now c.args.name.now c.self.view_is) ∙ c.requires.known

pub set_ceiling-old-requires-clause-there : goal.set_ceiling-old-requires-clause-there
set_ceiling-old-requires-clause-there g c = c.self.invariant.graph.there c.number_in-no.result ∙ number-there c.self.inside.names.mutex.objects c.args.name.now c.number_in-no.result c.number_in-no.ensures

pub set_ceiling-old-requires-clause-room : goal.set_ceiling-old-requires-clause-room
set_ceiling-old-requires-clause-room g c = inside-room c.self.inside c.args.self.now c.args.out.now.threads c.self.view_is c.self.invariant c.requires.room

pub renew-requires : goal.renew-requires
renew-requires g c =
    let k = c.self.inside in
    let i : ℕ = c.number_in-no.result in
    let p : Ownership = ceiling_edit i c.args.ceiling k.graph in
    subst (AreWithin k.tables) (sym (c.as_slice.ensures ∙ ap (λ (x : ChangeList). x.changes) c.set_ceiling-old.ensures.changes ∙ ap (changes k.graph) c.set_ceiling-old.ensures.graph))
    (follow-within k.tables.ready k.tables k.bases.items k.names.mutex k.graph p (still-follows k k.names.mutex p c.self.invariant (ceiling-graph k c.args.name.now i c.args.ceiling c.self.invariant c.number_in-no.ensures)))

-- the lists follow
lists : (g : Over) (c : goal.After-renew g) → c.renew.new.tables ≡ renewed c.self.inside.tables (changes c.self.inside.graph (ceiling_edit c.number_in-no.result c.args.ceiling c.self.inside.graph))
lists g c =
    let k = c.self.inside in
    renewed-by-list c.renew.new.tables k.tables c.as_slice.result.now c.args.out.now c.set_ceiling-old.new.out k.graph (ceiling_edit c.number_in-no.result c.args.ceiling k.graph) c.set_ceiling-old.new.self c.renew.ensures c.as_slice.ensures c.set_ceiling-old.ensures.changes c.set_ceiling-old.ensures.graph

pub invariant_of-self : goal.invariant_of-self
invariant_of-self g c =
    let k = c.self.inside in
    let i : ℕ = c.number_in-no.result in
    let p : Ownership = ceiling_edit i c.args.ceiling k.graph in
    follow-keeps-by c.renew.new.tables k.tables k.bases.items k.bases.items k.names.mutex k.graph p c.set_ceiling-old.new.self (lists g c) refl c.set_ceiling-old.ensures.graph
    (follow-keeps k.tables.ready k.tables k.bases.items k.names.mutex k.graph p (still-follows k k.names.mutex p c.self.invariant (ceiling-graph k c.args.name.now i c.args.ceiling c.self.invariant c.number_in-no.ensures)))

shown : (g : Over) (c : goal.After-renew g) → seen c.renew.new.tables c.self.inside.bases.items c.self.inside.names.mutex c.set_ceiling-old.new.self
    ≡ seen (renewed c.self.inside.tables (changes c.self.inside.graph (ceiling_edit c.number_in-no.result c.args.ceiling c.self.inside.graph))) c.self.inside.bases.items c.self.inside.names.mutex (ceiling_edit c.number_in-no.result c.args.ceiling c.self.inside.graph)
shown g c =
    let k = c.self.inside in
    follow-seen-by c.renew.new.tables k.tables k.bases.items k.bases.items k.names.mutex k.graph (ceiling_edit c.number_in-no.result c.args.ceiling k.graph) c.set_ceiling-old.new.self (lists g c) refl c.set_ceiling-old.ensures.graph

pub returns-clause-answer : goal.returns-clause-answer
returns-clause-answer g c = ceiling-found c.self.inside c.args.self.now c.args.name.now c.number_in-no.result c.set_ceiling-old.result c.self.view_is c.number_in-no.ensures c.set_ceiling-old.ensures.answer

pub returns-clause-changes : goal.returns-clause-changes
returns-clause-changes g c =
    let k = c.self.inside in
    let i : ℕ = c.number_in-no.result in
    let p : Ownership = ceiling_edit i c.args.ceiling k.graph in
    follow-list c.args.out.now c.set_ceiling-old.new.out k.graph p c.set_ceiling-old.new.self c.args.self.now (seen (renewed k.tables (changes k.graph p)) k.bases.items k.names.mutex p) _ c.set_ceiling-old.ensures.changes c.set_ceiling-old.ensures.graph
    (still-changes k c.args.self.now k.names.mutex p c.self.view_is c.self.invariant (ceiling-graph k c.args.name.now i c.args.ceiling c.self.invariant c.number_in-no.ensures)) (shown g c)

pub returns-clause-state : goal.returns-clause-state
returns-clause-state g c =
    let k = c.self.inside in
    let v : MutexTabled = c.args.self.now in
    shown g c
    ∙ ceiling-seen k v c.args.name.now c.number_in-no.result c.args.ceiling c.self.view_is c.self.invariant c.number_in-no.ensures
    ∙ ap (λ (cs : List CurChange). followed v (with_mutex (plain_state v) (record { name = c.args.name.now; ceiling = c.args.ceiling })) cs) (sym (ap (λ (x : ChangeList). x.changes) c.set_ceiling-old.ensures.changes ∙ ap (changes k.graph) c.set_ceiling-old.ensures.graph))

pub returns-clause-one : goal.returns-clause-one
returns-clause-one g c out =
    subst (MovesOne c.args.self.now.ready) (sym (ap (λ (x : ChangeList). x.changes) c.set_ceiling-old.ensures.changes ∙ ap (changes c.self.inside.graph) c.set_ceiling-old.ensures.graph))
    (ceiling-one c.self.inside c.args.self.now c.number_in-no.result c.args.ceiling c.self.view_is c.self.invariant out)
