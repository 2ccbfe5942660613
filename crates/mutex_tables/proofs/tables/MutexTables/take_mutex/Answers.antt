use Rattle.std.proofs.Common.{ℕ, ◌≡◌, ◌∙◌, refl, sym, ap, subst, List}
use Rattle.rt_plain.specs.kernel.Ownership.{CurChange, Ownership, changes, take_edit, taken_of}
use Rattle.rt_plain.specs.kernel.Priority.{holding_of}
use Rattle.mutex_chain.specs.Graph.{ChangeList}
use Rattle.mutex_tie.proofs.NameLemmas.{number-there}
use Rattle.mutex_tables.specs.MutexTabled.{MutexTabled, plain_state, seen}
use Rattle.mutex_tables.specs.Moved.{AreWithin, MovesOne, renewed}
use Rattle.mutex_tables.specs.Mutexes.{followed, taken_state, took_by}
use Rattle.mutex_tables.proofs.SeenLemmas.{inside-stands, view_of}
use Rattle.mutex_tables.proofs.StopLemmas.{inside-member, inside-room}
use Rattle.mutex_tables.proofs.CreateLemmas.{inside-known}
use Rattle.mutex_tables.proofs.FollowLemmas.{follow-within, follow-keeps, follow-keeps-by, follow-seen-by, renewed-by-list, follow-list}
use Rattle.mutex_tables.proofs.TakeLemmas.{holding-is, inside-idle, still-changes, still-follows, take-graph, take-seen, took-is}
use Rattle.mutex_tables.proofs.OneLemmas.{take-one}
use Rattle.mutex_tables.proofs.tables.MutexTables.take_mutex.Goals as goal
use Rattle.mutex_tables.proofs.tables.MutexTables.take_mutex.Given.{Over}

pub number_in-no-requires : goal.number_in-no-requires
number_in-no-requires g c = sym (inside-known c.self.inside c.args.self.now c.args.name.now c.self.view_is) ∙ c.requires.known

pub take-took-requires-clause-thread : goal.take-took-requires-clause-thread
take-took-requires-clause-thread g c = inside-member c.self.inside c.args.self.now c.args.t c.self.view_is c.self.invariant c.requires.there c.requires.live

pub take-took-requires-clause-mutex : goal.take-took-requires-clause-mutex
take-took-requires-clause-mutex g c = c.self.invariant.graph.there c.number_in-no.result ∙ number-there c.self.inside.names.mutex.objects c.args.name.now c.number_in-no.result c.number_in-no.ensures

pub take-took-requires-clause-idle : goal.take-took-requires-clause-idle
take-took-requires-clause-idle g c = inside-idle c.self.inside c.args.self.now c.args.t c.self.view_is c.self.invariant c.requires.idle

pub take-took-requires-clause-room : goal.take-took-requires-clause-room
take-took-requires-clause-room g c = inside-room c.self.inside c.args.self.now c.args.out.now.threads c.self.view_is c.self.invariant c.requires.room

pub renew-requires : goal.renew-requires
renew-requires g c =
    let k = c.self.inside in
    let i : ℕ = c.number_in-no.result in
    let p : Ownership = take_edit c.args.t i k.graph in
    subst (AreWithin k.tables) (sym (c.as_slice.ensures ∙ ap (λ (x : ChangeList). x.changes) c.take-took.ensures.changes ∙ ap (changes k.graph) c.take-took.ensures.graph))
    (follow-within k.tables.ready k.tables k.bases.items k.names.mutex k.graph p (still-follows k k.names.mutex p c.self.invariant (take-graph k c.args.name.now i c.args.t c.self.invariant c.number_in-no.ensures)))

-- the lists follow
lists : (g : Over) (c : goal.After-renew g) → c.renew.new.tables ≡ renewed c.self.inside.tables (changes c.self.inside.graph (take_edit c.args.t c.number_in-no.result c.self.inside.graph))
lists g c =
    let k = c.self.inside in
    renewed-by-list c.renew.new.tables k.tables c.as_slice.result.now c.args.out.now c.take-took.new.out k.graph (take_edit c.args.t c.number_in-no.result k.graph) c.take-took.new.self c.renew.ensures c.as_slice.ensures c.take-took.ensures.changes c.take-took.ensures.graph

pub invariant_of-self : goal.invariant_of-self
invariant_of-self g c =
    let k = c.self.inside in
    let i : ℕ = c.number_in-no.result in
    let p : Ownership = take_edit c.args.t i k.graph in
    follow-keeps-by c.renew.new.tables k.tables k.bases.items k.bases.items k.names.mutex k.graph p c.take-took.new.self (lists g c) refl c.take-took.ensures.graph
    (follow-keeps k.tables.ready k.tables k.bases.items k.names.mutex k.graph p (still-follows k k.names.mutex p c.self.invariant (take-graph k c.args.name.now i c.args.t c.self.invariant c.number_in-no.ensures)))

shown : (g : Over) (c : goal.After-renew g) → seen c.renew.new.tables c.self.inside.bases.items c.self.inside.names.mutex c.take-took.new.self
    ≡ seen (renewed c.self.inside.tables (changes c.self.inside.graph (take_edit c.args.t c.number_in-no.result c.self.inside.graph))) c.self.inside.bases.items c.self.inside.names.mutex (take_edit c.args.t c.number_in-no.result c.self.inside.graph)
shown g c =
    let k = c.self.inside in
    follow-seen-by c.renew.new.tables k.tables k.bases.items k.bases.items k.names.mutex k.graph (take_edit c.args.t c.number_in-no.result k.graph) c.take-took.new.self (lists g c) refl c.take-took.ensures.graph

pub returns-clause-answer : goal.returns-clause-answer
returns-clause-answer g c =
    let k = c.self.inside in
    let i : ℕ = c.number_in-no.result in
    c.take-took.ensures.answer
    ∙ took-is k.names.mutex.objects c.args.t (taken_of k.graph i)
    ∙ ap (took_by c.args.t) (sym (holding-is (plain_state (view_of k)) k.names.mutex k.graph c.args.name.now i (inside-stands k c.self.invariant) c.number_in-no.ensures))
    ∙ ap (λ (v : MutexTabled). took_by c.args.t (holding_of (plain_state v) c.args.name.now)) c.self.view_is

pub returns-clause-changes : goal.returns-clause-changes
returns-clause-changes g c =
    let k = c.self.inside in
    let i : ℕ = c.number_in-no.result in
    let p : Ownership = take_edit c.args.t i k.graph in
    follow-list c.args.out.now c.take-took.new.out k.graph p c.take-took.new.self c.args.self.now (seen (renewed k.tables (changes k.graph p)) k.bases.items k.names.mutex p) _ c.take-took.ensures.changes c.take-took.ensures.graph
    (still-changes k c.args.self.now k.names.mutex p c.self.view_is c.self.invariant (take-graph k c.args.name.now i c.args.t c.self.invariant c.number_in-no.ensures)) (shown g c)

pub returns-clause-state : goal.returns-clause-state
returns-clause-state g c =
    let k = c.self.inside in
    let v : MutexTabled = c.args.self.now in
    shown g c
    ∙ take-seen k v c.args.name.now c.number_in-no.result c.args.t c.self.view_is c.self.invariant c.number_in-no.ensures
    ∙ ap (λ (cs : List CurChange). followed v (taken_state c.args.name.now c.args.t (holding_of (plain_state v) c.args.name.now) (plain_state v)) cs) (sym (ap (λ (x : ChangeList). x.changes) c.take-took.ensures.changes ∙ ap (changes k.graph) c.take-took.ensures.graph))

pub returns-clause-one : goal.returns-clause-one
returns-clause-one g c out =
    subst (MovesOne c.args.self.now.ready) (sym (ap (λ (x : ChangeList). x.changes) c.take-took.ensures.changes ∙ ap (changes c.self.inside.graph) c.take-took.ensures.graph))
    (take-one c.self.inside c.args.self.now c.args.t c.number_in-no.result c.self.view_is c.self.invariant out (inside-idle c.self.inside c.args.self.now c.args.t c.self.view_is c.self.invariant c.requires.idle))
