use Rattle.std.proofs.Common.{ℕ, ◌≡◌, ◌∙◌, refl, sym, ap, subst, List, Option}
use Rattle.std.specs.Prelude.{IfSome}
use Rattle.rt_plain.specs.kernel.MutexCalls.{mutex_release}
use Rattle.rt_plain.specs.kernel.Outcome.{ByThread}
use Rattle.rt_plain.specs.kernel.Ownership.{CurChange, Ownership, changes, first_in, release_edit, taken_of}
use Rattle.kernel_tables.specs.Tabled.{Tabled}
use Rattle.mutex_chain.specs.Graph.{ChangeList, released_of}
use Rattle.mutex_chain.specs.declared.answers.Released.{Released}
use Rattle.mutex_tie.proofs.NameLemmas.{number-there}
use Rattle.mutex_tie.proofs.ReleaseLemmas.{stands-released}
use Rattle.mutex_tables.specs.MutexTabled.{MutexTabled, plain_state, seen}
use Rattle.mutex_tables.specs.Moved.{AreWithin, MovesOne, renewed}
use Rattle.mutex_tables.specs.Mutexes.{MayWake, followed, passed_to, woken_next}
use Rattle.mutex_tables.proofs.SeenLemmas.{inside-stands, view_of}
use Rattle.mutex_tables.proofs.StopLemmas.{inside-member, inside-room}
use Rattle.mutex_tables.proofs.CreateLemmas.{inside-known}
use Rattle.mutex_tables.proofs.FollowLemmas.{follow-within, follow-keeps, follow-keeps-by, follow-seen-by, renewed-by-list, follow-list}
use Rattle.mutex_tables.proofs.ReleaseLemmas.{next-wakes, release-shape, released-changes, released-follows, released-is, released-seen}
use Rattle.mutex_tables.proofs.OneLemmas.{release-one}
use Rattle.mutex_tables.proofs.TakeLemmas.{inside-idle}
use Rattle.mutex_tables.proofs.tables.MutexTables.release_mutex.Goals as goal
use Rattle.mutex_tables.proofs.tables.MutexTables.release_mutex.Given.{Over}

pub number_in-no-requires : goal.number_in-no-requires
number_in-no-requires g c = sym (inside-known c.self.inside c.args.self.now c.args.name.now c.self.view_is) ∙ c.requires.known

pub release-released-requires-clause-thread : goal.release-released-requires-clause-thread
release-released-requires-clause-thread g c = inside-member c.self.inside c.args.self.now c.args.t c.self.view_is c.self.invariant c.requires.there c.requires.live

pub release-released-requires-clause-mutex : goal.release-released-requires-clause-mutex
release-released-requires-clause-mutex g c = c.self.invariant.graph.there c.number_in-no.result ∙ number-there c.self.inside.names.mutex.objects c.args.name.now c.number_in-no.result c.number_in-no.ensures

pub release-released-requires-clause-room : goal.release-released-requires-clause-room
release-released-requires-clause-room g c = inside-room c.self.inside c.args.self.now c.args.out.now.threads c.self.view_is c.self.invariant c.requires.room

pub wake_next-requires : goal.wake_next-requires
wake_next-requires g c =
    let k = c.self.inside in
    let i : ℕ = c.number_in-no.result in
    let p : Ownership = release_edit c.args.t i k.graph in
    let s = plain_state (view_of k) in
    let after = (mutex_release c.args.name.now s (ByThread c.args.t 0)).effect.state in
    subst (λ (o : Ownership). IfSome (passed_to c.release-released.result) (MayWake k.tables o)) (sym c.release-released.ensures.graph)
    (subst (λ (r : Released). IfSome (passed_to r) (MayWake k.tables p)) (sym c.release-released.ensures.answer)
    (next-wakes k c.args.self.now after i (passed_to (released_of c.args.t (taken_of k.graph i) (first_in k.graph i))) p c.self.view_is c.self.invariant c.requires.apart
    (stands-released s k.names.mutex k.graph c.args.name.now i c.args.t 0 (inside-stands k c.self.invariant) c.number_in-no.ensures)
    (release-shape s k.names.mutex k.graph c.args.name.now i c.args.t (inside-stands k c.self.invariant) c.number_in-no.ensures)))

pub renew-requires : goal.renew-requires
renew-requires g c =
    let k = c.self.inside in
    let i : ℕ = c.number_in-no.result in
    let p : Ownership = release_edit c.args.t i k.graph in
    let s = plain_state (view_of k) in
    let after = (mutex_release c.args.name.now s (ByThread c.args.t 0)).effect.state in
    let q : Option ℕ = passed_to (released_of c.args.t (taken_of k.graph i) (first_in k.graph i)) in
    let stands = stands-released s k.names.mutex k.graph c.args.name.now i c.args.t 0 (inside-stands k c.self.invariant) c.number_in-no.ensures in
    let shape = release-shape s k.names.mutex k.graph c.args.name.now i c.args.t (inside-stands k c.self.invariant) c.number_in-no.ensures in
    let may = next-wakes k c.args.self.now after i q p c.self.view_is c.self.invariant c.requires.apart stands shape in
    let woke : c.wake_next.new.tables ≡ woken_next k.tables p q = c.wake_next.ensures ∙ ap (λ (o : Ownership). woken_next k.tables o (passed_to c.release-released.result)) c.release-released.ensures.graph ∙ ap (λ (r : Released). woken_next k.tables p (passed_to r)) c.release-released.ensures.answer in
    subst (λ (x : Tabled). AreWithin x c.as_slice.result.now) (sym woke)
    (subst (AreWithin (woken_next k.tables p q)) (sym (c.as_slice.ensures ∙ ap (λ (x : ChangeList). x.changes) c.release-released.ensures.changes ∙ ap (changes k.graph) c.release-released.ensures.graph))
    (follow-within k.tables.ready (woken_next k.tables p q) k.bases.items k.names.mutex k.graph p (released-follows k after p (first_in k.graph i) c.self.invariant stands q shape may)))

-- the lists follow
lists : (g : Over) (c : goal.After-renew g) → c.renew.new.tables ≡ renewed (woken_next c.self.inside.tables (release_edit c.args.t c.number_in-no.result c.self.inside.graph) (passed_to (released_of c.args.t (taken_of c.self.inside.graph c.number_in-no.result) (first_in c.self.inside.graph c.number_in-no.result)))) (changes c.self.inside.graph (release_edit c.args.t c.number_in-no.result c.self.inside.graph))
lists g c =
    let k = c.self.inside in
    let i : ℕ = c.number_in-no.result in
    let p : Ownership = release_edit c.args.t i k.graph in
    let q : Option ℕ = passed_to (released_of c.args.t (taken_of k.graph i) (first_in k.graph i)) in
    let woke : c.wake_next.new.tables ≡ woken_next k.tables p q = c.wake_next.ensures ∙ ap (λ (o : Ownership). woken_next k.tables o (passed_to c.release-released.result)) c.release-released.ensures.graph ∙ ap (λ (r : Released). woken_next k.tables p (passed_to r)) c.release-released.ensures.answer in
    renewed-by-list c.renew.new.tables (woken_next k.tables p q) c.as_slice.result.now c.args.out.now c.release-released.new.out k.graph p c.release-released.new.self
    (c.renew.ensures ∙ ap (λ (x : Tabled). renewed x c.as_slice.result.now) woke) c.as_slice.ensures c.release-released.ensures.changes c.release-released.ensures.graph

pub invariant_of-self : goal.invariant_of-self
invariant_of-self g c =
    let k = c.self.inside in
    let i : ℕ = c.number_in-no.result in
    let p : Ownership = release_edit c.args.t i k.graph in
    let s = plain_state (view_of k) in
    let after = (mutex_release c.args.name.now s (ByThread c.args.t 0)).effect.state in
    let q : Option ℕ = passed_to (released_of c.args.t (taken_of k.graph i) (first_in k.graph i)) in
    let stands = stands-released s k.names.mutex k.graph c.args.name.now i c.args.t 0 (inside-stands k c.self.invariant) c.number_in-no.ensures in
    let shape = release-shape s k.names.mutex k.graph c.args.name.now i c.args.t (inside-stands k c.self.invariant) c.number_in-no.ensures in
    let may = next-wakes k c.args.self.now after i q p c.self.view_is c.self.invariant c.requires.apart stands shape in
    follow-keeps-by c.renew.new.tables (woken_next k.tables p q) k.bases.items k.bases.items k.names.mutex k.graph p c.release-released.new.self (lists g c) refl c.release-released.ensures.graph
    (follow-keeps k.tables.ready (woken_next k.tables p q) k.bases.items k.names.mutex k.graph p (released-follows k after p (first_in k.graph i) c.self.invariant stands q shape may))

shown : (g : Over) (c : goal.After-renew g) → seen c.renew.new.tables c.self.inside.bases.items c.self.inside.names.mutex c.release-released.new.self
    ≡ seen (renewed (woken_next c.self.inside.tables (release_edit c.args.t c.number_in-no.result c.self.inside.graph) (passed_to (released_of c.args.t (taken_of c.self.inside.graph c.number_in-no.result) (first_in c.self.inside.graph c.number_in-no.result)))) (changes c.self.inside.graph (release_edit c.args.t c.number_in-no.result c.self.inside.graph))) c.self.inside.bases.items c.self.inside.names.mutex (release_edit c.args.t c.number_in-no.result c.self.inside.graph)
shown g c =
    let k = c.self.inside in
    let i : ℕ = c.number_in-no.result in
    let p : Ownership = release_edit c.args.t i k.graph in
    follow-seen-by c.renew.new.tables (woken_next k.tables p (passed_to (released_of c.args.t (taken_of k.graph i) (first_in k.graph i)))) k.bases.items k.bases.items k.names.mutex k.graph p c.release-released.new.self (lists g c) refl c.release-released.ensures.graph

pub returns-clause-answer : goal.returns-clause-answer
returns-clause-answer g c = c.release-released.ensures.answer ∙ released-is c.self.inside c.args.self.now c.args.name.now c.number_in-no.result c.args.t c.self.view_is c.self.invariant c.number_in-no.ensures

pub returns-clause-changes : goal.returns-clause-changes
returns-clause-changes g c =
    let k = c.self.inside in
    let i : ℕ = c.number_in-no.result in
    let p : Ownership = release_edit c.args.t i k.graph in
    let s = plain_state (view_of k) in
    let after = (mutex_release c.args.name.now s (ByThread c.args.t 0)).effect.state in
    let q : Option ℕ = passed_to (released_of c.args.t (taken_of k.graph i) (first_in k.graph i)) in
    let stands = stands-released s k.names.mutex k.graph c.args.name.now i c.args.t 0 (inside-stands k c.self.invariant) c.number_in-no.ensures in
    let shape = release-shape s k.names.mutex k.graph c.args.name.now i c.args.t (inside-stands k c.self.invariant) c.number_in-no.ensures in
    let may = next-wakes k c.args.self.now after i q p c.self.view_is c.self.invariant c.requires.apart stands shape in
    follow-list c.args.out.now c.release-released.new.out k.graph p c.release-released.new.self c.args.self.now (seen (renewed (woken_next k.tables p q) (changes k.graph p)) k.bases.items k.names.mutex p) _ c.release-released.ensures.changes c.release-released.ensures.graph
    (released-changes k after p (first_in k.graph i) c.self.invariant stands c.args.self.now c.self.view_is q shape may) (shown g c)

pub returns-clause-state : goal.returns-clause-state
returns-clause-state g c =
    let k = c.self.inside in
    let v : MutexTabled = c.args.self.now in
    let i : ℕ = c.number_in-no.result in
    let p : Ownership = release_edit c.args.t i k.graph in
    let s = plain_state (view_of k) in
    let after = (mutex_release c.args.name.now s (ByThread c.args.t 0)).effect.state in
    let q : Option ℕ = passed_to (released_of c.args.t (taken_of k.graph i) (first_in k.graph i)) in
    let stands = stands-released s k.names.mutex k.graph c.args.name.now i c.args.t 0 (inside-stands k c.self.invariant) c.number_in-no.ensures in
    let shape = release-shape s k.names.mutex k.graph c.args.name.now i c.args.t (inside-stands k c.self.invariant) c.number_in-no.ensures in
    let may = next-wakes k v after i q p c.self.view_is c.self.invariant c.requires.apart stands shape in
    shown g c
    ∙ released-seen k after p (first_in k.graph i) c.self.invariant stands q shape may
    ∙ ap (λ (x : MutexTabled). followed x (mutex_release c.args.name.now (plain_state x) (ByThread c.args.t 0)).effect.state (changes k.graph p)) c.self.view_is
    ∙ ap (λ (cs : List CurChange). followed v (mutex_release c.args.name.now (plain_state v) (ByThread c.args.t 0)).effect.state cs) (sym (ap (λ (x : ChangeList). x.changes) c.release-released.ensures.changes ∙ ap (changes k.graph) c.release-released.ensures.graph))

pub returns-clause-one : goal.returns-clause-one
returns-clause-one g c idle =
    subst (MovesOne c.args.self.now.ready) (sym (ap (λ (x : ChangeList). x.changes) c.release-released.ensures.changes ∙ ap (changes c.self.inside.graph) c.release-released.ensures.graph))
    (release-one c.self.inside c.args.self.now c.args.t c.number_in-no.result c.self.view_is c.self.invariant c.requires.apart (inside-idle c.self.inside c.args.self.now c.args.t c.self.view_is c.self.invariant idle))
