use Rattle.std.proofs.Common.{ℕ, ◌≡◌, ◌∙◌, ◌<◌, ◌≤◌, arith, refl, sym, ap, subst, List, None, map, length}
use Rattle.std.proofs.lemmas.List.{length-set}
use Rattle.rt_base.specs.declared.codes.Code.{Code}
use Rattle.rt_plain.specs.kernel.Owners.{close_effect}
use Rattle.rt_plain.specs.kernel.State.{is_closed}
use Rattle.rt_plain.specs.kernel.Ownership.{CurChange, Ownership, changes, kill_thread_edit, owned_in, with_member}
use Rattle.kernel_tables.specs.Tabled.{Tabled}
use Rattle.kernel_tables.specs.Threads.{row_at}
use Rattle.mutex_chain.specs.Graph.{ChangeList, PassList}
use Rattle.mutex_tables.specs.MutexTabled.{MutexTabled, plain_state, seen}
use Rattle.mutex_tables.specs.Moved.{AreWithin, MovesOne, renewed}
use Rattle.mutex_tables.specs.Mutexes.{MayWakeAll, followed, roused_all}
use Rattle.mutex_tables.specs.Passed.{PassedList, named_pass, passed_at_end}
use Rattle.mutex_tables.proofs.SeenLemmas.{inside-there, inside-stands, view_of}
use Rattle.mutex_tables.proofs.StageLemmas.{inside-stage}
use Rattle.mutex_tables.proofs.StopLemmas.{inside-member, inside-room}
use Rattle.mutex_tables.proofs.FollowLemmas.{follow-within, follow-keeps, follow-keeps-by, follow-seen-by, renewed-by-list, follow-list}
use Rattle.mutex_tables.proofs.CloseLemmas.{closed-changes, closed-follows, closed-may, closed-seen, shut}
use Rattle.mutex_tables.proofs.PassedLemmas.{AreThere, named-end, owned-there, pairs-few, pairs-there, takers}
use Rattle.mutex_tables.proofs.OneLemmas.{close-one}
use Rattle.mutex_tables.proofs.tables.MutexTables.close.Goals as goal
use Rattle.mutex_tables.proofs.tables.MutexTables.close.Given.{Over}

pub close-requires : goal.close-requires
close-requires g c = inside-there c.self.inside c.args.self.now c.args.t c.self.view_is c.requires.there

pub wake_passed-requires : goal.wake_passed-requires
wake_passed-requires g c =
    let k = c.self.inside in
    let p : Ownership = kill_thread_edit c.args.t k.graph in
    let ws : List ℕ = takers (owned_in k.graph c.args.t) (with_member k.graph c.args.t None) in
    let woken : Tabled = roused_all (shut k.tables c.args.t) p Code.Ok ws in
    subst (λ (x : Tabled). MayWakeAll x c.kill_thread.new.self (map (λ (q : ℕ × ℕ). q.1) c.as_slice.result.now)) (sym c.close.ensures)
    (subst (λ (o : Ownership). MayWakeAll (shut k.tables c.args.t) o (map (λ (q : ℕ × ℕ). q.1) c.as_slice.result.now)) (sym c.kill_thread.ensures.graph)
    (subst (λ (ps : List (ℕ × ℕ)). MayWakeAll (shut k.tables c.args.t) p (map (λ (q : ℕ × ℕ). q.1) ps)) (sym (c.as_slice.ensures ∙ ap (λ (x : PassList). x.passes) c.kill_thread.ensures.passes))
    (closed-may k c.args.self.now c.args.t c.self.view_is c.self.invariant c.requires.apart (inside-there c.self.inside c.args.self.now c.args.t c.self.view_is c.requires.there) (ap is_closed (inside-stage c.self.inside c.args.self.now c.args.t c.self.view_is c.self.invariant c.requires.there) ∙ c.requires.live))))

pub name_all-requires-clause-there : goal.name_all-requires-clause-there
name_all-requires-clause-there g c =
    let k = c.self.inside in
    subst (AreThere k.names.mutex.objects) (sym (c.as_slice-2.ensures ∙ ap (λ (x : PassList). x.passes) c.kill_thread.ensures.passes))
    (pairs-there k.names.mutex.objects (owned_in k.graph c.args.t) (with_member k.graph c.args.t None) (owned-there k.names.mutex.objects c.args.t k.graph.taken c.self.invariant.graph.taken))

pub name_all-requires-clause-room : goal.name_all-requires-clause-room
name_all-requires-clause-room g c =
    let k = c.self.inside in
    let members : length k.graph.members ≤ c.args.passed.now.threads = inside-room k c.args.self.now c.args.passed.now.threads c.self.view_is c.self.invariant c.requires.passed in
    let few = pairs-few (owned_in k.graph c.args.t) (with_member k.graph c.args.t None) in
    omega (arith, members, few, length-set k.graph.members c.args.t None, ap (λ (x : PassedList). x.threads) c.passed.view_is, c.passed.invariant, ap length (c.as_slice-2.ensures ∙ ap (λ (x : PassList). x.passes) c.kill_thread.ensures.passes))

pub renew-requires : goal.renew-requires
renew-requires g c =
    let k = c.self.inside in
    let p : Ownership = kill_thread_edit c.args.t k.graph in
    let ws : List ℕ = takers (owned_in k.graph c.args.t) (with_member k.graph c.args.t None) in
    let woken : Tabled = roused_all (shut k.tables c.args.t) p Code.Ok ws in
    let woke : c.wake_passed.new.tables ≡ woken =
    c.wake_passed.ensures
    ∙ ap (λ (x : Tabled). roused_all x c.kill_thread.new.self Code.Ok (map (λ (q : ℕ × ℕ). q.1) c.as_slice.result.now)) c.close.ensures
    ∙ ap (λ (o : Ownership). roused_all (shut k.tables c.args.t) o Code.Ok (map (λ (q : ℕ × ℕ). q.1) c.as_slice.result.now)) c.kill_thread.ensures.graph
    ∙ ap (λ (ps : List (ℕ × ℕ)). roused_all (shut k.tables c.args.t) p Code.Ok (map (λ (q : ℕ × ℕ). q.1) ps)) (c.as_slice.ensures ∙ ap (λ (x : PassList). x.passes) c.kill_thread.ensures.passes) in
    subst (λ (x : Tabled). AreWithin x c.as_slice-3.result.now) (sym woke)
    (subst (AreWithin woken) (sym (c.as_slice-3.ensures ∙ ap (λ (x : ChangeList). x.changes) c.kill_thread.ensures.changes ∙ ap (changes k.graph) c.kill_thread.ensures.graph))
    (follow-within k.tables.ready woken k.bases.items k.names.mutex k.graph p (closed-follows k c.args.self.now c.args.t c.self.view_is c.self.invariant c.requires.apart (inside-there c.self.inside c.args.self.now c.args.t c.self.view_is c.requires.there) (ap is_closed (inside-stage c.self.inside c.args.self.now c.args.t c.self.view_is c.self.invariant c.requires.there) ∙ c.requires.live))))

-- the lists follow
lists : (g : Over) (c : goal.After-renew g) → c.renew.new.tables ≡ renewed (roused_all (shut c.self.inside.tables c.args.t) (kill_thread_edit c.args.t c.self.inside.graph) Code.Ok (takers (owned_in c.self.inside.graph c.args.t) (with_member c.self.inside.graph c.args.t None))) (changes c.self.inside.graph (kill_thread_edit c.args.t c.self.inside.graph))
lists g c =
    let k = c.self.inside in
    let p : Ownership = kill_thread_edit c.args.t k.graph in
    let ws : List ℕ = takers (owned_in k.graph c.args.t) (with_member k.graph c.args.t None) in
    let woken : Tabled = roused_all (shut k.tables c.args.t) p Code.Ok ws in
    let woke : c.wake_passed.new.tables ≡ woken =
    c.wake_passed.ensures
    ∙ ap (λ (x : Tabled). roused_all x c.kill_thread.new.self Code.Ok (map (λ (q : ℕ × ℕ). q.1) c.as_slice.result.now)) c.close.ensures
    ∙ ap (λ (o : Ownership). roused_all (shut k.tables c.args.t) o Code.Ok (map (λ (q : ℕ × ℕ). q.1) c.as_slice.result.now)) c.kill_thread.ensures.graph
    ∙ ap (λ (ps : List (ℕ × ℕ)). roused_all (shut k.tables c.args.t) p Code.Ok (map (λ (q : ℕ × ℕ). q.1) ps)) (c.as_slice.ensures ∙ ap (λ (x : PassList). x.passes) c.kill_thread.ensures.passes) in
    renewed-by-list c.renew.new.tables woken c.as_slice-3.result.now c.args.out.now c.kill_thread.new.out k.graph p c.kill_thread.new.self
    (c.renew.ensures ∙ ap (λ (x : Tabled). renewed x c.as_slice-3.result.now) woke) c.as_slice-3.ensures c.kill_thread.ensures.changes c.kill_thread.ensures.graph

pub invariant_of-self : goal.invariant_of-self
invariant_of-self g c =
    let k = c.self.inside in
    let p : Ownership = kill_thread_edit c.args.t k.graph in
    let ws : List ℕ = takers (owned_in k.graph c.args.t) (with_member k.graph c.args.t None) in
    let woken : Tabled = roused_all (shut k.tables c.args.t) p Code.Ok ws in
    follow-keeps-by c.renew.new.tables woken k.bases.items k.bases.items k.names.mutex k.graph p c.kill_thread.new.self (lists g c) refl c.kill_thread.ensures.graph
    (follow-keeps k.tables.ready woken k.bases.items k.names.mutex k.graph p (closed-follows k c.args.self.now c.args.t c.self.view_is c.self.invariant c.requires.apart (inside-there c.self.inside c.args.self.now c.args.t c.self.view_is c.requires.there) (ap is_closed (inside-stage c.self.inside c.args.self.now c.args.t c.self.view_is c.self.invariant c.requires.there) ∙ c.requires.live)))

shown : (g : Over) (c : goal.After-renew g) → seen c.renew.new.tables c.self.inside.bases.items c.self.inside.names.mutex c.kill_thread.new.self
    ≡ seen (renewed (roused_all (shut c.self.inside.tables c.args.t) (kill_thread_edit c.args.t c.self.inside.graph) Code.Ok (takers (owned_in c.self.inside.graph c.args.t) (with_member c.self.inside.graph c.args.t None))) (changes c.self.inside.graph (kill_thread_edit c.args.t c.self.inside.graph))) c.self.inside.bases.items c.self.inside.names.mutex (kill_thread_edit c.args.t c.self.inside.graph)
shown g c =
    let k = c.self.inside in
    let p : Ownership = kill_thread_edit c.args.t k.graph in
    let ws : List ℕ = takers (owned_in k.graph c.args.t) (with_member k.graph c.args.t None) in
    let woken : Tabled = roused_all (shut k.tables c.args.t) p Code.Ok ws in
    follow-seen-by c.renew.new.tables woken k.bases.items k.bases.items k.names.mutex k.graph p c.kill_thread.new.self (lists g c) refl c.kill_thread.ensures.graph

pub returns-clause-passed : goal.returns-clause-passed
returns-clause-passed g c =
    let k = c.self.inside in
    let passes : c.kill_thread.new.passes ≡ _ = c.kill_thread.ensures.passes in
    let names : c.name_all.new.named.items ≡ passed_at_end c.args.t (plain_state c.args.self.now) =
    c.name_all.ensures.named
    ∙ ap (map (named_pass k.names.mutex.objects)) (c.as_slice-2.ensures ∙ ap (λ (x : PassList). x.passes) c.kill_thread.ensures.passes)
    ∙ named-end k.names.mutex (plain_state (view_of k)) k.graph c.args.t (inside-stands k c.self.invariant)
    ∙ ap (λ (v : MutexTabled). passed_at_end c.args.t (plain_state v)) c.self.view_is in
    λ j. record { threads = (ap (λ (x : PassList). x.threads) passes ∙ ap (λ (x : PassedList). x.threads) c.passed.view_is) j; passed = names j }

pub returns-clause-changes : goal.returns-clause-changes
returns-clause-changes g c =
    let k = c.self.inside in
    let p : Ownership = kill_thread_edit c.args.t k.graph in
    let ws : List ℕ = takers (owned_in k.graph c.args.t) (with_member k.graph c.args.t None) in
    let woken : Tabled = roused_all (shut k.tables c.args.t) p Code.Ok ws in
    follow-list c.args.out.now c.kill_thread.new.out k.graph p c.kill_thread.new.self c.args.self.now (seen (renewed woken (changes k.graph p)) k.bases.items k.names.mutex p) _ c.kill_thread.ensures.changes c.kill_thread.ensures.graph
    (closed-changes k c.args.self.now c.args.t c.self.view_is c.self.invariant c.requires.apart (inside-there c.self.inside c.args.self.now c.args.t c.self.view_is c.requires.there) (ap is_closed (inside-stage c.self.inside c.args.self.now c.args.t c.self.view_is c.self.invariant c.requires.there) ∙ c.requires.live)) (shown g c)

pub returns-clause-state : goal.returns-clause-state
returns-clause-state g c =
    let k = c.self.inside in
    let v : MutexTabled = c.args.self.now in
    shown g c
    ∙ closed-seen k c.args.self.now c.args.t c.self.view_is c.self.invariant c.requires.apart (inside-there c.self.inside c.args.self.now c.args.t c.self.view_is c.requires.there) (ap is_closed (inside-stage c.self.inside c.args.self.now c.args.t c.self.view_is c.self.invariant c.requires.there) ∙ c.requires.live)
    ∙ ap (λ (cs : List CurChange). followed v (close_effect c.args.t (plain_state v)).state cs) (sym (ap (λ (x : ChangeList). x.changes) c.kill_thread.ensures.changes ∙ ap (changes k.graph) c.kill_thread.ensures.graph))

pub returns-clause-one : goal.returns-clause-one
returns-clause-one g c =
    subst (MovesOne c.args.self.now.ready) (sym (ap (λ (x : ChangeList). x.changes) c.kill_thread.ensures.changes ∙ ap (changes c.self.inside.graph) c.kill_thread.ensures.graph))
    (close-one c.self.inside c.args.self.now c.args.t c.self.view_is c.self.invariant c.requires.apart)
