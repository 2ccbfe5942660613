use Rattle.std.proofs.Common.{arith, ◌≡◌, ◌+◌, ◌*◌, ◌≤◌, ◌∙◌, sym, ap, subst, false, true}
use Rattle.rt_plain.specs.kernel.Ownership.{Ownership, taken_of}
use Rattle.rt_plain.specs.kernel.Weight.{edit_size, release_touches}
use Rattle.mutex_chain.specs.Graph.{is_last, ChangeList, Keeps}
use Rattle.mutex_chain.specs.Noting.{AreNotes, AreSmall}
use Rattle.mutex_chain.specs.Walks.{curs_of}
use Rattle.mutex_chain.specs.Owners.{has_thread}
use Rattle.mutex_chain.proofs.BoundLemmas.{release_bound}
use Rattle.mutex_chain.proofs.ChangeLemmas.{thread_within}
use Rattle.mutex_chain.proofs.KeepLemmas.{keeps_pass}
use Rattle.mutex_chain.proofs.EditLemmas.{last_owner}
use Rattle.mutex_chain.proofs.NoteLemmas.{notes_begin, has_small_begin, curs_small}
use Rattle.mutex_chain.proofs.OwnedLemmas.{owned_pass, owned_release}
use Rattle.mutex_chain.proofs.TakeLemmas.{release_raises}
use Rattle.mutex_chain.proofs.StoredLemmas.{lines_by, release_members}
use Rattle.mutex_chain.proofs.graph.MutexGraph.release.Goals as goal

pub strengthen-requires-clause-lines : goal.strengthen-requires-clause-lines
strengthen-requires-clause-lines g c =
    let last : is_last c.args.thread (taken_of c.self.inside.owners c.args.mutex) ≡ false = sym c.is_last_hold.ensures ∙ c.if-not-is_last_hold.true in
    c.self.invariant.lines
    ∙ lines_by c.self.inside.owners c.release-released.new.self c.self.inside.curs.numbers.items
    (ap (λ (q : Ownership). q.members) c.release-released.ensures.edit ∙ release_members c.args.thread c.args.mutex c.self.inside.owners last) c.release-released.ensures.mutexes

pub strengthen-requires-clause-raising : goal.strengthen-requires-clause-raising
strengthen-requires-clause-raising g c =
    let last : is_last c.args.thread (taken_of c.self.inside.owners c.args.mutex) ≡ false = sym c.is_last_hold.ensures ∙ c.if-not-is_last_hold.true in
    release_raises c.self.inside.owners c.release-released.new.self c.self.inside.curs.numbers.items c.args.thread c.args.mutex 0 c.self.invariant.sound c.know_sound.ensures c.self.invariant.curs c.release-released.ensures.edit last

pub invariant_of-self : goal.invariant_of-self
invariant_of-self g c = record {
  sound = c.know_sound.ensures;
  owned = rw c.release-released.ensures.edit (owned_release c.self.inside.owners c.args.thread c.args.mutex c.self.invariant.owned);
  curs = c.strengthen.ensures.curs;
  places = c.strengthen.ensures.places;
  lines = c.strengthen.ensures.lines;
}

pub hand_on-requires-clause-owner : goal.hand_on-requires-clause-owner
hand_on-requires-clause-owner g c = last_owner c.self.inside.owners c.args.thread c.args.mutex (sym c.is_last_hold.ensures ∙ c.if-not-is_last_hold.false)

pub hand_on-requires-clause-notes : goal.hand_on-requires-clause-notes
hand_on-requires-clause-notes g c =
    rw c.clear.ensures (has_small_begin c.self.inside.curs.numbers.items c.self.invariant.places (curs_small c.self.inside.owners c.self.inside.curs.numbers.items c.self.invariant.sound c.self.invariant.curs))

pub invariant_of-self-2 : goal.invariant_of-self-2
invariant_of-self-2 g c = record {
  sound = c.hand_on.ensures.sound;
  owned = rw c.hand_on.ensures.owners (owned_pass c.self.inside.owners c.args.mutex c.first-first.result c.first-first.ensures.first c.self.invariant.owned);
  curs = c.hand_on.ensures.curs;
  places = c.hand_on.ensures.numbers;
  lines = c.hand_on.ensures.lines;
}

pub returns-clause-changes : goal.returns-clause-changes
returns-clause-changes g c =
    let old = c.self.inside.owners in
    let keeps : Keeps c.self.inside.owners c.hand_on.new.owners = rw c.hand_on.ensures.owners (keeps_pass c.args.mutex c.first-first.result old) in
    let begun : AreNotes c.self.inside.curs.numbers.items c.self.inside.curs.numbers.items c.clear.new.self.changes = rw c.clear.ensures (notes_begin c.self.inside.curs.numbers.items) in
    let small : AreSmall c.self.inside.curs.numbers.items = curs_small c.self.inside.owners c.self.inside.curs.numbers.items c.self.invariant.sound c.self.invariant.curs in
    let notes : AreNotes (curs_of c.self.inside.owners) c.hand_on.new.curs.numbers.items c.hand_on.new.out.changes = rw (← c.self.invariant.curs) (c.hand_on.ensures.notes c.self.inside.curs.numbers.items small begun) in
    let noted : AreNotes (curs_of c.self.inside.owners) c.deref.result.now c.hand_on.new.out.changes = rw c.deref.ensures.value notes in
    let room : c.hand_on.new.out.threads ≡ c.args.out.now.threads = c.hand_on.ensures.room ∙ ap (λ (l : ChangeList). l.threads) c.clear.ensures in
    rw (← c.self.view_is) (rw room at (c.settle.ensures.changes old c.self.invariant.sound keeps noted))

pub returns-clause-cost : goal.returns-clause-cost
returns-clause-cost g c =
    let there : has_thread c.self.inside.owners c.args.thread ≡ true = rw c.self.view_is c.requires.thread in
    let inside = thread_within c.self.inside.owners c.args.thread there in
    let last : is_last c.args.thread (taken_of c.self.inside.owners c.args.mutex) ≡ true = sym c.is_last_hold.ensures ∙ c.if-not-is_last_hold.false in
    let bound = release_bound c.self.inside.owners c.hand_on.new.owners c.args.thread c.args.mutex c.first-first.result c.tick-2.new.self c.hand_on.new.steps c.self.invariant.sound c.hand_on.ensures.sound c.hand_on.ensures.places inside last c.first-first.ensures.first (c.hand_on.ensures.cost inside) in
    let counted : c.hand_on.new.steps ≤ c.args.steps.now + 8 * edit_size c.self.inside.owners c.hand_on.new.owners (release_touches c.self.inside.owners c.args.thread c.args.mutex) =
    omega (arith, bound, c.tick.ensures, c.tick-2.ensures) in
    subst (λ q. c.hand_on.new.steps ≤ c.args.steps.now + 8 * edit_size q c.hand_on.new.owners (release_touches q c.args.thread c.args.mutex)) c.self.view_is counted
