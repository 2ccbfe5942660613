use Rattle.std.proofs.Common.{arith, ◌≡◌, ◌+◌, ◌*◌, ◌≤◌, ◌∙◌, ap, subst, true, None}
use Rattle.rt_plain.specs.kernel.Weight.{edit_size, end_touches}
use Rattle.rt_plain.specs.kernel.Ownership.{owned_in, with_member, kill_thread_edit}
use Rattle.mutex_chain.specs.Graph.{ChangeList, Keeps}
use Rattle.mutex_chain.specs.Noting.{AreNotes, AreSmall}
use Rattle.mutex_chain.specs.Owners.{has_thread}
use Rattle.mutex_chain.specs.Walks.{curs_of}
use Rattle.mutex_chain.proofs.ChangeLemmas.{thread_within}
use Rattle.mutex_chain.proofs.KeepLemmas.{keeps_gone, keeps_passes, keeps_trans}
use Rattle.mutex_chain.proofs.NoteLemmas.{notes_begin, has_small_begin, curs_small}
use Rattle.mutex_chain.proofs.OwnedLemmas.{owned_thread_end}
use Rattle.mutex_chain.proofs.graph.MutexGraph.kill_thread.Goals as goal

pub end_thread-requires-clause-notes : goal.end_thread-requires-clause-notes
end_thread-requires-clause-notes g c =
    rw c.clear.ensures (has_small_begin c.self.inside.curs.numbers.items c.self.invariant.places (curs_small c.self.inside.owners c.self.inside.curs.numbers.items c.self.invariant.sound c.self.invariant.curs))

pub end_thread-requires-clause-thread : goal.end_thread-requires-clause-thread
end_thread-requires-clause-thread g c =
    let there : has_thread c.self.inside.owners c.args.thread ≡ true = rw c.self.view_is c.requires.there in
    thread_within c.self.inside.owners c.args.thread there

pub invariant_of-self : goal.invariant_of-self
invariant_of-self g c = record {
  sound = c.end_thread.ensures.sound;
  owned = rw c.end_thread.ensures.owners (owned_thread_end c.self.inside.owners c.args.thread c.self.invariant.owned);
  curs = c.end_thread.ensures.curs;
  places = c.end_thread.ensures.numbers;
  lines = c.end_thread.ensures.lines;
}

pub returns-clause-changes : goal.returns-clause-changes
returns-clause-changes g c =
    let old = c.self.inside.owners in
    let keeps : Keeps c.self.inside.owners c.end_thread.new.owners =
    rw c.end_thread.ensures.owners (keeps_trans old (with_member old c.args.thread None) (kill_thread_edit c.args.thread old) (keeps_gone old c.args.thread) (keeps_passes (owned_in old c.args.thread) (with_member old c.args.thread None))) in
    let begun : AreNotes c.self.inside.curs.numbers.items c.self.inside.curs.numbers.items c.clear.new.self.changes = rw c.clear.ensures (notes_begin c.self.inside.curs.numbers.items) in
    let small : AreSmall c.self.inside.curs.numbers.items = curs_small c.self.inside.owners c.self.inside.curs.numbers.items c.self.invariant.sound c.self.invariant.curs in
    let notes : AreNotes (curs_of c.self.inside.owners) c.end_thread.new.curs.numbers.items c.end_thread.new.out.changes = rw (← c.self.invariant.curs) (c.end_thread.ensures.notes c.self.inside.curs.numbers.items small begun) in
    let noted : AreNotes (curs_of c.self.inside.owners) c.deref.result.now c.end_thread.new.out.changes = rw c.deref.ensures.value notes in
    let room : c.end_thread.new.out.threads ≡ c.args.out.now.threads = c.end_thread.ensures.room ∙ ap (λ (l : ChangeList). l.threads) c.clear.ensures in
    rw (← c.self.view_is) (rw room at (c.settle.ensures.changes old c.self.invariant.sound keeps noted))

pub returns-clause-cost : goal.returns-clause-cost
returns-clause-cost g c =
    let counted : c.end_thread.new.steps ≤ c.args.steps.now + 8 * edit_size c.self.inside.owners c.end_thread.new.owners (end_touches c.self.inside.owners c.args.thread) =
    omega (arith, c.end_thread.ensures.cost, c.tick.ensures) in
    subst (λ q. c.end_thread.new.steps ≤ c.args.steps.now + 8 * edit_size q c.end_thread.new.owners (end_touches q c.args.thread)) c.self.view_is counted
