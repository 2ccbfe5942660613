use Rattle.std.proofs.Common.{arith, ◌≡◌, ◌+◌, ◌*◌, ◌<◌, ◌≤◌, ◌∙◌, sym, ap, length, map, None, false, get_or-set_same}
use Rattle.std.proofs.Math.ListN.{length-set}
use Rattle.std.specs.List.{filter_map}
use Rattle.rt_plain.specs.kernel.Ownership.{Ownership, owned_in, passes_from, passes_of, wait_of, is_there, with_member}
use Rattle.mutex_chain.specs.Ending.{passed_sum}
use Rattle.mutex_chain.specs.Graph.{PassList, pair_of}
use Rattle.mutex_chain.specs.Lines.{lines_of}
use Rattle.mutex_chain.specs.Owners.{has_thread}
use Rattle.mutex_chain.proofs.CurLemmas.{length-curs}
use Rattle.mutex_chain.proofs.EditLemmas.{gone_aside, left_gone}
use Rattle.mutex_chain.proofs.EndingLemmas.{gone_but, gone_idle, thread_end_bound}
use Rattle.mutex_chain.proofs.NoteLemmas.{small_on}
use Rattle.mutex_chain.proofs.StoredLemmas.{leave_here, lines_member}
use Rattle.mutex_chain.proofs.ends.end_thread.Goals as goal

pub renew_chain-requires-clause-aside : goal.renew_chain-requires-clause-aside
renew_chain-requires-clause-aside g c = rw c.end_wait-owner.ensures.numbers (c.end_wait-owner.ensures.aside c.args.curs.now.numbers.items c.requires.curs)

pub renew_chain-requires-clause-notes : goal.renew_chain-requires-clause-notes
renew_chain-requires-clause-notes g c = rw (c.end_wait-owner.ensures.places, c.end_wait-owner.ensures.numbers) c.requires.notes

pub give_back-requires-clause-gone : goal.give_back-requires-clause-gone
give_back-requires-clause-gone g c =
    let inside : c.args.thread < length c.end_wait-owner.new.owners.members = omega (arith, c.end_wait-owner.ensures.places, c.requires.thread) in
    ap (λ (q : Ownership). has_thread q c.args.thread) c.set_member.ensures ∙ ap is_there (get_or-set_same c.end_wait-owner.new.owners.members c.args.thread None None inside)

pub give_back-requires-clause-room : goal.give_back-requires-clause-room
give_back-requires-clause-room g c =
    let size : length c.set_member.new.self.members ≡ length c.args.owners.now.members =
    ap (λ (q : Ownership). length q.members) c.set_member.ensures ∙ length-set c.end_wait-owner.new.owners.members c.args.thread None ∙ c.end_wait-owner.ensures.places in
    omega (arith, size, c.requires.room)

pub returns-clause-owners : goal.returns-clause-owners
returns-clause-owners g c =
    let bare : c.set_member.new.self ≡ with_member c.args.owners.now c.args.thread None =
    c.set_member.ensures ∙ ap (λ (q : Ownership). with_member q c.args.thread None) c.end_wait-owner.ensures.owners ∙ left_gone c.args.owners.now c.args.thread in
    rw bare at c.give_back.ensures.owners

pub returns-clause-passes : goal.returns-clause-passes
returns-clause-passes g c =
    let bare : c.set_member.new.self ≡ with_member c.args.owners.now c.args.thread None =
    c.set_member.ensures ∙ ap (λ (q : Ownership). with_member q c.args.thread None) c.end_wait-owner.ensures.owners ∙ left_gone c.args.owners.now c.args.thread in
    rw bare at c.give_back.ensures.passes

pub returns-clause-places : goal.returns-clause-places
returns-clause-places g c =
    let bare : c.set_member.new.self ≡ with_member c.args.owners.now c.args.thread None =
    c.set_member.ensures ∙ ap (λ (q : Ownership). with_member q c.args.thread None) c.end_wait-owner.ensures.owners ∙ left_gone c.args.owners.now c.args.thread in
    c.give_back.ensures.places ∙ ap (λ (q : Ownership). length q.members) bare ∙ length-set c.args.owners.now.members c.args.thread None

pub returns-clause-numbers : goal.returns-clause-numbers
returns-clause-numbers g c = ap length c.give_back.ensures.curs ∙ length-curs c.give_back.new.owners

pub give_back-requires-clause-thread : goal.give_back-requires-clause-thread
give_back-requires-clause-thread g c =
    let size : length c.set_member.new.self.members ≡ length c.args.owners.now.members =
    ap (λ (q : Ownership). length q.members) c.set_member.ensures ∙ length-set c.end_wait-owner.new.owners.members c.args.thread None ∙ c.end_wait-owner.ensures.places in
    omega (arith, size, c.requires.thread)

pub give_back-requires-clause-lines : goal.give_back-requires-clause-lines
give_back-requires-clause-lines g c =
    let inside : c.args.thread < length c.end_wait-owner.new.owners.members = omega (arith, c.end_wait-owner.ensures.places, c.requires.thread) in
    let idle : wait_of c.end_wait-owner.new.owners c.args.thread ≡ None = ap (λ (q : Ownership). wait_of q c.args.thread) c.end_wait-owner.ensures.owners ∙ leave_here c.args.owners.now c.args.thread c.requires.thread in
    c.renew_chain.ensures.lines
    ∙ lines_member c.end_wait-owner.new.owners c.renew_chain.new.curs.numbers.items c.args.thread None inside idle
    ∙ sym (ap (λ (q : Ownership). lines_of q c.renew_chain.new.curs.numbers.items) c.set_member.ensures)

pub give_back-requires-clause-but : goal.give_back-requires-clause-but
give_back-requires-clause-but g c =
    let inside : c.args.thread < length c.end_wait-owner.new.owners.members = omega (arith, c.end_wait-owner.ensures.places, c.requires.thread) in
    let gone : has_thread c.set_member.new.self c.args.thread ≡ false =
    ap (λ (q : Ownership). has_thread q c.args.thread) c.set_member.ensures ∙ ap is_there (get_or-set_same c.end_wait-owner.new.owners.members c.args.thread None None inside) in
    gone_but c.set_member.new.self c.renew_chain.new.curs.numbers.items c.args.thread (gone_idle c.set_member.new.self c.args.thread gone)
    (gone_aside c.args.owners.now c.end_wait-owner.new.owners c.set_member.new.self c.renew_chain.new.curs.numbers.items c.args.thread c.end_wait-owner.ensures.sound c.know_sound-2.ensures c.renew_chain.ensures.curs c.end_wait-owner.ensures.owners c.set_member.ensures
    c.requires.thread)

pub give_back-requires-clause-notes : goal.give_back-requires-clause-notes
give_back-requires-clause-notes g c =
    let size : length c.set_member.new.self.members ≡ length c.args.owners.now.members =
    ap (λ (q : Ownership). length q.members) c.set_member.ensures ∙ length-set c.end_wait-owner.new.owners.members c.args.thread None ∙ c.end_wait-owner.ensures.places in
    small_on _ _ _ _ _ _ size c.requires.notes (λ olds small a. c.renew_chain.ensures.notes olds small (rw c.end_wait-owner.ensures.numbers a))

pub give_back-requires-clause-changes : goal.give_back-requires-clause-changes
give_back-requires-clause-changes g c =
    let size : length c.set_member.new.self.members ≡ length c.args.owners.now.members =
    ap (λ (q : Ownership). length q.members) c.set_member.ensures ∙ length-set c.end_wait-owner.new.owners.members c.args.thread None ∙ c.end_wait-owner.ensures.places in
    omega (arith, size, c.renew_chain.ensures.room, c.requires.changes)

pub returns-clause-notes : goal.returns-clause-notes
returns-clause-notes g c = λ olds small a. c.give_back.ensures.notes olds (c.renew_chain.ensures.notes olds small (rw c.end_wait-owner.ensures.numbers a))

pub returns-clause-cost : goal.returns-clause-cost
returns-clause-cost g c =
    let bare : c.set_member.new.self ≡ with_member c.args.owners.now c.args.thread None =
    c.set_member.ensures ∙ ap (λ (q : Ownership). with_member q c.args.thread None) c.end_wait-owner.ensures.owners ∙ left_gone c.args.owners.now c.args.thread in
    let passed : c.give_back.new.passes.passes ≡ map pair_of (passes_of c.args.thread c.args.owners.now) =
    ap (λ (p : PassList). p.passes) c.give_back.ensures.passes ∙ ap (λ (q : Ownership). map pair_of (filter_map (λ p. p) (passes_from (owned_in q c.args.thread) q))) bare in
    let owned : owned_in c.set_member.new.self c.args.thread ≡ owned_in c.args.owners.now c.args.thread = ap (λ (q : Ownership). owned_in q c.args.thread) bare in
    let cost : c.give_back.new.steps ≤ c.renew_chain.new.steps + (2 * length (owned_in c.args.owners.now c.args.thread) + 4 * passed_sum c.give_back.new.owners (map pair_of (passes_of c.args.thread c.args.owners.now)) + 2) =
    omega (arith, c.give_back.ensures.cost, ap length owned, ap (passed_sum c.give_back.new.owners) passed) in
    thread_end_bound c.args.owners.now c.end_wait-owner.new.owners c.give_back.new.owners c.args.thread c.end_wait-owner.result c.args.steps.now c.end_wait-owner.new.steps c.renew_chain.new.steps c.give_back.new.steps
    c.know_sound.ensures c.give_back.ensures.sound c.requires.thread c.end_wait-owner.ensures.owners c.end_wait-owner.ensures.answer c.end_wait-owner.ensures.count c.renew_chain.ensures.nobody c.renew_chain.ensures.cost cost
