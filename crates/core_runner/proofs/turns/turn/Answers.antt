use Rattle.std.proofs.Common.{◌≡◌, ◌∙◌, List, ap, sym, subst, is_some}
use Rattle.rt_plain.specs.declared.entry.Entry.{Entry}
use Rattle.rt_plain.specs.PlainBoard.{PlainBoard}
use Rattle.rt_plain.specs.runs.Runs.{Course, after}
use Rattle.kernel_step.specs.Did.{did_by}
use Rattle.core_runner.specs.Places.{plain_place}
use Rattle.core_runner.specs.Moves.{with_coming, IsMove}
use Rattle.core_runner.specs.Sleeps.{TellsSleepOf}
use Rattle.core_runner.proofs.TurnLemmas.{turn}
use Rattle.core_runner.proofs.SleptLemmas.{slept-of}
use Rattle.core_runner.proofs.turns.turn.Goals as goal

pub returns-clause-turned : goal.returns-clause-turned
returns-clause-turned g c =
    let b = c.args.machine.now.board in
    let course = c.args.machine.now.course in
    let new = c.event-did.new.self.course in
    let event = c.next-event.result.0 in
    let board_same = c.in_ok-reserve.ensures.board in
    let course_same = c.in_ok-reserve.ensures.course in
    let is : new ≡ after b course event = c.event-did.ensures.course ∙ ap (λ (x : PlainBoard). after x c.reserve.new.self.course event) board_same ∙ ap (λ (x : Course). after b x event) course_same in
    let answered = c.event-did.ensures.did ∙ ap (λ (x : PlainBoard). did_by x c.reserve.new.self.course event) board_same ∙ ap (λ (x : Course). did_by b x event) course_same in
    turn b course new c.args.place.now c.next-event.new.self c.settle.new.self event c.next-event.result.1 c.is_nested.result c.has_slept-slept.result
    c.requires.live
    (c.is_nested.ensures ∙ ap (λ (x : Course). is_some x.state.nest) course_same)
    (subst (λ (x : PlainBoard). IsMove x c.is_nested.result c.args.place.now c.next-event.new.self event c.next-event.result.1) (c.board-2.ensures ∙ board_same) c.next-event.ensures)
    is
    (slept-of b course new event c.event-did.result c.has_slept-slept.result c.requires.live is answered
    (subst (λ (journal : List Entry). TellsSleepOf c.event-did.result journal c.has_slept-slept.result) c.journal.ensures.entries c.has_slept-slept.ensures))
    (subst (λ (x : PlainBoard). plain_place x c.settle.new.self ≡ with_coming x new.state c.next-event.result.1 c.has_slept-slept.result (plain_place x c.next-event.new.self)) (c.board-3.ensures ∙ c.event-did.ensures.board ∙ board_same) (c.settle.ensures new.state (sym c.run_mode.ensures)))
