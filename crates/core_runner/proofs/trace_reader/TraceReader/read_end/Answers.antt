use Rattle.std.proofs.Common.{◌≡◌, ◌∙◌, ap, sym}
use Rattle.rt_base.specs.declared.codes.Event.{Event}
use Rattle.rt_plain.specs.PlainBoard.{PlainBoard}
use Rattle.rt_plain.specs.runs.Runs.{Course, after}
use Rattle.kernel_step.specs.Did.{did_by}
use Rattle.core_runner.proofs.ReaderLemmas.{end-read, step-halts}
use Rattle.core_runner.proofs.trace_reader.TraceReader.read_end.Goals as goal

pub returns-then-branch-clause-read : goal.returns-then-branch-clause-read
returns-then-branch-clause-read g c = λ front r at none other.
    let b = c.args.self.now.machine.board in
    let course = c.args.self.now.machine.course in
    let reserved = c.reserve.new.self.course in
    let board_is = c.in_ok-reserve.ensures.board in
    let course_is = c.in_ok-reserve.ensures.course in
    let did = sym (c.event-did.ensures.did ∙ ap (λ (x : PlainBoard). did_by x reserved (Event.Step 0)) board_is ∙ ap (λ (x : Course). did_by b x (Event.Step 0)) course_is) ∙ c.in-Halted.is in
    let next = c.event-did.ensures.course ∙ ap (λ (x : PlainBoard). after x reserved (Event.Step 0)) board_is ∙ ap (λ (x : Course). after b x (Event.Step 0)) course_is in
    end-read b front c.args.line.now r c.args.self.now c.event-did.new.self c.in-Halted.halt c.tick-tick.result at none c.requires.open
    (step-halts b course c.event-did.new.self.course c.in-Halted.halt c.journal.ensures.run did next)
    c.tick-tick.ensures (sym c.in_ok-is_end.ensures ∙ c.if-branch.true) other
