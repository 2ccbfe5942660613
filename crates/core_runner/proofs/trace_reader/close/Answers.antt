use Rattle.std.proofs.Common.{◌≡◌, ◌∙◌, ap, sym}
use Rattle.rt_base.specs.declared.codes.Event.{Event}
use Rattle.rt_plain.specs.PlainBoard.{PlainBoard}
use Rattle.rt_plain.specs.runs.Runs.{Course, after}
use Rattle.kernel_step.specs.Did.{did_by}
use Rattle.core_runner.proofs.ReaderLemmas.{closed-by, not-halted}
use Rattle.core_runner.proofs.trace_reader.close.Goals as goal

pub returns-in-Entry : goal.returns-in-Entry
returns-in-Entry g c =
    let b = c.args.machine.now.board in
    let course = c.args.machine.now.course in
    let reserved = c.reserve.new.self.course in
    let board_is = c.in_ok-reserve.ensures.board in
    let course_is = c.in_ok-reserve.ensures.course in
    record {
      board = c.event.ensures.board ∙ board_is;
      closing = closed-by c.args.machine.now c.event.new.self c.event.result (sym c.is_over.ensures ∙ c.if-not-is_over.false)
          (c.event.ensures.did ∙ ap (λ (x : PlainBoard). did_by x reserved (Event.Step 0)) board_is ∙ ap (λ (x : Course). did_by b x (Event.Step 0)) course_is)
          (not-halted c.event.result c.in-Entry.is)
          (c.event.ensures.course ∙ ap (λ (x : PlainBoard). after x reserved (Event.Step 0)) board_is ∙ ap (λ (x : Course). after b x (Event.Step 0)) course_is);
    }
