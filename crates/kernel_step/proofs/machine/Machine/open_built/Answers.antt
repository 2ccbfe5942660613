use Rattle.std.proofs.Common.{◌∙◌, ◌+◌, ap}
use Rattle.rt_plain.proofs.runs.CompleteLemmas.{open-live}
use Rattle.rt_plain.proofs.runs.ReachedLemmas.{opened-reached}
use Rattle.kernel_step.proofs.machine.Machine.open_built.Goals as goal

pub invariant_of-result : goal.invariant_of-result
invariant_of-result c = record {
  reached = rw (c.in_ok-engine.ensures.state, c.in_ok-engine.ensures.board, c.new-2.ensures) (opened-reached c.args.board (open-live c.args.board));
  built = rw c.in_ok-engine.ensures.board c.know_board.ensures;
  clock = c.in_ok-engine.ensures.clock;
  empty = c.in_ok-lines.ensures.empty;
  room = rw c.in_ok-engine.ensures.board (c.in_ok-lines.ensures.room ∙ ap (λ n. n + 16) c.room_for.ensures.value);
}
