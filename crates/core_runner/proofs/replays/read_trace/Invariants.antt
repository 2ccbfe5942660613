use Rattle.std.proofs.Common.{◌≡◌, length}
use Rattle.core_runner.proofs.ReplayLemmas.{IsOnTrace}
use Rattle.core_runner.proofs.replays.read_trace.Given as goal

abbrev pub invariant-loop-end : goal.invariant-loop-end
invariant-loop-end g l = record {
  board : l.reader.machine.board ≡ l.initial.reader.machine.board;
  way : IsOnTrace l.initial.reader.machine.board l.fn.trace l.rest l.reader l.no;
}

abbrev pub decreases-loop-end : goal.decreases-loop-end
decreases-loop-end g l = length l.rest
