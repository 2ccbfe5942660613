use Rattle.std.proofs.Common.{◌≡◌}
use Rattle.std.specs.List.{range_with_len}
use Rattle.rt_plain.specs.runs.Generated.{draw_each, draw_thread}
use Rattle.board_show.proofs.scripts.draw_threads.Given as goal

abbrev pub invariant-loop-i : goal.invariant-loop-i
invariant-loop-i l = record {
  value : l.threads ≡ (draw_each draw_thread (range_with_len 0 l.i) l.initial.words).value;
  rest : l.words ≡ (draw_each draw_thread (range_with_len 0 l.i) l.initial.words).rest;
}
