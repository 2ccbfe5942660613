use Rattle.std.proofs.Common.{◌≡◌}
use Rattle.std.specs.List.{range_with_len}
use Rattle.rt_plain.specs.runs.Generated.{draw_each, draw_timer}
use Rattle.board_show.proofs.draws.draw_timers.Given as goal

abbrev pub invariant-loop-i : goal.invariant-loop-i
invariant-loop-i l = record {
  value : l.timers ≡ (draw_each draw_timer (range_with_len 0 l.i) l.initial.words).value;
  rest : l.words ≡ (draw_each draw_timer (range_with_len 0 l.i) l.initial.words).rest;
}
