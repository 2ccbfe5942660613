use Rattle.std.proofs.Common.{◌≡◌, ◌++◌}
use Rattle.std.specs.List.{flat_map, range_with_len}
use Rattle.rt_plain.specs.runs.Generated.{draw_block, draw_each}
use Rattle.board_show.proofs.scripts.push_blocks.Given as goal

abbrev pub invariant-loop-i : goal.invariant-loop-i
invariant-loop-i l = record {
  value : l.script ≡ l.initial.script ++ flat_map (λ block. block) (draw_each draw_block (range_with_len 0 l._i) l.initial.words).value;
  rest : l.words ≡ (draw_each draw_block (range_with_len 0 l._i) l.initial.words).rest;
}
