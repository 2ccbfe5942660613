-- Which boards the machine runs so far. This test goes away once all is built.
use Rattle.std.specs.Prelude.{◌≤◌, Bool}
use Rattle.rt_plain.specs.PlainBoard.{PlainBoard}
use Rattle.rt_kernel.specs.Built.{is_built as is_built_for_kernel, IsBuilt as IsBuiltForKernel}

-- a board that the kernel runs
abbrev pub is_built : PlainBoard → Bool
is_built b = is_built_for_kernel b

-- what each valid board says of its low-power clock and of its sleeps
pub record IsClocked (b : PlainBoard) : Type 0 where
  pub some_counts : 1 ≤ b.lp_h
  pub few_counts : b.lp_h ≤ 1000000
  pub some_ticks : 1 ≤ b.lp_q
  pub few_ticks : b.lp_q ≤ 1000
  pub some_longest : 1 ≤ b.lpmax

-- what the test says of a board
pub record IsBuilt (b : PlainBoard) : Type 0 where
  pub kernel : IsBuiltForKernel b
  pub clocked : IsClocked b
