-- What is left to fire of the rows that are due at a moment.
use Rattle.std.specs.Prelude.{◌≡◌, ◌+◌, ◌*◌, ◌≤◌, ◌++◌, ℕ, List, length}
use Rattle.rt_plain.specs.declared.line.Line.{Line}
use Rattle.rt_plain.specs.PlainBoard.{PlainBoard}
use Rattle.rt_plain.specs.kernel.State.{State}
use Rattle.rt_plain.specs.kernel.Effects.{Effect}
use Rattle.rt_plain.specs.kernel.Due.{due, due_rows_effect}
use Rattle.rt_plain.specs.kernel.Ticks.{alarms_effect}
use Rattle.rt_kernel.specs.PlainKernel.{PlainKernel}
use Rattle.kernel_step.specs.Fired.{fired_rows, rows_now, row_cost}

-- the rows that are still due fire, at most so many
abbrev pub rest_effect : PlainBoard → ℕ → State → Effect
rest_effect b n s = due_rows_effect b n (due s) s

-- what has fired and what is left make up all that fires
pub record IsFiring (old now : PlainKernel) (old_lines lines : List Line) (room old_steps steps : ℕ) : Type 0 where
  pub board : now.board ≡ old.board
  pub fuel : ℕ
  pub enough : length (due now.state) ≤ fuel
  pub state : (rest_effect old.board fuel now.state).state ≡ (alarms_effect old.board old.state).state
  pub shown : lines ++ (rest_effect old.board fuel now.state).lines ≡ old_lines ++ (alarms_effect old.board old.state).lines
  pub fits : length lines + (2 + length old.board.threads) * length (due now.state) ≤ room
  pub moment : now.state.moment ≡ old.state.moment
  pub arrivals : now.state.arrivals ≡ old.state.arrivals
  pub numbers : now.state.numbers + 2 * length (due now.state) ≤ old.state.numbers + 2 * length (due old.state)
  pub read : steps + fired_rows old.board fuel (due now.state) now.state * row_cost old.board ≤ old_steps + rows_now old.board old.state * row_cost old.board
