-- What is true of every kernel.
use Rattle.std.specs.Prelude.{◌≡◌, ℕ, Some, eqb, slice_get}
use Rattle.rt_plain.specs.declared.board.ThreadDef.{ThreadDef}
use Rattle.rt_plain.specs.PlainBoard.{PlainBoard}
use Rattle.rt_plain.specs.kernel.State.{State, thread_at}
use Rattle.rt_plain.specs.kernel.Tally.{tally}
use Rattle.rt_plain.specs.kernel.Kept.{Frame, Kept}
use Rattle.rt_plain.proofs.kernel.TickLemmas.{less-fits}
use Rattle.rt_kernel.specs.declared.kernel.Kernel.TheInside.{Inside}
use Rattle.rt_kernel.specs.Built.{IsBuilt}
use Rattle.rt_kernel.specs.Mutexes.{HasNoMutex}
use Rattle.rt_kernel.specs.Limits.{limits_of, board_limits}
use Rattle.rt_kernel.specs.View.{state_of}

-- now, with what is due now. No moment is later than the last one that a board may have
abbrev pub frame_of : PlainBoard → State → Frame
frame_of b s = record { board = b; now = s.moment; low = s.moment; few = tally (λ row. eqb row.due s.moment) s.armed; latest = 1099511627775; fits = less-fits s.moment }

-- threads have the numbers of their definitions in the board
abbrev pub IsInOrder : PlainBoard → State → Type 0
IsInOrder b s = (t : ℕ) (def : ThreadDef) → slice_get b.threads t ≡ Some def → (thread_at s t).name ≡ def.name

-- the board is built, there is room for as many objects as it says and no mutex yet, threads are in its order, and what the rules of the kernel keep holds of the state
pub record IsKernel (k : Inside) : Type 0 where
  pub built : IsBuilt k.board
  pub limits : limits_of k.state.tables ≡ board_limits k.board
  pub free : HasNoMutex (state_of k.state)
  pub order : IsInOrder k.board (state_of k.state)
  pub kept : Kept (frame_of k.board (state_of k.state)) (state_of k.state)
