-- What a call needs of the kernel's state and of the lines.
use Rattle.std.specs.Prelude.{ℕ, ◌+◌, ◌<◌, ◌≤◌, ◌^◌, All, length}
use Rattle.rt_base.specs.Roomy.{Roomy}
use Rattle.rt_plain.specs.declared.line.Line.{Line}
use Rattle.mutex_tables.specs.Moved.{AreOnce}
use Rattle.rt_kernel.specs.declared.state.State.{State as KernelState}
use Rattle.rt_kernel.specs.Mutexes.{AreActive, HasNoMutex}
use Rattle.rt_kernel.specs.View.{state_of}

-- room for 2 numbers and for so many lines, at a moment that a board may have. Each start number was given, threads that are ready are active, each is ready once, and there is no mutex
pub record HasRoom (old : KernelState) (before : Roomy Line) (most : ℕ) : Type 0 where
  pub latest : All (λ row. row.number < old.numbers) old.armed.rows
  pub moment : old.armed.moment ≤ 1099511627775
  pub number : old.numbers + 2 < 2 ^ 64
  pub active : AreActive old.tables
  pub once : AreOnce old.tables.ready
  pub free : HasNoMutex (state_of old)
  pub lines : length before.items + most ≤ before.room
