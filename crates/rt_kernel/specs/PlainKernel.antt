-- What contracts see of a kernel.
use Rattle.std.specs.Prelude.{◌≡◌, ℕ, ◌<◌, [], length, Some, None, true}
use Rattle.rt_plain.specs.declared.stmt.Call.{Call}
use Rattle.rt_plain.specs.declared.stmt.Stmt.{Stmt}
use Rattle.rt_plain.specs.PlainBoard.{PlainBoard}
use Rattle.rt_plain.specs.kernel.State.{State, thread_at, running_on}
use Rattle.rt_plain.specs.kernel.Statements.{script_of, statement_at}
use Rattle.rt_plain.specs.kernel.Sound.{is_timed_call}
use Rattle.rt_plain.specs.kernel.TimerKinds.{is_timer_call}
use Rattle.rt_kernel.specs.Built.{is_built_call}
use Rattle.rt_kernel.specs.declared.caller.Caller.{Caller}

-- the board for which it was opened, and the state that it stands for
pub record PlainKernel : Type 0 where
  pub board : PlainBoard
  pub state : State

-- what isn't built yet is so in each state
pub record IsAlone (s : State) : Type 0 where
  pub halt : s.halt ≡ None
  pub holdings : s.holdings ≡ []

-- a core runs a thread whose next statement is this one, and which has no call to make again
pub record DoesNext (k : PlainKernel) (t core : ℕ) (stmt : Stmt) : Type 0 where
  pub runs : running_on k.state core ≡ Some t
  pub again : (thread_at k.state t).retry ≡ None
  pub next : statement_at (script_of k.board (thread_at k.state t).name) (thread_at k.state t).next ≡ stmt

-- a timer is there and may make a call, which is built, and sets no time of 0
pub record IsTimerCall (k : PlainKernel) (o : ℕ) (call : Call) : Type 0 where
  pub there : o < length k.state.timers
  pub allowed : is_timer_call call ≡ true
  pub built : is_built_call call ≡ true
  pub timed : is_timed_call call ≡ true

-- who makes a call may make it: a thread does it next, and a timer may make it
abbrev pub MayCall : PlainKernel → Caller → Call → Type 0
MayCall k (Caller.Thread t core) call = DoesNext k t core (Stmt.Do call)
MayCall k (Caller.Timer o) call = IsTimerCall k o call
