-- One event: a step of a core, or a tick.
use Rattle.std.specs.Prelude.{ℕ, Bool, false, not, ◌&&◌, ◌||◌, [], ◌∷◌, Option, Some, None, slice_set, is_some, nat_lt, if◌then◌else◌, ◌==◌}
use Rattle.std.specs.List.{list_any}
use Rattle.rt_base.specs.declared.codes.Event.{Event}
use Rattle.rt_base.specs.declared.codes.Halt.{Halt}
use Rattle.rt_plain.specs.declared.line.Line.{Line}
use Rattle.rt_plain.specs.PlainBoard.{PlainBoard}
use Rattle.rt_plain.specs.kernel.State.{State, thread_at, with_thread, running_on, is_nest_of, is_nest_of_other}
use Rattle.rt_plain.specs.kernel.Priority.{cur}
use Rattle.rt_plain.specs.kernel.Pick.{pick}
use Rattle.rt_plain.specs.kernel.Effects.{Effect, name_of, without_ready, with_ready_first, with_ready_last}
use Rattle.rt_plain.specs.kernel.Statements.{statement_effect}
use Rattle.rt_plain.specs.kernel.Ticks.{tick_effect}
use Rattle.rt_plain.specs.kernel.Sleeps.{Did, Made, Same, Halted, is_empty, rest_did}

-- the core runs the thread
abbrev pub with_running : State → ℕ → ℕ → State
with_running s core t = let free = without_ready s t in record free { running = slice_set free.running core (Some t) }

-- the mark of a thread is gone
abbrev pub without_mark : State → ℕ → State
without_mark s t = let row = thread_at s t in with_thread s t (record row { marked = false })

-- whether a running thread may be preempted on its core: it has no scheduler lock, and the core not the lock over all cores
abbrev pub is_preemptible : State → ℕ → ℕ → Bool
is_preemptible s core t = not (nat_lt 0 (thread_at s t).locks) && not (is_nest_of core s.nest)

-- whether the thread p takes the core from the running thread r: it is more urgent, or as urgent where r is marked
abbrev pub takes_from : State → ℕ → ℕ → Bool
takes_from s p r = nat_lt (cur s p) (cur s r) || ((cur s p == cur s r) && (thread_at s r).marked)

-- the running thread leaves for the end of the ready list if it is marked, and else for its front
abbrev pub preempted_state : State → ℕ → State
preempted_state s r = let free = without_mark s r in if (thread_at s r).marked then with_ready_last free r else with_ready_first free r

-- a free core runs the thread
abbrev pub run_did : State → ℕ → ℕ → Did
run_did s core p = Made (with_running s core p) (Line.Run (name_of s p) ∷ [])

-- a running thread leaves the core for another one
abbrev pub preempt_did : State → ℕ → ℕ → ℕ → Did
preempt_did s core r p = Made (with_running (preempted_state s r) core p) (Line.Out (name_of s r) (not (thread_at s r).marked) ∷ Line.Run (name_of s p) ∷ [])

-- an action makes an entry, whatever it shows
abbrev pub did_of_effect : Effect → Did
did_of_effect e = Made e.state e.lines

-- the mark goes, unless a lock keeps the thread on its core, and one statement is done
abbrev pub statement_did : PlainBoard → State → ℕ → ℕ → Did
statement_did b s core r = did_of_effect (statement_effect b r core (if is_preemptible s core r then without_mark s r else s))

-- a core that runs a thread, with the one that it would pick
abbrev pub busy_core_did : PlainBoard → State → ℕ → ℕ → Option ℕ → Did
busy_core_did b s core r None = statement_did b s core r
busy_core_did b s core r (Some p) = if is_preemptible s core r && takes_from s p r then preempt_did s core r p else statement_did b s core r

-- whether no core runs a thread and none is ready
abbrev pub is_all_idle : State → Bool
is_all_idle s = is_empty s.ready && not (list_any is_some s.running)

-- a core that runs nobody, with the thread that it would pick
abbrev pub free_core_did : PlainBoard → State → ℕ → Option ℕ → Did
free_core_did b s core (Some p) = run_did s core p
free_core_did b s core None = if (core == 0) && is_all_idle s then rest_did b s else Same

-- a step of a core, by what it runs and would pick
abbrev pub core_did : PlainBoard → State → ℕ → Option ℕ → Did
core_did b s core None = free_core_did b s core (pick s core)
core_did b s core (Some r) = busy_core_did b s core r (pick s core)

-- a halted machine says so, and a core waits while another one holds the lock over all cores
abbrev pub unhalted_step_did : PlainBoard → State → ℕ → Option Halt → Did
unhalted_step_did b s core (Some halt) = Halted halt
unhalted_step_did b s core None = if is_nest_of_other core s.nest then Same else core_did b s core (running_on s core)

-- a step of a core
abbrev pub step : PlainBoard → State → ℕ → Did
step b s core = unhalted_step_did b s core s.halt

-- a halted machine says so, and no tick passes while the lock over all cores is held
abbrev pub unhalted_tick_did : PlainBoard → State → Option Halt → Did
unhalted_tick_did b s (Some halt) = Halted halt
unhalted_tick_did b s None = if is_some s.nest then Same else did_of_effect (tick_effect b s)

-- a tick
abbrev pub tick : PlainBoard → State → Did
tick b s = unhalted_tick_did b s s.halt

-- what an event does. All that stands above the kernel speaks of it by this function alone
unfoldable pub happens : PlainBoard → State → Event → Did
happens b s (Event.Step core) = step b s core
happens b s Event.Tick = tick b s
