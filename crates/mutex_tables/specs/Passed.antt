-- The mutexes of an ending thread pass.
use Rattle.std.specs.Prelude.{ℕ, not, List, [], ◌∷◌, Option, Some, None, filter}
use Rattle.rt_base.specs.declared.codes.WaitOrder.{WaitOrder}
use Rattle.rt_base.specs.declared.codes.Code.{Code}
use Rattle.rt_plain.specs.declared.line.Line.{Line}
use Rattle.rt_plain.specs.declared.line.Woke.{Woke}
use Rattle.rt_plain.specs.kernel.State.{State, Thread, Alarm, ArmedRow, OfThread}
use Rattle.rt_plain.specs.kernel.Effects.{Effect, is_alarm, name_of}
use Rattle.rt_plain.specs.kernel.Owners.{give_back_effect, mutexes_of, withdrawn_state}
use Rattle.rt_plain.specs.kernel.Waiting.{first_waiter, takes_mutex}
use Rattle.object_box.specs.declared.object.Object.{Object}
use Rattle.kernel_tables.specs.Threads.{row_at}
use Rattle.mutex_tie.specs.Tie.{name_at}
use Rattle.mutex_tables.specs.declared.passed.Passed.{Passed}

-- mutexes with the threads that they passed to, and for how many threads there is room
pub record PassedList : Type 0 where
  pub threads : ℕ
  pub passed : List Passed

-- the mutex passes to this waiter, if there is one, and then others pass
abbrev pub passed_first : List ℕ → Option ℕ → List Passed → List Passed
passed_first mutex None rest = rest
passed_first mutex (Some t) rest = record { mutex = mutex; thread = t } ∷ rest

-- whom each of these mutexes passes to, one after the other
abbrev pub passed_from : List (List ℕ) → State → List Passed
passed_from [] s = []
passed_from (mutex ∷ mutexes) s = passed_first mutex (first_waiter s WaitOrder.Prio (takes_mutex mutex)) (passed_from mutexes (give_back_effect mutex s).state)

-- whom the mutexes of a thread pass to as it ends
abbrev pub passed_at_end : ℕ → State → List Passed
passed_at_end t s = passed_from (mutexes_of s t) (withdrawn_state s t)

-- a pass of the graph, with the name of the mutex
abbrev pub named_pass : List Object → ℕ × ℕ → Passed
named_pass objects p = record { mutex = name_at objects p.0; thread = p.1 }

-- the lines of passes: each mutex with who got it, who then wakes with 0
abbrev pub passed_lines : List Thread → List Passed → List Line
passed_lines threads [] = []
passed_lines threads (p ∷ ps) = Line.Own p.mutex (row_at threads p.thread).name ∷ Line.Wake (row_at threads p.thread).name (Woke.Code Code.Ok) ∷ passed_lines threads ps

-- the armed rows that are left when those whom mutexes passed to have woken
abbrev pub armed_left : List (ArmedRow Alarm) → List Passed → List (ArmedRow Alarm)
armed_left armed [] = armed
armed_left armed (p ∷ ps) = armed_left (filter (λ r. not (is_alarm (OfThread p.thread) r.alarm)) armed) ps

-- mutexes pass, by what their passes make of the tables
abbrev pub given_by : State → State → List Passed → Effect
given_by s x ps = record { state = record s { threads = x.threads; holdings = x.holdings; ready = x.ready; armed = armed_left s.armed ps }; lines = passed_lines s.threads ps }

-- a thread ends, by what its end makes of the tables, and by whom its mutexes pass to
abbrev pub ended_by : State → ℕ → State → List Passed → Effect
ended_by s t x ps = let e = given_by (withdrawn_state s t) x ps in record { state = e.state; lines = Line.Close (name_of s t) ∷ passed_lines s.threads ps }

-- a state with the tables of another one
abbrev pub like : State → State → State
like x s = record x { threads = s.threads; mutexes = s.mutexes; holdings = s.holdings; ready = s.ready }
