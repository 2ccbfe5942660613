-- The run by the board's schedule.
use Rattle.std.specs.Prelude.{◌≡◌, ℕ, zero, suc, ◌+◌, ◌-◌, ◌*◌, ◌%◌, ◌≤◌, Bool, true, false, ◌||◌, List, [], ◌∷◌, ◌++◌, Option, Some, None, length, drop, is_some, IsTrue}
use Rattle.std.specs.List.{All, range_with_len}
use Rattle.rt_base.specs.declared.codes.Event.{Event}
use Rattle.rt_base.specs.declared.codes.RunMode.{RunMode}
use Rattle.rt_base.specs.declared.codes.Halt.{Halt}
use Rattle.rt_plain.specs.declared.board.Schedule.{Schedule}
use Rattle.rt_plain.specs.declared.entry.Entry.{Entry}
use Rattle.rt_plain.specs.declared.line.Line.{Line}
use Rattle.rt_plain.specs.PlainBoard.{PlainBoard}
use Rattle.rt_plain.specs.kernel.State.{State, Nest}
use Rattle.rt_plain.specs.kernel.Sleeps.{Did, Made, Same, Halted}
use Rattle.rt_plain.specs.kernel.Steps.{happens}
use Rattle.rt_plain.specs.kernel.Opening.{open_state}
use Rattle.rt_plain.specs.kernel.Shown.{shown}
use Rattle.rt_plain.specs.runs.Runs.{Course, opened, course_after, events_of, is_event_of, is_over}
use Rattle.rand_pcg.specs.Lcg.{Lcg}
use Rattle.rand_pcg.specs.Pcg.{pcg32, pcg32_of_seed}
use Rattle.rand_core.specs.Pcg32Seed.{pcg32_seed}

-- where a schedule stands: the listed events that come first, then, in a period, how many steps of drawn cores
-- and of which cores in turn are left of it. After these it ends with a tick
pub record Place : Type 0 where
  pub listed : List Event
  pub draws : ℕ
  pub left : List ℕ
  pub words : Lcg

-- a machine that a schedule drives
pub record Driven : Type 0 where
  pub place : Place
  pub course : Course

-- how many rounds a period has
abbrev pub round_count : RunMode → ℕ
round_count RunMode.High = 8
round_count RunMode.Normal = 4
round_count RunMode.Medium = 2
round_count RunMode.Low = 1

-- so many rounds: the cores in turn
abbrev pub rounds : PlainBoard → ℕ → List ℕ
rounds b zero = []
rounds b (suc n) = range_with_len 0 b.cores ++ rounds b n

-- the begin of a period: by seed its steps are of drawn cores, else they are in rounds
abbrev pub period_place : PlainBoard → Schedule → State → Lcg → Place
period_place b (Schedule.Seed seed) s words = record { listed = []; draws = round_count s.run_mode * b.cores; left = []; words = words }
period_place b Schedule.Round s words = record { listed = []; draws = 0; left = rounds b (round_count s.run_mode); words = words }
period_place b (Schedule.Order events) s words = record { listed = []; draws = 0; left = rounds b (round_count s.run_mode); words = words }

-- listed events, and then a period
abbrev pub listed_place : PlainBoard → Schedule → List Event → State → Lcg → Place
listed_place b schedule [] s words = period_place b schedule s words
listed_place b schedule (event ∷ events) s words = record { listed = event ∷ events; draws = 0; left = []; words = words }

-- the event that ends a period: a tick. While the lock over all cores is held, a further round comes first
abbrev pub closing_event : Option Nest → Event
closing_event None = Event.Tick
closing_event (Some nest) = Event.Step 0

-- the next step in turn
abbrev pub turn_event : State → List ℕ → Event
turn_event s [] = closing_event s.nest
turn_event s (core ∷ cores) = Event.Step core

-- the next step of a period
abbrev pub period_event : PlainBoard → State → Place → ℕ → Event
period_event b s place zero = turn_event s place.left
period_event b s place (suc n) = Event.Step ((pcg32 place.words).0 % b.cores)

-- the next event
abbrev pub next_event : PlainBoard → State → Place → List Event → Event
next_event b s place [] = period_event b s place place.draws
next_event b s place (event ∷ events) = event

-- an entry that begins with a `sleep` line
abbrev pub is_sleep : List Line → Bool
is_sleep (Line.Sleep mode ticks ∷ lines) = true
is_sleep _ = false

-- whether an event made a sleep
abbrev pub is_sleep_of : Did → Bool
is_sleep_of (Made s lines) = is_sleep lines
is_sleep_of Same = false
is_sleep_of (Halted halt) = false

-- the state after an event
abbrev pub state_after : State → Did → State
state_after s (Made new lines) = new
state_after s Same = s
state_after s (Halted halt) = s

-- after a tick a period begins, and a further round goes on with the other cores
abbrev pub place_after_closing : PlainBoard → Schedule → Place → State → Option Nest → Place
place_after_closing b schedule place new None = period_place b schedule new place.words
place_after_closing b schedule place new (Some nest) = record place { left = range_with_len 1 (b.cores - 1) }

-- after a step in turn
abbrev pub place_after_turn : PlainBoard → Schedule → Place → State → State → List ℕ → Place
place_after_turn b schedule place old new [] = place_after_closing b schedule place new old.nest
place_after_turn b schedule place old new (core ∷ cores) = record place { left = cores }

-- after a step of a period
abbrev pub place_in_period : PlainBoard → Schedule → Place → State → State → ℕ → Place
place_in_period b schedule place old new zero = place_after_turn b schedule place old new place.left
place_in_period b schedule place old new (suc n) = record place { draws = n; words = (pcg32 place.words).1 }

-- after an event of a period: a sleep ends it
abbrev pub place_unless_slept : PlainBoard → Schedule → Place → State → Bool → Place
place_unless_slept b schedule place new true = period_place b schedule new place.words
place_unless_slept b schedule place new false = place

-- the schedule's next place
abbrev pub place_after : PlainBoard → Schedule → Place → State → State → Bool → List Event → Place
place_after b schedule place old new slept [] = place_unless_slept b schedule (place_in_period b schedule place old new place.draws) new slept
place_after b schedule place old new slept (event ∷ events) = listed_place b schedule events new place.words

-- one event, by what it does
abbrev pub moved_by : PlainBoard → Schedule → Driven → Event → Did → Driven
moved_by b schedule d event did = record {
  place = place_after b schedule d.place d.course.state (state_after d.course.state did) (is_sleep_of did) d.place.listed;
  course = course_after b d.course event did;
}

-- the event that a schedule makes next
abbrev pub event_of : PlainBoard → Driven → Event
event_of b d = next_event b d.course.state d.place d.place.listed

-- one event of a schedule
unfoldable pub moved : PlainBoard → Schedule → Driven → Driven
moved b schedule d = let event = event_of b d in moved_by b schedule d event (happens b d.course.state event)

-- no further event is made: the machine has halted, or the journal meets a limit
abbrev pub is_stopped : (List Entry → Bool) → Course → Bool
is_stopped over c = is_some c.halt || over c.journal

-- so many events of a schedule at most, until the run stops
abbrev pub turns : (List Entry → Bool) → PlainBoard → Schedule → ℕ → Bool → Driven → Driven
turns over b schedule zero stopped d = d
turns over b schedule (suc n) true d = d
turns over b schedule (suc n) false d = let m = moved b schedule d in turns over b schedule n (is_stopped over m.course) m

-- an entry comes at the latest after a period, a further round and the tick
abbrev pub longest_period : PlainBoard → ℕ
longest_period b = 9 * b.cores + 1

-- no run makes more events: each period and each further round make an entry
abbrev pub most_turns : PlainBoard → List Event → ℕ
most_turns b listed = (b.entries + 1) * longest_period b + length listed

-- the run by a schedule from a place, until it stops
unfoldable pub driven : (List Entry → Bool) → PlainBoard → Schedule → Driven → Driven
driven over b schedule d = turns over b schedule (most_turns b d.place.listed) (is_stopped over d.course) d

-- the generator of a seed
abbrev pub words_of_seed : ℕ → Lcg
words_of_seed seed = pcg32_of_seed (pcg32_seed 16 seed)

-- the generator that a schedule begins with; only a seeded one draws words
abbrev pub words_of : Schedule → Lcg
words_of (Schedule.Seed seed) = words_of_seed seed
words_of Schedule.Round = words_of_seed 0
words_of (Schedule.Order events) = words_of_seed 0

-- the events that a schedule lists
abbrev pub listed_of : Schedule → List Event
listed_of (Schedule.Order events) = events
listed_of Schedule.Round = []
listed_of (Schedule.Seed seed) = []

-- what a run by a schedule needs of its board: a core, and a list of events of its cores
pub record IsDriveable (b : PlainBoard) : Type 0 where
  pub some_core : 1 ≤ b.cores
  pub listed : All (λ event. IsTrue (is_event_of b event)) (listed_of b.schedule)

-- where a schedule begins
abbrev pub begun : PlainBoard → Driven
begun b = record { place = listed_place b b.schedule (listed_of b.schedule) (open_state b) (words_of b.schedule); course = opened b }

-- the run by the board's schedule, as far as a limit lets it
abbrev pub scheduled_course : (List Entry → Bool) → PlainBoard → Course
scheduled_course over b = (driven over b b.schedule (begun b)).course

-- the journal is what the board's schedule makes up to this halt, at this tick
pub record IsScheduled (over : List Entry → Bool) (b : PlainBoard) (journal : List Entry) (halt : Halt) (tick : ℕ) : Type 0 where
  pub made : (scheduled_course over b).journal ≡ journal
  pub halted : (scheduled_course over b).halt ≡ Some halt
  pub at : shown b (scheduled_course over b).state.moment ≡ tick

-- its events that make entries
abbrev pub scheduled_events : (List Entry → Bool) → PlainBoard → List Event
scheduled_events over b = events_of (scheduled_course over b).journal

-- a machine in this state, with this journal, at the begin of a period of rounds
abbrev pub rounds_begun : PlainBoard → State → List Entry → Driven
rounds_begun b s journal = record { place = period_place b Schedule.Round s (words_of_seed 0); course = record { state = s; journal = journal; halt = s.halt } }

-- the run that goes on by rounds, in a new period, from the state that a journal left
abbrev pub rounds_course : (List Entry → Bool) → PlainBoard → State → List Entry → Course
rounds_course over b s journal = (driven over b Schedule.Round (rounds_begun b s journal)).course

-- the events that it adds
abbrev pub round_events : PlainBoard → State → List Entry → List Event
round_events b s journal = events_of (drop (length journal) (rounds_course (is_over b) b s journal).journal)
