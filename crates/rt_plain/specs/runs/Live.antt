-- What a journal may be whose first part runners made, one for each core.
use Rattle.std.specs.Prelude.{◌≡◌, ℕ, zero, suc, ◌+◌, ◌/◌, ◌≤◌, Bool, true, false, List, [], map, length, take, drop, count_by, nat_le, if◌then◌else◌, ◌==◌, IsTrue}
use Rattle.std.specs.List.{list_all, range_with_len}
use Rattle.rt_base.specs.declared.codes.Event.{Event}
use Rattle.rt_plain.specs.declared.entry.Entry.{Entry}
use Rattle.rt_plain.specs.declared.entry.Cut.{Cut}
use Rattle.rt_plain.specs.PlainBoard.{PlainBoard}
use Rattle.rt_plain.specs.kernel.Sleeps.{Did}
use Rattle.rt_plain.specs.kernel.Steps.{happens}
use Rattle.rt_plain.specs.kernel.Opening.{open_state}
use Rattle.rt_plain.specs.kernel.State.{State}
use Rattle.rt_plain.specs.runs.Runs.{IsRun, IsRunIn, Course, opened, course_after, events_of, is_over}
use Rattle.rt_plain.specs.runs.Schedules.{is_stopped, is_sleep_of, round_count, round_events}

-- the core whose runner makes an event: a tick is made by that of core 0
abbrev pub owner : Event → ℕ
owner (Event.Step core) = core
owner Event.Tick = 0

-- whether an event is a tick
abbrev pub is_tick : Event → Bool
is_tick (Event.Step core) = false
is_tick Event.Tick = true

-- how many of these events are of each core
abbrev pub owner_counts : ℕ → List Event → List ℕ
owner_counts cores events = map (λ core. count_by (λ event. owner event == core) events) (range_with_len 0 cores)

-- a runner alone: its run, and the steps that it made since its last tick or sleep
pub record Lone : Type 0 where
  pub course : Course
  pub steps : ℕ

-- the event of the next hold: a tick after as many steps as the run mode has rounds, and else a step
abbrev pub lone_event : Lone → Event
lone_event l = if nat_le (round_count l.course.state.run_mode) l.steps then Event.Tick else Event.Step 0

-- how many steps came since the last tick or sleep, those that changed nothing too
abbrev pub steps_after : ℕ → Event → Did → ℕ
steps_after steps Event.Tick did = 0
steps_after steps (Event.Step core) did = if is_sleep_of did then 0 else steps + 1

-- the runner after a hold that made an event
abbrev pub lone_after : PlainBoard → Lone → Event → Did → Lone
lone_after b l event did = record { course = course_after b l.course event did; steps = steps_after l.steps event did }

-- one hold: an event, unless the machine has halted or met a limit
abbrev pub lone_hold : PlainBoard → Lone → Lone
lone_hold b l = if is_stopped (is_over b) l.course then l else lone_after b l (lone_event l) (happens b l.course.state (lone_event l))

-- so many holds
abbrev pub lone_holds : PlainBoard → ℕ → Lone → Lone
lone_holds b zero l = l
lone_holds b (suc n) l = lone_holds b n (lone_hold b l)

-- the events of a runner alone that make entries, in so many holds
abbrev pub lone_events : PlainBoard → ℕ → List Event
lone_events b holds = events_of (lone_holds b holds (record { course = opened b; steps = 0 })).course.journal

-- a journal whose first entries, up to the cut, runners made in so many turns each, and whose rest goes on by rounds
pub record IsLive (b : PlainBoard) (turns : ℕ) (journal : List Entry) (cut : Cut) : Type 0 where
  pub state : State
  pub is_run : IsRunIn (is_over b) b [] (open_state b) journal state
  pub at : cut.at ≤ length journal
  pub counts : cut.counts.items ≡ owner_counts b.cores (events_of (take cut.at journal))
  pub few : IsTrue (list_all (λ n. nat_le n turns) cut.counts.items)
  pub few_ticks : count_by is_tick (events_of (take cut.at journal)) ≤ turns / 2
  pub there : State
  pub is_there : IsRun b (open_state b) (take cut.at journal) there
  pub rest : events_of (drop cut.at journal) ≡ round_events b there (take cut.at journal)
  pub one_core : b.cores ≡ 1 → events_of (take cut.at journal) ≡ lone_events b turns
