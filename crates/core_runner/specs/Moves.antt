-- What the schedule's next event is, and where the schedule stands behind it.
use Rattle.std.specs.Prelude.{◌≡◌, ℕ, Bool, true, false, [], drop, is_some}
use Rattle.rt_base.specs.declared.codes.Event.{Event}
use Rattle.rt_plain.specs.declared.board.Schedule.{Schedule}
use Rattle.rt_plain.specs.PlainBoard.{PlainBoard}
use Rattle.rt_plain.specs.kernel.State.{State}
use Rattle.rt_plain.specs.runs.Runs.{is_event_of}
use Rattle.rt_plain.specs.runs.Schedules.{Place as PlainPlace, listed_of, next_event, period_place, place_after}
use Rattle.core_runner.specs.declared.place.Coming.{Coming}
use Rattle.core_runner.specs.declared.place.Coming.TheVariants.{Now, IfSlept, Later}
use Rattle.core_runner.specs.declared.place.Place.{Place}
use Rattle.core_runner.specs.Places.{plain_place}

-- the steps of drawn cores in a period
abbrev pub drawn_steps : Schedule → ℕ → ℕ
drawn_steps (Schedule.Seed seed) n = n
drawn_steps Schedule.Round n = 0
drawn_steps (Schedule.Order events) n = 0

-- the steps of cores in turn in a period
abbrev pub turn_steps : Schedule → ℕ → ℕ
turn_steps (Schedule.Seed seed) n = 0
turn_steps Schedule.Round n = n
turn_steps (Schedule.Order events) n = n

-- the place, or the begin of a period
abbrev pub with_coming : PlainBoard → State → Coming → Bool → PlainPlace → PlainPlace
with_coming b s Now slept p = period_place b b.schedule s p.words
with_coming b s IfSlept true p = period_place b b.schedule s p.words
with_coming b s IfSlept false p = p
with_coming b s Later slept p = p

-- the next event, and the place behind it
pub record IsMove (b : PlainBoard) (nested : Bool) (old new : Place) (event : Event) (coming : Coming) : Type 0 where
  pub event_is : (s : State) → is_some s.nest ≡ nested → next_event b s (plain_place b old) (plain_place b old).listed ≡ event
  pub place_is : (s after : State) (slept : Bool) → is_some s.nest ≡ nested →
      place_after b b.schedule (plain_place b old) s after slept (plain_place b old).listed ≡ with_coming b after coming slept (plain_place b new)
  pub core : is_event_of b event ≡ true
  pub spent : (coming ≡ Later → ⊥) → drop new.made (listed_of b.schedule) ≡ []
