-- A run by a schedule.
use Rattle.std.proofs.Common.{◌≡◌, ℕ, zero, suc, ◌-◌, ◌<◌, ◌||◌, List, [], ◌∷◌, Option, Some, None, Bool, true, false, length, refl, sym, ap, ◌∙◌, subst, arith, is_some}
use Rattle.rt_base.specs.declared.codes.Event.{Event}
use Rattle.rt_base.specs.declared.codes.Halt.{Halt}
use Rattle.rt_plain.specs.declared.board.Schedule.{Schedule}
use Rattle.rt_plain.specs.declared.entry.Entry.{Entry}
use Rattle.rt_plain.specs.PlainBoard.{PlainBoard}
use Rattle.rt_plain.specs.kernel.State.{State}
use Rattle.rt_plain.specs.kernel.Opening.{open_state}
use Rattle.rt_plain.specs.kernel.Sound.{IsProper}
use Rattle.rt_plain.specs.runs.Runs.{Course, opened, is_over, is_over_in, line_count, IsCompleteIn}
use Rattle.rt_plain.specs.runs.Schedules.{Driven, moved, turns, driven, begun, is_stopped, listed_of, listed_place, period_place, words_of, most_turns, scheduled_course, IsDriveable, IsScheduled}
use Rattle.rand_pcg.specs.Lcg.{Lcg}
use Rattle.kernel_step.specs.MachineSeen.{MachineSeen}
use Rattle.core_runner.specs.declared.turns.Within.{Within}
use Rattle.core_runner.specs.declared.place.Place.{Place}
use Rattle.core_runner.specs.Places.{plain_place, stands}
use Rattle.core_runner.specs.Limits.{over_by, HasCompleted, IsLimited, IsOnWay}

-- the listed events of where a schedule begins
begins-listed : (b : PlainBoard) (events : List Event) (s : State) (words : Lcg) → (listed_place b b.schedule events s words).listed ≡ events
begins-listed b [] s words = by_schedule b.schedule where
  by_schedule : (c : Schedule) → (period_place b c s words).listed ≡ []
  by_schedule Schedule.Round = refl
  by_schedule (Schedule.Seed n) = refl
  by_schedule (Schedule.Order es) = refl
begins-listed b (e ∷ events) s words = refl

-- at the opening nothing was made
pub on_way-opened : (over : List Entry → Bool) (b : PlainBoard) (m : MachineSeen) (place : Place) (left : ℕ) → m.board ≡ b → m.course ≡ opened b
    → plain_place b place ≡ listed_place b b.schedule (listed_of b.schedule) (open_state b) (words_of b.schedule) → left ≡ most_turns b (listed_of b.schedule) → IsOnWay over b m place left
unfolding driven
on_way-opened over b m place left board course begins most =
    let start : begun b ≡ stands b m.course place = rw (course, begins) refl in
    let enough : left ≡ most_turns b (begun b).place.listed = most ∙ ap (most_turns b) (sym (begins-listed b (listed_of b.schedule) (open_state b) (words_of b.schedule))) in
    record {
      board = board;
      rest = ap (λ (d : Driven). turns over b b.schedule left (is_stopped over d.course) d) (sym start) ∙ ap (λ (n : ℕ). turns over b b.schedule n (is_stopped over (begun b).course) (begun b)) enough;
    }

-- a run that has stopped stays
stays : (over : List Entry → Bool) (b : PlainBoard) (n : ℕ) (c : Bool) (d : Driven) → c ≡ true → turns over b b.schedule n c d ≡ d
stays over b zero c d is = refl
stays over b (suc n) c d is = rw is refl

-- one turn of a run that goes on
goes-on : (over : List Entry → Bool) (b : PlainBoard) (n : ℕ) (c : Bool) (d : Driven) → c ≡ false → turns over b b.schedule (suc n) c d ≡ turns over b b.schedule n (is_stopped over (moved b b.schedule d).course) (moved b b.schedule d)
goes-on over b n c d is = rw is refl

pub on_way-turn : (over : List Entry → Bool) (b : PlainBoard) (m new : MachineSeen) (place next : Place) (left : ℕ) → IsOnWay over b m place left → 0 < left → is_stopped over m.course ≡ false
    → moved m.board m.board.schedule (stands m.board m.course place) ≡ stands m.board new.course next → new.board ≡ m.board → IsOnWay over b new next (left - 1)
on_way-turn over b m new place next left way some going turned board =
    let more : left ≡ suc (left - 1) = omega (arith, some) in
    let step : moved b b.schedule (stands b m.course place) ≡ stands b new.course next = subst (λ (x : PlainBoard). moved x x.schedule (stands x m.course place) ≡ stands x new.course next) way.board turned in
    record {
      board = board ∙ way.board;
      rest =
          ap (λ (d : Driven). turns over b b.schedule (left - 1) (is_stopped over d.course) d) (sym step)
          ∙ sym (goes-on over b (left - 1) _ (stands b m.course place) going)
          ∙ ap (λ (n : ℕ). turns over b b.schedule n (is_stopped over m.course) (stands b m.course place)) (sym more)
          ∙ way.rest;
    }

-- a machine that has stopped, or has made all turns, made the run of the board
pub on_way-stopped : (over : List Entry → Bool) (b : PlainBoard) (m : MachineSeen) (place : Place) (left : ℕ) → IsOnWay over b m place left → is_stopped over m.course ≡ true → m.course ≡ scheduled_course over b
on_way-stopped over b m place left way stopped = ap (λ (d : Driven). d.course) (sym (stays over b left _ (stands b m.course place) stopped) ∙ way.rest)

pub on_way-spent : (over : List Entry → Bool) (b : PlainBoard) (m : MachineSeen) (place : Place) (left : ℕ) → IsOnWay over b m place left → left ≡ 0 → m.course ≡ scheduled_course over b
on_way-spent over b m place left way none = ap (λ (d : Driven). d.course) (ap (λ (n : ℕ). turns over b b.schedule n (is_stopped over m.course) (stands b m.course place)) (sym none) ∙ way.rest)

-- a run that hasn't stopped
pub going-live : (over : List Entry → Bool) (c : Course) → is_stopped over c ≡ false → c.halt ≡ None
going-live over c is = by_halt c.halt (over c.journal) is where
  by_halt : (o : Option Halt) (l : Bool) → is_some o || l ≡ false → o ≡ None
  by_halt None l is = refl
  by_halt (Some h) l is = absurd cc

-- ---- how it ends

-- what a schedule makes up to a halt is a complete run
abbrev SchedulesComplete : Type 0
SchedulesComplete = (over : List Entry → Bool) (b : PlainBoard) (journal : List Entry) (h : Halt) (t : ℕ) → IsDriveable b → IsScheduled over b journal h t → IsCompleteIn over b journal h t

-- a machine that made the run of a board
pub completed : SchedulesComplete → (over : List Entry → Bool) (b : PlainBoard) (c : Course) → IsDriveable b → c ≡ scheduled_course over b → HasCompleted over b c
completed law over b c can run =
    subst (λ (d : Course). HasCompleted over b d) (sym run) (λ h is. law over b _ h _ can (record { made = refl; halted = is; at = refl }))

-- the run by a schedule that hasn't halted meets a limit
pub record SchedulesStop : Type 0 where
  pub board : (b : PlainBoard) → IsDriveable b → IsProper b → (scheduled_course (is_over b) b).halt ≡ None → is_over b (scheduled_course (is_over b) b).journal ≡ true
  pub within : (entries lines : ℕ) (b : PlainBoard) → IsDriveable b → IsProper b → (scheduled_course (is_over_in entries lines b) b).halt ≡ None → is_over_in entries lines b (scheduled_course (is_over_in entries lines b) b).journal ≡ true

stops-by : SchedulesStop → (within : Option Within) (b : PlainBoard) → IsDriveable b → IsProper b → (scheduled_course (over_by within b) b).halt ≡ None → over_by within b (scheduled_course (over_by within b) b).journal ≡ true
stops-by law None b can proper going = law.board b can proper going
stops-by law (Some w) b can proper going = law.within w.entries w.lines b can proper going

pub limited : SchedulesStop → (within : Option Within) (b : PlainBoard) (c : Course) (entries lines : ℕ) → IsDriveable b → IsProper b → c ≡ scheduled_course (over_by within b) b → c.halt ≡ None → entries ≡ length c.journal → lines ≡ line_count c.journal → IsLimited (over_by within b) b entries lines
limited law within b c entries lines can proper run live entries_is lines_is =
    let going = sym (ap (λ (d : Course). d.halt) run) ∙ live in
    record {
      going = going;
      over_is = stops-by law within b can proper going;
      entries_is = entries_is ∙ ap (λ (d : Course). length d.journal) run;
      lines_is = lines_is ∙ ap (λ (d : Course). line_count d.journal) run;
    }
