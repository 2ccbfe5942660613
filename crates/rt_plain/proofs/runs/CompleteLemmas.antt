-- What a schedule makes up to a halt is a complete run.
use Rattle.std.proofs.Common.{◌≡◌, ◌+◌, ◌-◌, ◌%◌, ◌≤◌, ◌<◌, ◌∷◌, [], ℕ, zero, suc, List, Option, Some, None, Bool, true, false, IsTrue, is_some, ◌||◌, refl, ◌∙◌, subst, arith, lt-ltb}
use Rattle.std.specs.Prelude.{fold}
use Rattle.std.specs.List.{AllByRecursion, range_with_len}
use Rattle.std.proofs.lemmas.List.Elements.{recursion_from_All}
use Rattle.rt_base.specs.declared.codes.Event.{Event}
use Rattle.rt_base.specs.declared.codes.Halt.{Halt}
use Rattle.rt_plain.specs.declared.board.Schedule.{Schedule}
use Rattle.rt_plain.specs.declared.board.TimerDef.{TimerDef}
use Rattle.rt_plain.specs.declared.entry.Entry.{Entry}
use Rattle.rt_plain.specs.PlainBoard.{PlainBoard}
use Rattle.rt_plain.specs.kernel.State.{State, Nest}
use Rattle.rt_plain.specs.kernel.Sleeps.{Did, Made, Same, Halted}
use Rattle.rt_plain.specs.kernel.Steps.{happens}
use Rattle.rt_plain.specs.kernel.Opening.{open_state, unstarted_state, with_auto_timer}
use Rattle.rt_plain.specs.kernel.Shown.{shown}
use Rattle.rt_plain.specs.runs.Runs.{IsRunIn, IsCompleteIn, Course, opened, course_after, is_event_of, halt_of}
use Rattle.rt_plain.specs.runs.Schedules.{Place, Driven, IsDriveable, round_count, rounds, period_place, listed_place, closing_event, turn_event, period_event, next_event, is_sleep_of, state_after, place_after_closing, place_after_turn, place_in_period, place_unless_slept, place_after, event_of, moved, is_stopped, turns, most_turns, driven, words_of, listed_of, begun, scheduled_course, IsScheduled, rounds_begun}
use Rattle.rand_pcg.specs.Lcg.{Lcg}
use Rattle.rand_pcg.specs.Pcg.{pcg32}
use Rattle.rt_plain.proofs.runs.ReachedLemmas.{halted-state, halts-zero}
use Rattle.rt_plain.proofs.runs.WithinLemmas.{course-within}
use Rattle.rt_plain.proofs.kernel.TallyLemmas.{all-append}

-- a machine on its way within its limits
pub record IsGoing (over : List Entry → Bool) (b : PlainBoard) (c : Course) : Type 0 where
  pub run : IsRunIn over b [] (open_state b) c.journal c.state
  pub halted : (halt : Halt) → c.halt ≡ Some halt → halt_of b c.state ≡ Some halt
  pub live : c.halt ≡ None → c.state.halt ≡ None
  pub last : (halt : Halt) → c.halt ≡ Some halt → c.state.halt ≡ None → over c.journal ≡ false

-- one event of a machine that goes on
pub course-going : (over : List Entry → Bool) (b : PlainBoard) (c : Course) (e : Event) (d : Did) → IsTrue (is_event_of b e) → over c.journal ≡ false → IsGoing over b c → happens b c.state e ≡ d → IsGoing over b (course_after b c e d)
course-going over b c e (Made s lines) core free going is = record {
  run = course-within over b c e (Made s lines) core free going.run is;
  halted = λ h ends. halted-state b s h ends;
  live = λ on. on;
  last = λ h ends on. absurd cc;
}
course-going over b c e Same core free going is = going
course-going over b c e (Halted h) core free going is = record {
  run = going.run;
  halted = λ k ends. halts-zero b c.state e h is ∙ ends;
  live = λ on. absurd cc;
  last = λ k ends on. free;
}

-- its places are of the board
pub record FitsPlace (b : PlainBoard) (place : Place) : Type 0 where
  pub listed : AllByRecursion (λ event. IsTrue (is_event_of b event)) place.listed
  pub left : AllByRecursion (λ core. core < b.cores) place.left

-- numbers in a row are below where it ends
pub range-below : (a n end : ℕ) → a + n ≤ end → AllByRecursion (λ k. k < end) (range_with_len a n)
range-below a zero end fits = tt
range-below a (suc n) end fits = (omega (arith, fits), range-below (a + 1) n end (omega (arith, fits)))

rounds-below : (b : PlainBoard) (n : ℕ) → AllByRecursion (λ core. core < b.cores) (rounds b n)
rounds-below b zero = tt
rounds-below b (suc n) = all-append (λ core. core < b.cores) (range_with_len 0 b.cores) (rounds b n) (range-below 0 b.cores b.cores (omega arith)) (rounds-below b n)

pub period-fits : (b : PlainBoard) (schedule : Schedule) (s : State) (words : Lcg) → FitsPlace b (period_place b schedule s words)
period-fits b (Schedule.Seed seed) s words = record { listed = tt; left = tt }
period-fits b Schedule.Round s words = record { listed = tt; left = rounds-below b (round_count s.run_mode) }
period-fits b (Schedule.Order events) s words = record { listed = tt; left = rounds-below b (round_count s.run_mode) }

listed-fits : (b : PlainBoard) (schedule : Schedule) (events : List Event) (s : State) (words : Lcg) → AllByRecursion (λ event. IsTrue (is_event_of b event)) events → FitsPlace b (listed_place b schedule events s words)
listed-fits b schedule [] s words all = period-fits b schedule s words
listed-fits b schedule (event ∷ events) s words all = record { listed = all; left = tt }

closing-fits : (b : PlainBoard) (schedule : Schedule) (place : Place) (new : State) (nest : Option Nest) → 1 ≤ b.cores → FitsPlace b place → FitsPlace b (place_after_closing b schedule place new nest)
closing-fits b schedule place new None some fits = period-fits b schedule new place.words
closing-fits b schedule place new (Some nest) some fits = record { listed = fits.listed; left = range-below 1 (b.cores - 1) b.cores (omega (arith, some)) }

turn-fits : (b : PlainBoard) (schedule : Schedule) (place : Place) (old new : State) (left : List ℕ) → 1 ≤ b.cores → FitsPlace b place → AllByRecursion (λ core. core < b.cores) left → FitsPlace b (place_after_turn b schedule place old new left)
turn-fits b schedule place old new [] some fits all = closing-fits b schedule place new old.nest some fits
turn-fits b schedule place old new (core ∷ cores) some fits all = record { listed = fits.listed; left = all.1 }

in_period-fits : (b : PlainBoard) (schedule : Schedule) (place : Place) (old new : State) (draws : ℕ) → 1 ≤ b.cores → FitsPlace b place → FitsPlace b (place_in_period b schedule place old new draws)
in_period-fits b schedule place old new zero some fits = turn-fits b schedule place old new place.left some fits fits.left
in_period-fits b schedule place old new (suc n) some fits = record { listed = fits.listed; left = fits.left }

slept-fits : (b : PlainBoard) (schedule : Schedule) (place : Place) (new : State) (slept : Bool) → FitsPlace b place → FitsPlace b (place_unless_slept b schedule place new slept)
slept-fits b schedule place new true fits = period-fits b schedule new place.words
slept-fits b schedule place new false fits = fits

after-fits : (b : PlainBoard) (schedule : Schedule) (place : Place) (old new : State) (slept : Bool) (listed : List Event) → 1 ≤ b.cores → FitsPlace b place → AllByRecursion (λ event. IsTrue (is_event_of b event)) listed → FitsPlace b (place_after b schedule place old new slept listed)
after-fits b schedule place old new slept [] some fits all = slept-fits b schedule (place_in_period b schedule place old new place.draws) new slept (in_period-fits b schedule place old new place.draws some fits)
after-fits b schedule place old new slept (event ∷ events) some fits all = listed-fits b schedule events new place.words all.1

-- the event that a schedule makes is one of the board
closing-event : (b : PlainBoard) (nest : Option Nest) → 1 ≤ b.cores → IsTrue (is_event_of b (closing_event nest))
closing-event b None some = refl
closing-event b (Some nest) some = lt-ltb 0 b.cores some

turn-event : (b : PlainBoard) (s : State) (left : List ℕ) → 1 ≤ b.cores → AllByRecursion (λ core. core < b.cores) left → IsTrue (is_event_of b (turn_event s left))
turn-event b s [] some all = closing-event b s.nest some
turn-event b s (core ∷ cores) some all = lt-ltb core b.cores all.0

period-event : (b : PlainBoard) (s : State) (place : Place) (draws : ℕ) → 1 ≤ b.cores → FitsPlace b place → IsTrue (is_event_of b (period_event b s place draws))
period-event b s place zero some fits = turn-event b s place.left some fits.left
period-event b s place (suc n) some fits = let word = (pcg32 place.words).0 in lt-ltb (word % b.cores) b.cores (omega (arith, some))

next-event : (b : PlainBoard) (s : State) (place : Place) (listed : List Event) → 1 ≤ b.cores → FitsPlace b place → AllByRecursion (λ event. IsTrue (is_event_of b event)) listed → IsTrue (is_event_of b (next_event b s place listed))
next-event b s place [] some fits all = period-event b s place place.draws some fits
next-event b s place (event ∷ events) some fits all = all.0

-- a schedule's event keeps both
pub record IsDriven (over : List Entry → Bool) (b : PlainBoard) (d : Driven) : Type 0 where
  pub going : IsGoing over b d.course
  pub fits : FitsPlace b d.place

pub moved-driven : (over : List Entry → Bool) (b : PlainBoard) (schedule : Schedule) (d : Driven) → 1 ≤ b.cores → over d.course.journal ≡ false → IsDriven over b d → IsDriven over b (moved b schedule d)
unfolding moved
moved-driven over b schedule d some free driven =
    let event : Event = event_of b d in
    let did : Did = happens b d.course.state event in
    record {
      going = course-going over b d.course event did (next-event b d.course.state d.place d.place.listed some driven.fits driven.fits.listed) free driven.going refl;
      fits = after-fits b schedule d.place d.course.state (state_after d.course.state did) (is_sleep_of did) d.place.listed some driven.fits driven.fits.listed;
    }

unstopped-free : (halt : Option Halt) (over : Bool) → is_some halt || over ≡ false → over ≡ false
unstopped-free None over is = is
unstopped-free (Some halt) over is = absurd cc

pub turns-driven : (over : List Entry → Bool) (b : PlainBoard) (schedule : Schedule) (n : ℕ) (stopped : Bool) (d : Driven) → 1 ≤ b.cores → is_stopped over d.course ≡ stopped → IsDriven over b d → IsDriven over b (turns over b schedule n stopped d)
turns-driven over b schedule zero stopped d some is driven = driven
turns-driven over b schedule (suc n) true d some is driven = driven
turns-driven over b schedule (suc n) false d some is driven =
    let m : Driven = moved b schedule d in
    turns-driven over b schedule n (is_stopped over m.course) m some refl (moved-driven over b schedule d some (unstopped-free d.course.halt (over d.course.journal) is) driven)

pub driven-driven : (over : List Entry → Bool) (b : PlainBoard) (schedule : Schedule) (d : Driven) → 1 ≤ b.cores → IsDriven over b d → IsDriven over b (driven over b schedule d)
unfolding driven
driven-driven over b schedule d some is = turns-driven over b schedule (most_turns b d.place.listed) (is_stopped over d.course) d some refl is

-- a machine opens before its end
timers-live : (s : State) (defs : List TimerDef) → s.halt ≡ None → (fold with_auto_timer s defs).halt ≡ None
timers-live s [] live = live
timers-live s (def ∷ defs) live = timers-live (with_auto_timer s def) defs (by_start def.started) where
  by_start : (started : Bool) → (with_auto_timer s (record def { started = started })).halt ≡ None
  by_start true = live
  by_start false = live

pub open-live : (b : PlainBoard) → (open_state b).halt ≡ None
unfolding open_state
open-live b = timers-live (unstarted_state b) b.timers refl

opened-going : (over : List Entry → Bool) (b : PlainBoard) → IsGoing over b (opened b)
opened-going over b = record {
  run = refl;
  halted = λ h is. absurd cc;
  live = λ is. open-live b;
  last = λ h is. absurd cc;
}

pub begun-driven : (over : List Entry → Bool) (b : PlainBoard) → IsDriveable b → IsDriven over b (begun b)
begun-driven over b driveable = record {
  going = opened-going over b;
  fits = listed-fits b b.schedule (listed_of b.schedule) (open_state b) (words_of b.schedule) (recursion_from_All (λ event. IsTrue (is_event_of b event)) (listed_of b.schedule) driveable.listed);
}

-- a machine on its way that has halted is a complete run
going-complete : (over : List Entry → Bool) (b : PlainBoard) (c : Course) (halt : Halt) → IsGoing over b c → c.halt ≡ Some halt → IsCompleteIn over b c.journal halt (shown b c.state.moment)
going-complete over b c halt going ends = record {
  state = c.state;
  within = record { is_run = going.run; last = λ h on is. going.last halt ends on };
  halted = going.halted halt ends;
  at = refl;
}

-- what the board's schedule makes up to a halt is a complete run
pub scheduled-complete : (over : List Entry → Bool) (b : PlainBoard) (journal : List Entry) (halt : Halt) (tick : ℕ) → IsDriveable b → IsScheduled over b journal halt tick → IsCompleteIn over b journal halt tick
scheduled-complete over b journal halt tick driveable is =
    let c : Course = scheduled_course over b in
    let complete : IsCompleteIn over b c.journal halt (shown b c.state.moment) = going-complete over b c halt (driven-driven over b b.schedule (begun b) driveable.some_core (begun-driven over b driveable)).going is.halted in
    subst (λ (j : List Entry). IsCompleteIn over b j halt tick) is.made (subst (λ (t : ℕ). IsCompleteIn over b c.journal halt t) is.at complete)

-- the run that goes on by rounds from where a journal led
pub rounds-driven : (over : List Entry → Bool) (b : PlainBoard) (journal : List Entry) (s : State) → IsRunIn over b [] (open_state b) journal s → IsDriven over b (rounds_begun b s journal)
rounds-driven over b journal s run = record {
  going = record {
    run = run;
    halted = λ h ends. halted-state b s h ends;
    live = λ on. on;
    last = λ h ends on. absurd cc;
  };
  fits = period-fits b Schedule.Round s (rounds_begun b s journal).place.words;
}

pub rounds-complete : (over : List Entry → Bool) (b : PlainBoard) (journal : List Entry) (s : State) (halt : Halt) → 1 ≤ b.cores → IsRunIn over b [] (open_state b) journal s → (driven over b Schedule.Round (rounds_begun b s journal)).course.halt ≡ Some halt
    → IsCompleteIn over b (driven over b Schedule.Round (rounds_begun b s journal)).course.journal halt (shown b (driven over b Schedule.Round (rounds_begun b s journal)).course.state.moment)
rounds-complete over b journal s halt some run ends =
    going-complete over b (driven over b Schedule.Round (rounds_begun b s journal)).course halt (driven-driven over b Schedule.Round (rounds_begun b s journal) some (rounds-driven over b journal s run)).going ends
