-- The next event of a schedule.
use Rattle.std.proofs.Common.{◌≡◌, ℕ, suc, ◌+◌, ◌-◌, ◌*◌, ◌<◌, ◌≤◌, [], Option, Some, None, Bool, true, false, drop, refl, arith, is_some}
use Rattle.std.specs.List.{slice_get}
use Rattle.std.specs.Prelude.{IsTrue}
use Rattle.std.proofs.lemmas.Bool.{lt-ltb}
use Rattle.rt_base.specs.declared.codes.Event.{Event}
use Rattle.rt_plain.specs.declared.board.Schedule.{Schedule}
use Rattle.rt_plain.specs.PlainBoard.{PlainBoard}
use Rattle.rt_plain.specs.kernel.State.{State, Nest}
use Rattle.rt_plain.specs.runs.Runs.{is_event_of}
use Rattle.rt_plain.specs.runs.Schedules.{Place as PlainPlace, IsDriveable, listed_of, period_place, round_count, closing_event, place_after_closing, place_unless_slept}
use Rattle.rand_pcg.specs.Lcg.{Lcg}
use Rattle.core_runner.specs.declared.place.Coming.TheVariants.{Now, IfSlept, Later}
use Rattle.core_runner.specs.declared.place.Place.{Place}
use Rattle.core_runner.specs.Places.{plain_place, in_turn, core_before}
use Rattle.core_runner.specs.Moves.{drawn_steps, turn_steps, with_coming, IsMove}
use Rattle.core_runner.proofs.ListLemmas.{drop-some, drop-none, all-some, rounds-in_turn, others-in_turn}

module _ (b : PlainBoard) where
  -- ---- a listed event

  listed-core : (k : ℕ) (e : Event) → slice_get (listed_of b.schedule) k ≡ Some e → IsDriveable b → is_event_of b e ≡ true
  listed-core k e is can = all-some (λ (x : Event). IsTrue (is_event_of b x)) (listed_of b.schedule) k e can.listed is

  pub listed-more : (nested : Bool) (made draws left : ℕ) (words : Lcg) (e other : Event) → slice_get (listed_of b.schedule) made ≡ Some e → slice_get (listed_of b.schedule) (made + 1) ≡ Some other → IsDriveable b
      → IsMove b nested (record { made = made; draws = draws; left = left; words = words }) (record { made = made + 1; draws = 0; left = 0; words = words }) e Later
  listed-more nested made draws left words e other is more can =
      let here = drop-some (listed_of b.schedule) made e is in
      let behind = drop-some (listed_of b.schedule) (made + 1) other more in
      record {
        event_is = λ s nest. rw here refl;
        place_is = λ s after slept nest. rw (here, behind) refl;
        core = listed-core made e is can;
        spent = λ never. absurd (never refl);
      }

  pub listed-last : (nested : Bool) (made draws left : ℕ) (words : Lcg) (e : Event) → slice_get (listed_of b.schedule) made ≡ Some e → slice_get (listed_of b.schedule) (made + 1) ≡ None → IsDriveable b
      → IsMove b nested (record { made = made; draws = draws; left = left; words = words }) (record { made = made + 1; draws = 0; left = 0; words = words }) e Now
  listed-last nested made draws left words e is last can =
      let here = drop-some (listed_of b.schedule) made e is in
      let behind = drop-none (listed_of b.schedule) (made + 1) last in
      record {
        event_is = λ s nest. rw here refl;
        place_is = λ s after slept nest. rw (here, behind) refl;
        core = listed-core made e is can;
        spent = λ never. behind;
      }

  -- ---- a period

  step-core : (core : ℕ) → core < b.cores → is_event_of b (Event.Step core) ≡ true
  step-core core lt = lt-ltb core b.cores lt

  unless : (p : PlainPlace) (s : State) (slept : Bool) → place_unless_slept b b.schedule p s slept ≡ with_coming b s IfSlept slept p
  unless p s true = refl
  unless p s false = refl

  pub turned : (nested : Bool) (old : Place) (less core : ℕ) → old.draws ≡ 0 → old.left ≡ suc less → core ≡ core_before b.cores less → drop old.made (listed_of b.schedule) ≡ [] → 1 ≤ b.cores
      → IsMove b nested old (record old { left = less }) (Event.Step core) IfSlept
  turned nested old less core none is core_is spent some =
      record {
        event_is = λ s nest. rw (spent, none, is, core_is) refl;
        place_is = λ s after slept nest. rw (spent, none, is) (unless _ after slept);
        core = rw core_is (step-core (core_before b.cores less) (omega (arith, some)));
        spent = λ never. spent;
      }

  pub goes-round : (old : Place) (others : ℕ) → old.draws ≡ 0 → old.left ≡ 0 → others ≡ b.cores - 1 → drop old.made (listed_of b.schedule) ≡ [] → 1 ≤ b.cores
      → IsMove b true old (record old { left = others }) (Event.Step 0) IfSlept
  goes-round old others none empty others_is spent some =
      record {
        event_is = λ s nest. rw (spent, none, empty) (by_event s.nest nest);
        place_is = λ s after slept nest. rw (spent, none, empty, others_is) (by_place s after slept s.nest nest);
        core = step-core 0 (omega (arith, some));
        spent = λ never. spent;
      } where
        by_event : (n : Option Nest) → is_some n ≡ true → closing_event n ≡ Event.Step 0
        by_event None is = absurd cc
        by_event (Some nest) is = refl

        by_place : (s after : State) (slept : Bool) (n : Option Nest) → is_some n ≡ true → place_unless_slept b b.schedule (place_after_closing b b.schedule (record { listed = []; draws = 0; left = []; words = old.words }) after n) after slept ≡ with_coming b after IfSlept slept (record { listed = []; draws = 0; left = in_turn b.cores (b.cores - 1); words = old.words })
        by_place s after slept None is = absurd cc
        by_place s after slept (Some nest) is = rw (others-in_turn b.cores some) (unless _ after slept)

  -- ---- the begin of a period

  pub period : (p : Place) (s : State) → drop p.made (listed_of b.schedule) ≡ [] → p.draws ≡ drawn_steps b.schedule (round_count s.run_mode * b.cores) → p.left ≡ turn_steps b.schedule (round_count s.run_mode * b.cores)
      → plain_place b p ≡ period_place b b.schedule s p.words
  period p s spent drawn turned = rw (spent, drawn, turned) (by_schedule b.schedule) where
    by_schedule : (c : Schedule) → record { listed = []; draws = drawn_steps c (round_count s.run_mode * b.cores); left = in_turn b.cores (turn_steps c (round_count s.run_mode * b.cores)); words = p.words } ≡ period_place b c s p.words
    by_schedule Schedule.Round = rw (rounds-in_turn b (round_count s.run_mode)) refl
    by_schedule (Schedule.Seed n) = refl
    by_schedule (Schedule.Order es) = rw (rounds-in_turn b (round_count s.run_mode)) refl
