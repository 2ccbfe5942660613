-- The rows of the table of threads.
use Rattle.std.proofs.Common.{◌≡◌, ℕ, zero, suc, ◌<◌, List, [], ◌∷◌, Some, Bool, true, false, length, map, ap, ◌∙◌, arith, replicate, refl, filter, not, subst}
use Rattle.std.specs.Prelude.{⊤, slice_get}
use Rattle.std.specs.List.{AllByRecursion, range_with_len}
use Rattle.std.specs.Option.{option_map}
use Rattle.std.proofs.lemmas.Option.{slice_get-map}
use Rattle.rt_plain.specs.PlainBoard.{PlainBoard}
use Rattle.rt_plain.specs.kernel.Rows.{timer_row}
use Rattle.rt_base.specs.declared.codes.Sleep.{Sleep}
use Rattle.rt_plain.specs.kernel.State.{State, Thread, Timer, is_closed}
use Rattle.rt_plain.proofs.kernel.OpenLemmas.{all-reverse}
use Rattle.rt_plain.proofs.kernel.TallyLemmas.{all-passing}
use Rattle.kernel_tables.specs.Shown.{shown}
use Rattle.kernel_tables.specs.Threads.{row_at}
use Rattle.kernel_timers.specs.Alarmed.{timer_at}
use Rattle.rt_plain.specs.kernel.PowerCalls.{votes_for}

-- nobody has voted
pub no_votes : (mode : Sleep) → votes_for (replicate 6 0) mode ≡ 0
no_votes Sleep.NoSleep = refl
no_votes Sleep.Idle = refl
no_votes Sleep.Light = refl
no_votes Sleep.Deep = refl
no_votes Sleep.Standby = refl
no_votes Sleep.Shutdown = refl

pub ruleset seen = (no_votes)

-- a thread that is shown hasn't ended
got-all : {A : Type 0} (P : A → Type 0) (xs : List A) (i : ℕ) (x : A) → slice_get xs i ≡ Some x → AllByRecursion P xs → P x
got-all P [] i x is all = absurd cc
got-all {A} P (y ∷ ys) zero x is all = subst P (some-is is) all.0 where
  some-is : Some y ≡ Some x → y ≡ x
  some-is e = cc
got-all P (y ∷ ys) (suc i) x is all = got-all P ys i x is all.1

all-so : (xs : List ℕ) → AllByRecursion (λ t. ⊤) xs
all-so [] = tt
all-so (x ∷ xs) = (tt, all-so xs)

not-true : (c : Bool) → not c ≡ true → c ≡ false
not-true true e = absurd cc
not-true false e = refl

pub shown-open : (threads : List Thread) (place t : ℕ) → slice_get (shown threads) place ≡ Some t → is_closed (row_at threads t).stage ≡ false
shown-open threads place t is =
    got-all (λ u. is_closed (row_at threads u).stage ≡ false) (shown threads) place t is
    (all-reverse (λ u. is_closed (row_at threads u).stage ≡ false) (filter (λ u. not (is_closed (row_at threads u).stage)) (range_with_len 0 (length threads)))
    (all-passing (λ u. ⊤) (λ u. is_closed (row_at threads u).stage ≡ false) (λ u. not (is_closed (row_at threads u).stage)) (range_with_len 0 (length threads)) (λ u passes so. not-true (is_closed (row_at threads u).stage) passes) (all-so (range_with_len 0 (length threads)))))

-- the row of a timer at a place
pub timer_row_at : (b : PlainBoard) (s : State) (place : ℕ) → place < length s.timers → slice_get (map (timer_row b s) s.timers) place ≡ Some (timer_row b s (timer_at s.timers place))
timer_row_at b s place there = slice_get-map (timer_row b s) s.timers place ∙ ap (option_map (timer_row b s)) (at s.timers place there) where
  at : (timers : List Timer) (o : ℕ) → o < length timers → slice_get timers o ≡ Some (timer_at timers o)
  at [] o there = absurd (omega (arith, there))
  at (timer ∷ timers) zero there = refl
  at (timer ∷ timers) (suc o) there = at timers o (omega (arith, there))
