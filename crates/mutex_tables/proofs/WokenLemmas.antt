-- Threads that wait for no mutex wake.
use Rattle.std.proofs.Common.{ℕ, ◌≡◌, ◌<◌, ◌≤◌, ◌⊎◌, inl, inr, ◌∷◌, [], List, None, Bool, true, false, refl, sym, ap, ◌∙◌, length, eqb}
use Rattle.std.specs.Prelude.{fold}
use Rattle.std.specs.List.{AllByRecursion}
use Rattle.std.proofs.lemmas.Bool.{false≢true, cases_lt, eqb-true, eqb-false}
use Rattle.std.proofs.lemmas.List.{length-set, get_or_past}
use Rattle.rt_plain.specs.kernel.State.{Thread, no_thread, is_closed}
use Rattle.rt_plain.specs.kernel.Priority.{awaited_mutex}
use Rattle.rt_plain.specs.kernel.Ownership.{Ownership}
use Rattle.rt_plain.proofs.kernel.TallyLemmas.{here-set, other-set, same-set}
use Rattle.object_box.specs.Objects.{ClassObjects}
use Rattle.kernel_tables.specs.Tabled.{Tabled}
use Rattle.kernel_tables.specs.Threads.{row_at, with_row}
use Rattle.mutex_tables.specs.MutexTabled.{based}
use Rattle.mutex_tables.specs.Kept.{AreMutexTables}
use Rattle.mutex_tables.proofs.BaseLemmas.{IsApart, based-changed}
use Rattle.mutex_tables.proofs.SeenLemmas.{keeps-again, keeps-row}
use Rattle.mutex_tables.proofs.StageLemmas.{same-stages}

-- a thread hasn't ended and waits for no mutex
abbrev pub IsOff : List Thread → ℕ → Type 0
IsOff threads t = (is_closed (row_at threads t).stage ≡ false) × (awaited_mutex (row_at threads t).stage ≡ None)

-- a change after which it is so, which leaves the base
pub record IsWaking (change : Thread → Thread) : Type 0 where
  pub apart : IsApart change
  pub base : (row : Thread) → (change row).base ≡ row.base
  pub opens : (row : Thread) → is_closed (change row).stage ≡ false
  pub off : (row : Thread) → awaited_mutex (change row).stage ≡ None

pub live-there : (threads : List Thread) (t : ℕ) → is_closed (row_at threads t).stage ≡ false → t < length threads
live-there threads t opens = by_size (cases_lt t (length threads))
  where
    by_size : (t < length threads) ⊎ (length threads ≤ t) → t < length threads
    by_size (inl low) = low
    by_size (inr past) = absurd (false≢true (sym opens ∙ ap (λ (r : Thread). is_closed r.stage) (get_or_past threads t no_thread past)))

-- who is off stays off where another one wakes
off-kept : (threads : List Thread) (t u : ℕ) (change : Thread → Thread) → IsWaking change → IsOff threads t → IsOff threads u → IsOff (with_row threads t change) u
off-kept threads t u change waking this other = (
  same-set (λ (r : Thread). is_closed r.stage) threads t u (change (row_at threads t)) no_thread (waking.opens (row_at threads t) ∙ sym this.0) ∙ other.0,
  by_case (eqb u t) refl,
)
  where
    at : List Thread
    at = with_row threads t change

    by_case : (d : Bool) → eqb u t ≡ d → awaited_mutex (row_at at u).stage ≡ None
    by_case true is = ap (λ v. awaited_mutex (row_at at v).stage) (eqb-true u t is) ∙ ap (λ (r : Thread). awaited_mutex r.stage) (here-set threads t (change (row_at threads t)) no_thread (live-there threads t this.0)) ∙ waking.off (row_at threads t)
    by_case false is = ap (λ (r : Thread). awaited_mutex r.stage) (other-set threads t u (change (row_at threads t)) no_thread (eqb-false u t is)) ∙ other.1

-- some threads wake, each with a change of its own
abbrev pub all_changed : {A : Type 0} → (A → ℕ) → (A → Thread → Thread) → List Thread → List A → List Thread
all_changed at change threads xs = fold (λ (rows : List Thread) x. with_row rows (at x) (change x)) threads xs

all-off : {A : Type 0} (at : A → ℕ) (threads : List Thread) (t : ℕ) (change : Thread → Thread) (xs : List A) → IsWaking change → IsOff threads t → AllByRecursion (λ x. IsOff threads (at x)) xs → AllByRecursion (λ x. IsOff (with_row threads t change) (at x)) xs
all-off at threads t change [] waking this all = tt
all-off at threads t change (x ∷ xs) waking this (other, all) = (off-kept threads t (at x) change waking this other, all-off at threads t change xs waking this all)

pub changed-keeps : {A : Type 0} (at : A → ℕ) (change : A → Thread → Thread) (k new : Tabled) (bases : List ℕ) (c : ClassObjects) (o : Ownership) (xs : List A) → ((x : A) → IsWaking (change x)) → AllByRecursion (λ x. IsOff k.threads (at x)) xs → AreMutexTables k bases c o
    → new.threads ≡ all_changed at change k.threads xs → new.levels ≡ k.levels → AreMutexTables new bases c o
changed-keeps at change k new bases c o [] waking all keeps threads levels = keeps-again k new bases c o keeps threads levels
changed-keeps at change k new bases c o (x ∷ xs) waking (this, all) keeps threads levels =
    changed-keeps at change next new bases c o xs waking (all-off at k.threads (at x) (change x) xs (waking x) this all)
    (keeps-row k next bases c o (at x) (change x row) keeps (live-there k.threads (at x) this.0) refl refl (same-stages c.objects (change x row) row ((waking x).base row) this.0 ((waking x).opens row) this.1 ((waking x).off row)))
    threads levels
  where
    row : Thread
    row = row_at k.threads (at x)

    next : Tabled
    next = record k { threads = with_row k.threads (at x) (change x) }

pub changed-based : {A : Type 0} (at : A → ℕ) (change : A → Thread → Thread) (bases : List ℕ) (rows : List Thread) (xs : List A) → ((x : A) → IsWaking (change x)) → length bases ≡ length rows → based bases (all_changed at change rows xs) ≡ all_changed at change (based bases rows) xs
changed-based at change bases rows [] waking same = refl
changed-based at change bases rows (x ∷ xs) waking same =
    changed-based at change bases (with_row rows (at x) (change x)) xs waking (same ∙ sym (length-set rows (at x) (change x (row_at rows (at x)))))
    ∙ ap (λ (rs : List Thread). all_changed at change rs xs) (based-changed bases rows (at x) (change x) same (waking x).apart)
