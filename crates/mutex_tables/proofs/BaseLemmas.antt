-- Threads with other base priorities.
use Rattle.std.proofs.Common.{ℕ, zero, suc, ◌≡◌, ◌<◌, ◌≤◌, arith, List, [], ◌∷◌, refl, sym, ap, ◌∙◌, subst, length, slice_index, slice_set, ◌⊎◌, inl, inr}
use Rattle.std.proofs.lemmas.Bool.{cases_lt}
use Rattle.rt_plain.specs.kernel.State.{Thread}
use Rattle.rt_plain.specs.kernel.Ownership.{Ownership}
use Rattle.object_box.specs.Objects.{ClassObjects}
use Rattle.kernel_tables.specs.Tabled.{Tabled}
use Rattle.kernel_tables.specs.Threads.{row_at, with_row}
use Rattle.mutex_tables.specs.MutexTabled.{MutexTabled, based, seen}

pub length-based : (bases : List ℕ) (rows : List Thread) → length (based bases rows) ≡ length rows
length-based [] rows = refl
length-based (b ∷ bases) [] = refl
length-based (b ∷ bases) (r ∷ rows) = ap suc (length-based bases rows)

-- the row of a thread
pub based-row : (bases : List ℕ) (rows : List Thread) (t : ℕ) → length bases ≡ length rows → t < length rows → row_at (based bases rows) t ≡ record (row_at rows t) { base = slice_index bases t }
based-row [] [] t same there = absurd (omega (arith, there))
based-row [] (r ∷ rows) t same there = absurd (omega (arith, same))
based-row (b ∷ bases) [] t same there = absurd (omega (arith, there))
based-row (b ∷ bases) (r ∷ rows) zero same there = refl
based-row (b ∷ bases) (r ∷ rows) (suc t) same there = based-row bases rows t (omega (arith, same)) (omega (arith, there))

-- a row is written
pub based-written : (bases : List ℕ) (rows : List Thread) (t : ℕ) (row : Thread) → length bases ≡ length rows → based bases (slice_set rows t row) ≡ slice_set (based bases rows) t (record row { base = slice_index bases t })
based-written [] [] t row same = refl
based-written [] (r ∷ rows) t row same = absurd (omega (arith, same))
based-written (b ∷ bases) [] t row same = absurd (omega (arith, same))
based-written (b ∷ bases) (r ∷ rows) zero row same = refl
based-written (b ∷ bases) (r ∷ rows) (suc t) row same = ap (λ (rs : List Thread). record r { base = b } ∷ rs) (based-written bases rows t row (omega (arith, same)))

-- a change that doesn't look at the base
abbrev pub IsApart : (Thread → Thread) → Type 0
IsApart change = (row : Thread) (base : ℕ) → record (change row) { base = base } ≡ change (record row { base = base })

pub set-past : (rows : List Thread) (t : ℕ) (one other : Thread) → length rows ≤ t → slice_set rows t one ≡ slice_set rows t other
set-past [] t one other past = refl
set-past (r ∷ rows) zero one other past = absurd (omega (arith, past))
set-past (r ∷ rows) (suc t) one other past = ap (λ (rs : List Thread). r ∷ rs) (set-past rows t one other (omega (arith, past)))

pub based-changed : (bases : List ℕ) (rows : List Thread) (t : ℕ) (change : Thread → Thread) → length bases ≡ length rows → IsApart change → based bases (with_row rows t change) ≡ with_row (based bases rows) t change
based-changed bases rows t change same apart =
    based-written bases rows t (change (row_at rows t)) same ∙ by_size (cases_lt t (length rows))
  where
    by_size : (t < length rows) ⊎ (length rows ≤ t) → slice_set (based bases rows) t (record (change (row_at rows t)) { base = slice_index bases t }) ≡ with_row (based bases rows) t change
    by_size (inl there) = ap (slice_set (based bases rows) t) (apart (row_at rows t) (slice_index bases t) ∙ ap change (sym (based-row bases rows t same there)))
    by_size (inr past) = set-past (based bases rows) t (record (change (row_at rows t)) { base = slice_index bases t }) (change (row_at (based bases rows) t)) (omega (arith, past, length-based bases rows))

-- another base in the lists is not seen
pub based-over : (bases : List ℕ) (rows : List Thread) (t base : ℕ) → length bases ≡ length rows → based bases (with_row rows t (λ row. record row { base = base })) ≡ based bases rows
based-over [] rows t base same = by_rows rows same where
  by_rows : (rs : List Thread) → length {A = ℕ} [] ≡ length rs → slice_set rs t (record (row_at rs t) { base = base }) ≡ rs
  by_rows [] e = refl
  by_rows (r ∷ rs) e = absurd (omega (arith, e))
based-over (b ∷ bases) [] t base same = refl
based-over (b ∷ bases) (r ∷ rows) zero base same = refl
based-over (b ∷ bases) (r ∷ rows) (suc t) base same = ap (λ (rs : List Thread). record r { base = b } ∷ rs) (based-over bases rows t base (omega (arith, same)))

-- a thread that contracts see is there
pub seen-there : (k : Tabled) (bases : List ℕ) (c : ClassObjects) (o : Ownership) (v : MutexTabled) (t : ℕ) → seen k bases c o ≡ v → t < length v.threads → t < length k.threads
seen-there k bases c o v t seen below = subst (λ n. t < n) (length-based bases k.threads) (subst (λ (x : MutexTabled). t < length x.threads) (sym seen) below)

-- and its row is that of the lists, but for the base
pub seen-row : (k : Tabled) (bases : List ℕ) (c : ClassObjects) (o : Ownership) (v : MutexTabled) (t : ℕ) → seen k bases c o ≡ v → length bases ≡ length k.threads → t < length v.threads → row_at v.threads t ≡ record (row_at k.threads t) { base = slice_index bases t }
seen-row k bases c o v t is same below = ap (λ (x : MutexTabled). row_at x.threads t) (sym is) ∙ based-row bases k.threads t same (seen-there k bases c o v t is below)

-- the stage of each row is that of the lists
pub based-stage : (bases : List ℕ) (rows : List Thread) (t : ℕ) → (row_at (based bases rows) t).stage ≡ (row_at rows t).stage
based-stage [] rows t = refl
based-stage (b ∷ bases) [] t = refl
based-stage (b ∷ bases) (r ∷ rows) zero = refl
based-stage (b ∷ bases) (r ∷ rows) (suc t) = based-stage bases rows t

-- another base is seen
pub based-rebased : (bases : List ℕ) (rows : List Thread) (t base : ℕ) → length bases ≡ length rows → based (slice_set bases t base) rows ≡ with_row (based bases rows) t (λ row. record row { base = base })
based-rebased [] [] t base same = refl
based-rebased [] (r ∷ rows) t base same = absurd (omega (arith, same))
based-rebased (b ∷ bases) [] t base same = absurd (omega (arith, same))
based-rebased (b ∷ bases) (r ∷ rows) zero base same = refl
based-rebased (b ∷ bases) (r ∷ rows) (suc t) base same = ap (λ (rs : List Thread). record r { base = b } ∷ rs) (based-rebased bases rows t base (omega (arith, same)))

-- and its name
pub based-name : (bases : List ℕ) (rows : List Thread) (t : ℕ) → (row_at (based bases rows) t).name ≡ (row_at rows t).name
based-name [] rows t = refl
based-name (b ∷ bases) [] t = refl
based-name (b ∷ bases) (r ∷ rows) zero = refl
based-name (b ∷ bases) (r ∷ rows) (suc t) = based-name bases rows t
