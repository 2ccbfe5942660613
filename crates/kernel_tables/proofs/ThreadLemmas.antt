-- Reading and writing the row of a thread.
use Rattle.std.proofs.Common.{◌≡◌, ℕ, zero, suc, [], ◌∷◌, ◌<◌, List, length, map, slice_index_or, slice_set, refl, sym, ap, ◌∙◌, subst}
use Rattle.std.proofs.lemmas.List.{get_or-map, map-set, length-map}
use Rattle.rt_plain.specs.kernel.State.{Thread, no_thread}
use Rattle.kernel_tables.specs.declared.threads.Thread.{Thread as ThreadRow}
use Rattle.kernel_tables.specs.Threads.{plain_thread, with_row, row_at}

-- the plain row at a number
pub row_is : (rows : List ThreadRow) (t : ℕ) (d : ThreadRow) → t < length rows → row_at (map plain_thread rows) t ≡ plain_thread (slice_index_or rows t d)
row_is rows t d there = get_or-map plain_thread rows t d no_thread there

-- the threads after a write of a row
pub written : (rows : List ThreadRow) (threads : List Thread) (i t : ℕ) (old new : ThreadRow) (change : Thread → Thread) → map plain_thread rows ≡ threads → i ≡ t → t < length threads → old ≡ slice_index_or rows i old → plain_thread new ≡ change (plain_thread old)
    → map plain_thread (slice_set rows i new) ≡ with_row threads t change
written rows threads i t old new change seen at there is same =
    let bound : i < length rows = subst (λ n. n < length rows) (sym at) (subst (λ n. t < n) (ap length (sym seen) ∙ length-map rows plain_thread) there) in
    map-set plain_thread rows i new
    ∙ ap (λ (all : List Thread). slice_set all i (plain_thread new)) seen
    ∙ ap (λ n. slice_set threads n (plain_thread new)) at
    ∙ ap (slice_set threads t) (same ∙ ap change (ap plain_thread is ∙ sym (row_is rows i old bound) ∙ ap (λ (all : List Thread). row_at all i) seen ∙ ap (row_at threads) at))
