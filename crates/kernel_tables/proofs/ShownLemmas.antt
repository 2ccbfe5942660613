-- Whom the table of threads shows.
use Rattle.std.proofs.Common.{◌≡◌, ℕ, ◌+◌, ◌≤◌, ◌∷◌, [], List, Bool, true, false, not, length, filter, reverse, ap, ◌∙◌, subst, sym}
use Rattle.std.specs.List.{range_with_len}
use Rattle.std.proofs.lemmas.List.{reverse-append, length-reverse}
use Rattle.rt_plain.specs.kernel.State.{Thread, is_closed}
use Rattle.kernel_tables.specs.Shown.{shown_below}
use Rattle.kernel_tables.specs.Threads.{row_at}
use Rattle.kernel_tables.proofs.ListLemmas.{filter_passes, filter_fails, length_passes}

abbrev is_open : List Thread → ℕ → Bool
is_open threads t = not (is_closed (row_at threads t).stage)

-- a thread that hasn't ended is shown first of those up to it
pub shown_first : (threads : List Thread) (n : ℕ) → is_closed (row_at threads n).stage ≡ false → shown_below threads (n + 1) ≡ n ∷ shown_below threads n
shown_first threads n is = ap reverse (filter_passes (is_open threads) n (ap not is)) ∙ reverse-append (filter (is_open threads) (range_with_len 0 n)) (n ∷ [])

-- one that has ended isn't shown
pub shown_not : (threads : List Thread) (n : ℕ) → is_closed (row_at threads n).stage ≡ true → shown_below threads (n + 1) ≡ shown_below threads n
shown_not threads n is = ap reverse (filter_fails (is_open threads) n (ap not is))

pub shown_few : (threads : List Thread) (n : ℕ) → length (shown_below threads n) ≤ n
shown_few threads n = subst (λ m. m ≤ n) (sym (length-reverse (filter (is_open threads) (range_with_len 0 n)))) (length_passes (is_open threads) n)

pub ruleset shows = (shown_first, shown_not, shown_few)
