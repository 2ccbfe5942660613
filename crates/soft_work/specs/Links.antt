-- A ring of links by timer number, with one more number, the root, between the last and the first.
use Rattle.std.specs.Prelude.{ℕ, ◌≡◌, ◌+◌, false, Bool, List, length, count_by, slice_index, slice_index_or}
use Rattle.rt_base.specs.Chains.{walk, is_among, IsChain, IsApart}

-- the numbers behind the root
abbrev pub ring_of : ℕ → List ℕ → List ℕ
ring_of timers next = walk timers timers next (slice_index next timers)

-- the links and marks are those of these works
pub record IsLinked (timers : ℕ) (next prev : List ℕ) (held : List Bool) (works : List ℕ) : Type 0 where
  pub nodes : length next ≡ timers + 1
  pub nodes_back : length prev ≡ timers + 1
  pub marks : length held ≡ timers
  pub chained : IsChain next prev timers works timers
  pub marked : (x : ℕ) → slice_index_or held x false ≡ is_among x works
  pub counted : length works ≡ count_by (λ mark. mark) held
  pub apart : IsApart works
