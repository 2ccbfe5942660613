-- Levels by the bits of groups of eight, for each binding.
use Rattle.std.specs.Prelude.{ℕ, ◌≡◌, ◌+◌, ◌*◌, ◌/◌, ◌%◌, ◌^◌, ◌<◌, ◌≤◌, List, length, slice_index}
use Rattle.std.specs.Int.{bit_at}

-- bitmaps of a number of bindings, by their groups
pub record Bitmaps : Type 0 where
  pub bindings : ℕ
  pub groups : List ℕ

-- 1 where the level is set for the binding, else 0
abbrev pub level_bit : ℕ → List ℕ → ℕ → ℕ → ℕ
level_bit groups_each groups binding level = bit_at (slice_index groups (binding * groups_each + level / 8)) (level % 8)

-- the level is set, and none below it
pub record IsLeastLevel (groups_each : ℕ) (groups : List ℕ) (binding level : ℕ) : Type 0 where
  pub within : level < 8 * groups_each
  pub is_set : level_bit groups_each groups binding level ≡ 1
  pub least : (lower : ℕ) → lower < level → level_bit groups_each groups binding lower ≡ 0

-- no level of the binding is set
abbrev pub HasNoLevel : ℕ → List ℕ → ℕ → Type 0
HasNoLevel groups_each groups binding = (level : ℕ) → level < 8 * groups_each → level_bit groups_each groups binding level ≡ 0

-- one level of one binding has got a value, and every other is as it was
pub record IsChangedAt (groups_each : ℕ) (was now : List ℕ) (binding level value : ℕ) : Type 0 where
  pub here : level_bit groups_each now binding level ≡ value
  pub elsewhere : (b l : ℕ) → l < 8 * groups_each → ((b ≡ binding) × (l ≡ level) → ⊥) → level_bit groups_each now b l ≡ level_bit groups_each was b l

-- the word of each binding has a bit for each of its groups that isn't 0
pub record IsIndexed (groups_each : ℕ) (tops groups : List ℕ) : Type 0 where
  pub most : groups_each ≤ 32
  pub few : length tops ≤ 256
  pub length_is : length groups ≡ length tops * groups_each
  pub within : (b : ℕ) → slice_index tops b < 2 ^ groups_each
  pub bytes : (i : ℕ) → slice_index groups i < 2 ^ 8
  pub full : (b g : ℕ) → g < groups_each → 0 < slice_index groups (b * groups_each + g) → bit_at (slice_index tops b) g ≡ 1
  pub clear : (b g : ℕ) → g < groups_each → bit_at (slice_index tops b) g ≡ 1 → 0 < slice_index groups (b * groups_each + g)
