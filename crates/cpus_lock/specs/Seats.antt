-- What a pass and a hold show of their seats.
use Rattle.std.specs.Prelude.{◌≡◌, ℕ, true, false, List, [], ◌∷◌, ◌++◌, map, reverse, Option, None}
use Rattle.std.specs.List.{All}
use Rattle.atomic_table.specs.Table.{Me}
use Rattle.atomic_table.specs.Seated.{TableId}
use Rattle.cpus_lock.specs.declared.knows.Knows.{Knows}
use Rattle.cpus_lock.specs.declared.knows.Kept.{Kept}
use Rattle.cpus_lock.specs.Passes.{Lock, LockPass}
use Rattle.cpus_lock.specs.Holds.{Hold}
use Rattle.cpus_lock.specs.Rule.{first_seat}

-- the lock of a table
abbrev pub lock_of : TableId → ℕ → Lock
lock_of table cores = record { table = table; cores = cores }

-- the pass of a seat
abbrev pub pass_of : TableId → Knows → LockPass
pass_of table v = record { lock = lock_of table v.cores; known = record { core = v.core; root = v.root; tries = v.tries; found = v.found; log = v.log } }

-- the view of a badge, which has one
abbrev pub view_in : List Knows → Knows
view_in [] = first_seat 0 [] []
view_in (v ∷ vs) = v

-- an unspent seat of this core that doesn't hold, and took in no other
pub record IsIdle (core : ℕ) (v : Knows) : Type 0 where
  pub live : v.live ≡ true
  pub idle : v.holding ≡ false
  pub core_is : v.core ≡ core
  pub alone : v.kept ≡ []

-- the badge of such a seat
pub record IsPass (core : ℕ) (views : List Knows) : Type 0 where
  pub one : views ≡ view_in views ∷ []
  pub seat : IsIdle core (view_in views)

module _ {T : Type 0} where
  abbrev pub hold_of : TableId → Me (Option T) Knows → T → Hold T
  hold_of table me value = record { pass = pass_of table me.0; value = value; entered = me.0.entered }

  -- the seat of this core holds, took in no other, and the value is out of its slot
  pub record IsHold (core : ℕ) (me : Me (Option T) Knows) : Type 0 where
    pub live : me.0.live ≡ true
    pub holding : me.0.holding ≡ true
    pub core_is : me.0.core ≡ core
    pub alone : me.0.kept ≡ []
    pub out : me.1 ≡ (0, None) ∷ []

-- what a seat keeps of a pass that it took in
abbrev pub kept_of : LockPass → Kept
kept_of pass = record { core = pass.known.core; root = pass.known.root; log = pass.known.log; tries = pass.known.tries }

-- a seat that took in passes
abbrev pub taker : Knows → List LockPass → Knows
taker v passes = record v { kept = map kept_of passes ++ v.kept }

-- they are passes of a table
abbrev pub AreOf : TableId → List LockPass → Type 0
AreOf table passes = All (λ (pass : LockPass). pass.lock.table ≡ table) passes

-- the seat is that of one of the passes, and took in all others
pub record TookIn (table : TableId) (passes : List LockPass) (v : Knows) : Type 0 where
  pub before : List LockPass
  pub view : Knows
  pub after : List LockPass
  pub passes_are : passes ≡ before ++ pass_of table view ∷ reverse after
  pub alone : view.kept ≡ []
  pub is : v ≡ taker (taker view before) after
