-- The rule of the lock: what its word, its slot and what its seats know are between any two steps, and what a step changes.
use Rattle.std.specs.Prelude.{◌≡◌, ◌≢◌, ℕ, ◌+◌, ◌<◌, ◌≤◌, true, false, List, [], ◌∷◌, ◌++◌, map, ◌⊎◌, Option, Some, Bool}
use mathlib.Core.Option.{Option as Place, some, none}
use lib.ListN.{get_elem?}
use Rattle.atomic_table.specs.Table.{State, Me, Step}
use Rattle.rt_base.specs.declared.codes.Event.{Event}
use Rattle.rt_plain.specs.runs.Logs.{Continues}
use Rattle.cpus_lock.specs.declared.knows.Knows.{Knows}
use Rattle.cpus_lock.specs.declared.knows.Kept.{Kept}
use Rattle.cpus_lock.specs.declared.nested.Nested.{Ghosts}
use Rattle.cpus_lock.specs.Passes.{AreOwnersBelow, IsNestBelow}

-- the seats that were joined in have the root, and the log of now continues the core and log of each
abbrev pub KeptFit : ℕ → List ℕ → List Event → List Kept → Type 0
KeptFit cores root now [] = Unit {0}
KeptFit cores root now (k ∷ ks) = (k.core < cores) × (k.root ≡ root) × Continues k.core k.log now × KeptFit cores root now ks

-- the log of now goes on from an older one by events of the cores below a number
pub record GoesOnBelow (given : ℕ) (older now : List Event) : Type 0 where
  pub later : List Event
  pub log_is : now ≡ older ++ later
  pub of_given : AreOwnersBelow given later

-- what an unspent seat knows is so
pub record Fits (cores word : ℕ) (root : List ℕ) (now : List Event) (v : Knows) : Type 0 where
  pub cores_is : v.cores ≡ cores
  pub core : v.core < cores
  pub root_is : v.root ≡ root
  pub log : Continues v.core v.log now
  pub holds : v.holding ≡ true → (word ≡ v.core + 1) × (v.entered ≡ now) × (0 < v.tries)
  pub kept : KeptFit cores root now v.kept
  pub given : 0 < v.given → GoesOnBelow v.given v.log now

-- whose seat it is
pub record Who : Type 0 where
  pub live : Bool
  pub core : ℕ
  pub kept : List ℕ
  pub given : ℕ

abbrev pub who : Knows → Who
who v = record { live = v.live; core = v.core; kept = map (λ (k : Kept). k.core) v.kept; given = v.given }

abbrev pub Has : List ℕ → ℕ → Type 0
Has [] c = ⊥
Has (x ∷ xs) c = (x ≡ c) ⊎ Has xs c

-- the seat has this core, or keeps it from a joined one
abbrev pub HasCore : Who → ℕ → Type 0
HasCore w c = (w.core ≡ c) ⊎ Has w.kept c

-- no core is had by two unspent seats. At most one of these gives cores out, and all that they have are below the number given out
pub record Roster (ws : List Who) : Type 0 where
  pub apart : (i j : ℕ) (v w : Who) (c : ℕ) → get_elem? ws i ≡ some v → get_elem? ws j ≡ some w → v.live ≡ true → w.live ≡ true → HasCore v c → HasCore w c → i ≡ j
  pub below : (i j : ℕ) (v w : Who) (c : ℕ) → get_elem? ws i ≡ some v → get_elem? ws j ≡ some w → v.live ≡ true → w.live ≡ true → 0 < v.given → HasCore w c → c < v.given
  pub one : (i j : ℕ) (v w : Who) → get_elem? ws i ≡ some v → get_elem? ws j ≡ some w → v.live ≡ true → w.live ≡ true → 0 < v.given → 0 < w.given → i ≡ j

abbrev pub AreUntried : List Kept → Type 0
AreUntried [] = Unit {0}
AreUntried (k ∷ ks) = (k.tries ≡ 0) × AreUntried ks

-- neither the seat nor one joined into it has tried
abbrev pub IsUntried : Knows → Type 0
IsUntried v = (v.tries ≡ 0) × AreUntried v.kept

-- some unspent seat holds, and the word is its core plus 1
pub record IsHolder (word : ℕ) (views : List Knows) : Type 0 where
  pub place : ℕ
  pub view : Knows
  pub at : get_elem? views place ≡ some view
  pub live : view.live ≡ true
  pub holding : view.holding ≡ true
  pub word_is : word ≡ view.core + 1

module _ {T : Type 0} (meanings : Ghosts T) (cores : ℕ) where
  -- the value at home has the log of now, the root of all seats, and a nest of the lock's cores
  pub record IsHome (root : List ℕ) (now : List Event) (homes : List (Place (Option T))) : Type 0 where
    pub value : T
    pub home : homes ≡ some (Some value) ∷ []
    pub log_is : meanings.log value ≡ now
    pub root_is : meanings.root value ≡ root
    pub nest : IsNestBelow cores (meanings.nest value)

  -- Either the word is 0 and the value is at home, or the word is the core plus 1 of the one seat that holds, and the value is out.
  -- As long as no seat has tried, the value at home is the first one
  pub record Locked (first : T) (s : State (Option T) Knows) : Type 0 where
    pub word : ℕ
    pub now : List Event
    pub root : List ℕ
    pub words : s.words ≡ word ∷ []
    pub few : cores ≤ 8
    pub owners : AreOwnersBelow cores now
    pub free : word ≡ 0 → IsHome root now s.homes
    pub taken : 0 < word → (s.homes ≡ none ∷ []) × IsHolder word s.views
    pub seats : (i : ℕ) (v : Knows) → get_elem? s.views i ≡ some v → v.live ≡ true → Fits cores word root now v
    pub roster : Roster (map who s.views)
    pub untried : ((i : ℕ) (v : Knows) → get_elem? s.views i ≡ some v → v.live ≡ true → IsUntried v) → s.homes ≡ some (Some first) ∷ []

-- the seat has tried once more
abbrev pub tried_seat : Knows → ℕ → Knows
tried_seat v found = record v { tries = v.tries + 1; found = found }

-- the seat holds, with this log at entering
abbrev pub holder : Knows → List Event → Knows
holder v log = record v { tries = v.tries + 1; found = 0; holding = true; entered = log }

-- the seat has given back a value with this log
abbrev pub leaver : Knows → List Event → Knows
leaver v log = record v { holding = false; log = log }

module _ {T : Type 0} (meanings : Ghosts T) where
  -- a value that a seat may find
  pub record IsFoundBy (v : Knows) (value : T) : Type 0 where
    pub root_is : meanings.root value ≡ v.root
    pub log : Continues v.core v.log (meanings.log value)
    pub owners : AreOwnersBelow v.cores (meanings.log value)
    pub nest : IsNestBelow v.cores (meanings.nest value)

  -- where the word found is 0, the seat holds the value. Else the core of another seat was found
  abbrev pub Took : Step (Option T) → Me (Option T) Knows → ℕ → Me (Option T) Knows → Type 0
  Took st m found m' =
      (found ≡ 0 → (value : T) × (m'.1 ≡ (0, Some value) ∷ []) × (m'.0 ≡ holder m.0 (meanings.log value)) × IsFoundBy m.0 value)
      × (0 < found → (m'.1 ≡ []) × (m'.0 ≡ tried_seat m.0 found) × (found ≢ m.0.core + 1) × (found ≤ m.0.cores) × (m.0.cores ≤ 8))

  -- the seat has given back the value that its slot has
  abbrev pub Left : Step (Option T) → Me (Option T) Knows → ℕ → Me (Option T) Knows → Type 0
  Left st m stored m' = (value : T) × (m.1 ≡ (0, Some value) ∷ []) × (m'.1 ≡ []) × (m'.0 ≡ leaver m.0 (meanings.log value))

-- what the first seat knows
abbrev pub first_seat : ℕ → List ℕ → List Event → Knows
first_seat cores root log = record { live = true; holding = false; cores = cores; core = 0; root = root; tries = 0; found = 0; log = log; entered = []; given = 1; kept = [] }

-- the seat that gives out cores, after it gave one, and the seat that got it
abbrev pub giver : Knows → Knows
giver v = record v { given = v.given + 1 }

abbrev pub newcomer : Knows → Knows
newcomer v = record { live = true; holding = false; cores = v.cores; core = v.given; root = v.root; tries = 0; found = 0; log = v.log; entered = []; given = 0; kept = [] }

-- a seat that took in another, and that other
abbrev pub joined : Knows → Knows → Knows
joined v w = record v { kept = record { core = w.core; root = w.root; log = w.log; tries = w.tries } ∷ (w.kept ++ v.kept) }

abbrev pub spent : Knows
spent = record { live = false; holding = false; cores = 0; core = 0; root = []; tries = 0; found = 0; log = []; entered = []; given = 0; kept = [] }

-- the value that comes back to a seat that has every core: the first one, if no seat has tried
pub record IsBack {T : Type 0} (meanings : Ghosts T) (cores : ℕ) (first : T) (v : Knows) (value : T) : Type 0 where
  pub root_is : meanings.root value ≡ v.root
  pub log : Continues v.core v.log (meanings.log value)
  pub kept : KeptFit cores (meanings.root value) (meanings.log value) v.kept
  pub owners : AreOwnersBelow cores (meanings.log value)
  pub first_is : IsUntried v → value ≡ first
