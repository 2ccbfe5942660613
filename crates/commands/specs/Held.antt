-- What is told of a file.
use Rattle.std.specs.Prelude.{◌≡◌, ◌⊎◌, ◌<◌, ◌≤◌, length, ℕ, List, [], ◌∷◌, Option, Some, None}
use Rattle.rt_edge.specs.Counts.{Rose}
use Rattle.rt_edge.specs.Contents.{Names}

-- where the names are told, this one is held, and so for what it holds
abbrev pub IfHeld : Option Names → List ℕ → (List ℕ → Type 0) → Type 0
IfHeld None name P = Unit {0}
IfHeld (Some names) name P = (bytes : List ℕ) × (names name ≡ Some bytes) × P bytes

-- the names are told, this one is held, and so for what it holds
abbrev pub IsHeld : Option Names → List ℕ → (List ℕ → Type 0) → Type 0
IsHeld None name P = ⊥
IsHeld (Some names) name P = (bytes : List ℕ) × (names name ≡ Some bytes) × P bytes

-- the names are told, and this one isn't held
abbrev pub IsLacked : Option Names → List ℕ → Type 0
IsLacked None name = ⊥
IsLacked (Some names) name = names name ≡ None

-- where the names are told, all of these are held, and so for what they hold, in their order
abbrev pub IfAllHeld : Option Names → List (List ℕ) → (List (List ℕ) → Type 0) → Type 0
IfAllHeld held [] P = P []
IfAllHeld held (name ∷ names) P = IfHeld held name (λ bytes. IfAllHeld held names (λ contents. P (bytes ∷ contents)))

-- the names are told, all of these are held, and so for what they hold, in their order
abbrev pub AreHeld : Option Names → List (List ℕ) → (List (List ℕ) → Type 0) → Type 0
AreHeld held [] P = P []
AreHeld held (name ∷ names) P = IsHeld held name (λ bytes. AreHeld held names (λ contents. P (bytes ∷ contents)))

-- the names are told, and one of these isn't held
abbrev pub IsOneLacked : Option Names → List (List ℕ) → Type 0
IsOneLacked held [] = ⊥
IsOneLacked held (name ∷ names) = IsLacked held name ⊎ IsOneLacked held names

-- the names are told, and the first of these isn't held
abbrev pub IsFirstLacked : Option Names → List (List ℕ) → Type 0
IsFirstLacked held [] = ⊥
IsFirstLacked held (name ∷ names) = IsLacked held name

-- where the names are told, the first of these is held
abbrev pub IfFirstHeld : Option Names → List (List ℕ) → Type 0
IfFirstHeld held [] = Unit {0}
IfFirstHeld held (name ∷ names) = IfHeld held name (λ bytes. Unit {0})

-- so for what is left, where it is told
abbrev pub IfTold : Option (List ℕ) → (List ℕ → Type 0) → Type 0
IfTold None P = Unit {0}
IfTold (Some bytes) P = P bytes

-- a count didn't rise
abbrev pub Steady : ℕ → ℕ → Type 0
Steady old new = Rose old new → ⊥

-- what was read of a trace's file: nothing, where it has more bytes than a trace may have
abbrev pub IsTraceRead : Option Names → List ℕ → Option (List ℕ) → Type 0
IsTraceRead held name None = IfHeld held name (λ bytes. 268435456 < length bytes)
IsTraceRead held name (Some text) = (length text ≤ 268435456) × IfHeld held name (λ bytes. bytes ≡ text)
