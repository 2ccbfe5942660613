-- What calls of files and sinks do, where these tell what they hold.
use Rattle.std.specs.Prelude.{◌≡◌, ℕ, List, [], ◌++◌, take, drop, Option, Some, None}

-- what each name holds
abbrev pub Names : Type 0
Names = List ℕ → Option (List ℕ)

-- the open file has left all that its name holds
abbrev pub IsOpened : Option Names → List ℕ → Option (List ℕ) → Type 0
IsOpened None name left = Unit {0}
IsOpened (Some names) name left = (bytes : List ℕ) × (names name ≡ Some bytes) × (left ≡ Some bytes)

-- the name isn't held
abbrev pub IsAbsent : Option Names → List ℕ → Type 0
IsAbsent None name = Unit {0}
IsAbsent (Some names) name = names name ≡ None

-- no file is open
abbrev pub HasNothingLeft : Option (List ℕ) → Type 0
HasNothingLeft None = Unit {0}
HasNothingLeft (Some left) = left ≡ []

-- the first n bytes of what was left stand at the front of the buffer, and the rest is left
abbrev pub HasMoved : Option (List ℕ) → Option (List ℕ) → ℕ → List ℕ → Type 0
HasMoved None new n buffer = Unit {0}
HasMoved (Some old) new n buffer = (take n buffer ++ drop n old ≡ old) × (new ≡ Some (drop n old)) × (n ≡ 0 → old ≡ [])

-- what is held has grown at its end by these bytes
abbrev pub HasGrown : Option (List ℕ) → Option (List ℕ) → List ℕ → Type 0
HasGrown None new piece = Unit {0}
HasGrown (Some old) new piece = new ≡ Some (old ++ piece)

-- what was told is as it was
abbrev pub HasKept : Option (List ℕ) → Option (List ℕ) → Type 0
HasKept None new = Unit {0}
HasKept (Some old) new = new ≡ Some old
