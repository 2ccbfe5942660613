-- The objects of one class.
use Rattle.std.specs.Prelude.{ℕ, ◌≡◌, ◌≢◌, ◌<◌, ◌≤◌, Bool, true, false, not, List, ◌∷◌, length, Option, Some, None, Result, Ok, Err, filter, find, All, ◌==◌}
use Rattle.std.specs.List.{AllPairs, list_any}
use Rattle.std.specs.Option.{option_map}
use Rattle.std.specs.Str.{bytes_eq}
use Rattle.object_box.specs.declared.object.Object.{Object}
use Rattle.object_box.specs.declared.fault.Make.{Make}
use Rattle.object_box.specs.declared.fault.Make.TheVariants.{Taken, ClassFull}

-- a class: how many objects it may hold, and those that it holds, newest first
pub record ClassObjects : Type 0 where
  pub limit : ℕ
  pub objects : List Object

-- not more than the limit, with distinct numbers below it and distinct names
pub record IsSound (c : ClassObjects) : Type 0 where
  pub few : length c.objects ≤ c.limit
  pub below : All (λ o. o.no < c.limit) c.objects
  pub numbers : AllPairs (λ a b. a.no ≢ b.no) c.objects
  pub names : AllPairs (λ a b. a.name ≢ b.name) c.objects

-- whether an object has the number
abbrev pub has_number : List Object → ℕ → Bool
has_number objects number = list_any (λ o. o.no == number) objects

-- the number of the object of a name
abbrev pub number_of : List Object → List ℕ → Option ℕ
number_of objects name = option_map (λ o. o.no) (find (λ o. bytes_eq o.name name) objects)

-- no object has the number, and each lower number is that of an object
pub record IsLeastFree (objects : List Object) (number : ℕ) : Type 0 where
  pub free : has_number objects number ≡ false
  pub least : (k : ℕ) → k < number → has_number objects k ≡ true

-- each answer of `make` with its cause
abbrev pub MakeCause : ClassObjects → List ℕ → Result ℕ Make → Type 0
MakeCause c name (Ok number) = (number_of c.objects name ≡ None) × ((length c.objects < c.limit) × (IsLeastFree c.objects number × (number < c.limit)))
MakeCause c name (Err (Taken number)) = number_of c.objects name ≡ Some number
MakeCause c name (Err (ClassFull limit)) = (number_of c.objects name ≡ None) × ((length c.objects ≡ c.limit) × (limit ≡ c.limit))

-- the class after `make`
abbrev pub made : ClassObjects → List ℕ → Result ℕ Make → ClassObjects
made c name (Ok number) = record c { objects = record { no = number; name = name } ∷ c.objects }
made c name (Err fault) = c

-- the class without the object of a number
abbrev pub removed : ClassObjects → ℕ → ClassObjects
removed c number = record c { objects = filter (λ o. not (o.no == number)) c.objects }
