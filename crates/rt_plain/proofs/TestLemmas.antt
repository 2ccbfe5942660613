-- What tests and options tell.
use Rattle.std.proofs.Common.{◌≡◌, Bool, true, false, not, ◌&&◌, ◌||◌, Option, Some, None, refl}

pub and-left : (a b : Bool) → a && b ≡ true → a ≡ true
and-left true b is = refl
and-left false b is = absurd cc

pub and-right : (a b : Bool) → a && b ≡ true → b ≡ true
and-right true b is = is
and-right false b is = absurd cc

pub or-left : (a b : Bool) → a || b ≡ false → a ≡ false
or-left false b is = refl
or-left true b is = absurd cc

pub or-right : (a b : Bool) → a || b ≡ false → b ≡ false
or-right false b is = is
or-right true b is = absurd cc

pub or-first : (a b : Bool) → a ≡ true → a || b ≡ true
or-first true b is = refl
or-first false b is = absurd cc

pub or-second : (a b : Bool) → b ≡ true → a || b ≡ true
or-second true b is = refl
or-second false b is = is

pub not-false : (c : Bool) → not c ≡ true → c ≡ false
not-false false is = refl
not-false true is = absurd cc

-- a test has one outcome
pub clash : (c : Bool) → c ≡ true → c ≡ false → ⊥
clash c yes_case no_case = cc

pub some-is : {A : Type 0} (a b : A) → Some a ≡ Some b → a ≡ b
some-is a b e = cc

pub none-some : {A : Type 0} (a : A) (o : Option A) → o ≡ None → o ≡ Some a → ⊥
none-some a o none some = cc
