-- Where the line of a call goes.
use Rattle.std.proofs.Common.{◌≡◌, ℕ, List, ◌∷◌, ◌++◌, refl, ap, ◌∙◌, length, drop}
use Rattle.std.specs.List.{insert}
use Rattle.std.proofs.lemmas.List.{take_at, drop_at}

-- what is put behind the first of two lists stands between them
pub put_between : {A : Type 0} (xs ys zs : List A) (n : ℕ) (x : A) → zs ≡ xs ++ ys → n ≡ length xs → insert zs n x ≡ xs ++ x ∷ ys
put_between xs ys zs n x is at = rw (is, at) (ap (λ us. us ++ x ∷ drop (length xs) (xs ++ ys)) (take_at xs ys _ refl) ∙ ap (λ us. xs ++ x ∷ us) (drop_at xs ys _ refl))
