-- What a sink holds after two pieces.
use Rattle.std.proofs.Common.{◌≡◌, ◌∙◌, ◌++◌, ◌+◌, ◌∷◌, ◌<◌, ℕ, suc, List, Option, Some, None, take, drop, length, get_or, flat_map, ap, sym, subst, append_assoc, take-add, drop-cons}
use Rattle.std.proofs.Math.Seq.{take-append_seam}
use Rattle.std.proofs.lemmas.List.{take-append-drop}
use Rattle.std.proofs.lemmas.Grind.{flat_map-append}
use Rattle.rt_edge.specs.Contents.{HasGrown}

-- two pieces together
pub HasGrown-append : (a b c : Option (List ℕ)) (x y : List ℕ) → HasGrown a b x → HasGrown b c y → HasGrown a c (x ++ y)
HasGrown-append None b c x y first second = tt
HasGrown-append (Some a) b c x y first second =
    let more : HasGrown (Some (a ++ x)) c y = subst (λ o. HasGrown o c y) first second in
    more ∙ ap Some (append_assoc a x y)

-- the front of a text, and then the front of its rest
pub HasGrown-take : (a b c : Option (List ℕ)) (text rest : List ℕ) (at n : ℕ) → rest ≡ drop at text → HasGrown a b (take at text) → HasGrown b c (take n rest) → HasGrown a c (take (at + n) text)
HasGrown-take a b c text rest at n is first second =
    let second' : HasGrown b c (take n (drop at text)) = subst (λ x. HasGrown b c (take n x)) is second in
    subst (HasGrown a c) (sym (take-add at n text)) (HasGrown-append a b c (take at text) (take n (drop at text)) first second')

-- a front of a whole text
pub HasGrown-front : (a b : Option (List ℕ)) (front rest whole : List ℕ) → whole ≡ front ++ rest → HasGrown a b front → (n : ℕ) × HasGrown a b (take n whole)
HasGrown-front a b front rest whole is grown =
    (length front, subst (HasGrown a b) (sym (ap (take (length front)) is ∙ take-append_seam front rest)) grown)

-- parts of a text: those before one, that one, and the rest
parts-at : {X : Type 0} (f : X → List ℕ) (parts : List X) (i : ℕ) (d : X) → i < length parts
    → flat_map f parts ≡ flat_map f (take i parts) ++ (f (get_or parts i d) ++ flat_map f (drop (suc i) parts))
parts-at f parts i d within =
    ap (flat_map f) (sym (take-append-drop i parts) ∙ ap (λ rest. take i parts ++ rest) (drop-cons parts i d within))
    ∙ flat_map-append f (take i parts) (get_or parts i d ∷ drop (suc i) parts)

-- the parts before one, and then a front of that one
pub parts-front : {X : Type 0} (f : X → List ℕ) (a b c : Option (List ℕ)) (parts : List X) (i n : ℕ) (d : X) → i < length parts
    → HasGrown a b (flat_map f (take i parts)) → HasGrown b c (take n (f (get_or parts i d))) → (k : ℕ) × HasGrown a c (take k (flat_map f parts))
parts-front f a b c parts i n d within before now =
    let part : List ℕ = f (get_or parts i d) in
    let after : List ℕ = flat_map f (drop (suc i) parts) in
    let split : part ++ after ≡ take n part ++ (drop n part ++ after) =
    ap (λ x. x ++ after) (sym (take-append-drop n part)) ∙ append_assoc (take n part) (drop n part) after
    in
    let whole : flat_map f parts ≡ (flat_map f (take i parts) ++ take n part) ++ (drop n part ++ after) =
    parts-at f parts i d within ∙ ap (λ x. flat_map f (take i parts) ++ x) split ∙ sym (append_assoc (flat_map f (take i parts)) (take n part) (drop n part ++ after))
    in
    HasGrown-front a c _ (drop n part ++ after) _ whole (HasGrown-append a b c _ _ before now)

pub ruleset growing = (HasGrown-take)
