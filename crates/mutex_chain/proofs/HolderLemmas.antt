-- The table of owners by mutex.
use Rattle.std.proofs.Common.{ℕ, ◌≡◌, ◌≢◌, ◌<◌, ◌≤◌, List, [], ◌∷◌, length, map, get_or, Bool, true, false, not, cond, eqb, Option, Some, None, refl, sym, ap, ◌∙◌, arith, ◌⊎◌, inl, inr, get_or-set_same, get_or-set_other}
use Rattle.std.specs.Prelude.{All, ◌==◌, slice_set}
use Rattle.std.specs.List.{find}
use Rattle.std.specs.Option.{IfSome, option_map}
use Rattle.std.proofs.Math.ListN.{length-set}
use Rattle.std.proofs.lemmas.Bool.{eqb-true, ne_eqb, eq-eqb, cases_eq}
use Rattle.std.proofs.lemmas.List.Elements.{All-head, All-tail}
use Rattle.rt_plain.specs.kernel.Ownership.{Taken}
use Rattle.mutex_chain.specs.Owners.{AreHolders, with_hold}
use Rattle.mutex_chain.proofs.CurLemmas.{found_has}
use Rattle.mutex_chain.proofs.OwnerLemmas.{others}

-- the owner of a mutex among rows
abbrev pub owner_among : List Taken → ℕ → Option ℕ
owner_among hs m = option_map (λ h. h.owner) (find (λ h. h.mutex == m) hs)

pub others_none : (m : ℕ) (hs : List Taken) → owner_among (others m hs) m ≡ None
others_none m [] = refl
others_none m (h ∷ hs) = by_test (h.mutex == m) refl (others_none m hs)
  where
    by_test : (b : Bool) → (h.mutex == m) ≡ b → owner_among (others m hs) m ≡ None → owner_among (cond (not b) (h ∷ others m hs) (others m hs)) m ≡ None
    by_test true e r = r
    by_test false e r = ap (λ c. option_map (λ (h : Taken). h.owner) (cond c (Some h) (find (λ h. h.mutex == m) (others m hs)))) e ∙ r

pub others_other : (m k : ℕ) (hs : List Taken) → k ≢ m → owner_among (others m hs) k ≡ owner_among hs k
others_other m k [] ne = refl
others_other m k (h ∷ hs) ne = by_test (h.mutex == m) refl (others_other m k hs ne)
  where
    by_found : (c : Bool) → owner_among (others m hs) k ≡ owner_among hs k
        → option_map (λ (h : Taken). h.owner) (cond c (Some h) (find (λ h. h.mutex == k) (others m hs))) ≡ option_map (λ (h : Taken). h.owner) (cond c (Some h) (find (λ h. h.mutex == k) hs))
    by_found true r = refl
    by_found false r = r

    by_test : (b : Bool) → (h.mutex == m) ≡ b → owner_among (others m hs) k ≡ owner_among hs k → owner_among (cond (not b) (h ∷ others m hs) (others m hs)) k ≡ owner_among (h ∷ hs) k
    by_test true e r =
        let other : (h.mutex == k) ≡ false = ne_eqb h.mutex k (λ s. ne (sym s ∙ eqb-true h.mutex m e)) in
        r ∙ sym (ap (λ c. option_map (λ (h : Taken). h.owner) (cond c (Some h) (find (λ h. h.mutex == k) hs))) other)
    by_test false e r = by_found (h.mutex == k) r

pub holders_free : (hs : List Taken) (n m : ℕ) (holders : List (Option ℕ)) → m < n → AreHolders hs n holders → AreHolders (others m hs) n (slice_set holders m None)
holders_free hs n m holders h a = record {
  places = length-set holders m None ∙ a.places;
  owner = λ k j. at k j (cases_eq k m);
}
  where
    at : (k : ℕ) → k < n → (k ≡ m) ⊎ (k ≡ m → ⊥) → get_or (slice_set holders m None) k None ≡ owner_among (others m hs) k
    at k j (inl e) =
        let within : m < length holders = omega (arith, a.places) in
        ap (λ i. get_or (slice_set holders m None) i None) e ∙ get_or-set_same holders m None None within ∙ sym (ap (owner_among (others m hs)) e ∙ others_none m hs)
    at k j (inr ne) = get_or-set_other holders m k None None ne ∙ a.owner k j ∙ sym (others_other m k hs ne)

pub holders_push : (hs : List Taken) (n m t : ℕ) (holders : List (Option ℕ)) → m < n → AreHolders hs n holders
    → AreHolders (record { mutex = m; owner = t; hold = 1 } ∷ hs) n (slice_set holders m (Some t))
holders_push hs n m t holders h a = record {
  places = length-set holders m (Some t) ∙ a.places;
  owner = λ k j. at k j (cases_eq k m);
}
  where
    row : Taken
    row = record { mutex = m; owner = t; hold = 1 }

    at : (k : ℕ) → k < n → (k ≡ m) ⊎ (k ≡ m → ⊥)
        → get_or (slice_set holders m (Some t)) k None ≡ option_map (λ (h : Taken). h.owner) (cond (eqb m k) (Some (record { mutex = m; owner = t; hold = 1 })) (find (λ h. h.mutex == k) hs))
    at k j (inl e) =
        let within : m < length holders = omega (arith, a.places) in
        ap (λ i. get_or (slice_set holders m (Some t)) i None) e ∙ get_or-set_same holders m (Some t) None within
        ∙ sym (ap (λ c. option_map (λ (h : Taken). h.owner) (cond c (Some (record { mutex = m; owner = t; hold = 1 })) (find (λ h. h.mutex == k) hs))) (eq-eqb m k (sym e)))
    at k j (inr ne) =
        get_or-set_other holders m k (Some t) None ne ∙ a.owner k j
        ∙ sym (ap (λ c. option_map (λ (h : Taken). h.owner) (cond c (Some (record { mutex = m; owner = t; hold = 1 })) (find (λ h. h.mutex == k) hs))) (ne_eqb m k (λ s. ne (sym s))))

pub same_owner : (m hold k : ℕ) (hs : List Taken) → owner_among (map (with_hold m hold) hs) k ≡ owner_among hs k
same_owner m hold k [] = refl
same_owner m hold k (h ∷ hs) = by_test (h.mutex == m) refl (same_owner m hold k hs)
  where
    by_found : (c : Bool) (i j : Taken) → i.owner ≡ j.owner → owner_among (map (with_hold m hold) hs) k ≡ owner_among hs k
        → option_map (λ (h : Taken). h.owner) (cond c (Some i) (find (λ h. h.mutex == k) (map (with_hold m hold) hs))) ≡ option_map (λ (h : Taken). h.owner) (cond c (Some j) (find (λ h. h.mutex == k) hs))
    by_found true i j e r = ap Some e
    by_found false i j e r = r

    by_test : (b : Bool) → (h.mutex == m) ≡ b → owner_among (map (with_hold m hold) hs) k ≡ owner_among hs k
        → owner_among (cond b (record { mutex = m; owner = h.owner; hold = hold }) h ∷ map (with_hold m hold) hs) k ≡ owner_among (h ∷ hs) k
    by_test true e r =
        let same : h.mutex ≡ m = eqb-true h.mutex m e in
        ap (λ i. option_map (λ (h : Taken). h.owner) (cond (i == k) (Some (record { mutex = m; owner = h.owner; hold = hold })) (find (λ h. h.mutex == k) (map (with_hold m hold) hs)))) (sym same)
        ∙ by_found (h.mutex == k) (record { mutex = m; owner = h.owner; hold = hold }) h refl r
    by_test false e r = by_found (h.mutex == k) h h refl r

pub holders_hold : (hs : List Taken) (n m hold : ℕ) (holders : List (Option ℕ)) → AreHolders hs n holders → AreHolders (map (with_hold m hold) hs) n holders
holders_hold hs n m hold holders a = record { places = a.places; owner = λ k j. a.owner k j ∙ sym (same_owner m hold k hs) }

-- no mutex outside the table is owned
pub no_owner : (n m : ℕ) (hs : List Taken) → All (λ h. h.mutex < n) hs → n ≤ m → owner_among hs m ≡ None
no_owner n m [] all h = refl
no_owner n m (k ∷ ks) all h =
    let small : k.mutex < n = All-head (λ (h : Taken). h.mutex < n) k ks all in
    ap (λ c. option_map (λ (h : Taken). h.owner) (cond c (Some k) (find (λ h. h.mutex == m) ks))) (ne_eqb k.mutex m (λ e. omega arith))
    ∙ no_owner n m ks (All-tail (λ (h : Taken). h.mutex < n) k ks all) h

pub owner_has : (n m : ℕ) (hs : List Taken) → All (λ h. h.owner < n) hs → IfSome (owner_among hs m) (λ t. t < n)
owner_has n m hs all = by_row (find (λ h. h.mutex == m) hs) (found_has (λ (h : Taken). h.owner < n) (λ (h : Taken). h.mutex == m) hs all)
  where
    by_row : (r : Option Taken) → IfSome r (λ h. h.owner < n) → IfSome (option_map (λ (h : Taken). h.owner) r) (λ t. t < n)
    by_row None k = tt
    by_row (Some h) k = k
