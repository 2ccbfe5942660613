-- A mutex that is got makes its owner more urgent, and no other take changes who is how urgent; nor does a release that isn't the last one.
use Rattle.std.proofs.Common.{ℕ, ◌≡◌, ◌≢◌, ◌+◌, ◌<◌, ◌≤◌, List, [], ◌∷◌, length, map, Bool, true, false, cond, ◌&&◌, not, eqb, Option, Some, None, refl, sym, ap, ◌∙◌, arith, ◌⊎◌, inl, inr}
use Rattle.std.specs.Prelude.{min, fold, filter, nat_lt, slice_index_or, ◌==◌, ◌-◌}
use Rattle.std.specs.List.{filter_map, cons_option}
use Rattle.std.specs.Option.{is_some, option_map, option_and_then}
use Rattle.std.specs.Bool.{then_some}
use Rattle.std.proofs.lemmas.Bool.{cases_eq, cases_lt, ne_eqb, eq-eqb, false≢true}
use Rattle.std.proofs.lemmas.Option.{none-some}
use Rattle.rt_plain.specs.kernel.Ownership.{Ownership, Taken, member_at, base_of, awaited_in, taken_of, owner_in, owned_in, member_urgency, with_mutex_got, with_taken_times, take_edit, take_edit_of, pass_edit, release_edit, release_edit_of}
use Rattle.mutex_chain.specs.Owners.{IsSound, AreOwned, blocker_in, ceiling_at}
use Rattle.mutex_chain.specs.Graph.{is_last}
use Rattle.mutex_chain.specs.Equations.{Touches, IsTouched}
use Rattle.mutex_chain.specs.Walks.{curs_of}
use Rattle.mutex_chain.specs.Raising.{IsRaising, Strengthens}
use Rattle.mutex_chain.proofs.OwnerLemmas.{others}
use Rattle.mutex_chain.proofs.OwnedLemmas.{got_other}
use Rattle.mutex_chain.proofs.StrongLemmas.{fold_min, raises}
use Rattle.mutex_chain.proofs.TouchLemmas.{none_free, touches_hold, touches_nothing}

-- an edit that touches nobody
pub still : (o p : Ownership) (number : ℕ) → Touches [] o p → Strengthens o p None number
still o p number s = record {
  size = s.size;
  kept = λ x t e. kept x t (s.blockers x refl) e;
  more = λ x t e. inl (back x t (s.blockers x refl) e);
  lower = λ t h. omega (arith, s.urgencies t refl);
  itself = λ t h. inl (omega (arith, s.urgencies t refl));
  reached = λ t e. absurd (none-some t e);
}
  where
    nobody : (b : Option ℕ) (t : ℕ) → b ≡ Some t → IsTouched [] b → ⊥
    nobody None t e h = none-some t e
    nobody (Some u) t e h = false≢true h

    kept : (x t : ℕ) → (blocker_in o x ≡ blocker_in p x) ⊎ (IsTouched [] (blocker_in o x) × IsTouched [] (blocker_in p x)) → blocker_in o x ≡ Some t → blocker_in p x ≡ Some t
    kept x t (inl e) f = sym e ∙ f
    kept x t (inr w) f = absurd (nobody (blocker_in o x) t f w.0)

    back : (x t : ℕ) → (blocker_in o x ≡ blocker_in p x) ⊎ (IsTouched [] (blocker_in o x) × IsTouched [] (blocker_in p x)) → blocker_in p x ≡ Some t → blocker_in o x ≡ Some t
    back x t (inl e) f = e ∙ f
    back x t (inr w) f = absurd (nobody (blocker_in p x) t f w.1)

-- a free mutex is got
got_strengthens : (o : Ownership) (t m ceiling : ℕ) → AreOwned o → taken_of o m ≡ None → t < length o.members → ceiling_at o m ≡ Some ceiling → Strengthens o (with_mutex_got m t o) (Some t) ceiling
got_strengthens o t m ceiling a none small at = record {
  size = refl;
  kept = λ x y e. same_blocker x ∙ e;
  more = λ x y e. inl (sym (same_blocker x) ∙ e);
  lower = λ u h. lower u (cases_eq u t);
  itself = λ u h. itself u (cases_eq u t);
  reached = λ u e. let same : t ≡ u = cc in (omega (arith, small, same), inl (omega (arith, at_t u (sym same))));
}
  where
    free : owner_in o m ≡ None
    free = ap (option_map (λ (h : Taken). h.owner)) none

    by_mutex : (b : Option ℕ) → ((k : ℕ) → b ≡ Some k → owner_in o k ≢ None) → option_and_then (owner_in (with_mutex_got m t o)) b ≡ option_and_then (owner_in o) b
    by_mutex None f = refl
    by_mutex (Some k) f = got_other o m t k (λ s. f k refl (ap (owner_in o) s ∙ free))

    same_blocker : (x : ℕ) → blocker_in (with_mutex_got m t o) x ≡ blocker_in o x
    same_blocker x = by_mutex (awaited_in o x) (λ k e. a x k e)

    owned : (x : ℕ) (b : Bool) → eqb t x ≡ b → owned_in (with_mutex_got m t o) x ≡ cond b (m ∷ owned_in o x) (owned_in o x)
    owned x b e =
        ap (λ c. map (λ (h : Taken). h.mutex) (cond c (record { mutex = m; owner = t; hold = 1 } ∷ filter (λ h. h.owner == x) (others m o.taken)) (filter (λ h. h.owner == x) (others m o.taken)))) e
        ∙ ap (λ l. map (λ (h : Taken). h.mutex) (cond b (record { mutex = m; owner = t; hold = 1 } ∷ filter (λ h. h.owner == x) l) (filter (λ h. h.owner == x) l))) (none_free m o.taken none)
        ∙ by_test b
      where
        by_test : (b : Bool) → map (λ (h : Taken). h.mutex) (cond b (record { mutex = m; owner = t; hold = 1 } ∷ filter (λ h. h.owner == x) o.taken) (filter (λ h. h.owner == x) o.taken))
            ≡ cond b (m ∷ owned_in o x) (owned_in o x)
        by_test true = refl
        by_test false = refl

    here : member_urgency (with_mutex_got m t o) t ≡ min (member_urgency o t) ceiling
    here =
        ap (λ l. fold min (base_of (member_at o t)) (filter_map (λ mutex. slice_index_or o.ceilings mutex None) l)) (owned t true (eq-eqb t t refl))
        ∙ ap (λ r. fold min (base_of (member_at o t)) (cons_option r (filter_map (λ mutex. slice_index_or o.ceilings mutex None) (owned_in o t)))) at
        ∙ fold_min (base_of (member_at o t)) ceiling (filter_map (λ mutex. slice_index_or o.ceilings mutex None) (owned_in o t))

    at_t : (u : ℕ) → u ≡ t → member_urgency (with_mutex_got m t o) u ≡ min (member_urgency o u) ceiling
    at_t u e = ap (member_urgency (with_mutex_got m t o)) e ∙ here ∙ sym (ap (λ v. min (member_urgency o v) ceiling) e)

    elsewhere : (u : ℕ) → u ≢ t → member_urgency (with_mutex_got m t o) u ≡ member_urgency o u
    elsewhere u ne = ap (λ l. fold min (base_of (member_at o u)) (filter_map (λ mutex. slice_index_or o.ceilings mutex None) l)) (owned u false (ne_eqb t u (λ s. ne (sym s))))

    lower : (u : ℕ) → (u ≡ t) ⊎ (u ≢ t) → member_urgency (with_mutex_got m t o) u ≤ member_urgency o u
    lower u (inl e) = omega (arith, at_t u e)
    lower u (inr ne) = omega (arith, elsewhere u ne)

    itself : (u : ℕ) → (u ≡ t) ⊎ (u ≢ t) → (member_urgency o u ≤ member_urgency (with_mutex_got m t o) u) ⊎ ((Some t ≡ Some u) × (ceiling ≤ member_urgency (with_mutex_got m t o) u))
    itself u (inl e) = by_size (cases_lt ceiling (member_urgency o u))
      where
        by_size : (ceiling < member_urgency o u) ⊎ (member_urgency o u ≤ ceiling) → (member_urgency o u ≤ member_urgency (with_mutex_got m t o) u) ⊎ ((Some t ≡ Some u) × (ceiling ≤ member_urgency (with_mutex_got m t o) u))
        by_size (inl h) = inr (ap Some (sym e), omega (arith, at_t u e))
        by_size (inr h) = inl (omega (arith, at_t u e))
    itself u (inr ne) = inl (omega (arith, elsewhere u ne))

take_strengthens : (o : Ownership) (t m ceiling : ℕ) → AreOwned o → t < length o.members → ceiling_at o m ≡ Some ceiling → (r : Option Taken) → taken_of o m ≡ r
    → Strengthens o (take_edit_of t m r o) (cond (is_some (option_map (λ (h : Taken). h.owner) r)) None (Some t)) ceiling
take_strengthens o t m ceiling a small at None e = got_strengthens o t m ceiling a e small at
take_strengthens o t m ceiling a small at (Some h) e = by_test ((h.owner == t) && nat_lt h.hold 255)
  where
    by_test : (b : Bool) → Strengthens o (cond b (with_taken_times m (h.hold + 1) o) o) None ceiling
    by_test true = still o (with_taken_times m (h.hold + 1) o) ceiling (touches_hold [] m (h.hold + 1) o)
    by_test false = still o o ceiling (touches_nothing [] o)

pub take_raises : (o p : Ownership) (curs : List ℕ) (from : Option ℕ) (t m ceiling : ℕ) → IsSound o → IsSound p → AreOwned o → curs ≡ curs_of o → p ≡ take_edit t m o
    → t < length o.members → ceiling_at o m ≡ Some ceiling → from ≡ cond (is_some (owner_in o m)) None (Some t) → IsRaising p curs from ceiling
take_raises o p curs from t m ceiling s k a now e small at is =
    let sound : IsSound (take_edit t m o) = rw (← e) k in
    rw (e, is) (raises o (take_edit t m o) curs (cond (is_some (owner_in o m)) None (Some t)) ceiling s sound now (take_strengthens o t m ceiling a small at (taken_of o m) refl))

-- the thread that gets a mutex, where nobody owns it
pub got_by : (free : Bool) (owner : Option ℕ) (t : ℕ) → is_some owner ≡ not free → then_some free t ≡ cond (is_some owner) None (Some t)
got_by true None t e = refl
got_by false None t e = absurd (false≢true e)
got_by true (Some u) t e = absurd (false≢true (sym e))
got_by false (Some u) t e = refl

-- a release that isn't the last one touches nobody
still_release : (o : Ownership) (t m : ℕ) → is_last t (taken_of o m) ≡ false → Touches [] o (release_edit t m o)
still_release o t m e = by_row (taken_of o m) e
  where
    by_tests : (h : Taken) (b c : Bool) → (b && not c) ≡ false → Touches [] o (cond b (cond c (with_taken_times m (h.hold - 1) o) (pass_edit m o)) o)
    by_tests h true true f = touches_hold [] m (h.hold - 1) o
    by_tests h true false f = absurd (false≢true (sym f))
    by_tests h false c f = touches_nothing [] o

    by_row : (r : Option Taken) → is_last t r ≡ false → Touches [] o (release_edit_of t m r o)
    by_row None f = touches_nothing [] o
    by_row (Some h) f = by_tests h (h.owner == t) (nat_lt 1 h.hold) f

pub release_raises : (o p : Ownership) (curs : List ℕ) (t m number : ℕ) → IsSound o → IsSound p → curs ≡ curs_of o → p ≡ release_edit t m o → is_last t (taken_of o m) ≡ false → IsRaising p curs None number
release_raises o p curs t m number s k now e last =
    let sound : IsSound (release_edit t m o) = rw (← e) k in
    rw e (raises o (release_edit t m o) curs None number s sound now (still o (release_edit t m o) number (still_release o t m last)))
