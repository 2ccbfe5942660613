-- The chains along which current priorities change.
use Rattle.std.proofs.Common.{ℕ, zero, suc, ◌≡◌, ◌≢◌, ◌<◌, ◌≤◌, ◌+◌, arith, List, [], ◌∷◌, Option, Some, None, Bool, true, false, not, ◌||◌, ◌&&◌, cond, refl, sym, ap, ◌∙◌, subst, length, eqb, ◌⊎◌, inl, inr}
use Rattle.std.specs.Prelude.{filter}
use Rattle.std.specs.List.{range_with_len}
use Rattle.std.proofs.lemmas.Bool.{cases_Bool, eqb-true, eqb-false, eq-eqb, false≢true}
use Rattle.std.proofs.lemmas.Option.{none-some, same_Some}
use Rattle.rt_plain.specs.kernel.State.{is_among}
use Rattle.rt_plain.specs.kernel.Priority.{Graph, blocker_of, reach}
use Rattle.rt_plain.specs.kernel.Ownership.{Ownership, cur_in, graph_in}
use Rattle.mutex_chain.specs.Equations.{IsAway, Touches}
use Rattle.mutex_chain.specs.Owners.{blocker_in}
use Rattle.mutex_chain.proofs.CurLemmas.{blocker_same, length-map_range}
use Rattle.mutex_chain.proofs.LawLemmas.{reach_among, reaches}
use Rattle.mutex_chain.proofs.ReachLemmas.{hits, hits_end, hits_on, reach_hits}
use Rattle.mutex_chain.proofs.TouchLemmas.{touched_cur}

-- the chain of a thread comes to another one
abbrev pub Leads : (ℕ → Option ℕ) → ℕ → ℕ → Type 0
Leads next x a = (n : ℕ) × (hits n next (a ∷ []) x ≡ true)

pub leads-itself : (next : ℕ → Option ℕ) (a : ℕ) → Leads next a a
leads-itself next a = (0, ap (λ d. d || false) (eq-eqb a a refl))

pub only-one : (a x : ℕ) → is_among (a ∷ []) x ≡ true → x ≡ a
only-one a x e = by_test (eqb a x) refl e
  where
    by_test : (d : Bool) → eqb a x ≡ d → d || false ≡ true → x ≡ a
    by_test true same f = sym (eqb-true a x same)
    by_test false other f = absurd (false≢true f)

-- a thread that waits for nobody comes to itself alone
pub leads-end : (next : ℕ → Option ℕ) (x a : ℕ) → next x ≡ None → Leads next x a → x ≡ a
leads-end next x a none (n, h) = only-one a x (sym (hits_end n next (a ∷ []) x none) ∙ h)

-- one step along a chain
step : (a x n : ℕ) (next : ℕ → Option ℕ) → hits (suc n) next (a ∷ []) x ≡ true → (x ≡ a) ⊎ ((y : ℕ) × ((next x ≡ Some y) × (hits n next (a ∷ []) y ≡ true)))
step a x n next h = by_test (is_among (a ∷ []) x) refl h
  where
    by_next : (o : Option ℕ) → next x ≡ o → hits_on (λ v. hits n next (a ∷ []) v) o ≡ true → (y : ℕ) × ((next x ≡ Some y) × (hits n next (a ∷ []) y ≡ true))
    by_next None e g = absurd (false≢true g)
    by_next (Some y) e g = (y, (e, g))

    by_test : (d : Bool) → is_among (a ∷ []) x ≡ d → d || hits_on (λ v. hits n next (a ∷ []) v) (next x) ≡ true → (x ≡ a) ⊎ ((y : ℕ) × ((next x ≡ Some y) × (hits n next (a ∷ []) y ≡ true)))
    by_test true e g = inl (only-one a x e)
    by_test false e g = inr (by_next (next x) refl g)

unstep : (a x y n : ℕ) (next : ℕ → Option ℕ) → next x ≡ Some y → hits n next (a ∷ []) y ≡ true → hits (suc n) next (a ∷ []) x ≡ true
unstep a x y n next e h = ap (λ o. is_among (a ∷ []) x || hits_on (λ v. hits n next (a ∷ []) v) o) e ∙ ap (λ d. is_among (a ∷ []) x || d) h ∙ or-true (is_among (a ∷ []) x)
  where
    or-true : (b : Bool) → b || true ≡ true
    or-true true = refl
    or-true false = refl

pub leads-next : (next : ℕ → Option ℕ) (x y a : ℕ) → next x ≡ Some y → Leads next x a → x ≢ a → Leads next y a
leads-next next x y a e (zero, h) apart = absurd (apart (only-one a x h))
leads-next next x y a e (suc n, h) apart = by_step (step a x n next h)
  where
    by_step : (x ≡ a) ⊎ ((z : ℕ) × ((next x ≡ Some z) × (hits n next (a ∷ []) z ≡ true))) → Leads next y a
    by_step (inl same) = absurd (apart same)
    by_step (inr (z, (f, g))) = (n, subst (λ v. hits n next (a ∷ []) v ≡ true) (same_Some z y (sym f ∙ e)) g)

pub leads-before : (next : ℕ → Option ℕ) (x y a : ℕ) → next x ≡ Some y → Leads next y a → Leads next x a
leads-before next x y a e (n, h) = (suc n, unstep a x y n next e h)

-- a chain comes to one thread that waits for nobody
one-end : (next : ℕ → Option ℕ) (a b : ℕ) → next a ≡ None → next b ≡ None → (n x : ℕ) → hits n next (a ∷ []) x ≡ true → Leads next x b → a ≡ b
one-end next a b noa nob zero x h leads = let same : x ≡ a = only-one a x h in sym same ∙ leads-end next x b (ap next same ∙ noa) leads
one-end next a b noa nob (suc n) x h leads = by_step (step a x n next h) (λ y. one-end next a b noa nob n y)
  where
    by_step : (x ≡ a) ⊎ ((y : ℕ) × ((next x ≡ Some y) × (hits n next (a ∷ []) y ≡ true))) → ((y : ℕ) → hits n next (a ∷ []) y ≡ true → Leads next y b → a ≡ b) → a ≡ b
    by_step (inl same) rest = sym same ∙ leads-end next x b (ap next same ∙ noa) leads
    by_step (inr (y, (e, g))) rest = rest y g (leads-next next x y b e leads (λ same. none-some y (sym nob ∙ sym (ap next same) ∙ e)))

pub leads-once : (next : ℕ → Option ℕ) (x a b : ℕ) → next a ≡ None → next b ≡ None → Leads next x a → Leads next x b → a ≡ b
leads-once next x a b noa nob (n, h) leads = one-end next a b noa nob n x h leads

-- each step of one relation is one of the other, or comes to this thread, or to one that doesn't come to the end
abbrev pub AreSteps : (ℕ → Option ℕ) → (ℕ → Option ℕ) → ℕ → ℕ → Type 0
AreSteps next old f a = (y z : ℕ) → next y ≡ Some z → (old y ≡ Some z) ⊎ ((z ≡ f) ⊎ (Leads next z a → ⊥))

abbrev Found : (ℕ → Option ℕ) → (ℕ → Option ℕ) → ℕ → ℕ → ℕ → ℕ → Type 0
Found next old f a n y = Leads old y a ⊎ ((j : ℕ) × ((j < n) × (hits j next (a ∷ []) f ≡ true)))

follow : (next old : ℕ → Option ℕ) (f a : ℕ) → AreSteps next old f a → (n y : ℕ) → hits n next (a ∷ []) y ≡ true → Found next old f a n y
follow next old f a steps zero y h = inl (0, h)
follow next old f a steps (suc n) y h = by_step (step a y n next h) (λ z. follow next old f a steps n z)
  where
    later : (z : ℕ) → Found next old f a n z → old y ≡ Some z → Found next old f a (suc n) y
    later z (inl leads) e = inl (leads-before old y z a e leads)
    later z (inr (j, (low, g))) e = inr (j, (omega (arith, low), g))

    by_kind : (z : ℕ) → (old y ≡ Some z) ⊎ ((z ≡ f) ⊎ (Leads next z a → ⊥)) → hits n next (a ∷ []) z ≡ true → Found next old f a n z → Found next old f a (suc n) y
    by_kind z (inl e) g rest = later z rest e
    by_kind z (inr (inl same)) g rest = inr (n, (omega arith, subst (λ v. hits n next (a ∷ []) v ≡ true) same g))
    by_kind z (inr (inr dead)) g rest = absurd (dead (n, g))

    by_step : (y ≡ a) ⊎ ((z : ℕ) × ((next y ≡ Some z) × (hits n next (a ∷ []) z ≡ true))) → ((z : ℕ) → hits n next (a ∷ []) z ≡ true → Found next old f a n z) → Found next old f a (suc n) y
    by_step (inl same) rest = inl (0, ap (λ d. d || false) (eq-eqb a y (sym same)))
    by_step (inr (z, (e, g))) rest = by_kind z (steps y z e) g (rest z g)

lead-back : (next old : ℕ → Option ℕ) (f a : ℕ) → AreSteps next old f a → (most n : ℕ) → n < most → hits n next (a ∷ []) f ≡ true → Leads old f a
lead-back next old f a steps zero n low h = absurd (omega (arith, low))
lead-back next old f a steps (suc most) n low h = by_found (follow next old f a steps n f h) (lead-back next old f a steps most)
  where
    by_found : Found next old f a n f → ((j : ℕ) → j < most → hits j next (a ∷ []) f ≡ true → Leads old f a) → Leads old f a
    by_found (inl leads) rest = leads
    by_found (inr (j, (less, g))) rest = rest j (omega (arith, less, low)) g

-- a thread that comes to an end by such steps came there before
pub leads-back : (next old : ℕ → Option ℕ) (f a : ℕ) → AreSteps next old f a → Leads next f a → Leads old f a
leads-back next old f a steps (n, h) = lead-back next old f a steps (suc n) n (omega arith) h

-- a thread whose current priority an edit changes stands at the end of a chain of a touched one, before or after it

same-hits : (f g : ℕ → Option ℕ) (ms : List ℕ) → ((x : ℕ) → f x ≡ g x) → (n x : ℕ) → hits n f ms x ≡ hits n g ms x
same-hits f g ms same zero x = refl
same-hits f g ms same (suc n) x = ap (λ o. is_among ms x || hits_on (λ v. hits n f ms v) o) (same x) ∙ ap (λ d. is_among ms x || d) (by_next (g x) (same-hits f g ms same n))
  where
    by_next : (o : Option ℕ) → ((v : ℕ) → hits n f ms v ≡ hits n g ms v) → hits_on (λ v. hits n f ms v) o ≡ hits_on (λ v. hits n g ms v) o
    by_next None rest = refl
    by_next (Some v) rest = rest v

low-among : (p : ℕ → Bool) (a n x : ℕ) → is_among (filter p (range_with_len a n)) x ≡ true → x < a + n
low-among p a zero x e = absurd (false≢true e)
low-among p a (suc n) x e = by_test (p a) e (low-among p (a + 1) n x)
  where
    here : (d : Bool) → eqb a x ≡ d → d || is_among (filter p (range_with_len (a + 1) n)) x ≡ true → (is_among (filter p (range_with_len (a + 1) n)) x ≡ true → x < a + 1 + n) → x < a + suc n
    here true same f rest = let at : a ≡ x = eqb-true a x same in omega (arith, at)
    here false other f rest = omega (arith, rest f)

    by_test : (d : Bool) → is_among (cond d (a ∷ filter p (range_with_len (a + 1) n)) (filter p (range_with_len (a + 1) n))) x ≡ true → (is_among (filter p (range_with_len (a + 1) n)) x ≡ true → x < a + 1 + n) → x < a + suc n
    by_test true f rest = here (eqb a x) refl f rest
    by_test false f rest = omega (arith, rest f)

reach-leads : (o : Ownership) (a x : ℕ) → a < length o.members → is_among (reach (graph_in o) a) x ≡ true → Leads (blocker_in o) x a
reach-leads o a x low among =
    let size = length-map_range (blocker_in o) 0 (length o.members) in
    let inside : a < length (graph_in o).blockers = omega (arith, size, low) in
    let there : x < 0 + length (graph_in o).blockers = low-among (reaches (graph_in o) a) 0 (length (graph_in o).blockers) x (ap (λ l. is_among l x) (sym (reach_hits (graph_in o) a inside)) ∙ among) in (
      length (graph_in o).blockers,
      sym (same-hits (blocker_of (graph_in o)) (blocker_in o) (a ∷ []) (blocker_same o) (length (graph_in o).blockers) x)
          ∙ sym (reach_among (graph_in o) a x inside (omega (arith, there)))
          ∙ among,
    )

abbrev pub FromTouched : List ℕ → Ownership → Ownership → ℕ → Type 0
FromTouched touched o p a = (x : ℕ) × ((is_among touched x ≡ true) × (Leads (blocker_in o) x a ⊎ Leads (blocker_in p) x a))

find-touched : (whole ts : List ℕ) (o p : Ownership) (a : ℕ) → a < length o.members → length o.members ≡ length p.members → ((x : ℕ) → is_among ts x ≡ true → is_among whole x ≡ true)
    → FromTouched whole o p a ⊎ (IsAway ts (graph_in o) a × IsAway ts (graph_in p) a)
find-touched whole [] o p a low size among = inr ((λ x e. absurd (false≢true e)), (λ x e. absurd (false≢true e)))
find-touched whole (t ∷ ts) o p a low size among =
    by_rest (find-touched whole ts o p a low size (λ x e. among x (later x e))) (is_among (reach (graph_in o) a) t) refl (is_among (reach (graph_in p) a) t) refl
  where
    or-true : (b : Bool) → b || true ≡ true
    or-true true = refl
    or-true false = refl

    later : (x : ℕ) → is_among ts x ≡ true → eqb t x || is_among ts x ≡ true
    later x e = ap (λ d. eqb t x || d) e ∙ or-true (eqb t x)

    here : is_among whole t ≡ true
    here = among t (ap (λ d. d || is_among ts t) (eq-eqb t t refl))

    away : (g : Graph) → is_among (reach g a) t ≡ false → IsAway ts g a → IsAway (t ∷ ts) g a
    away g out rest x e = by_test (eqb t x) refl e
      where
        by_test : (d : Bool) → eqb t x ≡ d → d || is_among ts x ≡ true → is_among (reach g a) x ≡ false
        by_test true same f = ap (is_among (reach g a)) (sym (eqb-true t x same)) ∙ out
        by_test false other f = rest x f

    by_rest : FromTouched whole o p a ⊎ (IsAway ts (graph_in o) a × IsAway ts (graph_in p) a) → (b : Bool) → is_among (reach (graph_in o) a) t ≡ b → (d : Bool) → is_among (reach (graph_in p) a) t ≡ d
        → FromTouched whole o p a ⊎ (IsAway (t ∷ ts) (graph_in o) a × IsAway (t ∷ ts) (graph_in p) a)
    by_rest (inl found) b e d f = inl found
    by_rest (inr rest) true e d f = inl (t, (here, inl (reach-leads o a t low e)))
    by_rest (inr rest) false e true f = inl (t, (here, inr (reach-leads p a t (omega (arith, low, size)) f)))
    by_rest (inr rest) false e false f = inr (away (graph_in o) e rest.0, away (graph_in p) f rest.1)

pub changed-from : (touched : List ℕ) (o p : Ownership) (a : ℕ) → Touches touched o p → a < length o.members → cur_in o a ≢ cur_in p a → FromTouched touched o p a
changed-from touched o p a touches low changed = by_find (find-touched touched touched o p a low touches.size (λ x e. e))
  where
    by_find : FromTouched touched o p a ⊎ (IsAway touched (graph_in o) a × IsAway touched (graph_in p) a) → FromTouched touched o p a
    by_find (inl found) = found
    by_find (inr away) = absurd (changed (touched_cur touched o p a touches low away.0 away.1))
