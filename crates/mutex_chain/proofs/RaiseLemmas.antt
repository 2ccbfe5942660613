-- Current priorities that get more urgent along a chain of owners.
use Rattle.std.proofs.Common.{ℕ, ◌≡◌, ◌≢◌, ◌<◌, ◌≤◌, List, length, get_or, Some, None, refl, sym, ap, ◌∙◌, arith, ◌⊎◌, inl, inr, get_or-set_same, get_or-set_other, ⊎_elim}
use Rattle.std.specs.Prelude.{slice_set, slice_index}
use Rattle.std.proofs.Math.ListN.{length-set}
use Rattle.std.proofs.lemmas.Bool.{cases_eq}
use Rattle.std.proofs.lemmas.Option.{none-some}
use Rattle.std.proofs.lemmas.List.FromFn.{fill_by_all}
use Rattle.rt_plain.specs.kernel.Ownership.{Ownership, member_urgency, graph_in, cur_in}
use Rattle.mutex_chain.specs.Owners.{IsSound, blocker_in}
use Rattle.mutex_chain.specs.Walks.{curs_of}
use Rattle.mutex_chain.specs.Raising.{IsRaising}
use Rattle.mutex_chain.proofs.CurLemmas.{blocker_same, graph_urgency, length-map_range, blocker_within}
use Rattle.mutex_chain.proofs.LawLemmas.{below_cur, waiter_less}

graph_size : (o : Ownership) → length (graph_in o).blockers ≡ length o.members
graph_size o = length-map_range (blocker_in o) 0 (length o.members)

-- numbers that are no less urgent than the own urgencies and than a waiter's are no less urgent than the current priorities
pub below_cur_in : (o : Ownership) (f : ℕ → ℕ) → ((t : ℕ) → t < length o.members → f t ≤ member_urgency o t) → ((x t : ℕ) → blocker_in o x ≡ Some t → f t ≤ f x)
    → (t : ℕ) → t < length o.members → f t ≤ cur_in o t
below_cur_in o f own edges t h =
    below_cur (graph_in o) f (λ u k. let small : u < length o.members = omega (arith, graph_size o) in rw (graph_urgency o u small) (own u small))
    (λ x u e. edges x u (sym (blocker_same o x) ∙ e)) t (omega (arith, graph_size o))

some_is : (x t : ℕ) → Some x ≡ Some t → x ≡ t
some_is x t e = cc

-- an owner is as urgent as who waits for it
pub owner_more : (o : Ownership) (x t : ℕ) → IsSound o → x < length o.members → blocker_in o x ≡ Some t → cur_in o t ≤ cur_in o x
owner_more o x t s h e =
    let within : t < length o.members = blocker_within o x t s e in
    waiter_less (graph_in o) x t (omega (arith, graph_size o)) (omega (arith, graph_size o)) (blocker_same o x ∙ e)

-- nothing is carried on: these are the current priorities
pub raised_all : (o : Ownership) (numbers : List ℕ) (number : ℕ) → IsRaising o numbers None number → numbers ≡ curs_of o
unfolding curs_of
raised_all o numbers number r =
    fill_by_all (cur_in o) numbers (length o.members) 0 r.places
    (λ k h. antisym (get_or numbers k 0) (cur_in o k) (below_cur_in o (λ t. get_or numbers t 0) own edges k h) (r.high k h))
  where
    antisym : (a b : ℕ) → a ≤ b → b ≤ a → a ≡ b
    antisym a b x y = omega arith

    own : (t : ℕ) → t < length o.members → get_or numbers t 0 ≤ member_urgency o t
    own t h = ⊎_elim (λ low. low) (λ w. absurd (none-some t w.0)) (r.own t h)

    edges : (x t : ℕ) → blocker_in o x ≡ Some t → get_or numbers t 0 ≤ get_or numbers x 0
    edges x t e = ⊎_elim (λ low. low) (λ w. absurd (none-some t w.0)) (r.edges x t e)

-- a number that is as urgent already stops it
pub raised_stop : (o : Ownership) (numbers : List ℕ) (x number : ℕ) → IsRaising o numbers (Some x) number → slice_index numbers x ≤ number → IsRaising o numbers None number
raised_stop o numbers x number r low = record {
  places = r.places;
  high = r.high;
  low = λ t e. absurd (none-some t e);
  own = λ t h. ⊎_elim inl (λ w. inl (follows t (member_urgency o t) (some_is x t w.0) w.1)) (r.own t h);
  edges = λ y t e. ⊎_elim inl (λ w. inl (follows t (slice_index numbers y) (some_is x t w.0) w.1)) (r.edges y t e);
}
  where
    follows : (t m : ℕ) → x ≡ t → number ≤ m → slice_index numbers t ≤ m
    follows t m e h = let same : slice_index numbers x ≡ slice_index numbers t = ap (slice_index numbers) e in omega arith

-- one step along the chain
pub raised_step : (o : Ownership) (numbers : List ℕ) (x number : ℕ) → IsSound o → IsRaising o numbers (Some x) number → number < slice_index numbers x
    → IsRaising o (slice_set numbers x number) (blocker_in o x) number
raised_step o numbers x number s r above = record {
  places = length-set numbers x number ∙ r.places;
  high = λ t h. high t h (cases_eq t x);
  low = λ t e.
      let less : cur_in o t ≤ cur_in o x = owner_more o x t s inside e in
      let first : cur_in o x ≤ number = (r.low x refl).1 in
      (blocker_within o x t s e, omega arith);
  own = λ t h. own t h (cases_eq t x) (r.own t h);
  edges = λ y t e. edges y t e (cases_eq y x) (cases_eq t x) (r.edges y t e);
}
  where
    inside : x < length o.members
    inside = (r.low x refl).0

    here : get_or (slice_set numbers x number) x 0 ≡ number
    here = let place : x < length numbers = omega (arith, r.places, inside) in get_or-set_same numbers x number 0 place

    there : (t : ℕ) → t ≢ x → get_or (slice_set numbers x number) t 0 ≡ get_or numbers t 0
    there t ne = get_or-set_other numbers x t number 0 ne

    at_x : (t : ℕ) → t ≡ x → get_or (slice_set numbers x number) t 0 ≡ number
    at_x t e = ap (λ i. get_or (slice_set numbers x number) i 0) e ∙ here

    high : (t : ℕ) → t < length o.members → (t ≡ x) ⊎ (t ≢ x) → cur_in o t ≤ get_or (slice_set numbers x number) t 0
    high t h (inl e) =
        let same : cur_in o t ≡ cur_in o x = ap (cur_in o) e in
        omega (arith, at_x t e, (r.low x refl).1)
    high t h (inr ne) = omega (arith, there t ne, r.high t h)

    own : (t : ℕ) → t < length o.members → (t ≡ x) ⊎ (t ≢ x) → (slice_index numbers t ≤ member_urgency o t) ⊎ ((Some x ≡ Some t) × (number ≤ member_urgency o t))
        → (get_or (slice_set numbers x number) t 0 ≤ member_urgency o t) ⊎ ((blocker_in o x ≡ Some t) × (number ≤ member_urgency o t))
    own t h (inl e) (inl low) =
        let same : slice_index numbers t ≡ slice_index numbers x = ap (slice_index numbers) e in
        inl (omega (arith, at_x t e))
    own t h (inl e) (inr w) = inl (omega (arith, at_x t e, w.1))
    own t h (inr ne) (inl low) = inl (omega (arith, there t ne))
    own t h (inr ne) (inr w) = absurd (ne (sym (some_is x t w.0)))

    edges : (y t : ℕ) → blocker_in o y ≡ Some t → (y ≡ x) ⊎ (y ≢ x) → (t ≡ x) ⊎ (t ≢ x)
        → (slice_index numbers t ≤ slice_index numbers y) ⊎ ((Some x ≡ Some t) × (number ≤ slice_index numbers y))
        → (get_or (slice_set numbers x number) t 0 ≤ get_or (slice_set numbers x number) y 0) ⊎ ((blocker_in o x ≡ Some t) × (number ≤ get_or (slice_set numbers x number) y 0))
    edges y t e (inl from) to w = inr (ap (blocker_in o) (sym from) ∙ e, omega (arith, at_x y from))
    edges y t e (inr ne) (inl to) (inl low) =
        let same : slice_index numbers t ≡ slice_index numbers x = ap (slice_index numbers) to in
        inl (omega (arith, there y ne, at_x t to))
    edges y t e (inr ne) (inl to) (inr w) = inl (omega (arith, there y ne, at_x t to, w.1))
    edges y t e (inr ne) (inr other) (inl low) = inl (omega (arith, there y ne, there t other))
    edges y t e (inr ne) (inr other) (inr w) = absurd (other (sym (some_is x t w.0)))
