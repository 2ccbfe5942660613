-- What walks along chains of owners count.
use Rattle.std.proofs.Common.{ℕ, ◌≡◌, ◌≢◌, ◌+◌, ◌*◌, ◌<◌, ◌≤◌, zero, suc, List, [], ◌∷◌, length, map, Bool, true, false, not, cond, ◌&&◌, Option, Some, None, refl, sym, ap, ◌∙◌, arith, ◌⊎◌, inl, inr, ⊎_elim, get_or-set_same, get_or-set_other}
use Rattle.std.specs.Prelude.{filter, nat_lt, slice_index, slice_set, ◌==◌, ◌-◌}
use Rattle.std.specs.List.{sum_by, filter_map, range_with_len, cons_option}
use Rattle.std.specs.Option.{option_map}
use Rattle.std.proofs.lemmas.Bool.{cases_eq, and_from, ne_eqb, eq-eqb, false≢true, lt-ltb, le-ltb}
use Rattle.std.proofs.lemmas.Option.{none-some}
use Rattle.std.proofs.lemmas.List.Sums.{sum_by-cons}
use Rattle.rt_plain.specs.kernel.State.{is_among}
use Rattle.rt_plain.specs.kernel.Priority.{reach}
use Rattle.rt_base.specs.declared.codes.WaitOrder.{WaitOrder}
use Rattle.rt_plain.specs.kernel.Waiting.{Waiter, in_order}
use Rattle.rt_plain.specs.kernel.Ownership.{Ownership, MutexWait, graph_in, awaited_in, wait_of, wait_row, wait_rows_in, cur_in}
use Rattle.rt_plain.specs.kernel.Weight.{weight_of, fellow_count}
use Rattle.susp_list.proofs.OrderLemmas.{length-in_order}
use Rattle.mutex_chain.specs.Owners.{blocker_in}
use Rattle.mutex_chain.specs.Costs.{one_wait, step_cost, renew_cost, walk_sum, chain_sum}
use Rattle.mutex_chain.proofs.LawLemmas.{reach_among}
use Rattle.mutex_chain.proofs.ChainLemmas.{leads, graph_size}

-- sums over some of a range
pub sum_le : (f g : ℕ → ℕ) (p q : ℕ → Bool) (a n : ℕ) → ((x : ℕ) → a ≤ x → x < a + n → p x ≡ true → (q x ≡ true) × (f x ≤ g x))
    → sum_by f (filter p (range_with_len a n)) ≤ sum_by g (filter q (range_with_len a n))
sum_le f g p q a zero h = omega arith
sum_le f g p q a (suc n) h = by_tests (p a) refl (q a) refl (sum_le f g p q (a + 1) n (λ x low high e. h x (omega arith) (omega arith) e))
  where
    by_tests : (b : Bool) → p a ≡ b → (c : Bool) → q a ≡ c → sum_by f (filter p (range_with_len (a + 1) n)) ≤ sum_by g (filter q (range_with_len (a + 1) n))
        → sum_by f (cond b (a ∷ filter p (range_with_len (a + 1) n)) (filter p (range_with_len (a + 1) n))) ≤ sum_by g (cond c (a ∷ filter q (range_with_len (a + 1) n)) (filter q (range_with_len (a + 1) n)))
    by_tests true e true k r =
        omega (arith, (h a (omega arith) (omega arith) e).1, sum_by-cons f a (filter p (range_with_len (a + 1) n)), sum_by-cons g a (filter q (range_with_len (a + 1) n)), r)
    by_tests true e false k r = absurd (false≢true (sym k ∙ (h a (omega arith) (omega arith) e).0))
    by_tests false e true k r = omega (arith, sum_by-cons g a (filter q (range_with_len (a + 1) n)), r)
    by_tests false e false k r = r

-- one that only the second takes
pub sum_less : (f : ℕ → ℕ) (p q : ℕ → Bool) (x a n : ℕ) → a ≤ x → x < a + n → p x ≡ false → q x ≡ true → ((y : ℕ) → p y ≡ true → q y ≡ true)
    → sum_by f (filter p (range_with_len a n)) + f x ≤ sum_by f (filter q (range_with_len a n))
sum_less f p q x a zero low high off on weaker = absurd (omega arith)
sum_less f p q x a (suc n) low high off on weaker =
    ⊎_elim here (λ ne. there (p a) refl (q a) refl (sum_less f p q x (a + 1) n (omega arith) (omega arith) off on weaker)) (cases_eq a x)
  where
    rest : sum_by f (filter p (range_with_len (a + 1) n)) ≤ sum_by f (filter q (range_with_len (a + 1) n))
    rest = sum_le f f p q (a + 1) n (λ y l k e. (weaker y e, omega arith))

    at : (b : Bool) → b ≡ false → (c : Bool) → c ≡ true → f a ≡ f x
        → sum_by f (cond b (a ∷ filter p (range_with_len (a + 1) n)) (filter p (range_with_len (a + 1) n))) + f x ≤ sum_by f (cond c (a ∷ filter q (range_with_len (a + 1) n)) (filter q (range_with_len (a + 1) n)))
    at true e c k s = absurd (false≢true (sym e))
    at false e true k s = omega (arith, rest, sum_by-cons f a (filter q (range_with_len (a + 1) n)))
    at false e false k s = absurd (false≢true k)

    here : a ≡ x → sum_by f (cond (p a) (a ∷ filter p (range_with_len (a + 1) n)) (filter p (range_with_len (a + 1) n))) + f x ≤ sum_by f (cond (q a) (a ∷ filter q (range_with_len (a + 1) n)) (filter q (range_with_len (a + 1) n)))
    here e = at (p a) (ap p e ∙ off) (q a) (ap q e ∙ on) (ap f e)

    there : (b : Bool) → p a ≡ b → (c : Bool) → q a ≡ c → sum_by f (filter p (range_with_len (a + 1) n)) + f x ≤ sum_by f (filter q (range_with_len (a + 1) n))
        → sum_by f (cond b (a ∷ filter p (range_with_len (a + 1) n)) (filter p (range_with_len (a + 1) n))) + f x ≤ sum_by f (cond c (a ∷ filter q (range_with_len (a + 1) n)) (filter q (range_with_len (a + 1) n)))
    there true e true k r = omega (arith, sum_by-cons f a (filter p (range_with_len (a + 1) n)), sum_by-cons f a (filter q (range_with_len (a + 1) n)), r)
    there true e false k r = absurd (false≢true (sym k ∙ weaker a e))
    there false e true k r = omega (arith, sum_by-cons f a (filter q (range_with_len (a + 1) n)), r)
    there false e false k r = r

-- three sums at once
sum_three : (f g h k : ℕ → ℕ) (p : ℕ → Bool) (a n : ℕ) → ((x : ℕ) → x < a + n → f x + g x + h x ≤ 6 * k x)
    → sum_by f (filter p (range_with_len a n)) + sum_by g (filter p (range_with_len a n)) + sum_by h (filter p (range_with_len a n)) ≤ 6 * sum_by k (filter p (range_with_len a n))
sum_three f g h k p a zero each = omega arith
sum_three f g h k p a (suc n) each = by_test (p a) (sum_three f g h k p (a + 1) n (λ x high. each x (omega arith)))
  where
    rest : List ℕ
    rest = filter p (range_with_len (a + 1) n)

    by_test : (b : Bool) → sum_by f (filter p (range_with_len (a + 1) n)) + sum_by g (filter p (range_with_len (a + 1) n)) + sum_by h (filter p (range_with_len (a + 1) n)) ≤ 6 * sum_by k (filter p (range_with_len (a + 1) n))
        → sum_by f (cond b (a ∷ filter p (range_with_len (a + 1) n)) (filter p (range_with_len (a + 1) n))) + sum_by g (cond b (a ∷ filter p (range_with_len (a + 1) n)) (filter p (range_with_len (a + 1) n)))
        + sum_by h (cond b (a ∷ filter p (range_with_len (a + 1) n)) (filter p (range_with_len (a + 1) n))) ≤ 6 * sum_by k (cond b (a ∷ filter p (range_with_len (a + 1) n)) (filter p (range_with_len (a + 1) n)))
    by_test true r =
        omega (
          arith,
          each a (omega arith),
          sum_by-cons f a (filter p (range_with_len (a + 1) n)),
          sum_by-cons g a (filter p (range_with_len (a + 1) n)),
          sum_by-cons h a (filter p (range_with_len (a + 1) n)),
          sum_by-cons k a (filter p (range_with_len (a + 1) n)),
          r,
        )
    by_test false r = r

pub chain_three : (f g h k : ℕ → ℕ) (o : Ownership) (u : ℕ) → ((x : ℕ) → x < length o.members → f x + g x + h x ≤ 6 * k x)
    → chain_sum f o u + chain_sum g o u + chain_sum h o u ≤ 6 * chain_sum k o u
chain_three f g h k o u each = sum_three f g h k (λ t. is_among (reach (graph_in o) t) u) 0 (length o.members) (λ x high. each x (omega arith))

-- the sum over some of those whom a chain leads to
chain_more : (f : ℕ → ℕ) (p : ℕ → Bool) (o : Ownership) (u : ℕ) → u < length o.members → ((x : ℕ) → p x ≡ true → leads o u x ≡ true)
    → sum_by f (filter p (range_with_len 0 (length o.members))) ≤ chain_sum f o u
chain_more f p o u h on =
    sum_le f f p (λ t. is_among (reach (graph_in o) t) u) 0 (length o.members)
    (λ x low high e. (reach_among (graph_in o) x u (omega (arith, graph_size o)) (omega (arith, graph_size o)) ∙ on x e, omega arith))

first_true : (a b : Bool) → (a && b) ≡ true → a ≡ true
first_true true b f = refl
first_true false b f = f

-- the sum over those in the chain of a thread that have no mark
abbrev pub unmarked_sum : (ℕ → ℕ) → Ownership → ℕ → List ℕ → ℕ
unmarked_sum f o u numbers = sum_by f (filter (λ y. leads o u y && not (slice_index numbers y == 257)) (range_with_len 0 (length o.members)))

pub unmarked_chain : (f : ℕ → ℕ) (o : Ownership) (u : ℕ) (numbers : List ℕ) → u < length o.members → unmarked_sum f o u numbers ≤ chain_sum f o u
unmarked_chain f o u numbers h = chain_more f (λ y. leads o u y && not (slice_index numbers y == 257)) o u h (λ x e. first_true (leads o u x) (not (slice_index numbers x == 257)) e)

-- a mark takes its thread out of the sum
pub unmarked_less : (f : ℕ → ℕ) (o : Ownership) (u : ℕ) (numbers : List ℕ) (x : ℕ) → leads o u x ≡ true → slice_index numbers x ≢ 257 → x < length o.members → length numbers ≡ length o.members
    → unmarked_sum f o u (slice_set numbers x 257) + f x ≤ unmarked_sum f o u numbers
unmarked_less f o u numbers x h ne inside places =
    sum_less f (λ y. leads o u y && not (slice_index (slice_set numbers x 257) y == 257)) (λ y. leads o u y && not (slice_index numbers y == 257)) x 0 (length o.members) (omega arith) (omega arith) after before
    (λ y e. weaker y e (cases_eq y x))
  where
    place : x < length numbers
    place = omega (arith, places)

    before : (leads o u x && not (slice_index numbers x == 257)) ≡ true
    before = and_from (leads o u x) (not (slice_index numbers x == 257)) h (ap not (ne_eqb (slice_index numbers x) 257 ne))

    after : (leads o u x && not (slice_index (slice_set numbers x 257) x == 257)) ≡ false
    after = ap (λ a. leads o u x && not (a == 257)) (get_or-set_same numbers x 257 0 place) ∙ ap (λ b. b && not (257 == 257)) h

    weaker : (y : ℕ) → (leads o u y && not (slice_index (slice_set numbers x 257) y == 257)) ≡ true → (y ≡ x) ⊎ (y ≢ x) → (leads o u y && not (slice_index numbers y == 257)) ≡ true
    weaker y f (inl e) = ap (λ v. leads o u v && not (slice_index numbers v == 257)) e ∙ before
    weaker y f (inr other) = sym (ap (λ a. leads o u y && not (a == 257)) (get_or-set_other numbers x y 257 0 other)) ∙ f

-- the sum over those in the chain of a thread that are less urgent than a number
abbrev pub urgent_sum : (ℕ → ℕ) → Ownership → ℕ → List ℕ → ℕ → ℕ
urgent_sum f o u numbers number = sum_by f (filter (λ y. leads o u y && nat_lt number (slice_index numbers y)) (range_with_len 0 (length o.members)))

pub urgent_chain : (f : ℕ → ℕ) (o : Ownership) (u : ℕ) (numbers : List ℕ) (number : ℕ) → u < length o.members → urgent_sum f o u numbers number ≤ chain_sum f o u
urgent_chain f o u numbers number h =
    chain_more f (λ y. leads o u y && nat_lt number (slice_index numbers y)) o u h (λ x e. first_true (leads o u x) (nat_lt number (slice_index numbers x)) e)

pub urgent_less : (f : ℕ → ℕ) (o : Ownership) (u : ℕ) (numbers : List ℕ) (x number : ℕ) → leads o u x ≡ true → number < slice_index numbers x → x < length o.members → length numbers ≡ length o.members
    → urgent_sum f o u (slice_set numbers x number) number + f x ≤ urgent_sum f o u numbers number
urgent_less f o u numbers x number h above inside places =
    sum_less f (λ y. leads o u y && nat_lt number (slice_index (slice_set numbers x number) y)) (λ y. leads o u y && nat_lt number (slice_index numbers y)) x 0 (length o.members) (omega arith) (omega arith) after before
    (λ y e. weaker y e (cases_eq y x))
  where
    place : x < length numbers
    place = omega (arith, places)

    before : (leads o u x && nat_lt number (slice_index numbers x)) ≡ true
    before = and_from (leads o u x) (nat_lt number (slice_index numbers x)) h (lt-ltb number (slice_index numbers x) above)

    after : (leads o u x && nat_lt number (slice_index (slice_set numbers x number) x)) ≡ false
    after =
        ap (λ a. leads o u x && nat_lt number a) (get_or-set_same numbers x number 0 place)
        ∙ ap (λ b. b && nat_lt number number) h ∙ le-ltb number number (omega arith)

    weaker : (y : ℕ) → (leads o u y && nat_lt number (slice_index (slice_set numbers x number) y)) ≡ true → (y ≡ x) ⊎ (y ≢ x) → (leads o u y && nat_lt number (slice_index numbers y)) ≡ true
    weaker y f (inl e) = ap (λ v. leads o u v && nat_lt number (slice_index numbers v)) e ∙ before
    weaker y f (inr ne) = sym (ap (λ a. leads o u y && nat_lt number a) (get_or-set_other numbers x y number 0 ne)) ∙ f

-- so many threads further along a chain
abbrev pub ahead_at : Ownership → ℕ → Option ℕ → Option ℕ
ahead_at o zero at = at
ahead_at o (suc n) None = None
ahead_at o (suc n) (Some x) = ahead_at o n (blocker_in o x)

walk_more : (f : ℕ → ℕ) (o : Ownership) (n : ℕ) (from : Option ℕ) (x : ℕ) → ahead_at o n from ≡ Some x → (walk_sum f o (suc n) from ≡ walk_sum f o n from + f x) × (ahead_at o (suc n) from ≡ blocker_in o x)
walk_more f o zero None x e = absurd (none-some x e)
walk_more f o zero (Some y) x e = let same : y ≡ x = cc in (omega (arith, ap f same), ap (blocker_in o) same)
walk_more f o (suc n) None x e = absurd (none-some x e)
walk_more f o (suc n) (Some y) x e = let w = walk_more f o n (blocker_in o y) x e in (omega (arith, w.0), w.1)

pub walk_push : (f : ℕ → ℕ) (o : Ownership) (n : ℕ) (from : Option ℕ) (x : ℕ) → ahead_at o n from ≡ Some x → (walk_sum f o (n + 1) from ≡ walk_sum f o n from + f x) × (ahead_at o (n + 1) from ≡ blocker_in o x)
walk_push f o n from x e = let more : n + 1 ≡ suc n = omega arith in rw more (walk_more f o n from x e)

pub walk_nobody : (f : ℕ → ℕ) (o : Ownership) (n : ℕ) → walk_sum f o n None ≡ 0
walk_nobody f o zero = refl
walk_nobody f o (suc n) = refl

pub walk_step : (f : ℕ → ℕ) (o : Ownership) (n x : ℕ) → 0 < n → walk_sum f o n (Some x) ≡ f x + walk_sum f o (n - 1) (blocker_in o x)
walk_step f o zero x h = absurd (omega arith)
walk_step f o (suc n) x h = let one : suc n - 1 ≡ n = omega arith in rw one refl

-- who waits is among the waiters of its mutex
some_length : {X : Type 0} (f : ℕ → Option X) (a n t : ℕ) (w : X) → f t ≡ Some w → a ≤ t → t < a + n → 1 ≤ length (filter_map f (range_with_len a n))
some_length {X = X} f a zero t w e low high = absurd (omega arith)
some_length {X = X} f a (suc n) t w e low high = ⊎_elim (λ same. here (f a) (ap f same ∙ e)) (λ ne. there (f a) (some_length f (a + 1) n t w e (omega arith) (omega arith))) (cases_eq a t)
  where
    here : (r : Option X) → r ≡ Some w → 1 ≤ length (cons_option r (filter_map f (range_with_len (a + 1) n)))
    here None k = absurd (none-some w k)
    here (Some v) k = omega arith

    there : (r : Option X) → 1 ≤ length (filter_map f (range_with_len (a + 1) n)) → 1 ≤ length (cons_option r (filter_map f (range_with_len (a + 1) n)))
    there None k = k
    there (Some v) k = omega arith

pub length-threads : (ws : List Waiter) → length (map (λ (w : Waiter). w.thread) ws) ≡ length ws
length-threads [] = refl
length-threads (w ∷ ws) = ap suc (length-threads ws)

fellows : (o : Ownership) (t : ℕ) → t < length o.members → one_wait (awaited_in o t) ≤ fellow_count o (awaited_in o t)
fellows o t h = by_wait (wait_of o t) refl
  where
    by_wait : (r : Option MutexWait) → wait_of o t ≡ r → one_wait (option_map (λ (w : MutexWait). w.mutex) r) ≤ fellow_count o (option_map (λ (w : MutexWait). w.mutex) r)
    by_wait None e = omega arith
    by_wait (Some w) e =
        let row : wait_row o w.mutex t (wait_of o t) ≡ Some (record { thread = t; prio = cur_in o t; number = w.number }) =
        ap (wait_row o w.mutex t) e ∙ ap (λ b. cond b (Some (record { thread = t; prio = cur_in o t; number = w.number })) None) (eq-eqb w.mutex w.mutex refl) in
        omega (
          arith,
          some_length (λ t. wait_row o w.mutex t (wait_of o t)) 0 (length o.members) t (record { thread = t; prio = cur_in o t; number = w.number }) row (omega arith) (omega arith),
          length-in_order WaitOrder.Prio (wait_rows_in o w.mutex),
          length-threads (in_order WaitOrder.Prio (wait_rows_in o w.mutex)),
        )

-- three walks over a chain count no more than six times its weight
pub walks_weight : (o : Ownership) (u : ℕ) → chain_sum (step_cost o) o u + chain_sum (renew_cost o) o u + chain_sum (step_cost o) o u ≤ 6 * chain_sum (weight_of o) o u
walks_weight o u = chain_three (step_cost o) (renew_cost o) (step_cost o) (weight_of o) o u (λ x h. omega (arith, fellows o x h))

pub wait_low : (r : Option ℕ) → one_wait r ≤ 1
wait_low None = omega arith
wait_low (Some mutex) = omega arith
