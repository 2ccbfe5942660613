-- A chain of owners holds all whom a walk along it meets.
use Rattle.std.proofs.Common.{ℕ, ◌≡◌, ◌≢◌, ◌+◌, ◌*◌, ◌<◌, ◌≤◌, zero, suc, List, [], ◌∷◌, ◌++◌, length, Bool, true, false, not, cond, ◌||◌, ◌&&◌, eqb, Option, Some, None, refl, sym, ap, ◌∙◌, arith, ◌⊎◌, inl, inr, ⊎_elim, get_or-set_same, get_or-set_other}
use Rattle.std.specs.Prelude.{filter, nat_lt, sum_by, slice_index, slice_set}
use Rattle.std.specs.List.{range_with_len, list_any}
use Rattle.std.specs.Bool.{then_some}
use Rattle.std.specs.Option.{option_to_list}
use Rattle.std.proofs.lemmas.Bool.{cases_eq, or_cases, or_left, or_right, and_from, false≢true, lt-ltb, le-ltb}
use Rattle.std.proofs.lemmas.Option.{none-some}
use Rattle.std.proofs.lemmas.List.Sums.{sum_by-cons}
use Rattle.rt_plain.specs.kernel.State.{is_among}
use Rattle.rt_plain.specs.kernel.Priority.{Graph, blocker_of}
use Rattle.rt_plain.specs.kernel.Ownership.{Ownership, graph_in}
use Rattle.rt_plain.specs.kernel.Weight.{chain_from, chain, weight_of, concerned_threads, moment_weight, edit_size}
use Rattle.mutex_chain.specs.Owners.{IsSound, blocker_in}
use Rattle.mutex_chain.specs.Raising.{LeadsTo}
use Rattle.mutex_chain.proofs.ReachLemmas.{hits_on}
use Rattle.mutex_chain.proofs.LawLemmas.{meets_in, reaches, reach_among, reaches_itself, stable, one_more, only, went_on, itself, filter_le, grows}
use Rattle.mutex_chain.proofs.CurLemmas.{blocker_same, length-map_range, blocker_within}
use Rattle.mutex_chain.proofs.TouchLemmas.{among_append}

-- those that a walk hasn't met
abbrev unmet : Graph → List ℕ → List ℕ
unmet g seen = filter (λ y. not (is_among seen y)) (range_with_len 0 (length g.blockers))

-- each of these waits for one of them, for the next one, or for nobody
abbrev Follows : Graph → List ℕ → Option ℕ → Type 0
Follows g seen next = (y v : ℕ) → is_among seen y ≡ true → blocker_of g y ≡ Some v → (is_among seen v ≡ true) ⊎ (next ≡ Some v)

-- each of these waits for one of them, or for nobody
abbrev IsClosed : Graph → List ℕ → Type 0
IsClosed g seen = (y v : ℕ) → is_among seen y ≡ true → blocker_of g y ≡ Some v → is_among seen v ≡ true

none_left : (p : ℕ → Bool) (a n x : ℕ) → length (filter p (range_with_len a n)) ≡ 0 → a ≤ x → x < a + n → p x ≡ false
none_left p a zero x e low high = absurd (omega arith)
none_left p a (suc n) x e low high = by_test (p a) refl e (cases_eq x a) (λ f k. none_left p (a + 1) n x f k (omega arith))
  where
    by_test : (b : Bool) → p a ≡ b → length (cond b (a ∷ filter p (range_with_len (a + 1) n)) (filter p (range_with_len (a + 1) n))) ≡ 0 → (x ≡ a) ⊎ (x ≢ a)
        → (length (filter p (range_with_len (a + 1) n)) ≡ 0 → a + 1 ≤ x → p x ≡ false) → p x ≡ false
    by_test true f z place rest = absurd (omega arith)
    by_test false f z (inl same) rest = ap p same ∙ f
    by_test false f z (inr ne) rest = rest z (omega arith)

not_not : (b : Bool) → not b ≡ false → b ≡ true
not_not true e = refl
not_not false e = absurd (false≢true (sym e))

fewer_unmet : (g : Graph) (seen : List ℕ) (t : ℕ) → t < length g.blockers → is_among seen t ≡ false → length (unmet g (seen ++ t ∷ [])) < length (unmet g seen)
fewer_unmet g seen t h e =
    ⊎_elim (λ same. absurd (false≢true (sym (ap not last) ∙ sym (same t (omega arith) (omega arith)) ∙ ap not e))) (λ less. less)
    (grows (λ y. not (is_among (seen ++ t ∷ []) y)) (λ y. not (is_among seen y)) 0 (length g.blockers) weaker)
  where
    last : is_among (seen ++ t ∷ []) t ≡ true
    last = among_append seen (t ∷ []) t ∙ or_right (is_among seen t) (is_among (t ∷ []) t) (itself t)

    by_tests : (b c : Bool) → not (b || c) ≡ true → not b ≡ true
    by_tests true c f = f
    by_tests false c f = refl

    weaker : (x : ℕ) → not (is_among (seen ++ t ∷ []) x) ≡ true → not (is_among seen x) ≡ true
    weaker x f = by_tests (is_among seen x) (is_among (t ∷ []) x) (sym (ap not (among_append seen (t ∷ []) x)) ∙ f)

chain_closed : (n : ℕ) (g : Graph) (seen : List ℕ) (next : Option ℕ) → ((x t : ℕ) → blocker_of g x ≡ Some t → t < length g.blockers)
    → ((t : ℕ) → next ≡ Some t → t < length g.blockers) → length (unmet g seen) ≤ n → Follows g seen next → IsClosed g (chain_from n g seen next)
chain_closed zero g seen next within inside few follows y v h e = ⊎_elim (λ met. met) all (follows y v h e)
  where
    all : next ≡ Some v → is_among seen v ≡ true
    all f = not_not (is_among seen v) (none_left (λ y. not (is_among seen y)) 0 (length g.blockers) v (omega arith) (omega arith) (omega (arith, inside v f)))
chain_closed (suc n) g seen None within inside few follows y v h e = ⊎_elim (λ met. met) (λ f. absurd (none-some v f)) (follows y v h e)
chain_closed (suc n) g seen (Some t) within inside few follows a b k l =
    by_test (is_among seen t) refl (λ f. chain_closed n g (seen ++ t ∷ []) (blocker_of g t) within (λ v e. within t v e) (omega (arith, fewer_unmet g seen t (inside t refl) f)) (λ y v h e. on y v h e (cases_eq y t))) a b k l
  where
    on : (y v : ℕ) → is_among (seen ++ t ∷ []) y ≡ true → blocker_of g y ≡ Some v → (y ≡ t) ⊎ (y ≢ t) → (is_among (seen ++ t ∷ []) v ≡ true) ⊎ (blocker_of g t ≡ Some v)
    on y v h e (inl same) = inr (sym (ap (blocker_of g) same) ∙ e)
    on y v h e (inr ne) = ⊎_elim old (λ k. absurd (ne (sym (only t y k)))) (or_cases (is_among seen y) (is_among (t ∷ []) y) (sym (among_append seen (t ∷ []) y) ∙ h))
      where
        old : is_among seen y ≡ true → (is_among (seen ++ t ∷ []) v ≡ true) ⊎ (blocker_of g t ≡ Some v)
        old k =
            ⊎_elim (λ met. inl (among_append seen (t ∷ []) v ∙ or_left (is_among seen v) (is_among (t ∷ []) v) met))
            (λ f. let same : t ≡ v = cc in inl (among_append seen (t ∷ []) v ∙ or_right (is_among seen v) (is_among (t ∷ []) v) (ap (is_among (t ∷ [])) (sym same) ∙ itself t)))
            (follows y v k e)

    by_test : (b : Bool) → is_among seen t ≡ b → (is_among seen t ≡ false → IsClosed g (chain_from n g (seen ++ t ∷ []) (blocker_of g t)))
        → IsClosed g (cond b seen (chain_from n g (seen ++ t ∷ []) (blocker_of g t)))
    by_test true f rest y v h e = ⊎_elim (λ met. met) (λ k. let same : t ≡ v = cc in ap (is_among seen) (sym same) ∙ f) (follows y v h e)
    by_test false f rest y v h e = rest f y v h e

chain_keeps : (n : ℕ) (g : Graph) (seen : List ℕ) (next : Option ℕ) (y : ℕ) → is_among seen y ≡ true → is_among (chain_from n g seen next) y ≡ true
chain_keeps zero g seen next y h = h
chain_keeps (suc n) g seen None y h = h
chain_keeps (suc n) g seen (Some t) y h =
    by_test (is_among seen t) (chain_keeps n g (seen ++ t ∷ []) (blocker_of g t) y (among_append seen (t ∷ []) y ∙ or_left (is_among seen y) (is_among (t ∷ []) y) h))
  where
    by_test : (b : Bool) → is_among (chain_from n g (seen ++ t ∷ []) (blocker_of g t)) y ≡ true → is_among (cond b seen (chain_from n g (seen ++ t ∷ []) (blocker_of g t))) y ≡ true
    by_test true r = h
    by_test false r = r

-- a thread stands in its own chain
chain_first : (g : Graph) (u : ℕ) → u < length g.blockers → is_among (chain g u) u ≡ true
chain_first g u h = by_length (length g.blockers) refl
  where
    by_length : (n : ℕ) → length g.blockers ≡ n → is_among (chain_from n g [] (Some u)) u ≡ true
    by_length zero e = absurd (omega arith)
    by_length (suc n) e = chain_keeps n g (u ∷ []) (blocker_of g u) u (itself u)

-- whom the chain of one of these meets is one of these, where they are closed
closed_on : (k : ℕ) (g : Graph) (seen : List ℕ) (x y : ℕ) → IsClosed g seen → is_among seen y ≡ true → meets_in k g x y ≡ true → is_among seen x ≡ true
closed_on zero g seen x y closed h r = ap (is_among seen) (only x y r) ∙ h
closed_on (suc k) g seen x y closed h r =
    ⊎_elim (λ m. ap (is_among seen) (only x y m) ∙ h) (further (λ v i m. closed_on k g seen x v closed i m)) (or_cases (is_among (x ∷ []) y) (hits_on (λ v. meets_in k g x v) (blocker_of g y)) r)
  where
    further : ((v : ℕ) → is_among seen v ≡ true → meets_in k g x v ≡ true → is_among seen x ≡ true) → hits_on (λ v. meets_in k g x v) (blocker_of g y) ≡ true → is_among seen x ≡ true
    further again m =
        let w = went_on (λ v. meets_in k g x v) (blocker_of g y) m in
        again w.0 (closed y w.0 h w.1) w.2

length-unmet : (g : Graph) → length (unmet g []) ≤ length g.blockers
length-unmet g = all 0 (length g.blockers)
  where
    all : (a n : ℕ) → length (filter (λ y. not (is_among [] y)) (range_with_len a n)) ≤ n
    all a zero = omega arith
    all a (suc n) = omega (arith, all (a + 1) n)

-- whom the chain of a thread meets stands in it
pub in_chain : (g : Graph) (u x : ℕ) → ((x t : ℕ) → blocker_of g x ≡ Some t → t < length g.blockers) → u < length g.blockers → reaches g x u ≡ true → is_among (chain g u) x ≡ true
in_chain g u x within h r =
    closed_on (length g.blockers) g (chain g u) x u
    (chain_closed (length g.blockers) g [] (Some u) within (λ t e. let same : u ≡ t = cc in rw (← same) h) (length-unmet g) (λ y v k e. absurd (false≢true k)))
    (chain_first g u h) r

pub graph_size : (o : Ownership) → length (graph_in o).blockers ≡ length o.members
graph_size o = length-map_range (blocker_in o) 0 (length o.members)

-- whether the chain of a thread meets another one, by the tables
abbrev pub leads : Ownership → ℕ → ℕ → Bool
leads o u x = reaches (graph_in o) x u

pub leads_itself : (o : Ownership) (u : ℕ) → leads o u u ≡ true
leads_itself o u = reaches_itself (graph_in o) u

pub leads_on : (o : Ownership) (u x t : ℕ) → IsSound o → leads o u x ≡ true → blocker_in o x ≡ Some t → leads o u t ≡ true
leads_on o u x t s h e =
    let small : t < length (graph_in o).blockers = omega (arith, graph_size o, blocker_within o x t s e) in
    sym (stable (graph_in o) t small u) ∙ one_more (length (graph_in o).blockers) (graph_in o) x t u (blocker_same o x ∙ e) h

-- how many in the chain of a thread have a less urgent number than this one
abbrev pub urgent_left : Ownership → ℕ → List ℕ → ℕ → ℕ
urgent_left o u numbers number = length (filter (λ y. leads o u y && nat_lt number (slice_index numbers y)) (range_with_len 0 (length o.members)))

-- one fewer after a step of the walk
pub fewer_left : (o : Ownership) (u : ℕ) (numbers : List ℕ) (x number : ℕ) → leads o u x ≡ true → number < slice_index numbers x → x < length o.members → length numbers ≡ length o.members
    → urgent_left o u (slice_set numbers x number) number < urgent_left o u numbers number
fewer_left o u numbers x number h above inside places =
    ⊎_elim (λ same. absurd (false≢true (sym after ∙ sym (same x (omega arith) (omega arith)) ∙ before))) (λ less. less)
    (grows (λ y. leads o u y && nat_lt number (slice_index (slice_set numbers x number) y)) (λ y. leads o u y && nat_lt number (slice_index numbers y)) 0 (length o.members) (λ y f. weaker y f (cases_eq y x)))
  where
    place : x < length numbers
    place = omega (arith, places)

    before : (leads o u x && nat_lt number (slice_index numbers x)) ≡ true
    before = and_from (leads o u x) (nat_lt number (slice_index numbers x)) h (lt-ltb number (slice_index numbers x) above)

    after : (leads o u x && nat_lt number (slice_index (slice_set numbers x number) x)) ≡ false
    after =
        ap (λ a. leads o u x && nat_lt number a) (get_or-set_same numbers x number 0 place)
        ∙ ap (λ b. b && nat_lt number number) h ∙ le-ltb number number (omega arith)

    weaker : (y : ℕ) → (leads o u y && nat_lt number (slice_index (slice_set numbers x number) y)) ≡ true → (y ≡ x) ⊎ (y ≢ x) → (leads o u y && nat_lt number (slice_index numbers y)) ≡ true
    weaker y f (inl e) = ap (λ v. leads o u v && nat_lt number (slice_index numbers v)) e ∙ before
    weaker y f (inr ne) = sym (ap (λ a. leads o u y && nat_lt number a) (get_or-set_other numbers x y number 0 ne)) ∙ f

-- no more than the weight of a moment
sum_more : (f : ℕ → ℕ) (xs : List ℕ) → ((x : ℕ) → 1 ≤ f x) → length xs ≤ sum_by f xs
sum_more f [] each = omega arith
sum_more f (x ∷ xs) each = omega (arith, sum_by-cons f x xs, each x, sum_more f xs each)

pub any_of : (p : ℕ → Bool) (us : List ℕ) (u : ℕ) → is_among us u ≡ true → p u ≡ true → list_any p us ≡ true
any_of p [] u h e = absurd (false≢true h)
any_of p (v ∷ us) u h e =
    ⊎_elim (λ k. let same : v ≡ u = only v u (or_left (eqb v u) false k) in or_left (p v) (list_any p us) (ap p same ∙ e))
    (λ k. or_right (p v) (list_any p us) (any_of p us u k e))
    (or_cases (eqb v u) (is_among us u) h)

pub left_weight : (o : Ownership) (touched : List ℕ) (u : ℕ) (numbers : List ℕ) (number : ℕ) → IsSound o → is_among touched u ≡ true → u < length o.members
    → urgent_left o u numbers number ≤ moment_weight o touched
left_weight o touched u numbers number s among h =
    omega (
      arith,
      filter_le (λ y. leads o u y && nat_lt number (slice_index numbers y)) (λ t. list_any (λ u. is_among (chain (graph_in o) u) t) touched) 0 (length o.members) weaker,
      sum_more (weight_of o) (concerned_threads o touched) (λ x. omega arith),
    )
  where
    small : u < length (graph_in o).blockers
    small = omega (arith, graph_size o)

    within : (x t : ℕ) → blocker_of (graph_in o) x ≡ Some t → t < length (graph_in o).blockers
    within x t e = omega (arith, graph_size o, blocker_within o x t s (sym (blocker_same o x) ∙ e))

    first : (a b : Bool) → (a && b) ≡ true → a ≡ true
    first true b f = refl
    first false b f = f

    weaker : (x : ℕ) → (leads o u x && nat_lt number (slice_index numbers x)) ≡ true → list_any (λ u. is_among (chain (graph_in o) u) x) touched ≡ true
    weaker x f = any_of (λ v. is_among (chain (graph_in o) v) x) touched u among (in_chain (graph_in o) u x within small (first (leads o u x) (nat_lt number (slice_index numbers x)) f))

-- the chain of a thread meets another one, if there is one
abbrev pub LeadsBy : Ownership → ℕ → Option ℕ → Type 0
LeadsBy o u None = Unit {0}
LeadsBy o u (Some t) = leads o u t ≡ true

pub leads_some : (o : Ownership) (u : ℕ) (at : Option ℕ) (x : ℕ) → at ≡ Some x → LeadsBy o u at → leads o u x ≡ true
leads_some o u None x e h = absurd (none-some x e)
leads_some o u (Some t) x e h = let same : t ≡ x = cc in ap (leads o u) (sym same) ∙ h

pub leads_next : (o : Ownership) (u x : ℕ) → IsSound o → leads o u x ≡ true → LeadsBy o u (blocker_in o x)
leads_next o u x s h = by_blocker (blocker_in o x) refl
  where
    by_blocker : (b : Option ℕ) → blocker_in o x ≡ b → LeadsBy o u b
    by_blocker None e = tt
    by_blocker (Some t) e = leads_on o u x t s h e

pub leads_start : (o : Ownership) (u : ℕ) (from : Option ℕ) → u < length o.members → ((t : ℕ) → from ≡ Some t → t < length o.members) → LeadsTo o u from → LeadsBy o u from
leads_start o u None h within to = tt
leads_start o u (Some t) h within to =
    let small : t < length (graph_in o).blockers = omega (arith, within t refl, graph_size o) in
    let low : u < length (graph_in o).blockers = omega (arith, graph_size o) in
    sym (reach_among (graph_in o) t u small low) ∙ to

pub leads_back : (o : Ownership) (u : ℕ) (at : Option ℕ) → u < length o.members → ((t : ℕ) → at ≡ Some t → t < length o.members) → LeadsBy o u at → LeadsTo o u at
leads_back o u None h within by = tt
leads_back o u (Some t) h within by =
    let small : t < length (graph_in o).blockers = omega (arith, within t refl, graph_size o) in
    let low : u < length (graph_in o).blockers = omega (arith, graph_size o) in
    reach_among (graph_in o) t u small low ∙ by

-- the chain of a thread leads to itself, and to whom it waits for
pub leads_here : (o : Ownership) (t : ℕ) → t < length o.members → LeadsTo o t (Some t)
leads_here o t h =
    let small : t < length (graph_in o).blockers = omega (arith, graph_size o) in
    reach_among (graph_in o) t t small small ∙ leads_itself o t

pub leads_above : (o : Ownership) (t : ℕ) (above : Option ℕ) → IsSound o → t < length o.members → blocker_in o t ≡ above → LeadsTo o t above
leads_above o t None s h e = tt
leads_above o t (Some u) s h e =
    let small : t < length (graph_in o).blockers = omega (arith, graph_size o) in
    let inside : u < length (graph_in o).blockers = omega (arith, graph_size o, blocker_within o t u s e) in
    reach_among (graph_in o) u t inside small ∙ leads_on o t t u s (leads_itself o t) e

-- the cost of an edit that touches nobody but the thread that a walk begins with
pub from_cost : (o p : Ownership) (from : Option ℕ) (old new : ℕ) → ((t : ℕ) → from ≡ Some t → t < length p.members) → (from ≡ None → new ≡ old)
    → ((touched : List ℕ) (u : ℕ) → is_among touched u ≡ true → u < length p.members → LeadsTo p u from → new ≤ old + (4 * moment_weight p touched + 1))
    → new + 6 ≤ old + 8 * edit_size o p (option_to_list from)
from_cost o p None old new within nobody cost = omega (arith, nobody refl)
from_cost o p (Some t) old new within nobody cost = omega (arith, cost (t ∷ []) t (itself t) (within t refl) (leads_here p t (within t refl)))

pub leads_then : (o : Ownership) (t : ℕ) (from : Option ℕ) (starts : Bool) → t < length o.members → from ≡ then_some starts t → LeadsTo o t from
leads_then o t from true h e = rw e (leads_here o t h)
leads_then o t from false h e = rw e tt
