-- The length that a count finds, from the least of its moments.
use Rattle.std.proofs.Common.{eq-eqb, ◌≡◌, ℕ, zero, suc, ◌+◌, ◌-◌, ◌<◌, ◌≤◌, Bool, true, false, ◌==◌, List, ◌∷◌, [], ◌++◌, min, append_assoc, Option, None, unwrap_or, refl, ◌∙◌, arith, subst, ◌⊎◌, inl, inr, get_or, Some}
use Rattle.std.proofs.lemmas.Bool.{cases_lt, ne_eqb, or_from, or_left, or_right}
use Rattle.std.proofs.Math.Nat.{eq-or-lt_of_le}
use Rattle.std.proofs.lemmas.List.Elements.{All-weaker, All-append, All-cons, All-nil, Contains-append_left, Contains-append_right}
use Rattle.std.proofs.lemmas.List.Folds.{list_any_none, list_any_at}
use Rattle.std.specs.List.{All, Contains}
use Rattle.std.specs.Option.{ForSome}
use Rattle.rt_plain.specs.kernel.State.{is_among}
use Rattle.rt_plain.specs.kernel.Sleeps.{first_from, must_end, length_to}
use Rattle.pm_core.specs.Moments.{IsLeastAhead}

-- the least of the numbers, or none where there is none
abbrev IsLeastOf : List ℕ → Option ℕ → Type 0
IsLeastOf ns None = ns ≡ []
IsLeastOf ns (Some n) = Contains ns n × All (λ m. n ≤ m) ns

-- one number of a count, by whether it passes
first_from-step : (test : ℕ → Bool) (bound n d : ℕ) → n ≤ d → (n < d → test n ≡ false) → test d ≡ true → (n < d → first_from test bound (n + 1) (test (n + 1)) ≡ d) → (passes : Bool) → test n ≡ passes → first_from test (suc bound) n passes ≡ d
first_from-step test bound n d low early there rest true is =
    elim (eq-or-lt_of_le low) [ inl same ↦ same | inr below ↦ cc (early below) ]
first_from-step test bound n d low early there rest false is =
    elim (eq-or-lt_of_le low) [ inl same ↦ cc | inr below ↦ rest below ]

-- a count ends at the first number that passes
first_from-first : (test : ℕ → Bool) (bound n d : ℕ) → n ≤ d → d ≤ n + bound → ((k : ℕ) → n ≤ k → k < d → test k ≡ false) → test d ≡ true → first_from test bound n (test n) ≡ d
first_from-first test zero n d low high early there = omega arith
first_from-first test (suc bound) n d low high early there =
    first_from-step test bound n d low (early n (omega arith)) there (λ below. first_from-first test bound (n + 1) d (omega arith) (omega arith) (λ k from to. early k (omega arith) to) there) (test n) refl

-- no moment comes before the least one
is_among-early : (ms : List ℕ) (m n : ℕ) → All (λ x. m ≤ x) ms → n < m → is_among ms n ≡ false
is_among-early ms m n least early =
    list_any_none (λ x. x == n) ms (All-weaker (λ x. m ≤ x) (λ x. (x == n) ≡ false) (λ x from. ne_eqb x n (λ same. omega arith)) ms least)

-- a moment is among the moments
is_among-there : (ms : List ℕ) (m : ℕ) → Contains ms m → is_among ms m ≡ true
is_among-there ms m there =
    list_any_at (λ x. x == m) ms there.0 m there.1 (eq-eqb (get_or ms there.0 m) m there.2)

-- a sleep goes on before the least moment and before the longest sleep ends
must_end-early : (ms : List ℕ) (longest now m n : ℕ) → All (λ x. m ≤ x) ms → now + n < m → n < longest → must_end ms longest now n ≡ false
must_end-early ms longest now m n least early short =
    or_from (is_among ms (now + n)) (n == longest) (is_among-early ms m (now + n) least early) (ne_eqb n longest (λ same. omega arith))

-- it ends at a moment, and with the longest sleep
must_end-there : (ms : List ℕ) (longest now m n : ℕ) → Contains ms m → (now + n ≡ m) ⊎ (n ≡ longest) → must_end ms longest now n ≡ true
must_end-there ms longest now m n there (inl same) =
    or_left (is_among ms (now + n)) (n == longest) (rw same (is_among-there ms m there))
must_end-there ms longest now m n there (inr same) =
    or_right (is_among ms (now + n)) (n == longest) (eq-eqb n longest same)

-- the least of two numbers is one of them
min-cases : (a b now : ℕ) → now < a → (now + min (a - now) b ≡ a) ⊎ (min (a - now) b ≡ b)
min-cases a b now ahead =
    elim (cases_lt (a - now) b) [ inl below ↦ inl (omega arith) | inr above ↦ inr (omega arith) ]

-- a count ends at the least moment, if the longest sleep doesn't end before
pub length_to-least : (ms : List ℕ) (longest now m : ℕ) → now < m → 1 ≤ longest → IsLeastOf ms (Some m) → length_to ms longest now ≡ min (m - now) longest
length_to-least ms longest now m ahead long least =
    first_from-first (must_end ms longest now) longest 1 (min (m - now) longest) (omega arith) (omega arith)
    (λ n from to. must_end-early ms longest now m n least.1 (omega arith) (omega arith))
    (must_end-there ms longest now m (min (m - now) longest) least.0 (min-cases m longest now ahead))

-- the least of one number, and of the numbers of two lists
IsLeastOf-one : (n : ℕ) → IsLeastOf (n ∷ []) (Some n)
IsLeastOf-one n = ((0, omega arith, refl), All-cons (λ m. n ≤ m) n [] (omega arith) (All-nil (λ m. n ≤ m)))

IsLeastOf-append : (ms ns : List ℕ) (m n : ℕ) → IsLeastOf ms (Some m) → IsLeastOf ns (Some n) → IsLeastOf (ms ++ ns) (Some (min n m))
IsLeastOf-append ms ns m n one other = (
  elim (cases_lt n m) [
    | inl below ↦ (let e : n ≡ min n m = omega arith in subst (Contains (ms ++ ns)) e (Contains-append_right ms ns n other.0))
    | inr above ↦ (let e : m ≡ min n m = omega arith in subst (Contains (ms ++ ns)) e (Contains-append_left ms ns m one.0))
  ],
  All-append (λ k. min n m ≤ k) ms ns
      (All-weaker (λ k. m ≤ k) (λ k. min n m ≤ k) (λ k from. omega arith) ms one.1)
      (All-weaker (λ k. n ≤ k) (λ k. min n m ≤ k) (λ k from. omega arith) ns other.1),
)

-- the same where the first list may be empty
IsLeastOf-before : (ms ns : List ℕ) (least : Option ℕ) (n : ℕ) → IsLeastOf ms least → IsLeastOf ns (Some n) → IsLeastOf (ms ++ ns) (Some (min n (unwrap_or least n)))
IsLeastOf-before ms ns None n empty other =
    let e : n ≡ min n n = omega arith in rw (empty, ← e) other
IsLeastOf-before ms ns (Some m) n one other = IsLeastOf-append ms ns m n one other

-- it doesn't matter which of two numbers is looked at first
least-order : (one other : Option ℕ) (n : ℕ) → min (min n (unwrap_or other n)) (unwrap_or one (min n (unwrap_or other n))) ≡ min (min n (unwrap_or one n)) (unwrap_or other n)
least-order None None n = omega arith
least-order None (Some b) n = omega arith
least-order (Some a) None n = omega arith
least-order (Some a) (Some b) n = omega arith

-- the least of the moments of a sleep
IsLeastOf-moments : (dues arrivals : List ℕ) (next_due next_arrival : Option ℕ) (until : ℕ) → IsLeastOf dues next_due → IsLeastOf arrivals next_arrival → IsLeastOf (dues ++ arrivals ++ until ∷ []) (Some (min (min until (unwrap_or next_due until)) (unwrap_or next_arrival until)))
IsLeastOf-moments dues arrivals next_due next_arrival until due arrival =
    rw (append_assoc, ← least-order next_due next_arrival until)
    (IsLeastOf-before dues (arrivals ++ until ∷ []) next_due (min until (unwrap_or next_arrival until)) due
    (IsLeastOf-before arrivals (until ∷ []) next_arrival until arrival (IsLeastOf-one until)))

-- what is so many ticks ahead, as a moment
moment_ahead : ℕ → Option ℕ → Option ℕ
moment_ahead now None = None
moment_ahead now (Some ticks) = Some (now + ticks)

IsLeastOf-ahead : (now : ℕ) (ms : List ℕ) (next : Option ℕ) → IsLeastAhead now ms next → IsLeastOf ms (moment_ahead now next)
unfolding moment_ahead
IsLeastOf-ahead now ms None h = h
IsLeastOf-ahead now ms (Some ticks) h = h

-- the nearest of the moments, and the longest length, by how far ahead they are
nearest : (next_due next_arrival : Option ℕ) (now until longest : ℕ) → 1 ≤ until → ForSome next_due (λ n. 1 ≤ n) → ForSome next_arrival (λ n. 1 ≤ n)
    → let end = min (min (now + until) (unwrap_or (moment_ahead now next_due) (now + until))) (unwrap_or (moment_ahead now next_arrival) (now + until)) in
    (now < end) × (min (end - now) longest ≡ min (min (min longest until) (unwrap_or next_due longest)) (unwrap_or next_arrival longest))
unfolding moment_ahead
nearest None None now until longest some due arrival = (omega arith, omega arith)
nearest None (Some a) now until longest some due arrival = let more = arrival a refl in (omega arith, omega arith)
nearest (Some d) None now until longest some due arrival = let more = due d refl in (omega arith, omega arith)
nearest (Some d) (Some a) now until longest some due arrival = let more = arrival a refl in let too = due d refl in (omega arith, omega arith)

-- the length of a sleep before the clock's counts, computed at once
pub length_to-computed : (dues arrivals : List ℕ) (next_due next_arrival : Option ℕ) (now until longest : ℕ) → 1 ≤ until → ForSome next_due (λ n. 1 ≤ n) → ForSome next_arrival (λ n. 1 ≤ n) → 1 ≤ longest → IsLeastAhead now dues next_due → IsLeastAhead now arrivals next_arrival → length_to (dues ++ arrivals ++ (now + until) ∷ []) longest now ≡ min (min (min longest until) (unwrap_or next_due longest)) (unwrap_or next_arrival longest)
length_to-computed dues arrivals next_due next_arrival now until longest some due_later arrival_later long due arrival =
    let d = moment_ahead now next_due in
    let a = moment_ahead now next_arrival in
    let near = nearest next_due next_arrival now until longest some due_later arrival_later in
    length_to-least (dues ++ arrivals ++ (now + until) ∷ []) longest now (min (min (now + until) (unwrap_or d (now + until))) (unwrap_or a (now + until)))
    near.0 long (IsLeastOf-moments dues arrivals d a (now + until) (IsLeastOf-ahead now dues next_due due) (IsLeastOf-ahead now arrivals next_arrival arrival)) ∙ near.1
