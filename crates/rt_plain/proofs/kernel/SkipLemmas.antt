-- While a sleep lasts, each tick but its last one changes the moment alone.
use Rattle.std.proofs.Common.{◌≡◌, ◌≢◌, ◌+◌, ◌*◌, ◌≤◌, ◌<◌, ◌∷◌, [], ◌++◌, ℕ, zero, suc, List, Option, Some, None, Bool, true, false, not, ◌||◌, is_some, cond, length, eqb, refl, sym, ap, ◌∙◌, subst, arith, eqb-true, ne_eqb, filter, map, add-zero}
use Rattle.std.specs.List.{AllByRecursion, fold, list_any}
use Rattle.std.proofs.lemmas.Bool.{eqb-false}
use Rattle.rt_plain.specs.PlainBoard.{PlainBoard}
use Rattle.rt_plain.specs.kernel.State.{State, Device, Arriving, Alarm, ArmedRow, is_among}
use Rattle.rt_plain.specs.kernel.Effects.{Effect, no_effect, each_effect, and_then}
use Rattle.rt_plain.specs.kernel.DeviceCalls.{is_sending, is_busy, registered_devices, sent, arrival_effect}
use Rattle.rt_plain.specs.kernel.Due.{due, by_number, due_rows_effect}
use Rattle.rt_plain.specs.kernel.Ticks.{with_slice_used, next_tick_state, alarms_effect, deliveries, transmissions, with_until_halt, tick_effect}
use Rattle.rt_plain.specs.kernel.Sleeps.{first_from, must_end, moments_of, wanted_length, sleep_length, ticks, is_empty}
use Rattle.rt_plain.specs.kernel.Steps.{is_all_idle}
use Rattle.rt_plain.proofs.kernel.ClockLemmas.{back-early}
use Rattle.rt_plain.proofs.kernel.OpenLemmas.{all-reverse}
use Rattle.rt_plain.proofs.TestLemmas.{and-right, not-false, or-left, or-right}

-- before the first number that passes none does
before-first : (test : ℕ → Bool) (bound n k : ℕ) → n ≤ k → k < first_from test bound n (test n) → test k ≡ false
before-first test zero n k low high = absurd (omega (arith, low, high))
before-first test (suc bound) n k low high = by_test (test n) refl high (λ below. before-first test bound (n + 1) k below) where
  by_test : (c : Bool) → test n ≡ c → k < first_from test (suc bound) n c → (n + 1 ≤ k → k < first_from test bound (n + 1) (test (n + 1)) → test k ≡ false) → test k ≡ false
  by_test true is less more = absurd (omega (arith, low, less))
  by_test false is less more = by_place (eqb n k) refl where
    by_place : (c : Bool) → eqb n k ≡ c → test k ≡ false
    by_place true same = subst (λ m. test m ≡ false) (eqb-true n k same) is
    by_place false apart = let off : n ≢ k = eqb-false n k apart in more (omega (arith, low, off)) less

among-append : (xs ys : List ℕ) (n : ℕ) → is_among (xs ++ ys) n ≡ false → (is_among xs n ≡ false) × (is_among ys n ≡ false)
among-append [] ys n is = (refl, is)
among-append (x ∷ xs) ys n is = by_test (eqb x n) is (among-append xs ys n) where
  by_test : (c : Bool) → c || is_among (xs ++ ys) n ≡ false → (is_among (xs ++ ys) n ≡ false → (is_among xs n ≡ false) × (is_among ys n ≡ false)) → (c || is_among xs n ≡ false) × (is_among ys n ≡ false)
  by_test false rest more = more rest
  by_test true rest more = absurd cc

-- no core runs a thread, so no slice falls
slices-stay : (xs : List (Option ℕ)) (s : State) → list_any is_some xs ≡ false → fold with_slice_used s xs ≡ s
slices-stay [] s none = refl
slices-stay (None ∷ xs) s none = slices-stay xs s none
slices-stay (Some t ∷ xs) s none = absurd cc

-- what none has at n
filter-none : {X : Type 0} (key : X → ℕ) (n : ℕ) (xs : List X) → is_among (map key xs) n ≡ false → (filter (λ x. eqb (key x) n) xs ≡ []) × (filter (λ x. not (eqb (key x) n)) xs ≡ xs)
filter-none key n [] none = (refl, refl)
filter-none {X = X} key n (x ∷ xs) none = by_test (eqb (key x) n) none (filter-none key n xs) where
  by_test : (c : Bool) → c || is_among (map key xs) n ≡ false → (is_among (map key xs) n ≡ false → (filter (λ y. eqb (key y) n) xs ≡ []) × (filter (λ y. not (eqb (key y) n)) xs ≡ xs))
      → (cond c (x ∷ filter (λ y. eqb (key y) n) xs) (filter (λ y. eqb (key y) n) xs) ≡ []) × (cond (not c) (x ∷ filter (λ y. not (eqb (key y) n)) xs) (filter (λ y. not (eqb (key y) n)) xs) ≡ x ∷ xs)
  by_test true rest more = absurd cc
  by_test false rest more = let tail : (filter (λ y. eqb (key y) n) xs ≡ []) × (filter (λ y. not (eqb (key y) n)) xs ≡ xs) = more rest in (tail.0, ap (λ (ys : List X). x ∷ ys) tail.1)

-- nobody sends
sent-none : (device : Device) (s : State) → is_sending device ≡ false → sent device s ≡ no_effect s
sent-none device s none = rw none refl

sends-none : (devices : List Device) (s : State) → AllByRecursion (λ (d : Device). is_sending d ≡ false) devices → each_effect sent devices s ≡ no_effect s
sends-none [] s none = refl
sends-none (device ∷ devices) s none = rw (sent-none device s none.0, sends-none devices s none.1) refl

none-sending : (devices : List Device) → list_any is_sending devices ≡ false → AllByRecursion (λ (d : Device). is_sending d ≡ false) devices
none-sending [] none = tt
none-sending (device ∷ devices) none = (or-left (is_sending device) _ none, none-sending devices (or-right (is_sending device) _ none))

chain-none : (a : Effect) (d t : State → Effect) (u : State → State) (s : State) → a ≡ no_effect s → d s ≡ no_effect s → t s ≡ no_effect s → u s ≡ s → and_then (and_then (and_then a d) t) (λ r. no_effect (u r)) ≡ no_effect s
chain-none a d t u s one two three four = rw (one, two, three, four) refl

-- nothing is to happen at this moment
record IsFreeTick (b : PlainBoard) (s : State) : Type 0 where
  undue : is_among (map (λ (row : ArmedRow Alarm). row.due) s.armed) s.moment ≡ false
  nothing : is_among (map (λ (a : Arriving). a.moment) s.arrivals) s.moment ≡ false
  early : eqb s.moment b.until ≡ false
  silent : list_any is_sending s.devices ≡ false

alarms-none : (b : PlainBoard) (s : State) → IsFreeTick b s → alarms_effect b s ≡ no_effect s
alarms-none b s free = subst (λ (rows : List (ArmedRow Alarm)). due_rows_effect b (length rows) rows s ≡ no_effect s) (sym none) refl where
  none : due s ≡ []
  none = ap by_number (filter-none (λ (row : ArmedRow Alarm). row.due) s.moment s.armed free.undue).0

deliveries-none : (b : PlainBoard) (s : State) → IsFreeTick b s → deliveries s ≡ no_effect s
deliveries-none b s free =
    let both : (filter (λ (a : Arriving). eqb a.moment s.moment) s.arrivals ≡ []) × (filter (λ (a : Arriving). not (eqb a.moment s.moment)) s.arrivals ≡ s.arrivals) = filter-none (λ (a : Arriving). a.moment) s.moment s.arrivals free.nothing in
    subst (λ (arrivals : List Arriving). each_effect arrival_effect arrivals (record s { arrivals = filter (λ (a : Arriving). not (eqb a.moment s.moment)) s.arrivals }) ≡ no_effect s) (sym both.0) (ap (λ (arrivals : List Arriving). no_effect (record s { arrivals = arrivals })) both.1)

transmissions-none : (b : PlainBoard) (s : State) → IsFreeTick b s → transmissions s ≡ no_effect s
transmissions-none b s free = sends-none (registered_devices s) s (all-reverse (λ (d : Device). is_sending d ≡ false) s.devices (none-sending s.devices free.silent))

until-none : (b : PlainBoard) (s : State) → IsFreeTick b s → with_until_halt b s ≡ s
until-none b s free = rw free.early refl

tick-none : (b : PlainBoard) (s : State) → list_any is_some s.running ≡ false → IsFreeTick b (record s { moment = s.moment + 1 }) → tick_effect b s ≡ no_effect (record s { moment = s.moment + 1 })
tick-none b s idle free =
    let later : State = record s { moment = s.moment + 1 } in
    chain-none (alarms_effect b (next_tick_state s)) deliveries transmissions (with_until_halt b) later
    (subst (λ (u : State). alarms_effect b u ≡ no_effect later) (sym (slices-stay s.running later idle)) (alarms-none b later free)) (deliveries-none b later free) (transmissions-none b later free) (until-none b later free)

-- the moments of a sleep that are still ahead
abbrev pub IsFreeFor : PlainBoard → State → ℕ → Type 0
IsFreeFor b s n = (k : ℕ) → 1 ≤ k → k ≤ n → is_among (moments_of b s) (s.moment + k) ≡ false

free-next : (b : PlainBoard) (s : State) → is_busy s ≡ false → is_among (moments_of b s) (s.moment + 1) ≡ false → IsFreeTick b (record s { moment = s.moment + 1 })
free-next b s silent free =
    let dues : List ℕ = map (λ (row : ArmedRow Alarm). row.due) s.armed in
    let comes : List ℕ = map (λ (a : Arriving). a.moment) s.arrivals in
    let last : (is_among (dues ++ comes) (s.moment + 1) ≡ false) × (is_among (b.until ∷ []) (s.moment + 1) ≡ false) = among-append (dues ++ comes) (b.until ∷ []) (s.moment + 1) free in
    let both : (is_among dues (s.moment + 1) ≡ false) × (is_among comes (s.moment + 1) ≡ false) = among-append dues comes (s.moment + 1) last.0 in
    let apart : b.until ≢ s.moment + 1 = eqb-false b.until (s.moment + 1) (or-left (eqb b.until (s.moment + 1)) false last.1) in
    record { undue = both.0; nothing = both.1; early = ne_eqb (s.moment + 1) b.until (λ e. apart (sym e)); silent = silent }

-- ticks that follow another action
abbrev ticks_from : PlainBoard → ℕ → Effect → Effect
ticks_from b n e = let f = ticks b n e.state in record { state = f.state; lines = e.lines ++ f.lines }

-- a tick before the last one of a sleep, and what is left of the sleep after it
pub free-tick : (b : PlainBoard) (n : ℕ) (s : State) → list_any is_some s.running ≡ false → is_busy s ≡ false → IsFreeFor b s (suc n) → tick_effect b s ≡ no_effect (record s { moment = s.moment + 1 })
free-tick b n s idle silent free = tick-none b s idle (free-next b s silent (free 1 (omega arith) (omega arith)))

pub free-later : (b : PlainBoard) (n : ℕ) (s : State) → IsFreeFor b s (suc n) → IsFreeFor b (record s { moment = s.moment + 1 }) n
free-later b n s free k low high = subst (λ m. is_among (moments_of b s) m ≡ false) moved (free (k + 1) (omega arith) (omega (arith, high))) where
  moved : s.moment + (k + 1) ≡ s.moment + 1 + k
  moved = omega arith

skip : (b : PlainBoard) (n : ℕ) (s : State) → list_any is_some s.running ≡ false → is_busy s ≡ false → IsFreeFor b s n → ticks b n s ≡ no_effect (record s { moment = s.moment + n })
skip b zero s idle silent free = rw (add-zero s.moment) refl
skip b (suc n) s idle silent free =
    let later : State = record s { moment = s.moment + 1 } in
    let total : s.moment + 1 + n ≡ s.moment + suc n = omega arith in
    ap (ticks_from b n) (free-tick b n s idle silent free) ∙ skip b n later idle silent (free-later b n s free) ∙ ap (λ (t : ℕ). no_effect (record s { moment = t })) total

-- a sleep is no longer than wanted
length-wanted : (b : PlainBoard) (s : State) → sleep_length b s ≤ wanted_length b s
length-wanted b s = omega (arith, back-early b.lp_h b.lp_q (s.moment + wanted_length b s))

-- within a sleep's length nothing is to happen
pub free-sleep : (b : PlainBoard) (n : ℕ) (s : State) → n < sleep_length b s → IsFreeFor b s n
free-sleep b n s short k low high = or-left (is_among (moments_of b s) (s.moment + k)) (eqb k b.lpmax) (before-first (must_end (moments_of b s) b.lpmax s.moment) b.lpmax 1 k low (omega (arith, high, short, length-wanted b s)))

-- nobody runs
pub none-running : (s : State) → is_all_idle s ≡ true → list_any is_some s.running ≡ false
none-running s idle = not-false (list_any is_some s.running) (and-right (is_empty s.ready) _ idle)

pub skipped-ticks : (b : PlainBoard) (n : ℕ) (s : State) → is_all_idle s ≡ true → is_busy s ≡ false → n < sleep_length b s → ticks b n s ≡ no_effect (record s { moment = s.moment + n })
skipped-ticks b n s idle silent short = skip b n s (none-running s idle) silent (free-sleep b n s short)
