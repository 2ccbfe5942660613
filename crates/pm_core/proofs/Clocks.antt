-- What a clock keeps, as its moment goes on.
use Rattle.std.proofs.Common.{◌⊎◌, inl, inr, ◌≡◌, ℕ, ◌+◌, ◌-◌, ◌*◌, ◌/◌, ◌%◌, ◌<◌, ◌≤◌, sym, ap, ◌∙◌, arith}
use Rattle.std.proofs.lemmas.Nat.{div-add-mod', div-mul-add, mod-mul-add, mul-le, mod_below}
use Rattle.std.proofs.lemmas.Bool.{cases_lt}
use Rattle.std.proofs.lemmas.Grind.{div_ceil_times}
use Rattle.std.specs.Int.{div_ceil}
use native.Mathlib.Nat.{add-mul, one-mul, mul-div_cancel, mul-mod_left}
use Rattle.pm_core.specs.Clock.{Clock, moment_of, IsRunning}
use Rattle.rt_plain.specs.kernel.LpClock.{count_at, remainder_at, back}

-- a product that lacks less than one factor of the last one
quotient : (at late h left whole : ℕ) → 1 ≤ h → at * h ≡ whole + left → left ≤ late * h → late * h < left + h → whole / h ≡ at - late
quotient at late h left whole some e low high =
    let under : late ≤ at = not_over (cases_lt at late) in
    let apart : (at - late) * h + late * h ≡ at * h = sym (add-mul (at - late) late h) ∙ ap (λ n. n * h) (let back : at - late + late ≡ at = omega arith in back) in
    let split : whole ≡ (at - late) * h + (late * h - left) = omega (arith, apart, e, low) in
    ap (λ n. n / h) split ∙ div-mul-add (at - late) h (late * h - left) (omega (arith, low, high, some))
  where
    not_over : (at < late) ⊎ (late ≤ at) → late ≤ at
    not_over (inl less) = let more : (at + 1) * h ≤ late * h = mul-le (at + 1) h late h (omega (arith, less)) (omega arith) in omega (arith, more, add-mul at 1 h, one-mul h, e, high)
    not_over (inr le) = le

module _ (h q count rem : ℕ) (c : IsRunning h q count rem) where
  -- the moment's parts of a count are those that the clock keeps
  pub moment-parts : moment_of h q count rem * h ≡ count * q + rem
  moment-parts =
      let whole = c.whole_ticks in
      omega (arith, div-add-mod' (count * q + rem) h, whole)

  pub count-is : count_at h q (moment_of h q count rem) ≡ count
  count-is = ap (λ n. n / q) moment-parts ∙ div-mul-add count q rem c.less_than_one

  pub rem-is : remainder_at h q (moment_of h q count rem) ≡ rem
  rem-is = ap (λ n. n % q) moment-parts ∙ mod-mul-add count q rem c.less_than_one

  -- so many ticks ahead they are those counts and parts, with what these ticks make
  pub parts-ahead : (ahead parts : ℕ) → parts ≡ rem + ahead * h → (moment_of h q count rem + ahead) * h ≡ (count + parts / q) * q + parts % q
  parts-ahead ahead parts is =
      omega (arith, add-mul (moment_of h q count rem) ahead h, moment-parts, is, add-mul count (parts / q) q, div-add-mod' parts q)

  pub count-ahead : (ahead parts : ℕ) → parts ≡ rem + ahead * h → count_at h q (moment_of h q count rem + ahead) ≡ count + parts / q
  count-ahead ahead parts is =
      ap (λ n. n / q) (parts-ahead ahead parts is) ∙ div-mul-add (count + parts / q) q (parts % q) (mod_below parts q c.some_ticks)

  -- the last whole count is at the last moment but for those that its rest takes
  pub back-ahead : (ahead parts : ℕ) → parts ≡ rem + ahead * h → back h q (moment_of h q count rem + ahead) ≡ moment_of h q count rem + ahead - div_ceil (parts % q) h
  back-ahead ahead parts is =
      let at = moment_of h q count rem + ahead in
      let left = parts % q in
      let late = div_ceil left h in
      let around = div_ceil_times left h c.some_counts in
      let e : at * h ≡ (count + parts / q) * q + left = parts-ahead ahead parts is in
      ap (λ n. n * q / h) (count-ahead ahead parts is) ∙ quotient at late h left ((count + parts / q) * q) c.some_counts e around.0 around.1

  -- and after so many ticks the clock runs on
  pub moment-later : (ahead parts : ℕ) → parts ≡ rem + ahead * h → moment_of h q (count + parts / q) (parts % q) ≡ moment_of h q count rem + ahead
  moment-later ahead parts is =
      ap (λ n. n / h) (sym (parts-ahead ahead parts is)) ∙ mul-div_cancel (moment_of h q count rem + ahead) c.some_counts

  pub runs-on : (ahead parts : ℕ) → parts ≡ rem + ahead * h → moment_of h q count rem + ahead < 2199023255552 → IsRunning h q (count + parts / q) (parts % q)
  runs-on ahead parts is early = record {
    some_counts = c.some_counts;
    few_counts = c.few_counts;
    some_ticks = c.some_ticks;
    few_ticks = c.few_ticks;
    less_than_one = mod_below parts q c.some_ticks;
    whole_ticks = ap (λ n. n % h) (sym (parts-ahead ahead parts is)) ∙ mul-mod_left (moment_of h q count rem + ahead) h;
    early = omega (arith, moment-later ahead parts is, early);
  }

  -- what it has made so many ticks ahead, as contracts see the clock
  pub parts-now : (k : Clock) → (let inside : Clock = record { h = h; q = q; moment = moment_of h q count rem } in inside) ≡ k
      → (ahead parts : ℕ) → parts ≡ remainder_at k.h k.q k.moment + ahead * k.h → parts ≡ rem + ahead * h
  parts-now k is ahead parts e =
      e ∙ ap (λ (c : Clock). remainder_at c.h c.q c.moment + ahead * c.h) (sym is) ∙ ap (λ n. n + ahead * h) rem-is
