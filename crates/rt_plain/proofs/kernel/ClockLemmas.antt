-- The moments of the low-power clock's counts.
use Rattle.std.proofs.Common.{ℕ, ◌+◌, ◌-◌, ◌*◌, ◌/◌, ◌≤◌, ◌<◌, arith, suc-mul}
use Rattle.std.proofs.Math.Nat.{div-mul-le_self, div-le_of_le-mul, le-div_iff_mul-le, div-lt_iff_lt-mul, lt-div-mul-add, mul_comm}
use Rattle.rt_plain.specs.kernel.LpClock.{count_at, back, moment_after_counts}

-- the last whole count isn't after the moment
pub back-early : (h q moment : ℕ) → back h q moment ≤ moment
back-early h q moment = div-le_of_le-mul h (omega (arith, div-mul-le_self (moment * h) q, mul_comm moment h))

-- a quotient that is rounded up is at most so much, where it is no more than so many times the divisor
rounded-most : (x h n : ℕ) → 1 ≤ h → x ≤ n * h → (x + (h - 1)) / h ≤ n
rounded-most x h n some most = let below : (x + (h - 1)) / h < n + 1 = (div-lt_iff_lt-mul {k = h} {x = x + (h - 1)} {y = n + 1} (omega (arith, some))).1 (omega (arith, some, most, suc-mul n h)) in omega (arith, below)

-- and so many times the divisor are enough
rounded-enough : (x h : ℕ) → 1 ≤ h → x ≤ (x + (h - 1)) / h * h
rounded-enough x h some = omega (arith, some, lt-div-mul-add {a = x + (h - 1)} {b = h} (omega (arith, some)))

-- at the first moment after counts they are made
pub counts-made : (h q count : ℕ) → 1 ≤ h → 1 ≤ q → count ≤ count_at h q (moment_after_counts h q count)
counts-made h q count clock rate = (le-div_iff_mul-le {k = q} {x = count} {y = moment_after_counts h q count * h} (omega (arith, rate))).1 (rounded-enough (count * q) h clock)

-- and at none before it
pub counts-first : (h q count moment : ℕ) → 1 ≤ h → 1 ≤ q → count ≤ count_at h q moment → moment_after_counts h q count ≤ moment
counts-first h q count moment clock rate made = rounded-most (count * q) h moment clock ((le-div_iff_mul-le {k = q} {x = count} {y = moment * h} (omega (arith, rate))).0 made)
