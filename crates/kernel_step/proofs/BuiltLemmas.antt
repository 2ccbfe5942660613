-- What the test of a built board says.
use Rattle.std.proofs.Common.{◌≡◌, ℕ, ◌+◌, ◌*◌, ◌≤◌, length, arith, add-one, suc-mul, mul_comm, sym, ap, subst}
use Rattle.std.proofs.Math.Nat.{mul-le-mul_left}
use Rattle.rt_plain.specs.PlainBoard.{PlainBoard}
use Rattle.rt_plain.specs.runs.Runs.{room}
use Rattle.rt_plain.specs.declared.kind.LineKind.{LineKind}
use Rattle.rt_plain.specs.text.Canon.{IsValid}
use Rattle.rt_plain.proofs.text.ValidLemmas.{valid_grows}
use Rattle.kernel_step.specs.Built.{IsBuilt, IsClocked}

-- a valid board's low-power clock and its longest sleep
pub clocked : (b : PlainBoard) → IsValid b → IsClocked b
clocked b valid =
    let settings = (valid_grows b valid).0 in
    record {
      some_counts = (settings LineKind.LpClock).0.0;
      few_counts = (settings LineKind.LpClock).0.1;
      some_ticks = (settings LineKind.LpClock).1.0.0;
      few_ticks = (settings LineKind.LpClock).1.0.1;
      some_longest = (settings LineKind.LpMax).0.0;
    }

-- the room for one event's lines
pub room-built : (b : PlainBoard) → IsBuilt b → room b ≡ (length b.threads + length b.timers + 1) * (2 * length b.threads + 4) + 5 * (1 + length b.devices) + 300
room-built b built = rw (built.kernel.shell, built.kernel.soft) (ap (λ n. (n + length b.timers + 1) * (2 * n + 4) + 5 * (1 + length b.devices) + 300) plus) where
  plus : 0 + length b.threads ≡ length b.threads
  plus = omega arith

-- which is enough for a statement, and for each row that may fire at a tick behind the lines of a sleep
pub record IsRoomy (b : PlainBoard) : Type 0 where
  pub statement : length b.threads + 2 ≤ room b
  pub rows : 34 + (2 + length b.threads) * (length b.threads + length b.timers) ≤ room b

pub room-enough : (b : PlainBoard) → IsBuilt b → IsRoomy b
room-enough b is = record {
  statement = subst (λ n. length b.threads + 2 ≤ n) (sym (room-built b is)) (statement (length b.threads) (length b.threads + length b.timers) (5 * (1 + length b.devices)));
  rows = subst (λ n. 34 + (2 + length b.threads) * (length b.threads + length b.timers) ≤ n) (sym (room-built b is)) (rows (length b.threads) (length b.threads + length b.timers) (5 * (1 + length b.devices)));
} where
  statement : (n r d : ℕ) → n + 2 ≤ (r + 1) * (2 * n + 4) + d + 300
  statement n r d = omega (arith, add-one r, suc-mul r (2 * n + 4))

  rows : (n r d : ℕ) → 34 + (2 + n) * r ≤ (r + 1) * (2 * n + 4) + d + 300
  rows n r d = omega (arith, mul_comm (2 + n) r, mul-le-mul_left {m = 2 + n} {n = 2 * n + 4} r (omega arith), add-one r, suc-mul r (2 * n + 4))

pub ruleset built_room = (room-built)
