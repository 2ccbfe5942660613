use Rattle.std.proofs.Common.{◌≡◌, ◌∙◌, ◌+◌, List, ℕ, Bool, Some, None, cond, length, drop, sym, ap, refl}
use Rattle.core_runner.proofs.ReaderLemmas.{too-short, other-line, last-byte}
use Rattle.core_runner.proofs.trace_lines.stands_first.Goals as goal

pub returns-then-line-bytes-clause-front : goal.returns-then-line-bytes-clause-front
returns-then-line-bytes-clause-front c = too-short c.args.line.now c.args.bytes.now c.if-line-bytes.true

pub returns-then-eq-clause-front : goal.returns-then-eq-clause-front
returns-then-eq-clause-front c = last-byte c.args.line.now c.args.bytes.now c.if-line-bytes.false (sym c.eq.ensures ∙ c.if-eq.true) _ refl

pub returns-else-eq-clause-front : goal.returns-else-eq-clause-front
returns-else-eq-clause-front c =
    other-line c.args.line.now c.args.bytes.now (sym c.eq.ensures ∙ c.if-eq.false)
    ∙ sym (ap (λ (t : Bool). cond t (Some (drop (length c.args.line.now + 1) c.args.bytes.now)) None) c.if-eq.false)
