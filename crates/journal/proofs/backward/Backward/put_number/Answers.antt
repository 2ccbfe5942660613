use Rattle.std.proofs.Common.{◌≡◌, ◌+◌, ◌-◌, ◌≤◌, ◌<◌, length, drop, decimal, ap, sym, arith, ℕ, ◌∙◌}
use Rattle.std.proofs.lemmas.List.{length-drop, length-append}
use Rattle.std.proofs.lemmas.Fmt.{length-decimal-le}
use Rattle.journal.proofs.backward.Backward.put_number.Goals as goal

-- the digits of a number of 64 bits are at most 20, and there is room for them
pub write_digits-self-inside-requires : goal.write_digits-self-inside-requires
write_digits-self-inside-requires c =
    let few = length-decimal-le 20 c.args.n (omega arith) (omega (arith, c.ranges.n.fits)) c.ranges.n.fits in
    let left = length-drop c.self.inside.start c.self.inside.bytes in (omega (arith, few, left, c.requires, c.self.invariant, ap length c.self.view_is), omega (arith, c.self.invariant))

pub returns-clause-short : goal.returns-clause-short
returns-clause-short c =
    let few = length-decimal-le 20 c.args.n (omega arith) (omega (arith, c.ranges.n.fits)) c.ranges.n.fits in
    omega (arith, few, ap length c.write_digits-self-inside.ensures.written, length-append (decimal c.args.n) (drop c.self.inside.start c.self.inside.bytes), ap length c.self.view_is)
