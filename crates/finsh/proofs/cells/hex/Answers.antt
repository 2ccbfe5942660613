use Rattle.std.proofs.Common.{arith, ◌≡◌, ◌∙◌, ◌-◌, ℕ, ap, sym, drop, length, length-set}
use Rattle.finsh.specs.Cells.{hex_onto}
use Rattle.finsh.proofs.Hex.{eight, next_digit}
use Rattle.finsh.proofs.cells.hex.Goals as goal

pub loop-i-preserved : goal.loop-i-preserved
loop-i-preserved c =
    let long : length c.loop-i.digits ≡ 8 = c.loop-i.invariant.1 in
    (omega arith, length-set c.loop-i.digits (c.loop-i.i - 1) c.glyph.result ∙ long, next_digit (c.loop-i.i - 1) c.loop-i.i c.loop-i.left c.glyph.result c.loop-i.digits (omega arith) (omega arith) c.glyph.ensures ∙ c.loop-i.invariant.2)

pub returns : goal.returns
returns c =
    let none : c.loop-i.i ≡ 0 = omega arith in
    ap (λ (k : ℕ). hex_onto k c.loop-i.left (drop k c.loop-i.digits)) (sym none) ∙ c.loop-i.invariant.2 ∙ eight c.args.n (omega arith)
