use Rattle.std.proofs.Common.{◌≡◌, ◌≤◌, [], drop, length}
use Rattle.finsh.specs.Cells.{hex_onto}
use Rattle.finsh.proofs.cells.hex.Given as goal

abbrev pub invariant-loop-i : goal.invariant-loop-i
invariant-loop-i l = (l.i ≤ 8) × (length l.digits ≡ 8) × (hex_onto l.i l.left (drop l.i l.digits) ≡ hex_onto 8 l.n [])

abbrev pub decreases-loop-i : goal.decreases-loop-i
decreases-loop-i l = l.i
