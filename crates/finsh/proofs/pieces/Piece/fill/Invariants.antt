use Rattle.std.proofs.Common.{◌≡◌, ◌++◌, replicate}
use Rattle.finsh.proofs.pieces.Piece.fill.Given as goal

abbrev pub invariant-loop-i : goal.invariant-loop-i
invariant-loop-i l = l.self ≡ l.fn.self ++ replicate l._i 32
