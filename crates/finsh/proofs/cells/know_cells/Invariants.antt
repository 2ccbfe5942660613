use Rattle.std.proofs.Common.{ℕ, ◌<◌, ◌≤◌, get_or, length}
use Rattle.finsh.specs.declared.cells.Cell.{Cell}
use Rattle.finsh.specs.Cells.{cell_text, room_of}
use Rattle.finsh.proofs.cells.know_cells.Given as goal

abbrev pub invariant-loop-cell : goal.invariant-loop-cell
invariant-loop-cell l = (k : ℕ) (d : Cell) → k < l.cell-index → length (cell_text (get_or l.cells k d)) ≤ room_of (get_or l.cells k d)
