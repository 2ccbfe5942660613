use Rattle.std.proofs.Common.{◌≡◌, ◌++◌, map}
use Rattle.rt_plain.specs.text.Words.{words}
use Rattle.rt_plain.specs.kernel.Tables.{cells}
use Rattle.finsh.specs.Cells.{column_of, cell_text}
use Rattle.finsh.proofs.Joined.{behind, cells_from}
use Rattle.finsh.proofs.tables.put_line.Given as goal

abbrev pub invariant-loop-place : goal.invariant-loop-place
invariant-loop-place l = l.piece ++ behind l.place (cells_from l.place (map column_of l.columns) (map cell_text l.cells)) ≡ words (cells (map column_of l.columns) (map cell_text l.cells))
