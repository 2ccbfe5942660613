use Rattle.std.proofs.Common.{◌≤◌, length, get_or, below_more, subst, arith, ◌∙◌}
use Rattle.std.proofs.lemmas.List.{get_or_default}
use Rattle.finsh.specs.declared.cells.Cell.{Cell}
use Rattle.finsh.specs.Cells.{cell_text, room_of}
use Rattle.finsh.proofs.cells.know_cells.Goals as goal

abbrev HasRoom : Cell → Type 0
HasRoom c = length (cell_text c) ≤ room_of c

pub loop-cell-preserved : goal.loop-cell-preserved
loop-cell-preserved c k d =
    below_more (λ j. HasRoom (get_or c.args.cells.now j d)) c.loop-cell.cell-index (λ j h. c.loop-cell.invariant j d h)
    (subst HasRoom (c.cell-item.is ∙ get_or_default c.args.cells.now c.loop-cell.cell-index c.cell-item.result d c.loop-cell-test.true) c.know_cell.ensures) k

pub returns : goal.returns
returns c k d h = c.loop-cell.invariant k d (omega arith)
