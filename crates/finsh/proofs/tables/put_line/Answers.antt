use Rattle.std.proofs.Common.{arith, ◌≡◌, ◌∙◌, ◌≤◌, ◌<◌, ap, sym, length, map, get_or, min, ◌++◌, ◌∷◌, []}
use Rattle.std.proofs.lemmas.List.{get_or-map, length-map}
use Rattle.rt_plain.specs.declared.line.Line.{Line}
use Rattle.rt_plain.specs.text.Words.{words}
use Rattle.rt_plain.specs.kernel.Tables.{cells}
use Rattle.finsh.specs.Cells.{column_of, cell_text}
use Rattle.finsh.proofs.Joined.{joined_more, joined_room, joined_end, cells_short}
use Rattle.finsh.proofs.tables.put_line.Goals as goal

pub put_cell-requires : goal.put_cell-requires
put_cell-requires c =
    let i = c.loop-place.place in
    let in_columns : i < length c.args.columns.now = omega arith in
    let in_cells : i < length c.args.cells.now = omega arith in
    let cs = map column_of c.args.columns.now in
    let ts = map cell_text c.args.cells.now in
    let text : get_or ts i c.as_slice.result.now ≡ c.as_slice.result.now =
    get_or-map cell_text c.args.cells.now i c.index-cells-place.result c.as_slice.result.now in_cells
    ∙ sym (c.as_slice.ensures.value ∙ c.written.ensures ∙ ap cell_text c.index-cells-place.is) in
    joined_room i c.loop-place.piece (words (cells cs ts)) cs ts _ c.as_slice.result.now
    (omega (arith, length-map c.args.columns.now column_of)) (omega (arith, length-map c.args.cells.now cell_text))
    (get_or-map column_of c.args.columns.now i _ _ in_columns) text c.loop-place.invariant
    (cells_short cs c.args.cells.now c.requires.columns c.requires.cells c.know_cells.ensures)

pub loop-place-preserved : goal.loop-place-preserved
loop-place-preserved c =
    let i = c.loop-place.place in
    let in_columns : i < length c.args.columns.now = omega arith in
    let in_cells : i < length c.args.cells.now = omega arith in
    let cs = map column_of c.args.columns.now in
    let ts = map cell_text c.args.cells.now in
    let text : get_or ts i c.as_slice.result.now ≡ c.as_slice.result.now =
    get_or-map cell_text c.args.cells.now i c.index-cells-place.result c.as_slice.result.now in_cells
    ∙ sym (c.as_slice.ensures.value ∙ c.written.ensures ∙ ap cell_text c.index-cells-place.is) in
    joined_more i c.loop-place.piece c.put_cell.new.piece (words (cells cs ts)) cs ts _ c.as_slice.result.now
    (omega (arith, length-map c.args.columns.now column_of)) (omega (arith, length-map c.args.cells.now cell_text))
    (get_or-map column_of c.args.columns.now i _ _ in_columns) text c.put_cell.ensures c.loop-place.invariant

pub put-requires : goal.put-requires
put-requires c =
    let cs = map column_of c.args.columns.now in
    let ts = map cell_text c.args.cells.now in
    let short : min (length cs) (length ts) ≤ c.loop-place.place = omega (arith, length-map c.args.columns.now column_of, length-map c.args.cells.now cell_text) in
    let whole = joined_end c.loop-place.place c.loop-place.piece (words (cells cs ts)) cs ts short c.loop-place.invariant in
    omega (arith, ap length whole, cells_short cs c.args.cells.now c.requires.columns c.requires.cells c.know_cells.ensures)

pub returns-clause-items : goal.returns-clause-items
returns-clause-items c =
    let cs = map column_of c.args.columns.now in
    let ts = map cell_text c.args.cells.now in
    let short : min (length cs) (length ts) ≤ c.loop-place.place = omega (arith, length-map c.args.columns.now column_of, length-map c.args.cells.now cell_text) in
    let whole = joined_end c.loop-place.place c.loop-place.piece (words (cells cs ts)) cs ts short c.loop-place.invariant in
    c.print.ensures.items ∙ ap (λ bytes. c.args.out.now.items ++ Line.Print bytes ∷ []) (c.put.ensures ∙ ap (λ bytes. bytes ++ 10 ∷ []) whole)
