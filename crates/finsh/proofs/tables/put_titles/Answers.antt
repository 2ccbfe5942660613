use Rattle.std.proofs.Common.{arith, ◌∙◌, ◌≤◌, ◌<◌, ◌++◌, ◌∷◌, [], ap, length, map, min}
use Rattle.std.proofs.lemmas.List.{get_or-map, length-map}
use Rattle.rt_plain.specs.declared.line.Line.{Line}
use Rattle.rt_plain.specs.text.Words.{words}
use Rattle.rt_plain.specs.kernel.Tables.{cells}
use Rattle.finsh.specs.Cells.{column_of}
use Rattle.finsh.proofs.Joined.{joined_more, joined_room, joined_end, titles_short, title_of, titles_at}
use Rattle.finsh.proofs.tables.put_titles.Goals as goal

pub put_cell-requires : goal.put_cell-requires
put_cell-requires c =
    let i = c.loop-place.place in
    let cs = map column_of c.args.columns.now in
    let ts = map title_of cs in
    let in_cs : i < length cs = omega (arith, length-map c.args.columns.now column_of) in
    let column = get_or-map column_of c.args.columns.now i _ _ c.loop-place-test.true in
    joined_room i c.loop-place.piece (words (cells cs ts)) cs ts _ c.title.result.now
    in_cs (omega (arith, length-map cs title_of)) column (titles_at cs i _ _ in_cs column c.title.ensures) c.loop-place.invariant
    (titles_short cs c.requires.columns c.requires.titles)

pub loop-place-preserved : goal.loop-place-preserved
loop-place-preserved c =
    let i = c.loop-place.place in
    let cs = map column_of c.args.columns.now in
    let ts = map title_of cs in
    let in_cs : i < length cs = omega (arith, length-map c.args.columns.now column_of) in
    let column = get_or-map column_of c.args.columns.now i _ _ c.loop-place-test.true in
    joined_more i c.loop-place.piece c.put_cell.new.piece (words (cells cs ts)) cs ts _ c.title.result.now
    in_cs (omega (arith, length-map cs title_of)) column (titles_at cs i _ _ in_cs column c.title.ensures) c.put_cell.ensures c.loop-place.invariant

pub put-requires : goal.put-requires
put-requires c =
    let cs = map column_of c.args.columns.now in
    let ts = map title_of cs in
    let short : min (length cs) (length ts) ≤ c.loop-place.place = omega (arith, length-map c.args.columns.now column_of) in
    let whole = joined_end c.loop-place.place c.loop-place.piece (words (cells cs ts)) cs ts short c.loop-place.invariant in
    omega (arith, ap length whole, titles_short cs c.requires.columns c.requires.titles)

pub returns-clause-items : goal.returns-clause-items
returns-clause-items c =
    let cs = map column_of c.args.columns.now in
    let ts = map title_of cs in
    let short : min (length cs) (length ts) ≤ c.loop-place.place = omega (arith, length-map c.args.columns.now column_of) in
    let whole = joined_end c.loop-place.place c.loop-place.piece (words (cells cs ts)) cs ts short c.loop-place.invariant in
    c.print.ensures.items ∙ ap (λ bytes. c.args.out.now.items ++ Line.Print bytes ∷ []) (c.put.ensures ∙ ap (λ bytes. bytes ++ 10 ∷ []) whole)
