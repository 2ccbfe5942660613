use Rattle.std.proofs.Common.{◌∙◌, ap, ◌∷◌, [], length, map, arith, length-append}
use Rattle.rt_plain.specs.declared.row.Row.{Row}
use Rattle.rt_plain.specs.declared.line.Line.{Line}
use Rattle.rt_plain.specs.kernel.Tables.{table_line, texts}
use Rattle.finsh.specs.Cells.{column_of}
use Rattle.finsh.proofs.Printed.{one_more, all_rows}
use Rattle.finsh.proofs.printing.put_rows.Goals as goal

pub loop-place-preserved : goal.loop-place-preserved
loop-place-preserved g c =
    let cs = map column_of c.args.columns.now in
    record {
      items = one_more (λ (row : Row). Line.Print (table_line cs (texts row))) _ c.loop-place.place c.row.result c.args.out.now.items c.loop-place.out.items c.put_row.new.out.items
          c.row.ensures c.loop-place.invariant.items c.put_row.ensures.items;
      room = c.put_row.ensures.room ∙ c.loop-place.invariant.room;
      count = omega (arith, ap length c.put_row.ensures.items, length-append c.loop-place.out.items (Line.Print (table_line cs (texts c.row.result)) ∷ []));
    }

pub returns-clause-items : goal.returns-clause-items
returns-clause-items g c =
    all_rows c.args.out.now.items c.loop-place.out.items (λ (row : Row). table_line (map column_of c.args.columns.now) (texts row)) (g.V.View.rows c.args.view.now c.args.class)
    c.loop-place.place (omega arith) c.loop-place.invariant.items
