use Rattle.std.proofs.Common.{◌≡◌, ◌+◌, ◌++◌, length, map, take}
use Rattle.rt_plain.specs.declared.line.Line.{Line}
use Rattle.rt_plain.specs.kernel.Tables.{table_line, texts}
use Rattle.finsh.specs.Cells.{column_of}
use Rattle.finsh.proofs.printing.put_rows.Given as goal

abbrev pub invariant-loop-place : goal.invariant-loop-place
invariant-loop-place g l = record {
  items : l.out.items ≡ l.initial.out.items ++ map (λ row. Line.Print (table_line (map column_of l.columns) (texts row))) (take l.place (g.V.View.rows l.view l.class));
  room : l.out.room ≡ l.initial.out.room;
  count : length l.out.items ≡ length l.initial.out.items + l.place;
}
