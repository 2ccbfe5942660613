use Rattle.std.proofs.Common.{◌≡◌, ◌+◌, ◌++◌, [], ◌∷◌, length, map, take, decimal}
use Rattle.rt_plain.specs.declared.line.Line.{Line}
use Rattle.rt_plain.specs.kernel.Tables.{table_line, power_columns}
use Rattle.rt_plain.specs.text.Words.{sleep_text}
use Rattle.finsh.proofs.printing.put_votes.Given as goal

abbrev pub invariant-loop-mode : goal.invariant-loop-mode
invariant-loop-mode g l = record {
  items : l.out.items ≡ l.fn.out.items ++ map (λ mode. Line.Print (table_line power_columns (sleep_text mode ∷ decimal (g.V.View.votes_for l.view mode) ∷ []))) (take l.mode-index l.mode-items);
  room : l.out.room ≡ l.fn.out.room;
  count : length l.out.items ≡ length l.fn.out.items + l.mode-index;
}
