use Rattle.std.proofs.Common.{◌≡◌, drop}
use Rattle.std.specs.Prelude.{bytes_eq}
use Rattle.std.specs.List.{find}
use Rattle.rt_plain.specs.text.StatementTable.{statement_word}
use Rattle.board_text.proofs.table.statement_named.Given as goal

abbrev pub invariant-loop-kind : goal.invariant-loop-kind
invariant-loop-kind l = find (λ k. bytes_eq (statement_word k) l.given) (drop l.kind-index l.kind-items) ≡ find (λ k. bytes_eq (statement_word k) l.given) l.kind-items
