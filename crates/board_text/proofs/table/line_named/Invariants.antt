use Rattle.std.proofs.Common.{◌≡◌, drop}
use Rattle.std.specs.Prelude.{bytes_eq}
use Rattle.std.specs.List.{find}
use Rattle.rt_plain.specs.text.LineTable.{row}
use Rattle.rt_plain.specs.declared.kind.Kind.{Kind}
use Rattle.board_text.proofs.table.line_named.Given as goal

abbrev pub invariant-loop-kind : goal.invariant-loop-kind
invariant-loop-kind l = find (λ k. bytes_eq (row (Kind.Line k)).word l.given) (drop l.kind-index l.kind-items) ≡ find (λ k. bytes_eq (row (Kind.Line k)).word l.given) l.kind-items
