-- What the words of a row say, by what was read of its fields.
use Rattle.std.proofs.Common.{◌≡◌, ℕ, List, Result, sym, ap, ◌∙◌}
use Rattle.rt_plain.specs.declared.why.Why.{Why}
use Rattle.rt_plain.specs.declared.kind.StatementKind.{StatementKind}
use Rattle.rt_plain.specs.declared.kind.LineKind.{LineKind}
use Rattle.rt_plain.specs.declared.kind.TraceKind.{TraceKind}
use Rattle.rt_plain.specs.text.Fields.{result_map}
use Rattle.rt_plain.specs.text.FieldLists.{both, values_in, ended}
use Rattle.rt_plain.specs.text.Tails.{tail_in}
use Rattle.rt_plain.specs.text.StatementTable.{StatementValues, statement_row, statement_made, statement_in}
use Rattle.rt_plain.specs.text.LineTable.{LineValues, line_row}
use Rattle.rt_plain.specs.text.LineTable.{line_made as board_line_made, line_in as board_line_in}
use Rattle.rt_plain.specs.text.TraceRows.{TraceValues, trace_form, line_made, line_in}

-- equal readings of two fields
pub both-same : {A B : Type 0} {a x : Result A Why} {b y : Result B Why} → a ≡ x → b ≡ y → both a b ≡ both x y
both-same {A} {B} {a} {x} {b} {y} e f = ap (λ (t : Result A Why). both t b) e ∙ ap (λ (t : Result B Why). both x t) f

-- a statement
pub statement-read : (levels : ℕ) (ws : List (List ℕ)) (kind k : StatementKind) (v : Result (StatementValues levels k) Why) → kind ≡ k → v ≡ values_in ended (statement_row levels k).fields 1 ws → result_map (statement_made levels k) v ≡ statement_in levels ws kind
unfolding statement_in
statement-read levels ws kind k v is read =
    ap (result_map (statement_made levels k)) read ∙ ap (λ (k : StatementKind). statement_in levels ws k) (sym is)

-- a line of a board
pub board-line-read : (levels : ℕ) (ws : List (List ℕ)) (kind k : LineKind) (v : Result (LineValues levels k) Why) → kind ≡ k → v ≡ values_in (tail_in levels (line_row levels k).tail) (line_row levels k).fields 1 ws → board_line_in levels ws kind ≡ result_map (board_line_made levels k) v
unfolding board_line_in
board-line-read levels ws kind k v is read =
    ap (λ (k : LineKind). board_line_in levels ws k) is ∙ ap (result_map (board_line_made levels k)) (sym read)

-- a line of a trace
pub line-read : (ws : List (List ℕ)) (kind k : TraceKind) (v : Result (TraceValues k) Why) → kind ≡ k → v ≡ values_in ended (trace_form k).fields 1 ws → result_map (line_made k) v ≡ line_in ws kind
unfolding line_in
line-read ws kind k v is read =
    ap (result_map (line_made k)) read ∙ ap (λ (k : TraceKind). line_in ws k) (sym is)
