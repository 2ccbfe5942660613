-- What is written of a board, word by word and line by line.
use Rattle.std.specs.Prelude.{ℕ, List, [], ◌∷◌, ◌++◌, Option, map, decimal, codes}
use Rattle.std.specs.List.{flat_map}
use Rattle.rt_plain.specs.declared.board_line.BoardLine.{BoardLine}
use Rattle.rt_plain.specs.declared.stmt.Stmt.{Stmt}
use Rattle.rt_plain.specs.declared.stmt.Call.{Call}
use Rattle.rt_base.specs.declared.codes.Event.{Event}
use Rattle.rt_plain.specs.declared.board.TimerDef.{TimerDef}
use Rattle.rt_plain.specs.text.Fields.{timer_kind_text, either}
use Rattle.rt_plain.specs.text.Words.{words}
use Rattle.rt_plain.specs.text.Texts.{quoted_text, with_newline}
use Rattle.rt_plain.specs.text.FieldLists.{spelled_all, no_words}
use Rattle.rt_plain.specs.text.StatementTable.{statement_row, call_kind, call_values, statement_words}
use Rattle.rt_plain.specs.text.Tails.{timer_call_words, event_text}
use Rattle.rt_plain.specs.text.LineTable.{text_of}
use Rattle.board_show.specs.declared.shown.Shown.{Shown}
use Rattle.board_show.specs.declared.shown.Shown.TheVariants.{Word, Number, Negative, Quoted}

-- the bytes of a word
abbrev pub shown : Shown → List ℕ
shown (Word word) = word.now
shown (Number n) = decimal n
shown (Negative n) = codes "-" ++ decimal n
shown (Quoted text) = quoted_text text.now

-- the words of a call
abbrev pub call_words : Call → List (List ℕ)
call_words c = (statement_row 0 (call_kind c)).word ∷ spelled_all no_words (statement_row 0 (call_kind c)).fields (call_values 0 c)

-- the text of a call
unfoldable pub call_text : Call → List ℕ
call_text c = words (call_words c)

-- the text of a statement, without its indent and its newline
unfoldable pub statement_text : Stmt → List ℕ
statement_text s = words (statement_words s)

-- the text of a timer's call
unfoldable pub timer_call_text : Option Stmt → List ℕ
timer_call_text call = words (timer_call_words call)

-- the text of a line, and its newline
unfoldable pub whole_line : BoardLine → List ℕ
whole_line l = with_newline (text_of l)

-- the text of lines
abbrev pub whole_lines : List BoardLine → List ℕ
whole_lines ls = flat_map whole_line ls

-- the line of an order
abbrev pub order_line : List Event → List ℕ
order_line events = with_newline (words (codes "schedule" ∷ codes "order" ∷ map event_text events))

-- lines behind a text, one after another
abbrev pub line_by_line : List ℕ → List BoardLine → List ℕ
line_by_line text [] = text
line_by_line text (l ∷ ls) = line_by_line (text ++ whole_line l) ls

-- the words of a timer's line before its call
abbrev pub timer_fields : TimerDef → List ℕ
timer_fields t = words (codes "timer" ∷ t.name ∷ timer_kind_text t.kind ∷ decimal t.time ∷ either (codes "auto") (codes "manual") t.started ∷ [])
