-- A trace as rows, each the text of one line, and what a line says by itself.
use Rattle.std.specs.Prelude.{ℕ, ◌+◌, ◌^◌, ◌≤◌, ◌<◌, Bool, true, false, not, ◌&&◌, ◌==◌, nat_le, List, [], ◌∷◌, ◌++◌, length, map, flat_map, take, drop, Option, Some, None, Result, Ok, Err, decimal, codes, bytes_eq, All, if◌then◌else◌}
use Rattle.std.specs.List.{find, list_all}
use Rattle.rt_base.specs.declared.codes.Event.{Event}
use Rattle.rt_base.specs.declared.codes.Halt.{Halt}
use Rattle.rt_plain.specs.declared.entry.Entry.{Entry}
use Rattle.rt_plain.specs.declared.entry.Cut.{Cut}
use Rattle.rt_plain.specs.declared.kind.TraceKind.{TraceKind}
use Rattle.rt_plain.specs.declared.line.Line.{Line}
use Rattle.rt_plain.specs.declared.why.Why.{Why}
use Rattle.rt_plain.specs.text.Words.{words, halt_text}
use Rattle.rt_plain.specs.text.Texts.{End, line_text, with_newline, at_tick, header}
use Rattle.rt_plain.specs.text.Splits.{word_at, is_printable}
use Rattle.rt_plain.specs.text.Fields.{Field, Number, Named, Quoted, Moded, Placed, Answered, Woken, Acted, Changed, Received, number_in, listed_in, result_map, paired}
use Rattle.rt_plain.specs.text.FieldLists.{Values, Fit, values_in, Always, ended}
use Rattle.rt_plain.specs.text.BoardText.{refused, ◌>>=◌, is_indented, words_behind, first_of}

-- ---- rows

-- one line of a trace
pub data TraceRow : Type 0 where
  Headed : (number : ℕ) → (event : Event) → (tick : ℕ) → TraceRow
  Shown : (line : Line) → TraceRow
  Counted : (counts : List ℕ) → TraceRow
  Ended : (halt : Halt) → (tick : ℕ) → TraceRow

-- the text of a row, without its newline
abbrev pub row_text : TraceRow → List ℕ
row_text (Headed number event tick) = header number event tick
row_text (Shown line) = codes "  " ++ line_text line
row_text (Counted counts) = words (codes "cut" ∷ map decimal counts)
row_text (Ended halt tick) = words (codes "end" ∷ halt_text halt ∷ at_tick tick ∷ [])

-- the text of rows
abbrev pub text_of_rows : List TraceRow → List ℕ
text_of_rows rows = flat_map (λ r. with_newline (row_text r)) rows

-- an entry with its number
abbrev pub entry_rows : ℕ → Entry → List TraceRow
entry_rows n e = Headed n e.event e.tick ∷ map (λ line. Shown line) e.lines

-- entries, of which the first has the number n
abbrev pub entries_rows : ℕ → List Entry → List TraceRow
entries_rows n [] = []
entries_rows n (e ∷ es) = entry_rows n e ++ entries_rows (n + 1) es

-- the entries with the `cut` line behind as many as it says
abbrev pub body_rows : List Entry → Option Cut → List TraceRow
body_rows journal None = entries_rows 1 journal
body_rows journal (Some cut) = entries_rows 1 (take cut.at journal) ++ Counted cut.counts.items ∷ entries_rows (cut.at + 1) (drop cut.at journal)

-- the end line, where there is one
abbrev pub end_rows : Option End → List TraceRow
end_rows None = []
end_rows (Some e) = Ended e.halt e.tick ∷ []

-- the rows of a trace
abbrev pub trace_rows : List Entry → Option Cut → Option End → List TraceRow
trace_rows journal cut end = body_rows journal cut ++ end_rows end

-- ---- the table of the lines of entries

-- the word of a kind of line, and the fields behind it
pub record TraceForm : Type 0 where
  pub word : List ℕ
  pub fields : List Field

-- a row of the table
abbrev form_of : List ℕ → List Field → TraceForm
form_of word fields = record { word = word; fields = fields }

-- the table
abbrev pub trace_form : TraceKind → TraceForm
trace_form TraceKind.Run = form_of (codes "run") (Named ∷ [])
trace_form TraceKind.Out = form_of (codes "out") (Named ∷ Placed ∷ [])
trace_form TraceKind.Done = form_of (codes "do") (Named ∷ Number 0 65535 ∷ Answered ∷ [])
trace_form TraceKind.Again = form_of (codes "again") (Named ∷ Number 0 65535 ∷ Answered ∷ [])
trace_form TraceKind.Wake = form_of (codes "wake") (Named ∷ Woken ∷ [])
trace_form TraceKind.Cur = form_of (codes "prio") (Named ∷ Changed ∷ [])
trace_form TraceKind.Fire = form_of (codes "fire") (Named ∷ Acted ∷ [])
trace_form TraceKind.Timeout = form_of (codes "timeout") (Named ∷ [])
trace_form TraceKind.Rx = form_of (codes "rx") (Named ∷ Received ∷ [])
trace_form TraceKind.Tx = form_of (codes "tx") (Named ∷ Quoted ∷ [])
trace_form TraceKind.Sleep = form_of (codes "sleep") (Moded ∷ Number 0 4294967295 ∷ [])
trace_form TraceKind.Suspend = form_of (codes "suspend") (Named ∷ [])
trace_form TraceKind.Resume = form_of (codes "resume") (Named ∷ [])
trace_form TraceKind.Tick = form_of (codes "tick") (Number 0 4294967295 ∷ [])
trace_form TraceKind.Print = form_of (codes "print") (Quoted ∷ [])
trace_form TraceKind.Close = form_of (codes "close") (Named ∷ [])
trace_form TraceKind.Own = form_of (codes "own") (Named ∷ Named ∷ [])
trace_form TraceKind.Mode = form_of (codes "mode") (Moded ∷ [])
trace_form TraceKind.Work = form_of (codes "work") (Named ∷ Acted ∷ [])
trace_form TraceKind.Unwork = form_of (codes "unwork") (Named ∷ [])

-- all kinds, in the order of the table
unfoldable pub all_trace_kinds : List TraceKind
all_trace_kinds =
    TraceKind.Run ∷ TraceKind.Out ∷ TraceKind.Done ∷ TraceKind.Again ∷ TraceKind.Wake ∷ TraceKind.Cur
    ∷ TraceKind.Fire ∷ TraceKind.Timeout ∷ TraceKind.Rx ∷ TraceKind.Tx ∷ TraceKind.Sleep ∷ TraceKind.Suspend
    ∷ TraceKind.Resume ∷ TraceKind.Tick ∷ TraceKind.Print ∷ TraceKind.Close ∷ TraceKind.Own ∷ TraceKind.Mode
    ∷ TraceKind.Work ∷ TraceKind.Unwork
    ∷ []

-- the word of a kind of line
unfoldable pub trace_word : TraceKind → List ℕ
trace_word k = (trace_form k).word

-- how many fields a kind of line has
unfoldable pub trace_count : TraceKind → ℕ
trace_count k = length (trace_form k).fields

-- the kind of line that a word names
unfoldable pub trace_named : List ℕ → Option TraceKind
trace_named word = find (λ k. bytes_eq (trace_word k) word) all_trace_kinds

-- the values of the fields of a line
abbrev pub TraceValues : TraceKind → Type 0
TraceValues k = Values (Unit {0}) (trace_form k).fields

-- the line of a kind with these values
abbrev pub line_made : (k : TraceKind) → TraceValues k → Line
line_made TraceKind.Run v = Line.Run v.0
line_made TraceKind.Out v = Line.Out v.0 v.1.0
line_made TraceKind.Done v = Line.Done v.0 v.1.0 v.1.1.0
line_made TraceKind.Again v = Line.Again v.0 v.1.0 v.1.1.0
line_made TraceKind.Wake v = Line.Wake v.0 v.1.0
line_made TraceKind.Cur v = Line.Cur v.0 v.1.0.0 v.1.0.1
line_made TraceKind.Fire v = Line.Fire v.0 v.1.0
line_made TraceKind.Timeout v = Line.Timeout v.0
line_made TraceKind.Rx v = Line.Rx v.0 v.1.0.0 v.1.0.1
line_made TraceKind.Tx v = Line.Tx v.0 v.1.0
line_made TraceKind.Sleep v = Line.Sleep v.0 v.1.0
line_made TraceKind.Suspend v = Line.Suspend v.0
line_made TraceKind.Resume v = Line.Resume v.0
line_made TraceKind.Tick v = Line.Tick v.0
line_made TraceKind.Print v = Line.Print v.0
line_made TraceKind.Close v = Line.Close v.0
line_made TraceKind.Own v = Line.Own v.0 v.1.0
line_made TraceKind.Mode v = Line.Mode v.0
line_made TraceKind.Work v = Line.Work v.0 v.1.0
line_made TraceKind.Unwork v = Line.Unwork v.0

-- the kind of a line
abbrev pub line_kind : Line → TraceKind
line_kind (Line.Run thread) = TraceKind.Run
line_kind (Line.Out thread head) = TraceKind.Out
line_kind (Line.Done thread k code) = TraceKind.Done
line_kind (Line.Again thread k code) = TraceKind.Again
line_kind (Line.Wake thread woke) = TraceKind.Wake
line_kind (Line.Cur thread old new) = TraceKind.Cur
line_kind (Line.Fire timer fired) = TraceKind.Fire
line_kind (Line.Timeout thread) = TraceKind.Timeout
line_kind (Line.Rx device text lost) = TraceKind.Rx
line_kind (Line.Tx device text) = TraceKind.Tx
line_kind (Line.Sleep mode ticks) = TraceKind.Sleep
line_kind (Line.Suspend device) = TraceKind.Suspend
line_kind (Line.Resume device) = TraceKind.Resume
line_kind (Line.Tick tick) = TraceKind.Tick
line_kind (Line.Print text) = TraceKind.Print
line_kind (Line.Close thread) = TraceKind.Close
line_kind (Line.Own mutex thread) = TraceKind.Own
line_kind (Line.Mode mode) = TraceKind.Mode
line_kind (Line.Work timer fired) = TraceKind.Work
line_kind (Line.Unwork timer) = TraceKind.Unwork

-- the values of a line
abbrev pub line_values : (l : Line) → TraceValues (line_kind l)
line_values (Line.Run thread) = (thread, tt)
line_values (Line.Out thread head) = (thread, (head, tt))
line_values (Line.Done thread k code) = (thread, (k, (code, tt)))
line_values (Line.Again thread k code) = (thread, (k, (code, tt)))
line_values (Line.Wake thread woke) = (thread, (woke, tt))
line_values (Line.Cur thread old new) = (thread, ((old, new), tt))
line_values (Line.Fire timer fired) = (timer, (fired, tt))
line_values (Line.Timeout thread) = (thread, tt)
line_values (Line.Rx device text lost) = (device, ((text, lost), tt))
line_values (Line.Tx device text) = (device, (text, tt))
line_values (Line.Sleep mode ticks) = (mode, (ticks, tt))
line_values (Line.Suspend device) = (device, tt)
line_values (Line.Resume device) = (device, tt)
line_values (Line.Tick tick) = (tick, tt)
line_values (Line.Print text) = (text, tt)
line_values (Line.Close thread) = (thread, tt)
line_values (Line.Own mutex thread) = (mutex, (thread, tt))
line_values (Line.Mode mode) = (mode, tt)
line_values (Line.Work timer fired) = (timer, (fired, tt))
line_values (Line.Unwork timer) = (timer, tt)

-- ---- what can be written

-- the names, texts and numbers of a line are ones
unfoldable pub CanShow : Line → Type 0
CanShow l = Fit Always (trace_form (line_kind l)).fields (line_values l)

-- a core has 8 bits
abbrev pub CanHappen : Event → Type 0
CanHappen (Event.Step core) = core < 256
CanHappen Event.Tick = Unit {0}

-- what stands in an entry can be written
pub record CanStand (e : Entry) : Type 0 where
  pub event : CanHappen e.event
  pub tick : e.tick < 2 ^ 32
  pub lines : All CanShow e.lines

-- a journal can be written: its numbers have 32 bits, and each entry can
pub record CanBeWritten (journal : List Entry) : Type 0 where
  pub few : length journal < 2 ^ 32
  pub entries : All CanStand journal

-- the cut stands among the entries
abbrev pub StandsIn : List Entry → Option Cut → Type 0
StandsIn journal None = Unit {0}
StandsIn journal (Some cut) = cut.at ≤ length journal

-- the numbers of a cut have 32 bits
abbrev pub CanCount : Option Cut → Type 0
CanCount None = Unit {0}
CanCount (Some cut) = All (λ n. n < 2 ^ 32) cut.counts.items

-- the cut has a number for each of 1 to 8 cores
abbrev pub HasCores : Option Cut → Type 0
HasCores None = Unit {0}
HasCores (Some cut) = (1 ≤ length cut.counts.items) × (length cut.counts.items ≤ 8)

-- the tick of an end has 32 bits
abbrev pub CanEnd : Option End → Type 0
CanEnd None = Unit {0}
CanEnd (Some e) = e.tick < 2 ^ 32

-- entries that can be written, a cut among them, and an end
pub record IsTrace (journal : List Entry) (cut : Option Cut) (end : Option End) : Type 0 where
  pub entries : CanBeWritten journal
  pub stands : StandsIn journal cut
  pub counts : CanCount cut
  pub ends : CanEnd end

-- ---- what a line says

-- the line of a kind that words say
unfoldable pub line_in : List (List ℕ) → TraceKind → Result Line Why
line_in ws k = result_map (line_made k) (values_in ended (trace_form k).fields 1 ws)

-- a line of an entry, where its first word names a kind
abbrev pub shown_in : List (List ℕ) → Option TraceKind → Result Line Why
shown_in ws None = Err Why.Kind
shown_in ws (Some k) = refused (not (length ws == 1 + trace_count k)) Why.Words (line_in ws k)

-- a number of 32 bits
abbrev pub number_said : List ℕ → Result ℕ Why
number_said word = number_in 0 4294967295 word

-- a number behind a byte
abbrev pub number_behind : ℕ → ℕ → List ℕ → Result ℕ Why
number_behind byte high [] = Err Why.Choice
number_behind byte high (b ∷ bs) = if b == byte then number_in 0 high bs else Err Why.Choice

-- the words of halts
abbrev pub all_halts : List (List ℕ × Halt)
all_halts =
    (codes "quiet", Halt.Quiet) ∷ (codes "until", Halt.Until)
    ∷ (codes "standby", Halt.Standby) ∷ (codes "shutdown", Halt.Shutdown) ∷ []

-- a halt
abbrev pub halt_in : List ℕ → Result Halt Why
halt_in word = listed_in Why.Choice all_halts word

-- the event and the tick of a header, by its last two words
abbrev pub moment_of : List ℕ → List ℕ → Result (Event × ℕ) Why
moment_of what moment =
    if bytes_eq what (codes "tick") then paired (Ok Event.Tick) (number_said moment)
    else paired (result_map (λ core. Event.Step core) (number_behind 99 255 what)) (number_behind 64 4294967295 moment)

-- a header
abbrev pub header_in : List (List ℕ) → Result (ℕ × (Event × ℕ)) Why
header_in ws = refused (not (length ws == 3)) Why.Words (paired (number_said (word_at ws 0)) (moment_of (word_at ws 1) (word_at ws 2)))

-- an end line
abbrev pub end_in : List (List ℕ) → Result (Halt × ℕ) Why
end_in ws = refused (not (length ws == 3)) Why.Words (paired (halt_in (word_at ws 1)) (number_behind 64 4294967295 (word_at ws 2)))

-- numbers
abbrev pub counts_in : List (List ℕ) → Result (List ℕ) Why
counts_in [] = Ok []
counts_in (w ∷ ws) = result_map (λ p. p.0 ∷ p.1) (paired (number_said w) (counts_in ws))

-- a line that isn't indented
abbrev pub outer_said : List (List ℕ) → Result TraceRow Why
outer_said ws =
    if bytes_eq (first_of ws) (codes "cut") then result_map (λ counts. Counted counts) (counts_in (drop 1 ws))
    else if bytes_eq (first_of ws) (codes "end") then result_map (λ p. Ended p.0 p.1) (end_in ws)
    else result_map (λ p. Headed p.0 p.1.0 p.1.1) (header_in ws)

-- the row that words say, behind an indent or not
abbrev pub row_of_words : Bool → List (List ℕ) → Result TraceRow Why
row_of_words true ws = result_map (λ line. Shown line) (shown_in ws (trace_named (first_of ws)))
row_of_words false ws = outer_said ws

-- the row that a line of printable bytes is, whatever the number of its counts
abbrev pub row_said : List ℕ → Result TraceRow Why
row_said bytes = row_of_words (is_indented bytes) (words_behind bytes)

-- a `cut` line has a number for each of 1 to 8 cores
abbrev pub with_cores : TraceRow → Result TraceRow Why
with_cores (Counted counts) = refused (not (nat_le 1 (length counts) && nat_le (length counts) 8)) Why.Words (Ok (Counted counts))
with_cores (Headed number event tick) = Ok (Headed number event tick)
with_cores (Shown line) = Ok (Shown line)
with_cores (Ended halt tick) = Ok (Ended halt tick)

-- the row that a line is, if it has the form of one
abbrev pub row_in : List ℕ → Result TraceRow Why
row_in bytes = refused (not (list_all is_printable bytes)) Why.Byte (row_said bytes >>= with_cores)

-- ---- lines of a text, and their events

-- a byte in front of the first line, if there is one
abbrev pub lengthen : ℕ → List (List ℕ) → List (List ℕ)
lengthen b [] = []
lengthen b (l ∷ ls) = (b ∷ l) ∷ ls

-- the lines of a text, each ended by a newline; what stands behind the last newline is none
abbrev pub whole_lines_of : List ℕ → List (List ℕ)
whole_lines_of [] = []
whole_lines_of (b ∷ bs) = if b == 10 then [] ∷ whole_lines_of bs else lengthen b (whole_lines_of bs)

-- the event of a header
abbrev pub event_of_row : TraceRow → Option Event
event_of_row (Headed number event tick) = Some event
event_of_row (Shown line) = None
event_of_row (Counted counts) = None
event_of_row (Ended halt tick) = None

-- what a row tells, if it has as many counts as there may be cores
abbrev pub told_of_row : Result TraceRow Why → Result (Option Event) Why
told_of_row r = result_map event_of_row (r >>= with_cores)

-- whether numbers were read, whichever they are
abbrev pub are_counts : Result (List ℕ) Why → Result (Unit {0}) Why
are_counts r = result_map (λ ns. tt) r

-- the event of a line's header before those of the lines behind it; none from a line on that has no form
abbrev pub events_from : Result (Option Event) Why → List Event → List Event
events_from (Ok (Some event)) others = event ∷ others
events_from (Ok None) others = others
events_from (Err reason) others = []

-- the event that a line tells, if it has a form
abbrev pub told_by : List ℕ → Result (Option Event) Why
told_by bytes = result_map event_of_row (row_in bytes)

-- the events of the header lines, up to the first line that has no form
abbrev pub events_in : List (List ℕ) → List Event
events_in [] = []
events_in (l ∷ ls) = events_from (told_by l) (events_in ls)

-- the events that a text tells
abbrev pub events_told : List ℕ → List Event
events_told text = events_in (whole_lines_of text)
