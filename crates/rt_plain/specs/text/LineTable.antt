-- The table of lines, and what each says.
use Rattle.std.specs.Prelude.{ℕ, ◌-◌, Bool, true, false, List, [], ◌∷◌, ◌++◌, Option, Result, codes, bytes_eq, if◌then◌else◌}
use Rattle.std.specs.Option.{option_map}
use Rattle.std.specs.List.{find}
use Rattle.rt_plain.specs.declared.kind.Kind.{Kind}
use Rattle.rt_plain.specs.declared.kind.LineKind.{LineKind}
use Rattle.rt_plain.specs.declared.board_line.BoardLine.{BoardLine}
use Rattle.rt_plain.specs.declared.stmt.Stmt.{Stmt}
use Rattle.rt_plain.specs.declared.why.Why.{Why}
use Rattle.rt_plain.specs.text.Words.{words}
use Rattle.rt_plain.specs.text.Fields.{Field, Number, Moment, Named, Quoted, Ordered, Moded, Started, Armed, OnOff, Powered, Indicated, Core, Levels, Repeated, result_map}
use Rattle.rt_plain.specs.text.FieldLists.{Values, spelled_all, Fit, values_in}
use Rattle.rt_plain.specs.text.StatementTable.{statement_row, statement_made, statement_kind, statement_values, statement_in, statement_named}
use Rattle.rt_plain.specs.declared.kind.Tail.{Tail}
use Rattle.rt_plain.specs.declared.kind.Tail.TheVariants.{Ends, SetsLimit, SetsSchedule, MakesCall}
use Rattle.rt_plain.specs.text.Tails.{TailValue, tail_words, TailFits, tail_in}

-- the row of a line: its word, its rank, the fields behind the word, and what stands behind these
pub record LineRow : Type 0 where
  pub word : List ℕ
  pub rank : ℕ
  pub fields : List Field
  pub tail : Tail

-- a row of the table
abbrev row_of : List ℕ → ℕ → List Field → Tail → LineRow
row_of word rank fields tail = record { word = word; rank = rank; fields = fields; tail = tail }

-- the table, on a board of so many levels
abbrev pub line_row : ℕ → LineKind → LineRow
line_row levels LineKind.Board = row_of (codes "board") 1 (Number 1 1 ∷ []) Ends
line_row levels LineKind.Cores = row_of (codes "cores") 2 (Number 1 8 ∷ []) Ends
line_row levels LineKind.Levels = row_of (codes "levels") 3 (Levels ∷ []) Ends
line_row levels LineKind.Tickless = row_of (codes "tickless") 4 (OnOff ∷ []) Ends
line_row levels LineKind.Tick0 = row_of (codes "tick0") 5 (Number 0 4294967295 ∷ []) Ends
line_row levels LineKind.Until = row_of (codes "until") 6 (Moment ∷ []) Ends
line_row levels LineKind.Entries = row_of (codes "entries") 7 (Number 1 1000000 ∷ []) Ends
line_row levels LineKind.LpMax = row_of (codes "lpmax") 8 (Number 1 2147483647 ∷ []) Ends
line_row levels LineKind.Thresh = row_of (codes "thresh") 9 (Number 1 2147483647 ∷ []) Ends
line_row levels LineKind.LpClock = row_of (codes "lpclock") 10 (Number 1 1000000 ∷ Number 1 1000 ∷ []) Ends
line_row levels LineKind.DefaultMode = row_of (codes "default") 11 (Moded ∷ []) Ends
line_row levels LineKind.Schedule = row_of (codes "schedule") 12 [] SetsSchedule
line_row levels LineKind.Shell = row_of (codes "shell") 13 (Number 0 (levels - 2) ∷ []) Ends
line_row levels LineKind.Soft = row_of (codes "soft") 14 (Number 0 (levels - 2) ∷ []) Ends
line_row levels LineKind.Limit = row_of (codes "limit") 15 [] SetsLimit
line_row levels LineKind.Sem = row_of (codes "sem") 16 (Named ∷ Number 0 65535 ∷ Ordered ∷ []) Ends
line_row levels LineKind.Event = row_of (codes "event") 17 (Named ∷ Ordered ∷ []) Ends
line_row levels LineKind.Mutex = row_of (codes "mutex") 18 (Named ∷ Number 0 (levels - 1) ∷ []) Ends
line_row levels LineKind.Mailbox = row_of (codes "mailbox") 19 (Named ∷ Number 1 64 ∷ Ordered ∷ []) Ends
line_row levels LineKind.Queue = row_of (codes "msgqueue") 20 (Named ∷ Number 1 64 ∷ Number 1 64 ∷ Ordered ∷ []) Ends
line_row levels LineKind.Pool = row_of (codes "mempool") 21 (Named ∷ Number 1 64 ∷ Number 1 65535 ∷ Ordered ∷ []) Ends
line_row levels LineKind.Device = row_of (codes "device") 22 (Named ∷ Number 1 64 ∷ Number 1 64 ∷ Number 1 64 ∷ Powered ∷ Indicated ∷ []) Ends
line_row levels LineKind.Timer = row_of (codes "timer") 23 (Named ∷ Repeated ∷ Number 1 2147483647 ∷ Armed ∷ []) MakesCall
line_row levels LineKind.Thread = row_of (codes "thread") 24 (Named ∷ Number 0 (levels - 2) ∷ Number 1 255 ∷ Core ∷ Started ∷ []) Ends
line_row levels LineKind.Arrive = row_of (codes "arrive") 25 (Number 1 4294967295 ∷ Named ∷ Quoted ∷ []) Ends

-- all lines, in the order of their ranks
unfoldable pub all_lines : List LineKind
all_lines =
    LineKind.Board ∷ LineKind.Cores ∷ LineKind.Levels ∷ LineKind.Tickless
    ∷ LineKind.Tick0 ∷ LineKind.Until ∷ LineKind.Entries ∷ LineKind.LpMax
    ∷ LineKind.Thresh ∷ LineKind.LpClock ∷ LineKind.DefaultMode ∷ LineKind.Schedule
    ∷ LineKind.Shell ∷ LineKind.Soft ∷ LineKind.Limit ∷ LineKind.Sem
    ∷ LineKind.Event ∷ LineKind.Mutex ∷ LineKind.Mailbox ∷ LineKind.Queue
    ∷ LineKind.Pool ∷ LineKind.Device ∷ LineKind.Timer ∷ LineKind.Thread
    ∷ LineKind.Arrive
    ∷ []

-- the form of a line or a statement line; a statement line is indented and has the rank of threads
pub record Form : Type 0 where
  pub indented : Bool
  pub word : List ℕ
  pub rank : ℕ
  pub fields : List Field
  pub tail : Tail

-- all rows
abbrev pub form : ℕ → Kind → Form
form levels (Kind.Line k) = record {
  indented = false;
  word = (line_row levels k).word;
  rank = (line_row levels k).rank;
  fields = (line_row levels k).fields;
  tail = (line_row levels k).tail;
}
form levels (Kind.Statement k) = record {
  indented = true;
  word = (statement_row levels k).word;
  rank = 24;
  fields = (statement_row levels k).fields;
  tail = Ends;
}

-- what doesn't depend on the levels
unfoldable pub row : Kind → Form
row k = form 0 k

-- the line that a word begins
unfoldable pub line_named : List ℕ → Option LineKind
line_named word = find (λ k. bytes_eq (row (Kind.Line k)).word word) all_lines

-- the kind of a line, by its indent and its first word
unfoldable pub kind_named : Bool → List ℕ → Option Kind
kind_named indented word =
    if indented then option_map (λ k. Kind.Statement k) (statement_named word)
    else option_map (λ k. Kind.Line k) (line_named word)

-- the values of a line
abbrev pub LineValues : ℕ → LineKind → Type 0
LineValues levels k = Values (TailValue (line_row levels k).tail) (line_row levels k).fields

-- the values of a line or a statement line
abbrev pub FormValues : ℕ → Kind → Type 0
FormValues levels k = Values (TailValue (form levels k).tail) (form levels k).fields

-- what a line of a kind says
abbrev pub line_made : (levels : ℕ) (k : LineKind) → LineValues levels k → BoardLine
line_made levels LineKind.Board v = BoardLine.Version v.0
line_made levels LineKind.Cores v = BoardLine.Cores v.0
line_made levels LineKind.Levels v = BoardLine.Levels v.0
line_made levels LineKind.Tickless v = BoardLine.Tickless v.0
line_made levels LineKind.Tick0 v = BoardLine.Tick0 v.0
line_made levels LineKind.Until v = BoardLine.Until v.0
line_made levels LineKind.Entries v = BoardLine.Entries v.0
line_made levels LineKind.LpMax v = BoardLine.LpMax v.0
line_made levels LineKind.Thresh v = BoardLine.Thresh v.0
line_made levels LineKind.LpClock v = BoardLine.LpClock v.0 v.1.0
line_made levels LineKind.DefaultMode v = BoardLine.DefaultMode v.0
line_made levels LineKind.Schedule v = BoardLine.Schedule v
line_made levels LineKind.Shell v = BoardLine.Shell v.0
line_made levels LineKind.Soft v = BoardLine.Soft v.0
line_made levels LineKind.Limit v = BoardLine.Limit v.0 v.1
line_made levels LineKind.Sem v = BoardLine.Sem (record { name = v.0; value = v.1.0; order = v.1.1.0 })
line_made levels LineKind.Event v = BoardLine.Event (record { name = v.0; order = v.1.0 })
line_made levels LineKind.Mutex v = BoardLine.Mutex (record { name = v.0; ceiling = v.1.0 })
line_made levels LineKind.Mailbox v = BoardLine.Mailbox (record { name = v.0; size = v.1.0; order = v.1.1.0 })
line_made levels LineKind.Queue v = BoardLine.Queue (record { name = v.0; max = v.1.0; size = v.1.1.0; order = v.1.1.1.0 })
line_made levels LineKind.Pool v = BoardLine.Pool (record { name = v.0; blocks = v.1.0; size = v.1.1.0; order = v.1.1.1.0 })
line_made levels LineKind.Device v = BoardLine.Device (record { name = v.0; rx = v.1.0; tx = v.1.1.0; rate = v.1.1.1.0; pm = v.1.1.1.1.0; ind = v.1.1.1.1.1.0 })
line_made levels LineKind.Timer v = BoardLine.Timer (record { name = v.0; kind = v.1.0; time = v.1.1.0; started = v.1.1.1.0; call = v.1.1.1.1 })
line_made levels LineKind.Thread v = BoardLine.Thread (record { name = v.0; prio = v.1.0; slice = v.1.1.0; core = v.1.1.1.0; started = v.1.1.1.1.0 })
line_made levels LineKind.Arrive v = BoardLine.Arrive (record { count = v.0; device = v.1.0; text = v.1.1.0 })

-- what a line or a statement line of a kind says
abbrev pub made : (levels : ℕ) (k : Kind) → FormValues levels k → BoardLine
made levels (Kind.Line k) v = line_made levels k v
made levels (Kind.Statement k) v = BoardLine.Statement (statement_made levels k v)

-- what a line says, as its kind with values
pub record Parts (levels : ℕ) : Type 0 where
  pub kind : Kind
  pub values : FormValues levels kind

-- the kind and the values of what a line says
abbrev pub parts : (levels : ℕ) → BoardLine → Parts levels
parts levels (BoardLine.Version n) = record { kind = Kind.Line LineKind.Board; values = (n, tt) }
parts levels (BoardLine.Cores n) = record { kind = Kind.Line LineKind.Cores; values = (n, tt) }
parts levels (BoardLine.Levels n) = record { kind = Kind.Line LineKind.Levels; values = (n, tt) }
parts levels (BoardLine.Tickless n) = record { kind = Kind.Line LineKind.Tickless; values = (n, tt) }
parts levels (BoardLine.Tick0 n) = record { kind = Kind.Line LineKind.Tick0; values = (n, tt) }
parts levels (BoardLine.Until n) = record { kind = Kind.Line LineKind.Until; values = (n, tt) }
parts levels (BoardLine.Entries n) = record { kind = Kind.Line LineKind.Entries; values = (n, tt) }
parts levels (BoardLine.LpMax n) = record { kind = Kind.Line LineKind.LpMax; values = (n, tt) }
parts levels (BoardLine.Thresh n) = record { kind = Kind.Line LineKind.Thresh; values = (n, tt) }
parts levels (BoardLine.LpClock h q) = record { kind = Kind.Line LineKind.LpClock; values = (h, (q, tt)) }
parts levels (BoardLine.DefaultMode n) = record { kind = Kind.Line LineKind.DefaultMode; values = (n, tt) }
parts levels (BoardLine.Schedule schedule) = record { kind = Kind.Line LineKind.Schedule; values = schedule }
parts levels (BoardLine.Shell n) = record { kind = Kind.Line LineKind.Shell; values = (n, tt) }
parts levels (BoardLine.Soft n) = record { kind = Kind.Line LineKind.Soft; values = (n, tt) }
parts levels (BoardLine.Limit class n) = record { kind = Kind.Line LineKind.Limit; values = (class, n) }
parts levels (BoardLine.Sem d) = record { kind = Kind.Line LineKind.Sem; values = (d.name, (d.value, (d.order, tt))) }
parts levels (BoardLine.Event d) = record { kind = Kind.Line LineKind.Event; values = (d.name, (d.order, tt)) }
parts levels (BoardLine.Mutex d) = record { kind = Kind.Line LineKind.Mutex; values = (d.name, (d.ceiling, tt)) }
parts levels (BoardLine.Mailbox d) = record { kind = Kind.Line LineKind.Mailbox; values = (d.name, (d.size, (d.order, tt))) }
parts levels (BoardLine.Queue d) = record { kind = Kind.Line LineKind.Queue; values = (d.name, (d.max, (d.size, (d.order, tt)))) }
parts levels (BoardLine.Pool d) = record { kind = Kind.Line LineKind.Pool; values = (d.name, (d.blocks, (d.size, (d.order, tt)))) }
parts levels (BoardLine.Device d) = record { kind = Kind.Line LineKind.Device; values = (d.name, (d.rx, (d.tx, (d.rate, (d.pm, (d.ind, tt)))))) }
parts levels (BoardLine.Timer d) = record { kind = Kind.Line LineKind.Timer; values = (d.name, (d.kind, (d.time, (d.started, d.call)))) }
parts levels (BoardLine.Thread d) = record { kind = Kind.Line LineKind.Thread; values = (d.name, (d.prio, (d.slice, (d.core, (d.started, tt))))) }
parts levels (BoardLine.Arrive d) = record { kind = Kind.Line LineKind.Arrive; values = (d.count, (d.device, (d.text, tt))) }
parts levels (BoardLine.Statement s) = record { kind = Kind.Statement (statement_kind s); values = statement_values levels s }

-- the kind of a line
abbrev pub kind_of : BoardLine → Kind
kind_of l = (parts 0 l).kind

-- the words of a line
abbrev pub words_of_line : BoardLine → List (List ℕ)
words_of_line l =
    let p = parts 0 l in
    let f = form 0 p.kind in
    f.word ∷ spelled_all (tail_words f.tail) f.fields p.values

-- two spaces, or none
abbrev pub indent : Bool → List ℕ
indent true = codes "  "
indent false = []

-- the text of a line, without its newline
abbrev pub text_of : BoardLine → List ℕ
text_of l = indent (form 0 (kind_of l)).indented ++ words (words_of_line l)

-- the values of a line are in their ranges
abbrev pub FitsLine : ℕ → BoardLine → Type 0
FitsLine levels l =
    let p = parts levels l in
    let f = form levels p.kind in
    Fit (TailFits levels f.tail) f.fields p.values

-- the line of a kind that words say
unfoldable pub line_in : ℕ → List (List ℕ) → LineKind → Result BoardLine Why
line_in levels ws k =
    let r = line_row levels k in
    result_map (line_made levels k) (values_in (tail_in levels r.tail) r.fields 1 ws)

-- the line or statement line of a kind that words say
unfoldable pub said_in : ℕ → List (List ℕ) → Kind → Result BoardLine Why
said_in levels ws (Kind.Line k) = line_in levels ws k
said_in levels ws (Kind.Statement k) = result_map (λ (s : Stmt). BoardLine.Statement s) (statement_in levels ws k)
