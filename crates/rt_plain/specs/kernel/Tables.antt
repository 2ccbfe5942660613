-- What the shell prints for a command line, piece by piece.
use Rattle.std.specs.Prelude.{ℕ, ◌-◌, Bool, true, false, List, [], ◌∷◌, ◌++◌, Option, Some, None, map, length, replicate, decimal, codes, unwrap_or, if◌then◌else◌}
use Rattle.std.specs.Str.{bytes_eq}
use Rattle.std.specs.Option.{option_map}
use Rattle.std.specs.List.{find}
use Rattle.rt_base.specs.declared.codes.Class.{Class}
use Rattle.rt_base.specs.declared.codes.Sleep.{Sleep}
use Rattle.rt_plain.specs.declared.row.Row.{Row}
use Rattle.rt_plain.specs.declared.row.ThreadState.{ThreadState}
use Rattle.rt_plain.specs.kernel.PowerCalls.{sleep_modes}
use Rattle.rt_plain.specs.text.Words.{words, code_text, sleep_text, hex_eight}

-- a column: its title, whether it is right-aligned, and its width
pub record Column : Type 0 where
  pub title : List ℕ
  pub right : Bool
  pub width : ℕ

-- a cell, filled with spaces to the width of its column
abbrev pub cell : Column → List ℕ → List ℕ
cell c text = let fill = replicate (c.width - length text) 32 in if c.right then fill ++ text else text ++ fill

-- the cells of a row
abbrev pub cells : List Column → List (List ℕ) → List (List ℕ)
cells [] texts = []
cells (c ∷ cs) [] = []
cells (c ∷ cs) (text ∷ texts) = cell c text ∷ cells cs texts

-- one line of a table
abbrev pub table_line : List Column → List (List ℕ) → List ℕ
table_line columns texts = words (cells columns texts) ++ 10 ∷ []

-- a column whose cells stand at the left
abbrev pub left_column : List ℕ → ℕ → Column
left_column title width = record { title = title; right = false; width = width }

-- a column whose cells stand at the right
abbrev pub right_column : List ℕ → ℕ → Column
right_column title width = record { title = title; right = true; width = width }

-- the columns of each table
abbrev pub columns : Class → List Column
columns Class.Thread = left_column (codes "thread") 8 ∷ right_column (codes "cur") 3 ∷ right_column (codes "base") 4 ∷ left_column (codes "state") 9 ∷ right_column (codes "core") 4 ∷ right_column (codes "left") 4 ∷ right_column (codes "code") 4 ∷ []
columns Class.Sem = left_column (codes "sem") 8 ∷ right_column (codes "value") 5 ∷ right_column (codes "waiters") 7 ∷ []
columns Class.Event = left_column (codes "event") 8 ∷ right_column (codes "flags") 8 ∷ right_column (codes "waiters") 7 ∷ []
columns Class.Mutex = left_column (codes "mutex") 8 ∷ left_column (codes "owner") 8 ∷ right_column (codes "hold") 4 ∷ right_column (codes "ceil") 4 ∷ right_column (codes "waiters") 7 ∷ []
columns Class.Mailbox = left_column (codes "mailbox") 8 ∷ right_column (codes "used") 4 ∷ right_column (codes "size") 4 ∷ right_column (codes "recv") 4 ∷ right_column (codes "send") 4 ∷ []
columns Class.MsgQueue = left_column (codes "msgqueue") 8 ∷ right_column (codes "used") 4 ∷ right_column (codes "size") 4 ∷ right_column (codes "max") 4 ∷ right_column (codes "recv") 4 ∷ right_column (codes "send") 4 ∷ []
columns Class.Timer = left_column (codes "timer") 8 ∷ left_column (codes "kind") 8 ∷ right_column (codes "time") 10 ∷ right_column (codes "due") 10 ∷ []
columns Class.Device = left_column (codes "device") 8 ∷ left_column (codes "type") 8 ∷ right_column (codes "open") 4 ∷ right_column (codes "rx") 4 ∷ right_column (codes "tx") 4 ∷ []

-- what a thread does, as a word
abbrev pub state_text : ThreadState → List ℕ
state_text ThreadState.Initial = codes "initial"
state_text ThreadState.Ready = codes "ready"
state_text ThreadState.Running = codes "running"
state_text ThreadState.Suspended = codes "suspend"

-- a number, or a word where there is none
abbrev pub number_or : List ℕ → Option ℕ → List ℕ
number_or none n = unwrap_or (option_map decimal n) none

-- the word of a timer's kind, by whether it is soft and periodic
abbrev pub kind_text : Bool → Bool → List ℕ
kind_text false false = codes "oneshot"
kind_text false true = codes "periodic"
kind_text true false = codes "softone"
kind_text true true = codes "softper"

-- the texts of a row, in the order of the columns
abbrev pub texts : Row → List (List ℕ)
texts (Row.Thread name cur base state core left code) = name ∷ decimal cur ∷ decimal base ∷ state_text state ∷ number_or (codes "any") core ∷ decimal left ∷ code_text code ∷ []
texts (Row.Sem name value waiters) = name ∷ decimal value ∷ decimal waiters ∷ []
texts (Row.Event name flags waiters) = name ∷ hex_eight flags ∷ decimal waiters ∷ []
texts (Row.Mutex name owner hold ceiling waiters) = name ∷ unwrap_or owner (codes "-") ∷ decimal hold ∷ decimal ceiling ∷ decimal waiters ∷ []
texts (Row.Mailbox name used size receivers senders) = name ∷ decimal used ∷ decimal size ∷ decimal receivers ∷ decimal senders ∷ []
texts (Row.MsgQueue name used size max receivers senders) = name ∷ decimal used ∷ decimal size ∷ decimal max ∷ decimal receivers ∷ decimal senders ∷ []
texts (Row.Timer name periodic soft time due) = name ∷ kind_text soft periodic ∷ decimal time ∷ number_or (codes "-") due ∷ []
texts (Row.Device name console opened rx tx) = name ∷ (if console then codes "console" else codes "serial") ∷ decimal opened ∷ decimal rx ∷ decimal tx ∷ []

-- what a command sees: the rows of each class, the votes and the mode
pub record Seen : Type 0 where
  pub rows : Class → List Row
  pub votes : Sleep → ℕ
  pub mode : Sleep

-- a header line and one line per row
abbrev pub class_table : Seen → Class → List (List ℕ)
class_table seen class = table_line (columns class) (map (λ c. c.title) (columns class)) ∷ map (λ row. table_line (columns class) (texts row)) (seen.rows class)

-- the columns of the power table
abbrev pub power_columns : List Column
power_columns = left_column (codes "mode") 8 ∷ right_column (codes "votes") 5 ∷ []

-- the votes for each mode, and the mode of now
abbrev pub power_table : Seen → List (List ℕ)
power_table seen = table_line power_columns (codes "mode" ∷ codes "votes" ∷ []) ∷ map (λ mode. table_line power_columns (sleep_text mode ∷ decimal (seen.votes mode) ∷ [])) sleep_modes ++ (words (codes "sleep" ∷ sleep_text seen.mode ∷ []) ++ 10 ∷ []) ∷ []

-- what a command prints
pub data Command : Type 0 where
  Lists : Class → Command
  DumpsPower : Command
  TellsVersion : Command
  Helps : Command

-- a command and its name
pub record CommandRow : Type 0 where
  pub name : List ℕ
  pub command : Command

-- a row of the command list
abbrev pub command_row : List ℕ → Command → CommandRow
command_row name command = record { name = name; command = command }

-- the commands, in the order in which `help` prints them
abbrev pub commands : List CommandRow
commands =
    command_row (codes "list_thread") (Lists Class.Thread)
    ∷ command_row (codes "ps") (Lists Class.Thread)
    ∷ command_row (codes "list_sem") (Lists Class.Sem)
    ∷ command_row (codes "list_event") (Lists Class.Event)
    ∷ command_row (codes "list_mutex") (Lists Class.Mutex)
    ∷ command_row (codes "list_mailbox") (Lists Class.Mailbox)
    ∷ command_row (codes "list_msgqueue") (Lists Class.MsgQueue)
    ∷ command_row (codes "list_timer") (Lists Class.Timer)
    ∷ command_row (codes "list_device") (Lists Class.Device)
    ∷ command_row (codes "pm_dump") DumpsPower
    ∷ command_row (codes "version") TellsVersion
    ∷ command_row (codes "help") Helps
    ∷ []

-- the pieces that a command prints, each a line of the trace
abbrev pub printed_pieces : Command → Seen → List (List ℕ)
printed_pieces (Lists class) seen = class_table seen class
printed_pieces DumpsPower seen = power_table seen
printed_pieces TellsVersion seen = (codes "rtsim 1, profile of RT-Thread 5" ++ 10 ∷ []) ∷ []
printed_pieces Helps seen = map (λ row. row.name ++ 10 ∷ []) commands

-- a line that is no command prints itself with a note, and an empty one nothing
abbrev pub unknown_pieces : List ℕ → List (List ℕ)
unknown_pieces [] = []
unknown_pieces (byte ∷ bytes) = ((byte ∷ bytes) ++ codes ": command not found." ++ 10 ∷ []) ∷ []

-- what is printed for a command that was found, or for none
abbrev pub pieces_for : Option CommandRow → List ℕ → Seen → List (List ℕ)
pieces_for None line seen = unknown_pieces line
pieces_for (Some row) line seen = printed_pieces row.command seen

-- the pieces that are printed for a command line
abbrev pub table : List ℕ → Seen → List (List ℕ)
table line seen = pieces_for (find (λ row. bytes_eq row.name line) commands) line seen
