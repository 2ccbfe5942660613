-- Which texts are which boards, and which line is the first that fits none.
use Rattle.std.specs.Prelude.{◌≡◌, ℕ, ◌+◌, ◌-◌, ◌≤◌, Bool, true, false, not, ◌&&◌, ◌||◌, ◌==◌, nat_le, nat_lt, List, [], ◌∷◌, ◌++◌, length, drop, Option, Some, None, is_some, Result, Ok, Err, codes, bytes_eq, if◌then◌else◌, ◌⊎◌, IsTrue}
use Rattle.std.specs.List.{list_all, list_any}
use Rattle.rt_base.specs.declared.codes.Event.{Event}
use Rattle.rt_base.specs.declared.codes.Sleep.{Sleep}
use Rattle.rt_plain.specs.declared.board.Limits.{Limits}
use Rattle.rt_plain.specs.declared.board.Schedule.{Schedule}
use Rattle.rt_plain.specs.declared.board.SemDef.{SemDef}
use Rattle.rt_plain.specs.declared.board.EventDef.{EventDef}
use Rattle.rt_plain.specs.declared.board.MutexDef.{MutexDef}
use Rattle.rt_plain.specs.declared.board.MailboxDef.{MailboxDef}
use Rattle.rt_plain.specs.declared.board.QueueDef.{QueueDef}
use Rattle.rt_plain.specs.declared.board.PoolDef.{PoolDef}
use Rattle.rt_plain.specs.declared.board.DeviceDef.{DeviceDef}
use Rattle.rt_plain.specs.declared.board.TimerDef.{TimerDef}
use Rattle.rt_plain.specs.declared.board.ThreadDef.{ThreadDef}
use Rattle.rt_plain.specs.declared.board.Arrival.{Arrival}
use Rattle.rt_plain.specs.declared.board_line.BoardLine.{BoardLine}
use Rattle.rt_plain.specs.declared.board_line.LimitClass.{LimitClass}
use Rattle.rt_plain.specs.declared.board_line.ThreadLine.{ThreadLine}
use Rattle.rt_plain.specs.declared.kind.Kind.{Kind}
use Rattle.rt_plain.specs.declared.stmt.Stmt.{Stmt}
use Rattle.rt_plain.specs.declared.why.Why.{Why}
use Rattle.rt_plain.specs.PlainBoard.{PlainBoard}
use Rattle.rt_plain.specs.kernel.Opening.{arrival_moment}
use Rattle.rt_plain.specs.kernel.TimerKinds.{is_soft, is_timer_statement}
use Rattle.rt_plain.specs.text.Splits.{lines_of, words_of, word_at, is_printable, is_empty}
use Rattle.rt_plain.specs.declared.kind.Tail.{Tail}
use Rattle.rt_plain.specs.declared.kind.Tail.TheVariants.{SetsLimit}
use Rattle.rt_plain.specs.text.Tails.{limit_named, is_counted}
use Rattle.rt_plain.specs.text.LineTable.{Form, row, kind_named, kind_of, text_of, FitsLine, said_in}

-- ---- the board so far

-- what the lines so far said: the rank of the last one, 0 before the first; the place of the last limit, 0 before the first; and the board
pub record SoFar : Type 0 where
  pub rank : ℕ
  pub limited : ℕ
  pub board : PlainBoard

-- the board `board 1` alone
abbrev pub default_board : PlainBoard
default_board = record {
  cores = 1;
  levels = 32;
  tickless = true;
  tick0 = 0;
  until = 4294967295;
  entries = 1000000;
  lpmax = 2147483647;
  thresh = 2;
  lp_h = 1;
  lp_q = 1;
  default_mode = Sleep.NoSleep;
  schedule = Schedule.Round;
  shell = None;
  soft = None;
  limits = record { sem = 64; event = 64; mutex = 256 };
  sems = [];
  events = [];
  mutexes = [];
  mailboxes = [];
  queues = [];
  pools = [];
  devices = [];
  timers = [];
  threads = [];
  arrivals = [];
}

-- before the first line
abbrev pub start : SoFar
start = record { rank = 0; limited = 0; board = default_board }

-- a limit of a class
abbrev pub with_limit : Limits → LimitClass → ℕ → Limits
with_limit l LimitClass.Sem n = record l { sem = n }
with_limit l LimitClass.Event n = record l { event = n }
with_limit l LimitClass.Mutex n = record l { mutex = n }

-- a thread without statements
abbrev pub unscripted : ThreadLine → ThreadDef
unscripted t = record { name = t.name; prio = t.prio; slice = t.slice; core = t.core; started = t.started; script = [] }

-- a statement at the end of the last script
abbrev pub scripted : List ThreadDef → Stmt → List ThreadDef
scripted [] s = []
scripted (t ∷ []) s = record t { script = t.script ++ s ∷ [] } ∷ []
scripted (t ∷ u ∷ ts) s = t ∷ scripted (u ∷ ts) s

-- the board with what a line says
abbrev pub added : PlainBoard → BoardLine → PlainBoard
added b (BoardLine.Version n) = b
added b (BoardLine.Cores n) = record b { cores = n }
added b (BoardLine.Levels n) = record b { levels = n }
added b (BoardLine.Tickless n) = record b { tickless = n }
added b (BoardLine.Tick0 n) = record b { tick0 = n }
added b (BoardLine.Until n) = record b { until = n }
added b (BoardLine.Entries n) = record b { entries = n }
added b (BoardLine.LpMax n) = record b { lpmax = n }
added b (BoardLine.Thresh n) = record b { thresh = n }
added b (BoardLine.LpClock h q) = record b { lp_h = h; lp_q = q }
added b (BoardLine.DefaultMode mode) = record b { default_mode = mode }
added b (BoardLine.Schedule schedule) = record b { schedule = schedule }
added b (BoardLine.Shell prio) = record b { shell = Some prio }
added b (BoardLine.Soft prio) = record b { soft = Some prio }
added b (BoardLine.Limit class n) = record b { limits = with_limit b.limits class n }
added b (BoardLine.Sem d) = record b { sems = b.sems ++ d ∷ [] }
added b (BoardLine.Event d) = record b { events = b.events ++ d ∷ [] }
added b (BoardLine.Mutex d) = record b { mutexes = b.mutexes ++ d ∷ [] }
added b (BoardLine.Mailbox d) = record b { mailboxes = b.mailboxes ++ d ∷ [] }
added b (BoardLine.Queue d) = record b { queues = b.queues ++ d ∷ [] }
added b (BoardLine.Pool d) = record b { pools = b.pools ++ d ∷ [] }
added b (BoardLine.Device d) = record b { devices = b.devices ++ d ∷ [] }
added b (BoardLine.Timer d) = record b { timers = b.timers ++ d ∷ [] }
added b (BoardLine.Thread t) = record b { threads = b.threads ++ unscripted t ∷ [] }
added b (BoardLine.Arrive a) = record b { arrivals = b.arrivals ++ a ∷ [] }
added b (BoardLine.Statement s) = record b { threads = scripted b.threads s }

-- the place of a class among the limits
abbrev pub limit_place : LimitClass → ℕ
limit_place LimitClass.Sem = 1
limit_place LimitClass.Event = 2
limit_place LimitClass.Mutex = 3

-- the place of the last limit
abbrev pub limited_after : ℕ → BoardLine → ℕ
limited_after place (BoardLine.Limit class n) = limit_place class
limited_after place _ = place

-- what the lines said, with one more
abbrev pub after : SoFar → BoardLine → SoFar
after s l = record { rank = (row (kind_of l)).rank; limited = limited_after s.limited l; board = added s.board l }

-- ---- what may stand where

-- ranks never fall, those of 1 to 14 come once, and a statement stands below a thread
abbrev pub is_out_of_order : SoFar → Form → Bool
is_out_of_order s f = if f.indented then not (s.rank == 24) else (nat_lt f.rank s.rank || (nat_le f.rank 14 && f.rank == s.rank))

-- each limit comes once, and in the order of the classes
abbrev pub is_passed_limit : ℕ → BoardLine → Bool
is_passed_limit place (BoardLine.Limit class n) = nat_le (limit_place class) place
is_passed_limit place _ = false

-- the names of the threads of the shell and of soft timers, and of the device that each board has
abbrev pub shell_name : List ℕ
shell_name = codes "tshell"

abbrev pub soft_name : List ℕ
soft_name = codes "tsoft"

abbrev pub console_name : List ℕ
console_name = codes "console"

-- a name that its class has, or an arrival of a device at a moment at which it has one
abbrev pub is_twice : PlainBoard → BoardLine → Bool
is_twice b (BoardLine.Sem d) = list_any (λ (o : SemDef). bytes_eq o.name d.name) b.sems
is_twice b (BoardLine.Event d) = list_any (λ (o : EventDef). bytes_eq o.name d.name) b.events
is_twice b (BoardLine.Mutex d) = list_any (λ (o : MutexDef). bytes_eq o.name d.name) b.mutexes
is_twice b (BoardLine.Mailbox d) = list_any (λ (o : MailboxDef). bytes_eq o.name d.name) b.mailboxes
is_twice b (BoardLine.Queue d) = list_any (λ (o : QueueDef). bytes_eq o.name d.name) b.queues
is_twice b (BoardLine.Pool d) = list_any (λ (o : PoolDef). bytes_eq o.name d.name) b.pools
is_twice b (BoardLine.Device d) = bytes_eq console_name d.name || list_any (λ (o : DeviceDef). bytes_eq o.name d.name) b.devices
is_twice b (BoardLine.Timer d) = list_any (λ (o : TimerDef). bytes_eq o.name d.name) b.timers
is_twice b (BoardLine.Thread t) = (is_some b.shell && bytes_eq shell_name t.name) || (is_some b.soft && bytes_eq soft_name t.name) || list_any (λ (o : ThreadDef). bytes_eq o.name t.name) b.threads
is_twice b (BoardLine.Arrive a) = list_any (λ (o : Arrival). arrival_moment b o == arrival_moment b a && bytes_eq o.device a.device) b.arrivals
is_twice b _ = false

-- how many statements the last script has
abbrev pub last_length : List ThreadDef → ℕ
last_length [] = 0
last_length (t ∷ []) = length t.script
last_length (t ∷ u ∷ ts) = last_length (u ∷ ts)

-- how many threads a board may have; with those of the shell and of soft timers they are 256
abbrev pub thread_limit : PlainBoard → ℕ
thread_limit b = 256 - (if is_some b.shell then 1 else 0) - (if is_some b.soft then 1 else 0)

-- there is no room for one more; with the console, the devices are 16
abbrev pub is_full : PlainBoard → BoardLine → Bool
is_full b (BoardLine.Sem d) = nat_le b.limits.sem (length b.sems)
is_full b (BoardLine.Event d) = nat_le b.limits.event (length b.events)
is_full b (BoardLine.Mutex d) = nat_le b.limits.mutex (length b.mutexes)
is_full b (BoardLine.Mailbox d) = nat_le 64 (length b.mailboxes)
is_full b (BoardLine.Queue d) = nat_le 64 (length b.queues)
is_full b (BoardLine.Pool d) = nat_le 64 (length b.pools)
is_full b (BoardLine.Device d) = nat_le 15 (length b.devices)
is_full b (BoardLine.Timer d) = nat_le 64 (length b.timers)
is_full b (BoardLine.Thread t) = nat_le (thread_limit b) (length b.threads)
is_full b (BoardLine.Statement s) = nat_le 512 (last_length b.threads)
is_full b (BoardLine.Arrive a) = nat_le 4096 (length b.arrivals)
is_full b _ = false

-- the count of the last arrival
abbrev pub last_count : List Arrival → ℕ
last_count [] = 0
last_count (a ∷ []) = a.count
last_count (a ∷ c ∷ cs) = last_count (c ∷ cs)

-- a core that the board doesn't have
abbrev pub is_beyond : ℕ → Option ℕ → Bool
is_beyond cores None = false
is_beyond cores (Some n) = nat_le cores n

-- an event of such a core
abbrev pub is_event_beyond : ℕ → Event → Bool
is_event_beyond cores (Event.Step core) = nat_le cores core
is_event_beyond cores Event.Tick = false

-- an order with such an event
abbrev pub is_schedule_beyond : ℕ → Schedule → Bool
is_schedule_beyond cores (Schedule.Order events) = list_any (is_event_beyond cores) events
is_schedule_beyond cores _ = false

-- a statement that no timer may do
abbrev pub is_barred : Option Stmt → Bool
is_barred None = false
is_barred (Some s) = not (is_timer_statement s)

-- a device of the board, or the console
abbrev pub has_device : PlainBoard → List ℕ → Bool
has_device b name = bytes_eq console_name name || list_any (λ (o : DeviceDef). bytes_eq o.name name) b.devices

-- it names what isn't there, or a count that has passed, or what no timer may do, or is a soft timer without its thread
abbrev pub is_astray : PlainBoard → BoardLine → Bool
is_astray b (BoardLine.Schedule schedule) = is_schedule_beyond b.cores schedule
is_astray b (BoardLine.Timer d) = is_barred d.call || (is_soft d.kind && not (is_some b.soft))
is_astray b (BoardLine.Thread t) = is_beyond b.cores t.core
is_astray b (BoardLine.Arrive a) = nat_lt a.count (last_count b.arrivals) || not (has_device b a.device)
is_astray b _ = false

-- ---- one line

-- an empty line, or a comment
abbrev pub is_skipped : List ℕ → Bool
is_skipped [] = true
is_skipped (b ∷ bs) = b == 35

-- the line `board 1`
abbrev pub is_head : BoardLine → Bool
is_head (BoardLine.Version n) = true
is_head _ = false

-- the line may stand there: its values are in their ranges, and none of the reasons against its place holds
pub record Stands (s : SoFar) (l : BoardLine) : Type 0 where
  pub fits : FitsLine s.board.levels l
  pub head : (s.rank == 0 && not (is_head l)) ≡ false
  pub order : is_out_of_order s (row (kind_of l)) ≡ false
  pub limit : is_passed_limit s.limited l ≡ false
  pub once : is_twice s.board l ≡ false
  pub room : is_full s.board l ≡ false
  pub known : is_astray s.board l ≡ false

-- the bytes are the line's text, and it may stand there
pub record IsLine (s : SoFar) (bytes : List ℕ) (l : BoardLine) : Type 0 where
  pub spelled : bytes ≡ text_of l
  pub stands : Stands s l

-- ---- whole texts

-- each line is skipped or is the text of a line that may stand there, and the board has what they say
abbrev pub AreLines : SoFar → List (List ℕ) → PlainBoard → Type 0
AreLines s [] b = (1 ≤ s.rank) × (s.board ≡ b)
AreLines s (bytes ∷ rest) b =
    (IsTrue (is_skipped bytes) × AreLines s rest b)
    ⊎ ((l : BoardLine) × IsTrue (not (is_skipped bytes)) × IsLine s bytes l × AreLines (after s l) rest b)

-- the text is one of the board
abbrev pub IsBoard : List ℕ → PlainBoard → Type 0
IsBoard bytes b = AreLines start (lines_of bytes) b

-- ---- the reasons, in their order

-- the reason where the test holds, else the others
abbrev pub refused : {A : Type 0} → Bool → Why → Result A Why → Result A Why
refused true reason others = Err reason
refused false reason others = others

-- then, where it went well
infixl 10 ◌>>=◌
abbrev pub ◌>>=◌ : {A B : Type 0} → Result A Why → (A → Result B Why) → Result B Why
(Ok x) >>= f = f x
(Err e) >>= f = Err e

-- whether two spaces stand in front
abbrev pub is_indented : List ℕ → Bool
is_indented [] = false
is_indented (b ∷ []) = false
is_indented (b ∷ c ∷ bs) = b == 32 && c == 32

-- the words behind the indent
abbrev pub words_behind : List ℕ → List (List ℕ)
words_behind bytes = words_of (if is_indented bytes then drop 2 bytes else bytes)

-- the first word
abbrev pub first_of : List (List ℕ) → List ℕ
first_of ws = word_at ws 0

-- the kind that was found
abbrev pub found : Option Kind → Result Kind Why
found None = Err Why.Kind
found (Some k) = Ok k

-- the second word names a class whose limit has passed
abbrev pub is_class_passed : ℕ → Option LimitClass → Bool
is_class_passed place None = false
is_class_passed place (Some class) = nat_le (limit_place class) place

-- the same of any line
abbrev pub is_limit_passed : ℕ → Tail → List ℕ → Bool
is_limit_passed place SetsLimit word = is_class_passed place (limit_named word)
is_limit_passed place _ word = false

-- whether there are as many words as the form says
abbrev pub has_count : Form → List (List ℕ) → Bool
has_count f ws = nat_le (1 + length f.fields) (length ws) && is_counted f.tail (drop (1 + length f.fields) ws)

-- reasons 12 to 14
abbrev pub placed : PlainBoard → BoardLine → Result BoardLine Why
placed b l =
    refused (is_twice b l) Why.Twice (
    refused (is_full b l) Why.Full (
    refused (is_astray b l) Why.Refer (
    Ok l)))

-- reasons 5 to 14; said_in judges 7 to 11 together, and gives the least
abbrev pub of_kind : SoFar → List (List ℕ) → Kind → Result BoardLine Why
of_kind s ws k =
    refused (is_out_of_order s (row k) || is_limit_passed s.limited (row k).tail (word_at ws 1)) Why.Order (
    refused (not (has_count (row k) ws)) Why.Words (
    said_in s.board.levels ws k >>= placed s.board))

-- reasons 3 to 14
unfoldable pub of_words : SoFar → Bool → List (List ℕ) → Result BoardLine Why
of_words s indented ws = refused (list_any is_empty ws) Why.Space (found (kind_named indented (first_of ws)) >>= of_kind s ws)

-- what a line says, or the first of the 14 reasons that holds
unfoldable pub judged : SoFar → List ℕ → Result BoardLine Why
judged s bytes =
    refused (s.rank == 0 && not (bytes_eq bytes (codes "board 1"))) Why.Head (
    refused (not (list_all is_printable bytes)) Why.Byte (
    of_words s (is_indented bytes) (words_behind bytes)))

-- ---- the first bad line

-- a line's number, and why it is refused
pub record Bad : Type 0 where
  pub line : ℕ
  pub reason : Why

-- what comes of a line that was judged, where `others` goes on behind it
abbrev pub with_judged : ℕ → Result BoardLine Why → (BoardLine → Result PlainBoard Bad) → Result PlainBoard Bad
with_judged n (Ok l) others = others l
with_judged n (Err e) others = Err (record { line = n; reason = e })

-- the board of lines that are numbered from n on, or the first bad one
abbrev pub outcome : SoFar → ℕ → List (List ℕ) → Result PlainBoard Bad
outcome s n [] = if s.rank == 0 then Err (record { line = n; reason = Why.Head }) else Ok s.board
outcome s n (bytes ∷ rest) =
    if is_skipped bytes then outcome s (n + 1) rest
    else with_judged n (judged s bytes) (λ l. outcome (after s l) (n + 1) rest)

-- the board of a text, or the first bad line
abbrev pub reading : List ℕ → Result PlainBoard Bad
reading bytes = outcome start 1 (lines_of bytes)

-- the error alone
abbrev pub error_of : Result PlainBoard Bad → Option Bad
error_of (Ok b) = None
error_of (Err e) = Some e

-- the first line that breaks the rules, and why
abbrev pub first_bad : List ℕ → Option Bad
first_bad bytes = error_of (reading bytes)
