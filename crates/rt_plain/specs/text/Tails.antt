-- What stands behind the fields of three kinds of lines: a limit, a schedule, a timer's call.
use Rattle.std.specs.Prelude.{ℕ, ◌+◌, ◌-◌, ◌≤◌, ◌<◌, ◌^◌, ◌++◌, Bool, ◌&&◌, ◌==◌, nat_le, List, [], ◌∷◌, length, map, drop, Option, Some, None, Result, Ok, Err, decimal, codes, bytes_eq, All, if◌then◌else◌}
use Rattle.rt_base.specs.declared.codes.Event.{Event}
use Rattle.rt_plain.specs.declared.board.Schedule.{Schedule}
use Rattle.rt_plain.specs.declared.board_line.LimitClass.{LimitClass}
use Rattle.rt_plain.specs.declared.kind.StatementKind.{StatementKind}
use Rattle.rt_plain.specs.declared.kind.Tail.{Tail}
use Rattle.rt_plain.specs.declared.kind.Tail.TheVariants.{Ends, SetsLimit, SetsSchedule, MakesCall}
use Rattle.rt_plain.specs.declared.stmt.Stmt.{Stmt}
use Rattle.rt_plain.specs.declared.why.Why.{Why}
use Rattle.rt_plain.specs.text.Splits.{word_at}
use Rattle.rt_plain.specs.text.Fields.{is_digit, is_number, number_in, result_map}
use Rattle.rt_plain.specs.text.StatementTable.{statement_words, statement_named, statement_count, FitsStatement, statement_in}

-- the type of the values that stand behind the fields
abbrev pub TailValue : Tail → Type 0
TailValue Ends = Unit {0}
TailValue SetsLimit = LimitClass × ℕ
TailValue SetsSchedule = Schedule
TailValue MakesCall = Option Stmt

-- ---- spelling

-- the word of a class with a limit
abbrev pub limit_word : LimitClass → List ℕ
limit_word LimitClass.Sem = codes "sem"
limit_word LimitClass.Event = codes "event"
limit_word LimitClass.Mutex = codes "mutex"

-- an event of a schedule
abbrev pub event_text : Event → List ℕ
event_text (Event.Step core) = codes "c" ++ decimal core
event_text Event.Tick = codes "t"

-- the words of a schedule
abbrev pub schedule_words : Schedule → List (List ℕ)
schedule_words Schedule.Round = codes "round" ∷ []
schedule_words (Schedule.Seed seed) = codes "seed" ∷ decimal seed ∷ []
schedule_words (Schedule.Order events) = codes "order" ∷ map event_text events

-- the words of a timer's call, or `-`
abbrev pub timer_call_words : Option Stmt → List (List ℕ)
timer_call_words None = codes "-" ∷ []
timer_call_words (Some s) = statement_words s

-- the words of a value
abbrev pub tail_words : (t : Tail) → TailValue t → List (List ℕ)
tail_words Ends e = []
tail_words SetsLimit v = limit_word v.0 ∷ decimal v.1 ∷ []
tail_words SetsSchedule schedule = schedule_words schedule
tail_words MakesCall call = timer_call_words call

-- ---- which values there are

-- the greatest limit of a class
abbrev pub limit_top : LimitClass → ℕ
limit_top LimitClass.Sem = 64
limit_top LimitClass.Event = 64
limit_top LimitClass.Mutex = 256

-- the core of an event is one digit
abbrev pub FitsEvent : Event → Type 0
FitsEvent (Event.Step core) = core ≤ 9
FitsEvent Event.Tick = Unit {0}

-- a seed has 32 bits, and an order has 1 to 1000 events
abbrev pub FitsSchedule : Schedule → Type 0
FitsSchedule Schedule.Round = Unit {0}
FitsSchedule (Schedule.Seed seed) = seed < 2 ^ 32
FitsSchedule (Schedule.Order events) = (1 ≤ length events) × (length events ≤ 1000) × All FitsEvent events

-- the statement has its ranges
abbrev pub FitsTimerCall : ℕ → Option Stmt → Type 0
FitsTimerCall levels None = Unit {0}
FitsTimerCall levels (Some s) = FitsStatement levels s

-- which values there are
abbrev pub TailFits : ℕ → (t : Tail) → TailValue t → Type 0
TailFits levels Ends e = Unit {0}
TailFits levels SetsLimit v = v.1 ≤ limit_top v.0
TailFits levels SetsSchedule schedule = FitsSchedule schedule
TailFits levels MakesCall call = FitsTimerCall levels call

-- ---- the number of words

-- the words of a schedule; those behind an unknown one aren't counted
abbrev pub is_counted_schedule : List (List ℕ) → Bool
is_counted_schedule ws =
    if bytes_eq (word_at ws 0) (codes "round") then length ws == 1
    else if bytes_eq (word_at ws 0) (codes "seed") then length ws == 2
    else if bytes_eq (word_at ws 0) (codes "order") then nat_le 2 (length ws) && nat_le (length ws) 1001
    else nat_le 1 (length ws)

-- the words of a statement; those behind an unknown one aren't counted
abbrev pub is_counted_statement : Option StatementKind → ℕ → Bool
is_counted_statement None n = nat_le 1 n
is_counted_statement (Some k) n = n == 1 + statement_count k

-- the words of a timer's call
abbrev pub is_counted_call : List (List ℕ) → Bool
is_counted_call ws =
    if bytes_eq (word_at ws 0) (codes "-") then length ws == 1
    else is_counted_statement (statement_named (word_at ws 0)) (length ws)

-- whether there are as many words behind the fields as there should be
abbrev pub is_counted : Tail → List (List ℕ) → Bool
is_counted Ends ws = length ws == 0
is_counted SetsLimit ws = length ws == 2
is_counted SetsSchedule ws = is_counted_schedule ws
is_counted MakesCall ws = is_counted_call ws

-- ---- reading

-- the class that a word names
abbrev pub limit_named : List ℕ → Option LimitClass
limit_named word =
    if bytes_eq word (codes "sem") then Some LimitClass.Sem
    else if bytes_eq word (codes "event") then Some LimitClass.Event
    else if bytes_eq word (codes "mutex") then Some LimitClass.Mutex
    else None

-- a limit of a class; where there is no such class its number has no range
abbrev pub limit_of : Option LimitClass → List ℕ → Result (LimitClass × ℕ) Why
limit_of (Some class) word = result_map (λ n. (class, n)) (number_in 0 (limit_top class) word)
limit_of None word = if is_number word then Err Why.Choice else Err Why.Number

-- a class and its limit
abbrev pub limit_in : List (List ℕ) → Result (LimitClass × ℕ) Why
limit_in ws = limit_of (limit_named (word_at ws 0)) (word_at ws 1)

-- an event of a schedule
abbrev pub event_in : List ℕ → Result Event Why
event_in (b ∷ []) = if b == 116 then Ok Event.Tick else Err Why.Choice
event_in (b ∷ d ∷ []) = if b == 99 && is_digit d then Ok (Event.Step (d - 48)) else Err Why.Choice
event_in _ = Err Why.Choice

-- the first event and the others
abbrev pub event_before : Result Event Why → Result (List Event) Why → Result (List Event) Why
event_before (Ok event) (Ok events) = Ok (event ∷ events)
event_before (Ok event) (Err e) = Err e
event_before (Err e) others = Err e

-- the events of an order
abbrev pub events_in : List (List ℕ) → Result (List Event) Why
events_in [] = Ok []
events_in (w ∷ ws) = event_before (event_in w) (events_in ws)

-- a schedule
abbrev pub schedule_in : List (List ℕ) → Result Schedule Why
schedule_in ws =
    if bytes_eq (word_at ws 0) (codes "round") then Ok Schedule.Round
    else if bytes_eq (word_at ws 0) (codes "seed") then result_map (λ seed. Schedule.Seed seed) (number_in 0 4294967295 (word_at ws 1))
    else if bytes_eq (word_at ws 0) (codes "order") then result_map (λ events. Schedule.Order events) (events_in (drop 1 ws))
    else Err Why.Choice

-- a statement by its first word
abbrev pub statement_of : ℕ → List (List ℕ) → Option StatementKind → Result Stmt Why
statement_of levels ws None = Err Why.Choice
statement_of levels ws (Some k) = statement_in levels ws k

-- a timer's call, or none
abbrev pub timer_call_in : ℕ → List (List ℕ) → Result (Option Stmt) Why
timer_call_in levels ws =
    if bytes_eq (word_at ws 0) (codes "-") then Ok None
    else result_map (λ s. Some s) (statement_of levels ws (statement_named (word_at ws 0)))

-- the value that words are, or why they are none
abbrev pub tail_in : ℕ → (t : Tail) → List (List ℕ) → Result (TailValue t) Why
tail_in levels Ends ws = Ok tt
tail_in levels SetsLimit ws = limit_in ws
tail_in levels SetsSchedule ws = schedule_in ws
tail_in levels MakesCall ws = timer_call_in levels ws
