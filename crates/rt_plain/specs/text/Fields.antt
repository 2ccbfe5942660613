-- The fields of lines: how each value is spelled, which values there are, and how a word is read.
use Rattle.std.specs.Prelude.{ℕ, ◌+◌, ◌*◌, ◌-◌, ◌^◌, ◌≤◌, ◌<◌, min, Bool, true, false, not, ◌&&◌, ◌||◌, ◌==◌, nat_lt, nat_le, List, [], ◌∷◌, ◌++◌, length, map, slice_index, Option, Some, None, Result, Ok, Err, decimal, codes, bytes_eq, IfSome, All, if◌then◌else◌, IsTrue}
use Rattle.std.specs.Option.{option_map}
use Rattle.std.specs.List.{list_all}
use Rattle.rt_base.specs.declared.codes.Code.{Code}
use Rattle.rt_base.specs.declared.codes.Class.{Class}
use Rattle.rt_base.specs.declared.codes.Sleep.{Sleep}
use Rattle.rt_base.specs.declared.codes.RunMode.{RunMode}
use Rattle.rt_base.specs.declared.codes.WaitOrder.{WaitOrder}
use Rattle.rt_base.specs.Grammar.{is_name, is_text}
use Rattle.rt_plain.specs.declared.board.TimerKind.{TimerKind}
use Rattle.rt_plain.specs.declared.line.Woke.{Woke}
use Rattle.rt_plain.specs.declared.line.Fired.{Fired}
use Rattle.rt_plain.specs.declared.stmt.What.{What}
use Rattle.rt_plain.specs.declared.why.Why.{Why}
use Rattle.rt_plain.specs.declared.quote.Quoting.{Quoting}
use Rattle.rt_plain.specs.declared.quote.QuoteStep.{QuoteStep}
use Rattle.rt_plain.specs.text.Words.{code_text, sleep_text, run_mode_text, order_text, class_text}
use Rattle.rt_plain.specs.text.Texts.{quoted_text, is_shown, code_or_wait, woke_text, fired_text}

-- the kinds of words behind the first one of a line
pub data Field : Type 0 where
  Number : (low : ℕ) → (high : ℕ) → Field
  Moment : Field
  Levels : Field
  Core : Field
  Wait : Field
  Named : Field
  Indicated : Field
  Quoted : Field
  Coded : Field
  Ordered : Field
  Said : Field
  Classed : Field
  Moded : Field
  Ran : Field
  Repeated : Field
  Started : Field
  Armed : Field
  How : Field
  Keep : Field
  OnOff : Field
  Powered : Field
  Placed : Field
  Answered : Field
  Woken : Field
  Acted : Field
  Changed : Field
  Received : Field

-- the type of a field's values
abbrev pub Value : Field → Type 0
Value (Number low high) = ℕ
Value Moment = ℕ
Value Levels = ℕ
Value Core = Option ℕ
Value Wait = Option ℕ
Value Named = List ℕ
Value Indicated = Option (List ℕ)
Value Quoted = List ℕ
Value Coded = Code
Value Ordered = WaitOrder
Value Said = What
Value Classed = Class
Value Moded = Sleep
Value Ran = RunMode
Value Repeated = TimerKind
Value Started = Bool
Value Armed = Bool
Value How = Bool
Value Keep = Bool
Value OnOff = Bool
Value Powered = Bool
Value Placed = Bool
Value Answered = Option Code
Value Woken = Woke
Value Acted = Fired
Value Changed = ℕ × ℕ
Value Received = List ℕ × ℕ

-- ---- spelling

-- a number, or a word where there is none
abbrev pub number_or : List ℕ → Option ℕ → List ℕ
number_or word None = word
number_or word (Some n) = decimal n

-- a name, or `-` where there is none
abbrev pub name_or_dash : Option (List ℕ) → List ℕ
name_or_dash None = codes "-"
name_or_dash (Some name) = name

-- one of two words
abbrev pub either : List ℕ → List ℕ → Bool → List ℕ
either first second true = first
either first second false = second

-- what `say` says
abbrev pub what_text : What → List ℕ
what_text What.Code = codes "code"
what_text What.Value = codes "value"
what_text What.Text = codes "text"

-- the kind of a timer
abbrev pub timer_kind_text : TimerKind → List ℕ
timer_kind_text TimerKind.OneShot = codes "oneshot"
timer_kind_text TimerKind.Periodic = codes "periodic"
timer_kind_text TimerKind.SoftOne = codes "softone"
timer_kind_text TimerKind.SoftPer = codes "softper"

-- the word for a value
abbrev pub spelled : (f : Field) → Value f → List ℕ
spelled (Number low high) n = decimal n
spelled Moment n = decimal n
spelled Levels n = decimal n
spelled Core n = number_or (codes "any") n
spelled Wait n = number_or (codes "ever") n
spelled Named name = name
spelled Indicated name = name_or_dash name
spelled Quoted text = quoted_text text
spelled Coded code = code_text code
spelled Ordered order = order_text order
spelled Said what = what_text what
spelled Classed class = class_text class
spelled Moded mode = sleep_text mode
spelled Ran mode = run_mode_text mode
spelled Repeated kind = timer_kind_text kind
spelled Started b = either (codes "start") (codes "init") b
spelled Armed b = either (codes "auto") (codes "manual") b
spelled How b = either (codes "and") (codes "or") b
spelled Keep b = either (codes "clear") (codes "keep") b
spelled OnOff b = either (codes "on") (codes "off") b
spelled Powered b = either (codes "pm") (codes "nopm") b
spelled Placed b = either (codes "head") (codes "tail") b
spelled Answered answer = code_or_wait answer
spelled Woken woke = woke_text woke
spelled Acted fired = fired_text fired
spelled Changed v = decimal v.0 ++ 62 ∷ decimal v.1
spelled Received v = quoted_text v.0 ++ 32 ∷ decimal v.1

-- ---- which values there are

-- the classes whose objects may be deleted
abbrev pub is_deletable : Class → Bool
is_deletable Class.Sem = true
is_deletable Class.Event = true
is_deletable Class.Mutex = true
is_deletable Class.Mailbox = true
is_deletable Class.MsgQueue = true
is_deletable _ = false

-- which values a field may have
abbrev pub Fits : (f : Field) → Value f → Type 0
Fits (Number low high) n = (low ≤ n) × (n ≤ high) × (n < 2 ^ 32)
Fits Moment n = (1 ≤ n) × (n ≤ 1099511627775)
Fits Levels n = IsTrue (n == 8 || n == 32 || n == 256)
Fits Core n = IfSome n (λ n. n < 255)
Fits Wait n = IfSome n (λ n. n < 2 ^ 31)
Fits Named name = IsTrue (is_name name)
Fits Indicated n = IfSome n (λ name. IsTrue (is_name name))
Fits Quoted text = IsTrue (is_text text) × All (λ b. b < 256) text
Fits Coded code = Unit {0}
Fits Ordered order = Unit {0}
Fits Said what = Unit {0}
Fits Classed class = IsTrue (is_deletable class)
Fits Moded mode = Unit {0}
Fits Ran mode = Unit {0}
Fits Repeated kind = Unit {0}
Fits Started b = Unit {0}
Fits Armed b = Unit {0}
Fits How b = Unit {0}
Fits Keep b = Unit {0}
Fits OnOff b = Unit {0}
Fits Powered b = Unit {0}
Fits Placed b = Unit {0}
Fits Answered answer = Unit {0}
Fits Woken woke = Unit {0}
Fits Acted fired = Unit {0}
Fits Changed v = (v.0 < 256) × (v.1 < 256)
Fits Received v = (IsTrue (is_text v.0) × All (λ b. b < 256) v.0) × (v.1 < 256)

-- ---- reading numbers

-- the number that digits stand for, behind those that stand for n
abbrev pub read_on : ℕ → List ℕ → ℕ
read_on n [] = n
read_on n (c ∷ cs) = read_on (10 * n + (c - 48)) cs

-- a decimal digit
abbrev pub is_digit : ℕ → Bool
is_digit b = nat_le 48 b && nat_le b 57

-- digits, and no zero in front of others
abbrev pub is_number : List ℕ → Bool
is_number word = not (length word == 0) && list_all is_digit word && (length word == 1 || not (slice_index word 0 == 48))

-- in a range, and in 32 bits
abbrev pub is_within : ℕ → ℕ → ℕ → Bool
is_within low high n = nat_le low n && nat_le n high && nat_lt n (2 ^ 32)

-- a number in a range
abbrev pub number_in : ℕ → ℕ → List ℕ → Result ℕ Why
number_in low high word =
    if is_number word then (if is_within low high (read_on 0 word) then Ok (read_on 0 word) else Err Why.Range)
    else Err Why.Number

-- a moment after opening
abbrev pub moment_in : List ℕ → Result ℕ Why
moment_in word =
    if is_number word
    then (if nat_le 1 (read_on 0 word) && nat_le (read_on 0 word) 1099511627775 then Ok (read_on 0 word) else Err Why.Range)
    else Err Why.Number

-- a number of priority levels
abbrev pub levels_in : List ℕ → Result ℕ Why
levels_in word =
    if is_number word
    then (if read_on 0 word == 8 || read_on 0 word == 32 || read_on 0 word == 256 then Ok (read_on 0 word) else Err Why.Range)
    else Err Why.Number

-- any core, or a number, where 255 stands for all from there on
abbrev pub core_in : List ℕ → Result (Option ℕ) Why
core_in word =
    if bytes_eq word (codes "any") then Ok None
    else if is_number word then Ok (Some (min (read_on 0 word) 255))
    else Err Why.Number

-- what comes of a value that was read
abbrev pub result_map : {A B : Type 0} → (A → B) → Result A Why → Result B Why
result_map f (Ok a) = Ok (f a)
result_map f (Err e) = Err e

-- a timeout
abbrev pub wait_in : List ℕ → Result (Option ℕ) Why
wait_in word = if bytes_eq word (codes "ever") then Ok None else result_map (λ n. Some n) (number_in 0 2147483647 word)

-- ---- reading names and listed words

-- a name
abbrev pub name_in : List ℕ → Result (List ℕ) Why
name_in word = if is_name word then Ok word else Err Why.Name

-- a name, or none
abbrev pub indicated_in : List ℕ → Result (Option (List ℕ)) Why
indicated_in word = if bytes_eq word (codes "-") then Ok None else result_map (λ n. Some n) (name_in word)

-- one of two words
abbrev pub choice_in : List ℕ → List ℕ → List ℕ → Result Bool Why
choice_in first second word =
    if bytes_eq word first then Ok true
    else if bytes_eq word second then Ok false
    else Err Why.Choice

-- the value of a word that is listed, or the reason for another word
abbrev pub listed_in : {A : Type 0} → Why → List (List ℕ × A) → List ℕ → Result A Why
listed_in reason [] word = Err reason
listed_in reason (p ∷ ps) word = if bytes_eq word p.0 then Ok p.1 else listed_in reason ps word

-- the words of codes
abbrev pub all_codes : List (List ℕ × Code)
all_codes =
    (codes "0", Code.Ok) ∷ (codes "-1", Code.Error) ∷ (codes "-2", Code.Timeout) ∷ (codes "-3", Code.Full)
    ∷ (codes "-4", Code.Empty) ∷ (codes "-5", Code.NoMem) ∷ (codes "-6", Code.NoSys) ∷ (codes "-7", Code.Busy)
    ∷ (codes "-8", Code.Io) ∷ (codes "-9", Code.Intr) ∷ (codes "-10", Code.Inval) ∷ []

-- a code; another word should have been one
abbrev pub code_in : List ℕ → Result Code Why
code_in word = listed_in Why.Number all_codes word

-- the words of orders
abbrev pub all_orders : List (List ℕ × WaitOrder)
all_orders = (codes "fifo", WaitOrder.Fifo) ∷ (codes "prio", WaitOrder.Prio) ∷ []

-- an order of waiters
abbrev pub order_in : List ℕ → Result WaitOrder Why
order_in word = listed_in Why.Choice all_orders word

-- the words of `say`
abbrev pub all_whats : List (List ℕ × What)
all_whats = (codes "code", What.Code) ∷ (codes "value", What.Value) ∷ (codes "text", What.Text) ∷ []

-- what `say` says
abbrev pub what_in : List ℕ → Result What Why
what_in word = listed_in Why.Choice all_whats word

-- the words of the classes whose objects may be deleted
abbrev pub deletable_classes : List (List ℕ × Class)
deletable_classes =
    (codes "sem", Class.Sem) ∷ (codes "event", Class.Event) ∷ (codes "mutex", Class.Mutex)
    ∷ (codes "mailbox", Class.Mailbox) ∷ (codes "msgqueue", Class.MsgQueue) ∷ []

-- a class whose objects may be deleted
abbrev pub class_in : List ℕ → Result Class Why
class_in word = listed_in Why.Choice deletable_classes word

-- the words of sleep modes
abbrev pub all_modes : List (List ℕ × Sleep)
all_modes =
    (codes "none", Sleep.NoSleep) ∷ (codes "idle", Sleep.Idle) ∷ (codes "light", Sleep.Light)
    ∷ (codes "deep", Sleep.Deep) ∷ (codes "standby", Sleep.Standby) ∷ (codes "shutdown", Sleep.Shutdown) ∷ []

-- a sleep mode
abbrev pub mode_in : List ℕ → Result Sleep Why
mode_in word = listed_in Why.Choice all_modes word

-- the words of run modes
abbrev pub all_run_modes : List (List ℕ × RunMode)
all_run_modes =
    (codes "high", RunMode.High) ∷ (codes "normal", RunMode.Normal)
    ∷ (codes "medium", RunMode.Medium) ∷ (codes "low", RunMode.Low) ∷ []

-- a run mode
abbrev pub run_in : List ℕ → Result RunMode Why
run_in word = listed_in Why.Choice all_run_modes word

-- the words of the kinds of timers
abbrev pub all_timer_kinds : List (List ℕ × TimerKind)
all_timer_kinds =
    (codes "oneshot", TimerKind.OneShot) ∷ (codes "periodic", TimerKind.Periodic)
    ∷ (codes "softone", TimerKind.SoftOne) ∷ (codes "softper", TimerKind.SoftPer) ∷ []

-- the kind of a timer
abbrev pub timer_kind_in : List ℕ → Result TimerKind Why
timer_kind_in word = listed_in Why.Choice all_timer_kinds word

-- the words of answers: a code, or `wait`
abbrev pub all_answers : List (List ℕ × Option Code)
all_answers = (codes "wait", None) ∷ map (λ p. (p.0, Some p.1)) all_codes

-- an answer
abbrev pub answer_in : List ℕ → Result (Option Code) Why
answer_in word = listed_in Why.Number all_answers word

-- the words of wakes: a code, or why none is shown
abbrev pub all_wakes : List (List ℕ × Woke)
all_wakes = (codes "retry", Woke.Retry) ∷ (codes "start", Woke.Start) ∷ map (λ p. (p.0, Woke.Code p.1)) all_codes

-- how a thread wakes
abbrev pub woke_in : List ℕ → Result Woke Why
woke_in word = listed_in Why.Number all_wakes word

-- the words of what came of a timer's call: a code, `-` or `soft`
abbrev pub all_acts : List (List ℕ × Fired)
all_acts = (codes "-", Fired.Nothing) ∷ (codes "soft", Fired.Soft) ∷ map (λ p. (p.0, Fired.Code p.1)) all_codes

-- what came of a timer's call
abbrev pub fired_in : List ℕ → Result Fired Why
fired_in word = listed_in Why.Number all_acts word

-- ---- reading words of two parts

-- what stands before and behind the last such byte, with a byte in front of the rest
abbrev pub split_more : ℕ → ℕ → List ℕ → Option (List ℕ × List ℕ) → Option (List ℕ × List ℕ)
split_more byte b bs (Some p) = Some (b ∷ p.0, p.1)
split_more byte b bs None = if b == byte then Some ([], bs) else None

-- what stands before and behind the last such byte
abbrev pub split_last : ℕ → List ℕ → Option (List ℕ × List ℕ)
split_last byte [] = None
split_last byte (b ∷ bs) = split_more byte b bs (split_last byte bs)

-- both values, or the reason of the first that is none
abbrev pub paired : {A B : Type 0} → Result A Why → Result B Why → Result (A × B) Why
paired (Ok a) (Ok b) = Ok (a, b)
paired (Ok a) (Err e) = Err e
paired (Err d) b = Err d

-- two priorities
abbrev pub change_parts : Option (List ℕ × List ℕ) → Result (ℕ × ℕ) Why
change_parts None = Err Why.Number
change_parts (Some p) = paired (number_in 0 255 p.0) (number_in 0 255 p.1)

-- two priorities with `>` between them
abbrev pub change_in : List ℕ → Result (ℕ × ℕ) Why
change_in word = change_parts (split_last 62 word)

-- ---- reading quoted texts

-- a digit of `\xHH`
abbrev pub is_hex : ℕ → Bool
is_hex b = (nat_le 48 b && nat_le b 57) || (nat_le 97 b && nat_le b 102)

-- the value of such a digit
abbrev pub hex_value : ℕ → ℕ
hex_value b = if nat_le b 57 then b - 48 else b - 87

-- a byte that only its hexadecimal digits spell
abbrev pub needs_hex : ℕ → Bool
needs_hex b = not (is_shown b) && not (b == 10)

-- a byte in front of what is read of the rest
abbrev pub with_front : ℕ → Option (List ℕ) → Option (List ℕ)
with_front b rest = option_map (λ bs. b ∷ bs) rest

-- the bytes of a text, from behind its first quote on
abbrev pub unquoted : Quoting → List ℕ → Option (List ℕ)
unquoted mode [] = None
unquoted Quoting.Plain (b ∷ bs) =
    if b == 34 then (if length bs == 0 then Some [] else None)
    else if b == 92 then unquoted Quoting.Escape bs
    else with_front b (unquoted Quoting.Plain bs)
unquoted Quoting.Escape (b ∷ bs) =
    if b == 34 then with_front 34 (unquoted Quoting.Plain bs)
    else if b == 92 then with_front 92 (unquoted Quoting.Plain bs)
    else if b == 110 then with_front 10 (unquoted Quoting.Plain bs)
    else if b == 120 then unquoted Quoting.High bs
    else None
unquoted Quoting.High (b ∷ bs) = if is_hex b then unquoted (Quoting.Low (hex_value b)) bs else None
unquoted (Quoting.Low high) (b ∷ bs) =
    if is_hex b && needs_hex (16 * high + hex_value b)
    then with_front (16 * high + hex_value b) (unquoted Quoting.Plain bs)
    else None

-- a text of 1 to 64 bytes
abbrev pub text_or : Option (List ℕ) → Result (List ℕ) Why
text_or None = Err Why.Text
text_or (Some text) = if is_text text then Ok text else Err Why.Text

-- a quoted text
abbrev pub text_in : List ℕ → Result (List ℕ) Why
text_in [] = Err Why.Text
text_in (b ∷ bs) = if b == 34 then text_or (unquoted Quoting.Plain bs) else Err Why.Text

-- a quoted text and a number
abbrev pub received_parts : Option (List ℕ × List ℕ) → Result (List ℕ × ℕ) Why
received_parts None = Err Why.Text
received_parts (Some p) = paired (text_in p.0) (number_in 0 255 p.1)

-- a quoted text and a number with a space between them
abbrev pub received_in : List ℕ → Result (List ℕ × ℕ) Why
received_in word = received_parts (split_last 32 word)

-- what one byte of a quoted text does
abbrev pub step_of : Quoting → ℕ → QuoteStep
step_of Quoting.Plain b =
    if b == 34 then QuoteStep.End
    else if b == 92 then QuoteStep.To Quoting.Escape
    else QuoteStep.Byte b
step_of Quoting.Escape b =
    if b == 34 then QuoteStep.Byte 34
    else if b == 92 then QuoteStep.Byte 92
    else if b == 110 then QuoteStep.Byte 10
    else if b == 120 then QuoteStep.To Quoting.High
    else QuoteStep.Bad
step_of Quoting.High b = if is_hex b then QuoteStep.To (Quoting.Low (hex_value b)) else QuoteStep.Bad
step_of (Quoting.Low high) b =
    if is_hex b && needs_hex (16 * high + hex_value b)
    then QuoteStep.Byte (16 * high + hex_value b)
    else QuoteStep.Bad

-- the digit that was read is one
abbrev pub IsGood : Quoting → Type 0
IsGood (Quoting.Low high) = high < 16
IsGood _ = Unit {0}

-- the reader is well after a step
abbrev pub IsGoodStep : QuoteStep → Type 0
IsGoodStep (QuoteStep.To mode) = IsGood mode
IsGoodStep _ = Unit {0}

-- ---- all fields

-- the value that a word is, or why it is none
abbrev pub value_in : (f : Field) → List ℕ → Result (Value f) Why
value_in (Number low high) word = number_in low high word
value_in Moment word = moment_in word
value_in Levels word = levels_in word
value_in Core word = core_in word
value_in Wait word = wait_in word
value_in Named word = name_in word
value_in Indicated word = indicated_in word
value_in Quoted word = text_in word
value_in Coded word = code_in word
value_in Ordered word = order_in word
value_in Said word = what_in word
value_in Classed word = class_in word
value_in Moded word = mode_in word
value_in Ran word = run_in word
value_in Repeated word = timer_kind_in word
value_in Started word = choice_in (codes "start") (codes "init") word
value_in Armed word = choice_in (codes "auto") (codes "manual") word
value_in How word = choice_in (codes "and") (codes "or") word
value_in Keep word = choice_in (codes "clear") (codes "keep") word
value_in OnOff word = choice_in (codes "on") (codes "off") word
value_in Powered word = choice_in (codes "pm") (codes "nopm") word
value_in Placed word = choice_in (codes "head") (codes "tail") word
value_in Answered word = answer_in word
value_in Woken word = woke_in word
value_in Acted word = fired_in word
value_in Changed word = change_in word
value_in Received word = received_in word
