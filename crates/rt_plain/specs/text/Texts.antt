-- The text of a trace, and the bytes of the console.
use Rattle.std.specs.Prelude.{ℕ, ◌+◌, ◌/◌, ◌%◌, Bool, false, ◌&&◌, List, [], ◌∷◌, ◌++◌, Option, Some, None, map, take, drop, flat_map, decimal, codes, nat_le, if◌then◌else◌, ◌==◌}
use Rattle.std.specs.Fmt.{digit_glyph}
use Rattle.rt_base.specs.declared.codes.Event.{Event}
use Rattle.rt_base.specs.declared.codes.Code.{Code}
use Rattle.rt_base.specs.declared.codes.Halt.{Halt}
use Rattle.rt_plain.specs.declared.entry.Entry.{Entry}
use Rattle.rt_plain.specs.declared.entry.Cut.{Cut}
use Rattle.rt_plain.specs.declared.line.Line.{Line}
use Rattle.rt_plain.specs.declared.line.Woke.{Woke}
use Rattle.rt_plain.specs.declared.line.Fired.{Fired}
use Rattle.rt_plain.specs.text.Words.{words, code_text, sleep_text, halt_text}

-- whether a byte of a text is one from 32 to 126, which stand for themselves
abbrev pub is_shown : ℕ → Bool
is_shown byte = nat_le 32 byte && nat_le byte 126

-- the spelling of a byte within quotes: the quote, the backslash and the newline have their own, and others outside 32 to 126 are hexadecimal
abbrev pub escape_of : ℕ → List ℕ
escape_of byte =
    if byte == 34 then codes "\\\""
    else if byte == 92 then codes "\\\\"
    else if byte == 10 then codes "\\n"
    else if is_shown byte then byte ∷ []
    else codes "\\x" ++ digit_glyph false (byte / 16) ∷ digit_glyph false (byte % 16) ∷ []

-- a text in quotes
abbrev pub quoted_text : List ℕ → List ℕ
quoted_text text = 34 ∷ flat_map escape_of text ++ 34 ∷ []

-- a code, or `wait`
abbrev pub code_or_wait : Option Code → List ℕ
code_or_wait None = codes "wait"
code_or_wait (Some code) = code_text code

-- how a thread wakes
abbrev pub woke_text : Woke → List ℕ
woke_text (Woke.Code code) = code_text code
woke_text Woke.Retry = codes "retry"
woke_text Woke.Start = codes "start"

-- what came of a timer's call
abbrev pub fired_text : Fired → List ℕ
fired_text (Fired.Code code) = code_text code
fired_text Fired.Nothing = codes "-"
fired_text Fired.Soft = codes "soft"

-- a line, without its spaces and its newline
abbrev pub line_text : Line → List ℕ
line_text (Line.Run thread) = words (codes "run" ∷ thread ∷ [])
line_text (Line.Out thread head) = words (codes "out" ∷ thread ∷ (if head then codes "head" else codes "tail") ∷ [])
line_text (Line.Done thread k code) = words (codes "do" ∷ thread ∷ decimal k ∷ code_or_wait code ∷ [])
line_text (Line.Again thread k code) = words (codes "again" ∷ thread ∷ decimal k ∷ code_or_wait code ∷ [])
line_text (Line.Wake thread woke) = words (codes "wake" ∷ thread ∷ woke_text woke ∷ [])
line_text (Line.Cur thread old new) = words (codes "prio" ∷ thread ∷ (decimal old ++ codes ">" ++ decimal new) ∷ [])
line_text (Line.Fire timer fired) = words (codes "fire" ∷ timer ∷ fired_text fired ∷ [])
line_text (Line.Timeout thread) = words (codes "timeout" ∷ thread ∷ [])
line_text (Line.Rx device text lost) = words (codes "rx" ∷ device ∷ quoted_text text ∷ decimal lost ∷ [])
line_text (Line.Tx device text) = words (codes "tx" ∷ device ∷ quoted_text text ∷ [])
line_text (Line.Sleep mode ticks) = words (codes "sleep" ∷ sleep_text mode ∷ decimal ticks ∷ [])
line_text (Line.Suspend device) = words (codes "suspend" ∷ device ∷ [])
line_text (Line.Resume device) = words (codes "resume" ∷ device ∷ [])
line_text (Line.Tick tick) = words (codes "tick" ∷ decimal tick ∷ [])
line_text (Line.Print text) = words (codes "print" ∷ quoted_text text ∷ [])
line_text (Line.Close thread) = words (codes "close" ∷ thread ∷ [])
line_text (Line.Own mutex thread) = words (codes "own" ∷ mutex ∷ thread ∷ [])
line_text (Line.Mode mode) = words (codes "mode" ∷ sleep_text mode ∷ [])
line_text (Line.Work timer fired) = words (codes "work" ∷ timer ∷ fired_text fired ∷ [])
line_text (Line.Unwork timer) = words (codes "unwork" ∷ timer ∷ [])

-- a line and its newline
abbrev pub with_newline : List ℕ → List ℕ
with_newline line = line ++ 10 ∷ []

-- a line of an entry
abbrev pub indented_line : List ℕ → List ℕ
indented_line line = codes "  " ++ with_newline line

-- a tick behind its sign
abbrev pub at_tick : ℕ → List ℕ
at_tick tick = codes "@" ++ decimal tick

-- the header of an entry with its number
abbrev pub header : ℕ → Event → ℕ → List ℕ
header n (Event.Step core) tick = words (decimal n ∷ (codes "c" ++ decimal core) ∷ at_tick tick ∷ [])
header n Event.Tick tick = words (decimal n ∷ codes "tick" ∷ decimal tick ∷ [])

-- an entry with its number
abbrev pub entry_text : ℕ → Entry → List ℕ
entry_text n e = with_newline (header n e.event e.tick) ++ flat_map (λ line. indented_line (line_text line)) e.lines

-- the entries, of which the first has the number n
abbrev pub entries_text : ℕ → List Entry → List ℕ
entries_text n [] = []
entries_text n (e ∷ es) = entry_text n e ++ entries_text (n + 1) es

-- the `cut` line
abbrev pub cut_text : Cut → List ℕ
cut_text cut = with_newline (words (codes "cut" ∷ map decimal cut.counts.items))

-- the entries with the `cut` line behind as many as it says
abbrev pub body_text : List Entry → Option Cut → List ℕ
body_text journal None = entries_text 1 journal
body_text journal (Some cut) = entries_text 1 (take cut.at journal) ++ cut_text cut ++ entries_text (cut.at + 1) (drop cut.at journal)

-- how a run ended
pub record End : Type 0 where
  pub halt : Halt
  pub tick : ℕ

-- the end line, where there is one
abbrev pub end_text : Option End → List ℕ
end_text None = []
end_text (Some e) = with_newline (words (codes "end" ∷ halt_text e.halt ∷ at_tick e.tick ∷ []))

-- the text of a trace
abbrev pub trace_text : List Entry → Option Cut → Option End → List ℕ
trace_text journal cut end = body_text journal cut ++ end_text end

-- the bytes that a line prints
abbrev pub printed_by : Line → List ℕ
printed_by (Line.Print text) = text
printed_by _ = []

-- the console: the bytes of the `print` lines in order
abbrev pub console_of : List Entry → List ℕ
console_of journal = flat_map (λ e. flat_map printed_by e.lines) journal
