-- What the parser answers.
use Rattle.std.specs.Prelude.{◌≡◌, ℕ, ◌≤◌, ◌<◌, List, length, Some, Result, Ok, Err}
use Rattle.rt_plain.specs.PlainBoard.{PlainBoard}
use Rattle.rt_plain.specs.text.BoardText.{Bad, first_bad}
use Rattle.board_text.specs.declared.fault.BoardFault.{BoardFault}

-- the most bytes of a board's text
abbrev pub longest : ℕ
longest = 1048576

-- the answer is this one, unless memory ran out
abbrev pub IsOrMemory : Result PlainBoard BoardFault → Result PlainBoard BoardFault → Type 0
IsOrMemory (Ok b) wanted = Ok b ≡ wanted
IsOrMemory (Err BoardFault.Memory) wanted = Unit {0}
IsOrMemory (Err fault) wanted = Err fault ≡ wanted

-- each fault has its cause: the text is too long, or has this first bad line
abbrev pub IsCause : List ℕ → BoardFault → Type 0
IsCause text BoardFault.Memory = Unit {0}
IsCause text (BoardFault.TooLong bytes) = (bytes ≡ length text) × (longest < length text)
IsCause text (BoardFault.Line line why) = (length text ≤ longest) × (first_bad text ≡ Some (record { line = line; reason = why }))

-- the fault is the first bad line that is read, unless memory ran out
abbrev pub FailsWith : BoardFault → Result PlainBoard Bad → Type 0
FailsWith (BoardFault.Line line why) read = read ≡ Err (record { line = line; reason = why })
FailsWith BoardFault.Memory read = Unit {0}
FailsWith (BoardFault.TooLong bytes) read = ⊥

-- the same of a board or a fault
abbrev pub Answers : Result PlainBoard BoardFault → Result PlainBoard Bad → Type 0
Answers (Ok b) read = read ≡ Ok b
Answers (Err e) read = FailsWith e read
