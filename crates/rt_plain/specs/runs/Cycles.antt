-- Boards that wake from standby, one after the other.
use Rattle.std.specs.Prelude.{ℕ, zero, suc, ◌+◌, ◌%◌, Bool, true, false, List, [], ◌∷◌, ◌++◌, Option, Some, None, map, decimal, codes, if◌then◌else◌}
use Rattle.std.specs.List.{list_any}
use Rattle.std.specs.Str.{bytes_eq}
use Rattle.rt_base.specs.declared.codes.Halt.{Halt}
use Rattle.rt_plain.specs.declared.board.SemDef.{SemDef}
use Rattle.rt_plain.specs.PlainBoard.{PlainBoard}
use Rattle.rt_plain.specs.kernel.State.{State, Sem}
use Rattle.rt_plain.specs.kernel.Shown.{shown}
use Rattle.rt_plain.specs.kernel.SemCalls.{find_sem}
use Rattle.rt_plain.specs.text.Words.{words}
use Rattle.rt_plain.specs.runs.Runs.{Course, is_over_in}
use Rattle.rt_plain.specs.runs.Schedules.{scheduled_course}
use Rattle.rt_plain.specs.text.Texts.{trace_text, with_newline}
use Rattle.rt_plain.specs.runs.Ends.{end_of}

-- the semaphores whose values outlast a standby: the backup words
abbrev pub backup_names : List (List ℕ)
backup_names =
    codes "bk0" ∷ codes "bk1" ∷ codes "bk2" ∷ codes "bk3"
    ∷ codes "bk4" ∷ codes "bk5" ∷ codes "bk6" ∷ codes "bk7" ∷ []

-- whether a semaphore is a backup word
abbrev pub is_backup : List ℕ → Bool
is_backup name = list_any (λ o. bytes_eq o name) backup_names

-- the value of a semaphore, 0 where it isn't there
abbrev pub value_or_zero : Option Sem → ℕ
value_or_zero None = 0
value_or_zero (Some sem) = sem.value

-- a semaphore of the board, with the value that it had in the state where it is a backup word
abbrev pub kept_sem : State → SemDef → SemDef
kept_sem s def = if is_backup def.name then record def { value = value_or_zero (find_sem s def.name) } else def

-- the board that is opened so many ticks after its machine stood by in a state
abbrev pub next_board : PlainBoard → State → ℕ → PlainBoard
next_board b s alarm = record b { sems = map (kept_sem s) b.sems; tick0 = (shown b s.moment + alarm) % 4294967296 }

-- the run of one opening, within the limits of a cycle
abbrev pub boot_course : PlainBoard → Course
boot_course b = scheduled_course (is_over_in 20000 100000 b) b

-- whether a run halted in standby
abbrev pub is_standby : Option Halt → Bool
is_standby (Some Halt.Standby) = true
is_standby _ = false

-- the board that wakes from a run of another one, where that halted in standby
abbrev pub woken_board : PlainBoard → ℕ → Course → Option PlainBoard
woken_board b alarm c = if is_standby c.halt then Some (next_board b c.state alarm) else None

-- the boards from one on, if there is one
abbrev pub boards_from : (PlainBoard → List PlainBoard) → Option PlainBoard → List PlainBoard
boards_from boards None = []
boards_from boards (Some b) = boards b

-- a board, and those that wake one after the other, so many at most
abbrev pub boots : ℕ → ℕ → PlainBoard → List PlainBoard
boots alarm zero b = b ∷ []
boots alarm (suc n) b = b ∷ boards_from (λ next. boots alarm n next) (woken_board b alarm (boot_course b))

-- the first line of a part
abbrev pub boot_line : ℕ → ℕ → List ℕ
boot_line number tick0 = with_newline (words (codes "boot" ∷ decimal number ∷ codes "tick0" ∷ decimal tick0 ∷ []))

-- a part: its number, and the trace of its run
abbrev pub boot_text : ℕ → PlainBoard → List ℕ
boot_text number b = let c = boot_course b in boot_line number b.tick0 ++ trace_text c.journal None (end_of b c)

-- the parts, of which the first has the number n
abbrev pub boots_text : ℕ → List PlainBoard → List ℕ
boots_text n [] = []
boots_text n (b ∷ bs) = boot_text n b ++ boots_text (n + 1) bs

-- what `cycle` writes
abbrev pub cycle_text : PlainBoard → ℕ → ℕ → List ℕ
cycle_text b alarm times = boots_text 0 (boots alarm times b)
