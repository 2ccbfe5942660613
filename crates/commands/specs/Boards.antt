-- What a command makes of the board of a file.
use Rattle.std.specs.Prelude.{◌≡◌, ◌⊎◌, ◌<◌, ◌≤◌, ℕ, List, [], ◌∷◌, Some, false, true, length, IsSome}
use Rattle.rt_plain.specs.PlainBoard.{PlainBoard}
use Rattle.rt_plain.specs.text.BoardText.{IsBoard, first_bad}
use Rattle.rt_plain.specs.text.Canon.{canonical_text}
use Rattle.rt_plain.specs.runs.Commands.{Command, run_text, console_text}
use Rattle.rt_plain.specs.runs.Ends.{run_of}
use Rattle.rt_plain.specs.runs.Runs.{Course, is_over}
use Rattle.rt_plain.specs.runs.Replays.{IsGood}
use Rattle.rt_plain.specs.declared.why.Why.{Why}
use Rattle.kernel_step.specs.Built.{is_built}
use Rattle.core_runner.specs.Limits.{IsLimited, HasCompleted}
use Rattle.core_runner.specs.Replays.{IsUnlike}
use Rattle.commands.specs.declared.ending.Ending.{Ending}

-- ---- what the files of a command hold, in their order

-- the last one spells a board
abbrev pub board_in : List (List ℕ) → List ℕ
board_in [] = []
board_in (bytes ∷ []) = bytes
board_in (bytes ∷ more ∷ contents) = board_in (more ∷ contents)

-- the first one of two is a trace
abbrev pub trace_in : List (List ℕ) → List ℕ
trace_in [] = []
trace_in (bytes ∷ contents) = bytes

-- ---- files that are no board

-- the file has more bytes than a board may have
abbrev pub IsTooLong : List ℕ → Type 0
IsTooLong bytes = 1048576 < length bytes

-- the first line of the file that breaks the rules of boards, and the reason
pub record HasBadLine (bytes : List ℕ) (line : ℕ) (why : Why) : Type 0 where
  pub size : length bytes ≤ 1048576
  pub first : first_bad bytes ≡ Some (record { line = line; reason = why })

-- the file is no board
abbrev pub IsRefused : List ℕ → Type 0
IsRefused bytes = IsTooLong bytes ⊎ ((line : ℕ) × (why : Why) × HasBadLine bytes line why)

-- ---- files that are one

-- the board of a file that isn't too long
pub record IsBoardFile (bytes : List ℕ) (b : PlainBoard) : Type 0 where
  pub size : length bytes ≤ 1048576
  pub board : IsBoard bytes b

-- the same of a board that the machine runs so far
pub record IsBuiltFile (bytes : List ℕ) (b : PlainBoard) : Type 0 where
  pub file : IsBoardFile bytes b
  pub built : is_built b ≡ true

-- ---- commands

-- the command makes the run of the board by its schedule
abbrev pub IsScheduled : Command → Type 0
IsScheduled (Command.Trace file) = Unit {0}
IsScheduled (Command.Run file) = Unit {0}
IsScheduled _ = ⊥

-- the command makes the run of the board that a trace tells
abbrev pub IsReplay : Command → Type 0
IsReplay (Command.Replay trace file) = Unit {0}
IsReplay _ = ⊥

-- the command makes a run of the board
abbrev pub IsRun : Command → Type 0
IsRun command = IsScheduled command ⊎ IsReplay command

-- the command shows the board
abbrev pub IsShow : Command → Type 0
IsShow (Command.Show file) = Unit {0}
IsShow _ = ⊥

-- the file's board has something that isn't built yet
pub record IsUnbuilt (bytes : List ℕ) : Type 0 where
  pub board : PlainBoard
  pub file : IsBoardFile bytes board
  pub unbuilt : is_built board ≡ false

-- the command makes a run of a board that has something that isn't built yet
abbrev pub IsUnbuiltRun : Command → List (List ℕ) → Type 0
IsUnbuiltRun command contents = IsRun command × IsUnbuilt (board_in contents)

-- ---- its run by the schedule

-- the run of the file's board halts
pub record Halts (bytes : List ℕ) : Type 0 where
  pub board : PlainBoard
  pub file : IsBuiltFile bytes board
  pub halted : IsSome (run_of board).halt

-- it meets a limit before it halts, at so many entries and lines
pub record IsOver (bytes : List ℕ) (entries lines : ℕ) : Type 0 where
  pub board : PlainBoard
  pub file : IsBuiltFile bytes board
  pub limited : IsLimited (is_over board) board entries lines

-- the command makes the run by the schedule, which meets a limit before it halts, at so many entries and lines
abbrev pub IsOverRun : Command → List (List ℕ) → ℕ → ℕ → Type 0
IsOverRun command contents entries lines = IsScheduled command × IsOver (board_in contents) entries lines

-- the command makes the run by the schedule, which meets a limit before it halts
abbrev pub Stops : Command → List (List ℕ) → Type 0
Stops command contents = IsScheduled command × ((entries : ℕ) × (lines : ℕ) × IsOver (board_in contents) entries lines)

-- ---- its runs by traces

-- the trace is the text of a run of the file's board within its limits that has halted
pub record IsTraceFile (trace bytes : List ℕ) : Type 0 where
  pub board : PlainBoard
  pub file : IsBuiltFile bytes board
  pub size : length trace ≤ 268435456
  pub good : IsGood board trace

-- it has more bytes than a trace may have
pub record IsLongTrace (trace bytes : List ℕ) : Type 0 where
  pub board : PlainBoard
  pub file : IsBuiltFile bytes board
  pub long : 268435456 < length trace

-- it is no such text, and the first line at which no run agrees has this number
pub record IsUnlikeTrace (trace bytes : List ℕ) (line : ℕ) : Type 0 where
  pub board : PlainBoard
  pub file : IsBuiltFile bytes board
  pub size : length trace ≤ 268435456
  pub unlike : IsUnlike board trace line

-- the trace is too long, or no such text
pub record IsNoTrace (trace bytes : List ℕ) : Type 0 where
  pub board : PlainBoard
  pub file : IsBuiltFile bytes board
  pub bad : (268435456 < length trace) ⊎ (IsGood board trace → ⊥)

-- the command replays a trace that is too long
abbrev pub IsLongReplay : Command → List (List ℕ) → Type 0
IsLongReplay command contents = IsReplay command × IsLongTrace (trace_in contents) (board_in contents)

-- the command replays a trace with whose line of this number no run goes on
abbrev pub IsUnlikeReplay : Command → List (List ℕ) → ℕ → Type 0
IsUnlikeReplay command contents line = IsReplay command × IsUnlikeTrace (trace_in contents) (board_in contents) line

-- the command replays what is no trace of the board
abbrev pub IsBadReplay : Command → List (List ℕ) → Type 0
IsBadReplay command contents = IsReplay command × IsNoTrace (trace_in contents) (board_in contents)

-- the command has a text: it makes the run by the schedule, which halts, it shows a board, or it replays a trace of it
abbrev pub HasText : Command → List (List ℕ) → Type 0
HasText command contents =
    (IsScheduled command × Halts (board_in contents))
    ⊎ (IsShow command × ((b : PlainBoard) × IsBoardFile (board_in contents) b))
    ⊎ (IsReplay command × IsTraceFile (trace_in contents) (board_in contents))

-- the course is the run of the file's board, which has halted and is complete
pub record HasRun (bytes : List ℕ) (b : PlainBoard) (c : Course) : Type 0 where
  pub file : IsBuiltFile bytes b
  pub run : c ≡ run_of b
  pub halted : IsSome c.halt
  pub complete : HasCompleted (is_over b) b c

-- ---- what a command writes

-- a text of the run of the file's board, which has halted and is complete: each entry is what its event made
pub record IsRunText (text_of : PlainBoard → List ℕ) (bytes text : List ℕ) : Type 0 where
  pub board : PlainBoard
  pub file : IsBuiltFile bytes board
  pub halted : IsSome (run_of board).halt
  pub complete : HasCompleted (is_over board) board (run_of board)
  pub output : text ≡ text_of board

-- the canonical text of the file's board
pub record IsShown (bytes text : List ℕ) : Type 0 where
  pub board : PlainBoard
  pub file : IsBoardFile bytes board
  pub output : text ≡ canonical_text board

-- the trace itself, which is that of a run of the file's board
pub record IsReplayed (trace bytes text : List ℕ) : Type 0 where
  pub traced : IsTraceFile trace bytes
  pub output : text ≡ trace

-- the text is what the command writes of what its files hold
abbrev pub IsText : Command → List (List ℕ) → List ℕ → Type 0
IsText (Command.Trace file) contents text = IsRunText run_text (board_in contents) text
IsText (Command.Run file) contents text = IsRunText console_text (board_in contents) text
IsText (Command.Show file) contents text = IsShown (board_in contents) text
IsText (Command.Replay trace file) contents text = IsReplayed (trace_in contents) (board_in contents) text
IsText _ contents text = ⊥

-- no board is read, for its cause alone
abbrev pub IsNoBoard : List ℕ → Ending → Type 0
IsNoBoard bytes (Ending.BadLine line why) = HasBadLine bytes line why
IsNoBoard bytes Ending.Memory = Unit {0}
IsNoBoard bytes _ = ⊥

-- no run of the board can be made, for its cause alone
abbrev pub IsUnready : List ℕ → Ending → Type 0
IsUnready bytes Ending.NotBuilt = IsUnbuilt bytes
IsUnready bytes ending = IsNoBoard bytes ending

-- a run isn't made, for its cause alone
abbrev pub IsNoRun : List ℕ → Ending → Type 0
IsNoRun bytes (Ending.Limited entries lines) = IsOver bytes entries lines
IsNoRun bytes ending = IsUnready bytes ending

-- the trace isn't one of the board, for its cause alone
abbrev pub IsUnlikeOf : PlainBoard → List ℕ → Ending → Type 0
IsUnlikeOf b trace (Ending.TraceLine line) = IsUnlike b trace line
IsUnlikeOf b trace Ending.Memory = Unit {0}
IsUnlikeOf b trace _ = ⊥

-- nothing is written, for its cause alone
abbrev pub IsCauseOf : Command → List (List ℕ) → Ending → Type 0
IsCauseOf command contents Ending.NotBuilt = IsUnbuiltRun command contents
IsCauseOf command contents (Ending.Limited entries lines) = IsOverRun command contents entries lines
IsCauseOf command contents ending = IsNoBoard (board_in contents) ending
