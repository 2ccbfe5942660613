-- What the words ask for, and how that ends.
use Rattle.std.specs.Prelude.{◌≡◌, ℕ, List, take, Option, Some, None}
use Rattle.rt_edge.specs.Counts.{Rose}
use Rattle.rt_edge.specs.Contents.{Names, IsAbsent, HasGrown}
use Rattle.rt_plain.specs.runs.Commands.{Command}
use Rattle.commands.specs.Command.{file_of, files_of}
use Rattle.commands.specs.Held.{IfHeld, IfAllHeld, AreHeld, IfFirstHeld, IsOneLacked, IsFirstLacked, Steady}
use Rattle.commands.specs.Boards.{IsText, IsTooLong, HasBadLine, IsUnbuiltRun, IsOverRun, IsLongReplay, IsUnlikeReplay, board_in}
use Rattle.commands.specs.Ending.{status_of, message}
use Rattle.commands.specs.declared.ending.Ending.{Ending}
use Rattle.commands.specs.declared.ending.Ending.TheVariants.{Done, Usage, Missing, Unreadable, Unwritable, TooLong, BadLine, NotBuilt, Limited, TraceTooLong, TraceLine, Memory}
use Rattle.commands.specs.declared.args.Wanted.{Wanted}

-- the words are a command, whose files are held where the names are told, and so for what they hold
abbrev pub IfAsked : Option Command → Option Names → (Command → List (List ℕ) → Type 0) → Type 0
IfAsked None held P = ⊥
IfAsked (Some command) held P = IfAllHeld held (files_of command) (P command)

-- this file of the command isn't held, where the names are told
abbrev pub IsNotThere : Option Names → Command → Wanted → Type 0
IsNotThere held (Command.Replay trace file) Wanted.Trace = IsAbsent held trace
IsNotThere held command Wanted.Trace = ⊥
IsNotThere held command Wanted.Board = IsAbsent held (file_of command)

-- the words are a command, and this file of it isn't held, where the names are told
abbrev pub IsMissing : Option Command → Option Names → Wanted → Type 0
IsMissing None held wanted = ⊥
IsMissing (Some command) held wanted = IsNotThere held command wanted

-- the words are a command, the names are told, and its files are held, and so for what they hold
abbrev pub AsksFor : Option Command → Option Names → (Command → List (List ℕ) → Type 0) → Type 0
AsksFor None held P = ⊥
AsksFor (Some command) held P = AreHeld held (files_of command) (P command)

-- the words are a command, the names are told, and one of its files isn't held
abbrev pub LacksOne : Option Command → Option Names → Type 0
LacksOne None held = ⊥
LacksOne (Some command) held = IsOneLacked held (files_of command)

-- the words are a command, the names are told, and the first of its files isn't held
abbrev pub LacksFirst : Option Command → Option Names → Type 0
LacksFirst None held = ⊥
LacksFirst (Some command) held = IsFirstLacked held (files_of command)

-- the words are a command, and the first of its files is held where the names are told
abbrev pub FindsFirst : Option Command → Option Names → Type 0
FindsFirst None held = ⊥
FindsFirst (Some command) held = IfFirstHeld held (files_of command)

-- a sink got all that the command writes
abbrev pub HasWritten : Option (List ℕ) → Option (List ℕ) → Command → List (List ℕ) → Type 0
HasWritten old new command contents = (text : List ℕ) × IsText command contents text × HasGrown old new text

-- a sink got a front of what the command writes
abbrev pub HasBegun : Option (List ℕ) → Option (List ℕ) → Command → List (List ℕ) → Type 0
HasBegun old new command contents = (text : List ℕ) × (n : ℕ) × IsText command contents text × HasGrown old new (take n text)

-- an ending that tells of the files has its cause
abbrev pub HasCause : Option Command → Option Names → Ending → Type 0
HasCause asked held (Missing wanted) = IsMissing asked held wanted
HasCause asked held TooLong = IfAsked asked held (λ command contents. IsTooLong (board_in contents))
HasCause asked held (BadLine line why) = IfAsked asked held (λ command contents. HasBadLine (board_in contents) line why)
HasCause asked held NotBuilt = IfAsked asked held IsUnbuiltRun
HasCause asked held (Limited entries lines) = IfAsked asked held (λ command contents. IsOverRun command contents entries lines)
HasCause asked held TraceTooLong = IfAsked asked held IsLongReplay
HasCause asked held (TraceLine line) = IfAsked asked held (λ command contents. IsUnlikeReplay command contents line)
HasCause asked held _ = Unit {0}

-- the command ended so before it wrote anything, for its cause alone, while the counts of names that weren't there and of calls that failed went so
abbrev pub HasFailed : Command → Option Names → (missing missing' faults faults' : ℕ) → Ending → Type 0
HasFailed command held missing missing' faults faults' Done = ⊥
HasFailed command held missing missing' faults faults' Usage = ⊥
HasFailed command held missing missing' faults faults' Unwritable = ⊥
HasFailed command held missing missing' faults faults' (Missing wanted) = Rose missing missing' × IsNotThere held command wanted
HasFailed command held missing missing' faults faults' Unreadable = Rose faults faults'
HasFailed command held missing missing' faults faults' Memory = IfFirstHeld held (files_of command)
HasFailed command held missing missing' faults faults' ending = HasCause (Some command) held ending

-- the same of reading the file of a board
abbrev pub IsBoardFault : Option Names → List ℕ → (missing missing' faults faults' : ℕ) → Ending → Type 0
IsBoardFault held name missing missing' faults faults' (Missing Wanted.Board) = Rose missing missing' × IsAbsent held name
IsBoardFault held name missing missing' faults faults' Unreadable = Rose faults faults'
IsBoardFault held name missing missing' faults faults' TooLong = IfHeld held name IsTooLong
IsBoardFault held name missing missing' faults faults' Memory = IfHeld held name (λ bytes. Unit {0})
IsBoardFault held name missing missing' faults faults' _ = ⊥

-- the same of reading the file of a trace
abbrev pub IsTraceFault : Option Names → List ℕ → (missing missing' faults faults' : ℕ) → Ending → Type 0
IsTraceFault held name missing missing' faults faults' (Missing Wanted.Trace) = Rose missing missing' × IsAbsent held name
IsTraceFault held name missing missing' faults faults' Unreadable = Rose faults faults'
IsTraceFault held name missing missing' faults faults' Memory = IfHeld held name (λ bytes. Unit {0})
IsTraceFault held name missing missing' faults faults' _ = ⊥

-- how a command ended: all was written, a front of it, or nothing, each for its cause alone
abbrev pub HasEnded : Command → Option Names → (missing missing' faults faults' : ℕ) → (old new : Option (List ℕ)) → (faults_out faults_out' : ℕ) → Ending → Type 0
HasEnded command held missing missing' faults faults' old new faults_out faults_out' Done = IfAllHeld held (files_of command) (HasWritten old new command)
HasEnded command held missing missing' faults faults' old new faults_out faults_out' Unwritable = Rose faults_out faults_out' × IfAllHeld held (files_of command) (HasBegun old new command)
HasEnded command held missing missing' faults faults' old new faults_out faults_out' ending = HasFailed command held missing missing' faults faults' ending

-- a sink got a front of a line, and all of it where no call failed
pub record HasSaid (old new : Option (List ℕ)) (faults faults' : ℕ) (line : List ℕ) : Type 0 where
  pub front : (n : ℕ) × HasGrown old new (take n line)
  pub whole : Steady faults faults' → HasGrown old new line

-- a sink got the line of an ending with this status
pub record TellsEnding (asked : Option Command) (held : Option Names) (file : Wanted → List ℕ) (status : ℕ) (old new : Option (List ℕ)) (faults faults' : ℕ) : Type 0 where
  pub ending : Ending
  pub status_is : status ≡ status_of ending
  pub cause : HasCause asked held ending
  pub said : HasSaid old new faults faults' (message file ending)
