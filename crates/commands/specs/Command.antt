-- The command that the words are.
use Rattle.std.specs.Prelude.{ℕ, ◌+◌, List, [], ◌∷◌, Option, Some, None, codes, if◌then◌else◌, String, string_bytes}
use Rattle.std.specs.declared.alloc.Global.{Global}
use Rattle.std.specs.Str.{bytes_eq}
use Rattle.std.specs.Option.{option_map_or}
use Rattle.rt_plain.specs.runs.Commands.{Command}
use Rattle.commands.specs.declared.args.Command.{Command as Asked}
use Rattle.commands.specs.declared.args.Command.TheVariants.{Write, Replay}
use Rattle.commands.specs.declared.args.Output.{Output}
use Rattle.commands.specs.declared.args.Wanted.{Wanted}

-- a command of one file
abbrev pub one_file : List ℕ → List ℕ → Option Command
one_file name file =
    if bytes_eq name (codes "trace") then Some (Command.Trace file)
    else if bytes_eq name (codes "run") then Some (Command.Run file)
    else if bytes_eq name (codes "show") then Some (Command.Show file)
    else None

-- a command of two files
abbrev pub two_files : List ℕ → List ℕ → List ℕ → Option Command
two_files name trace file = if bytes_eq name (codes "replay") then Some (Command.Replay trace file) else None

-- the command that the words are
abbrev pub command_of : List (String Global) → Option Command
command_of (name ∷ file ∷ []) = one_file (string_bytes name) (string_bytes file)
command_of (name ∷ trace ∷ file ∷ []) = two_files (string_bytes name) (string_bytes trace) (string_bytes file)
command_of _ = None

-- a command that is built
abbrev pub if_built : Command → Option Command
if_built (Command.Trace file) = Some (Command.Trace file)
if_built (Command.Run file) = Some (Command.Run file)
if_built (Command.Show file) = Some (Command.Show file)
if_built (Command.Replay trace file) = Some (Command.Replay trace file)
if_built _ = None

-- the command that writes something of the board in a file
abbrev pub written : Output → List ℕ → Command
written Output.Trace file = Command.Trace file
written Output.Console file = Command.Run file
written Output.Board file = Command.Show file

-- a command by the bytes of its files' names
abbrev pub plain : Asked → Command
plain (Write output file) = written output file.now
plain (Replay trace file) = Command.Replay trace.now file.now

-- the file of a board that a command names
abbrev pub file_of : Command → List ℕ
file_of (Command.Trace file) = file
file_of (Command.Run file) = file
file_of (Command.Show file) = file
file_of (Command.Replay trace file) = file
file_of _ = []

-- the file of a trace that a command names
abbrev pub trace_file_of : Command → List ℕ
trace_file_of (Command.Replay trace file) = trace
trace_file_of _ = []

-- the files that a command names, in the order in which they are read
abbrev pub files_of : Command → List (List ℕ)
files_of (Command.Replay trace file) = trace ∷ file ∷ []
files_of command = file_of command ∷ []

-- the file that is wanted of a command
abbrev pub wanted_of : Wanted → Command → List ℕ
wanted_of Wanted.Board command = file_of command
wanted_of Wanted.Trace command = trace_file_of command

-- the same of the words, if they are a command
abbrev pub named_file : Wanted → List (String Global) → List ℕ
named_file wanted words = option_map_or (wanted_of wanted) (command_of words) []

-- the most bytes that a command takes of its files: one more than a file may have of each
abbrev pub most_taken : Option Command → ℕ
most_taken None = 0
most_taken (Some (Command.Replay trace file)) = 268435457 + 1048577
most_taken (Some command) = 1048577
