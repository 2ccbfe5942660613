-- How a command ends: its status, and its line.
use Rattle.std.specs.Prelude.{ℕ, List, [], ◌++◌, codes, decimal}
use Rattle.commands.specs.declared.ending.Ending.{Ending}
use Rattle.commands.specs.declared.ending.Ending.TheVariants.{Done, Usage, Missing, Unreadable, Unwritable, TooLong, BadLine, NotBuilt, Limited, TraceTooLong, TraceLine, Memory}
use Rattle.commands.specs.declared.args.Wanted.{Wanted}
use Rattle.rt_plain.specs.declared.why.Why.{Why}

-- the status of the process
abbrev pub status_of : Ending → ℕ
status_of Done = 0
status_of Usage = 2
status_of (Missing wanted) = 3
status_of Unreadable = 4
status_of Unwritable = 5
status_of TooLong = 6
status_of (BadLine line why) = 6
status_of NotBuilt = 10
status_of (Limited entries lines) = 7
status_of TraceTooLong = 8
status_of (TraceLine line) = 8
status_of Memory = 9

-- the word of a reason
unfoldable pub why_text : Why → List ℕ
why_text Why.Head = codes "Head"
why_text Why.Byte = codes "Byte"
why_text Why.Space = codes "Space"
why_text Why.Kind = codes "Kind"
why_text Why.Order = codes "Order"
why_text Why.Words = codes "Words"
why_text Why.Number = codes "Number"
why_text Why.Range = codes "Range"
why_text Why.Name = codes "Name"
why_text Why.Choice = codes "Choice"
why_text Why.Text = codes "Text"
why_text Why.Twice = codes "Twice"
why_text Why.Full = codes "Full"
why_text Why.Refer = codes "Refer"

-- the line that tells of the first bad line of a file
abbrev pub bad_line : ℕ → Why → List ℕ
bad_line line why = codes "rtsim: line " ++ (decimal line ++ (codes ": " ++ (why_text why ++ codes "\n")))

-- the line that tells where a run met a limit
abbrev pub limit_line : ℕ → ℕ → List ℕ
limit_line entries lines = codes "rtsim: limit: entries " ++ (decimal entries ++ (codes " lines " ++ (decimal lines ++ codes "\n")))

-- the line that tells that there is no file of this name
abbrev pub missing_line : List ℕ → List ℕ
missing_line file = codes "rtsim: no such file " ++ file ++ codes "\n"

-- the names of a command's files
abbrev pub names : List ℕ → List ℕ → Wanted → List ℕ
names trace board Wanted.Board = board
names trace board Wanted.Trace = trace

-- the line that tells with which line of a trace no run goes on
abbrev pub trace_line : ℕ → List ℕ
trace_line line = codes "rtsim: trace line " ++ (decimal line ++ codes "\n")

-- the line that tells of it, of files with these names
abbrev pub message : (Wanted → List ℕ) → Ending → List ℕ
message file Done = []
message file Usage = codes "rtsim: usage\n"
message file (Missing wanted) = missing_line (file wanted)
message file Unreadable = codes "rtsim: read fault\n"
message file Unwritable = codes "rtsim: write fault\n"
message file TooLong = codes "rtsim: board too long\n"
message file (BadLine line why) = bad_line line why
message file NotBuilt = codes "rtsim: not built\n"
message file (Limited entries lines) = limit_line entries lines
message file TraceTooLong = codes "rtsim: trace too long\n"
message file (TraceLine line) = trace_line line
message file Memory = codes "rtsim: out of memory\n"
