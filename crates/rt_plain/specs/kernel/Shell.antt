-- The two statements of the shell's thread.
use Rattle.std.specs.Prelude.{ℕ, Bool, List, [], ◌∷◌, ◌++◌, Option, Some, None, map, take, codes, is_some, if◌then◌else◌, ◌==◌}
use Rattle.std.specs.List.{list_any, before_first, after_first}
use Rattle.rt_base.specs.declared.codes.Code.{Code}
use Rattle.rt_plain.specs.declared.line.Line.{Line}
use Rattle.rt_plain.specs.PlainBoard.{PlainBoard}
use Rattle.rt_plain.specs.kernel.State.{State, Thread, AtConsole, Device, thread_at, with_thread}
use Rattle.rt_plain.specs.kernel.Effects.{Effect, no_effect, line_effect, and_then, waiting_state}
use Rattle.rt_plain.specs.kernel.PowerCalls.{sleep_mode, votes_for}
use Rattle.rt_plain.specs.kernel.DeviceCalls.{find_device, with_device}
use Rattle.rt_plain.specs.kernel.Rows.{rows}
use Rattle.rt_plain.specs.kernel.Tables.{Seen, table}

-- the name of the console
abbrev pub console_name : List ℕ
console_name = codes "console"

-- the prompt
abbrev pub prompt : List ℕ
prompt = codes "msh >"

-- what a command sees of the state
abbrev pub seen_of : PlainBoard → State → Seen
seen_of b s = record { rows = rows b s; votes = votes_for s.votes; mode = sleep_mode b s }

-- the bytes that the console received
abbrev pub received_bytes : Option Device → List ℕ
received_bytes None = []
received_bytes (Some device) = device.rx

-- what the console received and nobody read
abbrev pub console_bytes : State → List ℕ
console_bytes s = received_bytes (find_device s console_name)

-- a device holds these received bytes
abbrev pub with_received : Option Device → List ℕ → State → State
with_received None rx s = s
with_received (Some device) rx s = with_device s (record device { rx = rx })

-- the console holds these received bytes
abbrev pub with_console_bytes : List ℕ → State → State
with_console_bytes rx s = with_received (find_device s console_name) rx s

-- whether a byte ends a line
abbrev pub is_newline : ℕ → Bool
is_newline byte = byte == 10

-- the line so far with more bytes, of which only the first 40 count
abbrev pub longer_line : List ℕ → List ℕ → List ℕ
longer_line line bytes = take 40 (line ++ bytes)

-- a whole line was read, and rest stays in the ring: the line is printed, then what its command prints, then the prompt
abbrev pub line_read_effect : PlainBoard → List ℕ → List ℕ → State → Effect
line_read_effect b line rest s =
    let read = with_console_bytes rest s in
    record {
      state = record read { shell_line = [] };
      lines = map (λ piece. Line.Print piece) ((line ++ 10 ∷ []) ∷ table line (seen_of b read) ++ prompt ∷ []);
    }

-- the bytes up to a newline end the line, and bytes without one make it longer
abbrev pub reading_effect : PlainBoard → List ℕ → State → Effect
reading_effect b bytes s =
    if list_any is_newline bytes
    then line_read_effect b (longer_line s.shell_line (before_first is_newline bytes)) (after_first is_newline bytes) s
    else no_effect (record (with_console_bytes [] s) { shell_line = longer_line s.shell_line bytes })

-- the line of a statement, made for the first time or again
abbrev pub turn_line : Thread → ℕ → Option Code → Line
turn_line row k code = if is_some row.retry then Line.Again row.name k code else Line.Done row.name k code

-- statement 1: the prompt
abbrev pub prompt_effect : ℕ → State → Effect
prompt_effect t s =
    let row = thread_at s t in
    record { state = with_thread s t (record row { next = 2 }); lines = Line.Done row.name 1 (Some Code.Ok) ∷ Line.Print prompt ∷ [] }

-- statement 2: reads what the console received, or waits for it
abbrev pub turn_effect : PlainBoard → ℕ → List ℕ → State → Effect
turn_effect b t [] s =
    let row = thread_at s t in
    line_effect (waiting_state (with_thread s t (record row { retry = None })) t AtConsole None) (turn_line row 2 None)
turn_effect b t (byte ∷ bytes) s =
    let row = thread_at s t in
    and_then (line_effect (with_thread s t (record row { retry = None })) (turn_line row 2 (Some Code.Ok))) (reading_effect b (byte ∷ bytes))

-- a statement of the shell's thread
abbrev pub shell_effect : PlainBoard → ℕ → State → Effect
shell_effect b t s = if (thread_at s t).next == 1 then prompt_effect t s else turn_effect b t (console_bytes s) s
