-- One statement of a thread: a plain one, a call, or a call that is made again.
use Rattle.std.specs.Prelude.{ℕ, ◌+◌, ◌-◌, min, Bool, ◌&&◌, List, [], ◌∷◌, Option, Some, None, length, slice_get, unwrap_or, decimal, is_some, if◌then◌else◌, ◌==◌}
use Rattle.std.specs.List.{find}
use Rattle.std.specs.Option.{option_map}
use Rattle.std.specs.Str.{bytes_eq}
use Rattle.rt_base.specs.declared.codes.Code.{Code}
use Rattle.rt_base.specs.Codes.{code_number}
use Rattle.rt_plain.specs.declared.line.Line.{Line}
use Rattle.rt_plain.specs.declared.stmt.Stmt.{Stmt}
use Rattle.rt_plain.specs.declared.stmt.What.{What}
use Rattle.rt_plain.specs.PlainBoard.{PlainBoard}
use Rattle.rt_plain.specs.kernel.State.{State, Thread, Awaited, InCall, AtConsole, AtWorks, Retry, thread_at, with_thread}
use Rattle.rt_plain.specs.kernel.Effects.{Effect, no_effect, and_then, line_effect}
use Rattle.rt_plain.specs.kernel.Owners.{close_effect}
use Rattle.rt_plain.specs.kernel.Outcome.{ByThread, First, Again, Answer, Answers, Waits, Outcome}
use Rattle.rt_plain.specs.kernel.Calls.{outcome_of, settled_effect}
use Rattle.rt_plain.specs.text.Words.{code_text}
use Rattle.rt_plain.specs.kernel.Shell.{shell_effect}
use Rattle.rt_plain.specs.kernel.SoftTurn.{soft_effect}

-- the script of a thread, by its name
abbrev pub script_of : PlainBoard → List ℕ → List Stmt
script_of b name = unwrap_or (option_map (λ def. def.script) (find (λ def. bytes_eq def.name name) b.threads)) []

-- the statement of a number, counted from 1; past the last one stands `exit`
abbrev pub statement_at : List Stmt → ℕ → Stmt
statement_at script k = unwrap_or (slice_get script (k - 1)) Stmt.Exit

-- whether the thread is the shell's: it is thread 0 where the board has a shell
abbrev pub is_shell : PlainBoard → ℕ → Bool
is_shell b t = is_some b.shell && (t == 0)

-- whether the thread is that of soft timers: it is the first behind the shell's where the board has one
abbrev pub is_soft_thread : PlainBoard → ℕ → Bool
is_soft_thread b t = is_some b.soft && (t == (if is_some b.shell then 1 else 0))

-- where a jump goes: no further than to the implied `exit`
abbrev pub target : List Stmt → ℕ → ℕ
target script k = min k (length script + 1)

-- the next statement of a thread is k
abbrev pub with_next : State → ℕ → ℕ → State
with_next s t k = let row = thread_at s t in with_thread s t (record row { next = k })

-- bytes on the console, if there are any
abbrev pub print_effect : List ℕ → State → Effect
print_effect [] s = no_effect s
print_effect (byte ∷ bytes) s = line_effect s (Line.Print (byte ∷ bytes))

-- what `say` prints
abbrev pub said_text : What → Thread → List ℕ
said_text What.Code row = code_text row.code
said_text What.Value row = decimal row.value
said_text What.Text row = row.text

-- the counter of a thread is this
abbrev pub with_counter : Thread → ℕ → Thread
with_counter row count = record row { counter = count }

-- what a plain statement does
abbrev pub plain_effect : List Stmt → ℕ → Stmt → State → Effect
plain_effect script t (Stmt.Print text) s = print_effect text s
plain_effect script t (Stmt.Say what) s = print_effect (said_text what (thread_at s t)) s
plain_effect script t (Stmt.Goto k) s = no_effect (with_next s t (target script k))
plain_effect script t (Stmt.IfCode code k) s = no_effect (if code_number (thread_at s t).code == code_number code then with_next s t (target script k) else s)
plain_effect script t (Stmt.Count n) s = no_effect (with_thread s t (with_counter (thread_at s t) n))
plain_effect script t (Stmt.Next k) s =
    let row = thread_at s t in
    let lowered = with_thread s t (with_counter row (row.counter - 1)) in
    no_effect (if row.counter - 1 == 0 then lowered else with_next lowered t (target script k))
plain_effect script t Stmt.Exit s = close_effect t s
plain_effect script t (Stmt.Do call) s = no_effect s

-- the code that a line shows, none where the thread waits
abbrev pub code_of_answer : Answer → Option Code
code_of_answer (Answers code) = Some code
code_of_answer Waits = None

-- the answer becomes the thread's last code
abbrev pub with_answer : ℕ → Answer → State → State
with_answer t (Answers code) s = let row = thread_at s t in with_thread s t (record row { code = code })
with_answer t Waits s = s

-- the line of a call, and then what it shows; its answer is the last code of the thread
abbrev pub call_effect : ℕ → (Option Code → Line) → Outcome → Effect
call_effect t line outcome = record { state = with_answer t outcome.answer outcome.effect.state; lines = line (code_of_answer outcome.answer) ∷ outcome.effect.lines }

-- statement k of a thread: the next one is then k + 1, unless it says another
abbrev pub done_effect : PlainBoard → ℕ → ℕ → List ℕ → ℕ → Stmt → State → Effect
done_effect b t core name k (Stmt.Do call) s = call_effect t (Line.Done name k) (outcome_of b call s (ByThread t core) First)
done_effect b t core name k stmt s = and_then (line_effect s (Line.Done name k (Some Code.Ok))) (plain_effect (script_of b name) t stmt)

-- the next statement of a thread's script
abbrev pub next_statement_effect : PlainBoard → ℕ → ℕ → State → Effect
next_statement_effect b t core s =
    let row = thread_at s t in
    done_effect b t core row.name row.next (statement_at (script_of b row.name) row.next) (with_next s t (row.next + 1))

-- the call that a woken thread makes again. The threads of the shell and of soft timers make their own turns again
abbrev pub repeated_call_effect : PlainBoard → ℕ → ℕ → Retry → Awaited → State → Effect
repeated_call_effect b t core retry AtConsole s = no_effect s
repeated_call_effect b t core retry AtWorks s = no_effect s
repeated_call_effect b t core retry (InCall call) s =
    let row = thread_at s t in
    call_effect t (Line.Again row.name (row.next - 1)) (outcome_of b call (with_thread s t (record row { retry = None })) (ByThread t core) (Again retry.due))

-- a statement of a thread with a script: the call that it makes again, or else the next one
abbrev pub script_effect : PlainBoard → ℕ → ℕ → Option Retry → State → Effect
script_effect b t core None s = next_statement_effect b t core s
script_effect b t core (Some retry) s = repeated_call_effect b t core retry retry.what s

-- a statement of a thread, by whose it is
abbrev pub thread_effect : PlainBoard → ℕ → ℕ → State → Effect
thread_effect b t core s =
    if is_shell b t then shell_effect b t s
    else if is_soft_thread b t then soft_effect b t s
    else script_effect b t core (thread_at s t).retry s

-- one statement of the thread that a core runs
abbrev pub statement_effect : PlainBoard → ℕ → ℕ → State → Effect
statement_effect b t core s = settled_effect b s (thread_effect b t core s)
