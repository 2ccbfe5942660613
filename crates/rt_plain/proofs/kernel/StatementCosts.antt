-- How many lines a statement shows.
use Rattle.std.proofs.Common.{◌+◌, ◌-◌, ◌≤◌, ◌∷◌, [], ◌++◌, ℕ, suc, List, Option, Some, None, Bool, true, false, not, length, eqb, refl, arith, filter, reverse, if◌then◌else◌, filter_map, length-append, ◌*◌}
use Rattle.std.specs.List.{list_any, find, before_first, after_first, cons_option}
use Rattle.std.proofs.lemmas.List.{length-map, length-reverse}
use Rattle.std.proofs.lemmas.List.FromFn.{length-range_with_len}
use Rattle.rt_base.specs.declared.codes.Code.{Code}
use Rattle.rt_base.specs.declared.codes.Class.{Class}
use Rattle.rt_base.specs.Codes.{code_number, sleep_number}
use Rattle.rt_plain.specs.declared.line.Line.{Line}
use Rattle.rt_plain.specs.declared.stmt.Stmt.{Stmt}
use Rattle.rt_plain.specs.PlainBoard.{PlainBoard}
use Rattle.rt_plain.specs.kernel.State.{State, Awaited, InCall, AtConsole, AtWorks, Retry, Thread, Device, thread_at, thread_numbers, with_thread, is_closed}
use Rattle.rt_plain.specs.kernel.Effects.{Effect, no_effect, waiting_state}
use Rattle.rt_plain.specs.kernel.Outcome.{ByThread, First, Again, Answer, Answers, Waits, Outcome}
use Rattle.rt_plain.specs.kernel.Calls.{outcome_of, prio_line, prio_lines, mode_lines, reordered_state, settled_effect}
use Rattle.rt_plain.specs.kernel.PowerCalls.{sleep_mode}
use Rattle.rt_plain.specs.kernel.Rows.{rows, thread_row, sem_row, event_row, mutex_row, mailbox_row, queue_row, timer_row, device_row}
use Rattle.rt_plain.specs.kernel.Tables.{Command, Lists, DumpsPower, TellsVersion, Helps, CommandRow, commands, unknown_pieces, printed_pieces, pieces_for, table, columns, table_line, texts}
use Rattle.rt_plain.specs.kernel.Shell.{seen_of, longer_line, prompt, prompt_effect, turn_effect, reading_effect, line_read_effect, shell_effect, console_bytes, with_received, with_console_bytes, console_name, is_newline}
use Rattle.rt_plain.specs.kernel.DeviceCalls.{find_device}
use Rattle.rt_plain.specs.kernel.Statements.{script_of, statement_at, is_shell, is_soft_thread, thread_effect, with_next, print_effect, said_text, with_counter, plain_effect, with_answer, call_effect, done_effect, next_statement_effect, repeated_call_effect, script_effect, statement_effect, target}
use Rattle.rt_plain.proofs.kernel.CostLemmas.{Few, Costs, stays-then, costs-more, costs-none, costs-from, thread-costs, waiting-costs, close-costs}
use Rattle.rt_plain.specs.kernel.SoftTurn.{soft_effect}
use Rattle.rt_plain.proofs.kernel.WorkCosts.{soft-cost}
use Rattle.rt_plain.proofs.kernel.CallCosts.{HasFew, CostsCall, filter-fewer, device-costs, line-cost, other-costs, outcome-cost}
use Rattle.std.specs.Str.{bytes_eq}
use Rattle.rt_plain.specs.kernel.Sound.{is_waiting}
use Rattle.rt_plain.proofs.kernel.TallyLemmas.{tally-length}
use Rattle.rt_plain.specs.kernel.Owners.{close_effect}

print-cost : (s : State) (text : List ℕ) → Costs s (print_effect text s) 1
print-cost s [] = costs-more s (no_effect s) 0 1 (omega arith) (costs-none s)
print-cost s (byte ∷ bytes) = line-cost s s (Line.Print (byte ∷ bytes)) (costs-none s)

free-state : (s u : State) → Costs s (no_effect u) 0 → Costs s (no_effect u) 1
free-state s u costs = costs-more s (no_effect u) 0 1 (omega arith) costs

if-free : (s : State) (c : Bool) (x y : State) → Costs s (no_effect x) 0 → Costs s (no_effect y) 0 → Costs s (no_effect (if c then x else y)) 1
if-free s true x y one other = free-state s x one
if-free s false x y one other = free-state s y other

plain-cost : (script : List Stmt) (s : State) (t : ℕ) (stmt : Stmt) → Costs s (plain_effect script t stmt s) 1
plain-cost script s t (Stmt.Print text) = print-cost s text
plain-cost script s t (Stmt.Say what) = print-cost s (said_text what (thread_at s t))
plain-cost script s t (Stmt.Goto k) = free-state s (with_next s t (target script k)) (thread-costs s t (record (thread_at s t) { next = target script k }) refl)
plain-cost script s t (Stmt.IfCode code k) = if-free s (eqb (code_number (thread_at s t).code) (code_number code)) (with_next s t (target script k)) s (thread-costs s t (record (thread_at s t) { next = target script k }) refl) (costs-none s)
plain-cost script s t (Stmt.Count n) = free-state s (with_thread s t (with_counter (thread_at s t) n)) (thread-costs s t (with_counter (thread_at s t) n) refl)
plain-cost script s t (Stmt.Next k) =
    let lowered : State = with_thread s t (with_counter (thread_at s t) ((thread_at s t).counter - 1)) in
    let low : Costs s (no_effect lowered) 0 = thread-costs s t (with_counter (thread_at s t) ((thread_at s t).counter - 1)) refl in
    if-free s (eqb ((thread_at s t).counter - 1) 0) lowered (with_next lowered t (target script k)) low
    (costs-from s lowered (no_effect (with_next lowered t (target script k))) 0 0 low (thread-costs lowered t (record (thread_at lowered t) { next = target script k }) refl))
plain-cost script s t Stmt.Exit = close-costs s t
plain-cost script s t (Stmt.Do call) = free-state s s (costs-none s)

answer-cost : (s : State) (t : ℕ) (answer : Answer) → Costs s (no_effect (with_answer t answer s)) 0
answer-cost s t (Answers code) = thread-costs s t (record (thread_at s t) { code = code }) refl
answer-cost s t Waits = costs-none s

-- a call with its line
called-cost : (s : State) (t : ℕ) (line : Option Code → Line) (outcome : Outcome) → CostsCall 2 s outcome → Costs s (call_effect t line outcome) 3
called-cost s t line outcome costs = record {
  lines = omega (arith, costs.lines, (answer-cost outcome.effect.state t outcome.answer).lines);
  numbers = omega (arith, costs.numbers, (answer-cost outcome.effect.state t outcome.answer).numbers);
  stays = stays-then s outcome.effect.state (with_answer t outcome.answer outcome.effect.state) costs.stays (answer-cost outcome.effect.state t outcome.answer).stays;
}

done-plain : (b : PlainBoard) (s : State) (t : ℕ) (name : List ℕ) (line : Line) (stmt : Stmt) → Costs s (record { state = (plain_effect (script_of b name) t stmt s).state; lines = line ∷ (plain_effect (script_of b name) t stmt s).lines }) 3
done-plain b s t name line stmt = record { lines = omega (arith, (plain-cost (script_of b name) s t stmt).lines); numbers = omega (arith, (plain-cost (script_of b name) s t stmt).numbers); stays = (plain-cost (script_of b name) s t stmt).stays }

done-cost : (b : PlainBoard) (s : State) (t core : ℕ) (name : List ℕ) (k : ℕ) (stmt : Stmt) → HasFew b → Costs s (done_effect b t core name k stmt s) 3
done-cost b s t core name k (Stmt.Do call) has = called-cost s t (Line.Done name k) (outcome_of b call s (ByThread t core) First) (outcome-cost b s call (ByThread t core) First has)
done-cost b s t core name k (Stmt.Print text) has = done-plain b s t name (Line.Done name k (Some Code.Ok)) (Stmt.Print text)
done-cost b s t core name k (Stmt.Say what) has = done-plain b s t name (Line.Done name k (Some Code.Ok)) (Stmt.Say what)
done-cost b s t core name k (Stmt.Goto n) has = done-plain b s t name (Line.Done name k (Some Code.Ok)) (Stmt.Goto n)
done-cost b s t core name k (Stmt.IfCode code n) has = done-plain b s t name (Line.Done name k (Some Code.Ok)) (Stmt.IfCode code n)
done-cost b s t core name k (Stmt.Count n) has = done-plain b s t name (Line.Done name k (Some Code.Ok)) (Stmt.Count n)
done-cost b s t core name k (Stmt.Next n) has = done-plain b s t name (Line.Done name k (Some Code.Ok)) (Stmt.Next n)
done-cost b s t core name k Stmt.Exit has = done-plain b s t name (Line.Done name k (Some Code.Ok)) Stmt.Exit

next-cost : (b : PlainBoard) (s : State) (t core : ℕ) → HasFew b → Costs s (next_statement_effect b t core s) 3
next-cost b s t core has =
    let row : Thread = thread_at s t in
    let on : State = with_next s t (row.next + 1) in
    costs-from s on (next_statement_effect b t core s) 0 3 (thread-costs s t (record row { next = row.next + 1 }) refl) (done-cost b on t core row.name row.next (statement_at (script_of b row.name) row.next) has)

repeated-cost : (b : PlainBoard) (s : State) (t core : ℕ) (retry : Retry) (what : Awaited) → HasFew b → Costs s (repeated_call_effect b t core retry what s) 3
repeated-cost b s t core retry AtConsole has = costs-more s (no_effect s) 0 3 (omega arith) (costs-none s)
repeated-cost b s t core retry AtWorks has = costs-more s (no_effect s) 0 3 (omega arith) (costs-none s)
repeated-cost b s t core retry (InCall call) has =
    let free : State = with_thread s t (record (thread_at s t) { retry = None }) in
    costs-from s free (repeated_call_effect b t core retry (InCall call) s) 0 3 (thread-costs s t (record (thread_at s t) { retry = None }) refl)
    (called-cost free t (Line.Again (thread_at s t).name ((thread_at s t).next - 1)) (outcome_of b call free (ByThread t core) (Again retry.due)) (outcome-cost b free call (ByThread t core) (Again retry.due) has))

script-cost : (b : PlainBoard) (s : State) (t core : ℕ) (retry : Option Retry) → HasFew b → Costs s (script_effect b t core retry s) 3
script-cost b s t core None has = next-cost b s t core has
script-cost b s t core (Some retry) has = repeated-cost b s t core retry retry.what has

-- the tables of the shell
thread-rows : (b : PlainBoard) (s : State) → length (rows b s Class.Thread) ≤ length s.threads
thread-rows b s = let open_ones : List ℕ = filter (λ t. not (is_closed (thread_at s t).stage)) (thread_numbers s) in
    omega (arith, length-map (reverse open_ones) (thread_row s), length-reverse open_ones, filter-fewer (λ t. not (is_closed (thread_at s t).stage)) (thread_numbers s), length-range_with_len 0 (length s.threads))

class-rows : (b : PlainBoard) (s : State) (class : Class) → Few s → length (rows b s class) ≤ 256 + length s.threads + length s.timers + length s.devices
class-rows b s Class.Thread few = omega (arith, thread-rows b s)
class-rows b s Class.Sem few = omega (arith, few.sems, length-map s.sems (sem_row s))
class-rows b s Class.Event few = omega (arith, few.events, length-map s.events (event_row s))
class-rows b s Class.Mutex few = omega (arith, few.mutexes, length-map s.mutexes (mutex_row s))
class-rows b s Class.Mailbox few = omega (arith, few.mailboxes, length-map s.mailboxes (mailbox_row s))
class-rows b s Class.MsgQueue few = omega (arith, few.queues, length-map s.queues (queue_row s))
class-rows b s Class.Timer few = omega (arith, length-map s.timers (timer_row b s))
class-rows b s Class.Device few = omega (arith, length-map s.devices device_row)

-- how many lines the shell's longest table and the threads, timers and devices of a state need
abbrev pub counted : State → ℕ
counted s = length s.threads + length s.timers + length s.devices

pieces-few : (b : PlainBoard) (s : State) (command : Command) → Few s → length (printed_pieces command (seen_of b s)) ≤ 257 + counted s
pieces-few b s (Lists class) few = omega (arith, class-rows b s class few, length-map (rows b s class) (λ row. table_line (columns class) (texts row)))
pieces-few b s DumpsPower few = omega arith
pieces-few b s TellsVersion few = omega arith
pieces-few b s Helps few = omega arith

unknown-few : (line : List ℕ) → length (unknown_pieces line) ≤ 1
unknown-few [] = omega arith
unknown-few (byte ∷ bytes) = omega arith

found-few : (b : PlainBoard) (s : State) (o : Option CommandRow) (line : List ℕ) → Few s → length (pieces_for o line (seen_of b s)) ≤ 257 + counted s
found-few b s None line few = omega (arith, unknown-few line)
found-few b s (Some row) line few = pieces-few b s row.command few

table-few : (b : PlainBoard) (s : State) (line : List ℕ) → Few s → length (table line (seen_of b s)) ≤ 257 + counted s
table-few b s line few = found-few b s (find (λ row. bytes_eq row.name line) commands) line few

received-cost : (s : State) (o : Option Device) (rx : List ℕ) → Costs s (no_effect (with_received o rx s)) 0
received-cost s None rx = costs-none s
received-cost s (Some device) rx = device-costs s (record device { rx = rx })

line_read-cost : (b : PlainBoard) (s : State) (line rest : List ℕ) → Few s → Costs s (line_read_effect b line rest s) (259 + counted s)
line_read-cost b s line rest few = record {
  lines = omega (arith, length-map pieces (λ piece. Line.Print piece), length-append (table line (seen_of b read)) (prompt ∷ []), table-few b read line (one.stays.few few), one.lines, one.stays.threads, one.stays.timers, one.stays.devices, all.lines);
  numbers = omega (arith, length-append (table line (seen_of b read)) (prompt ∷ []), one.numbers, all.numbers);
  stays = stays-then s read (record read { shell_line = [] }) one.stays all.stays;
} where
  read : State
  read = with_console_bytes rest s

  pieces : List (List ℕ)
  pieces = (line ++ 10 ∷ []) ∷ table line (seen_of b read) ++ prompt ∷ []

  one : Costs s (no_effect read) 0
  one = received-cost s (find_device s console_name) rest

  all : Costs read (no_effect (record read { shell_line = [] })) 0
  all = other-costs read (record read { shell_line = [] }) refl refl refl refl refl refl refl refl refl refl

reading-cost : (b : PlainBoard) (s : State) (bytes : List ℕ) → Few s → Costs s (reading_effect b bytes s) (259 + counted s)
reading-cost b s bytes few = by_newline (list_any is_newline bytes) where
  line : Effect
  line = line_read_effect b (longer_line s.shell_line (before_first is_newline bytes)) (after_first is_newline bytes) s

  longer : State
  longer = record (with_console_bytes [] s) { shell_line = longer_line s.shell_line bytes }

  free : Costs s (no_effect longer) 0
  free = costs-from s (with_console_bytes [] s) (no_effect longer) 0 0 (received-cost s (find_device s console_name) []) (other-costs (with_console_bytes [] s) longer refl refl refl refl refl refl refl refl refl refl)

  by_newline : (c : Bool) → Costs s (if c then line else no_effect longer) (259 + counted s)
  by_newline true = line_read-cost b s (longer_line s.shell_line (before_first is_newline bytes)) (after_first is_newline bytes) few
  by_newline false = costs-more s (no_effect longer) 0 (259 + counted s) (omega arith) free

turn-cost : (b : PlainBoard) (s : State) (t : ℕ) (bytes : List ℕ) → Few s → Costs s (turn_effect b t bytes s) (260 + counted s)
turn-cost b s t [] few =
    let free : State = with_thread s t (record (thread_at s t) { retry = None }) in
    let one : Costs s (no_effect free) 0 = thread-costs s t (record (thread_at s t) { retry = None }) refl in
    let two : Costs free (no_effect (waiting_state free t AtConsole None)) 2 = waiting-costs free t AtConsole None in
    record { lines = omega (arith, one.lines, two.lines); numbers = omega (arith, one.numbers, two.numbers); stays = stays-then s free (waiting_state free t AtConsole None) one.stays two.stays }
turn-cost b s t (byte ∷ bytes) few =
    let free : State = with_thread s t (record (thread_at s t) { retry = None }) in
    let one : Costs s (no_effect free) 0 = thread-costs s t (record (thread_at s t) { retry = None }) refl in
    let two : Costs free (reading_effect b (byte ∷ bytes) free) (259 + counted free) = reading-cost b free (byte ∷ bytes) (one.stays.few few) in
    record { lines = omega (arith, one.lines, two.lines, one.stays.threads, one.stays.timers, one.stays.devices); numbers = omega (arith, one.numbers, two.numbers); stays = stays-then s free (reading_effect b (byte ∷ bytes) free).state one.stays two.stays }

if-costs : (s : State) (c : Bool) (x y : Effect) (n : ℕ) → Costs s x n → Costs s y n → Costs s (if c then x else y) n
if-costs s true x y n one other = one
if-costs s false x y n one other = other

shell-cost : (b : PlainBoard) (s : State) (t : ℕ) → Few s → Costs s (shell_effect b t s) (260 + counted s)
shell-cost b s t few = if-costs s (eqb (thread_at s t).next 1) (prompt_effect t s) (turn_effect b t (console_bytes s) s) (260 + counted s)
    (record { lines = omega (arith, (thread-costs s t (record (thread_at s t) { next = 2 }) refl).lines); numbers = omega (arith, (thread-costs s t (record (thread_at s t) { next = 2 }) refl).numbers); stays = (thread-costs s t (record (thread_at s t) { next = 2 }) refl).stays }) (turn-cost b s t (console_bytes s) few)

-- what is settled: a line for each thread whose priority changed, and one for the mode
pub map-few : {A B : Type 0} (h : A → Option B) (xs : List A) → length (filter_map h xs) ≤ length xs
map-few h [] = omega arith
map-few {B = B} h (x ∷ xs) = by_some (h x) (map-few h xs) where
  by_some : (o : Option B) → length (filter_map h xs) ≤ length xs → length (cons_option o (filter_map h xs)) ≤ suc (length xs)
  by_some None le = omega (arith, le)
  by_some (Some y) le = omega (arith, le)

mode-few : (b : PlainBoard) (before after : State) → length (mode_lines b before after) ≤ 1
mode-few b before after = by_test (eqb (sleep_number (sleep_mode b before)) (sleep_number (sleep_mode b after))) where
  by_test : (c : Bool) → length (if c then [] else Line.Mode (sleep_mode b after) ∷ []) ≤ 1
  by_test true = omega arith
  by_test false = omega arith

pub settled-lines : (b : PlainBoard) (before : State) (e : Effect) → length (settled_effect b before e).lines ≤ length e.lines + length e.state.threads + 1
settled-lines b before e = omega (arith, length-append (e.lines ++ prio_lines before e.state) (mode_lines b before e.state), length-append e.lines (prio_lines before e.state), mode-few b before e.state, map-few (prio_line before e.state) (thread_numbers e.state), length-range_with_len 0 (length e.state.threads))

pub settled-cost : (b : PlainBoard) (s before : State) (e : Effect) (c : ℕ) → Costs s e c → Costs s (settled_effect b before e) (c + (length s.threads + 1))
settled-cost b s before e c costs = record {
  lines = omega (
    arith,
    costs.lines,
    costs.stays.threads,
    length-append (e.lines ++ prio_lines before e.state) (mode_lines b before e.state),
    length-append e.lines (prio_lines before e.state),
    mode-few b before e.state,
    map-few (prio_line before e.state) (thread_numbers e.state),
    length-range_with_len 0 (length e.state.threads),
  );
  numbers = omega (arith, costs.numbers, length-append (e.lines ++ prio_lines before e.state) (mode_lines b before e.state), length-append e.lines (prio_lines before e.state));
  stays = stays-then s e.state (reordered_state before e.state) costs.stays same.stays;
} where
  same : Costs e.state (no_effect (reordered_state before e.state)) 0
  same = other-costs e.state (reordered_state before e.state) refl refl refl refl refl refl refl refl refl refl

pub statement-cost : (b : PlainBoard) (s : State) (t core : ℕ) → HasFew b → Few s → Costs s (statement_effect b t core s) (260 + counted s + (length s.threads + 1))
statement-cost b s t core has few = settled-cost b s s (thread_effect b t core s) (260 + counted s)
    (if-costs s (is_shell b t) (shell_effect b t s) (if is_soft_thread b t then soft_effect b t s else script_effect b t core (thread_at s t).retry s) (260 + counted s) (shell-cost b s t few)
    (costs-more s (if is_soft_thread b t then soft_effect b t s else script_effect b t core (thread_at s t).retry s) 3 (260 + counted s) (omega arith)
    (if-costs s (is_soft_thread b t) (soft_effect b t s) (script_effect b t core (thread_at s t).retry s) 3 (soft-cost b s t has) (script-cost b s t core (thread_at s t).retry has))))

-- a thread's statement, and a thread's end
pub script-lines : (b : PlainBoard) (s : State) (t core : ℕ) (retry : Option Retry) → HasFew b → length (settled_effect b s (script_effect b t core retry s)).lines ≤ 3 * length s.threads + 4
script-lines b s t core retry has = omega (arith, (settled-cost b s s (script_effect b t core retry s) 3 (script-cost b s t core retry has)).lines, tally-length (λ (row : Thread). is_waiting row.stage) s.threads)

pub soft-lines : (b : PlainBoard) (s : State) (t : ℕ) → HasFew b → length (settled_effect b s (soft_effect b t s)).lines ≤ 3 * length s.threads + 4
soft-lines b s t has = omega (arith, (settled-cost b s s (soft_effect b t s) 3 (soft-cost b s t has)).lines, tally-length (λ (row : Thread). is_waiting row.stage) s.threads)

pub close-lines : (b : PlainBoard) (s : State) (t : ℕ) → length (settled_effect b s (close_effect t s)).lines ≤ 3 * length s.threads + 2
close-lines b s t = omega (arith, (settled-cost b s s (close_effect t s) 1 (close-costs s t)).lines, tally-length (λ (row : Thread). is_waiting row.stage) s.threads)
