-- No statement spares a thread waiting for a block of a memory pool of which one is free.
use Rattle.std.proofs.Common.{◌≡◌, ◌+◌, ◌-◌, ◌∷◌, [], ◌++◌, ℕ, List, Option, Some, None, Bool, true, false, eqb, refl, if◌then◌else◌}
use Rattle.std.specs.List.{list_any, before_first, after_first}
use Rattle.rt_base.specs.declared.codes.Code.{Code}
use Rattle.rt_base.specs.Codes.{code_number}
use Rattle.rt_plain.specs.declared.line.Line.{Line}
use Rattle.rt_plain.specs.declared.line.Fired.{Fired}
use Rattle.rt_plain.specs.declared.stmt.Stmt.{Stmt}
use Rattle.rt_plain.specs.declared.board.TimerKind.{TimerKind}
use Rattle.rt_plain.specs.PlainBoard.{PlainBoard}
use Rattle.rt_plain.specs.kernel.State.{State, Thread, Timer, Device, Retry, Awaited, InCall, AtConsole, AtWorks, thread_at, with_thread}
use Rattle.rt_plain.specs.kernel.Effects.{Effect, no_effect, line_effect, and_then, waiting_state}
use Rattle.rt_plain.specs.kernel.Outcome.{ByThread, ByTimer, First, Again, Answer, Answers, Waits, Outcome}
use Rattle.rt_plain.specs.kernel.Calls.{outcome_of, reordered_state, settled_effect}
use Rattle.rt_plain.specs.kernel.TimerCalls.{find_timer, with_timer_armed}
use Rattle.rt_plain.specs.kernel.Due.{with_period, timer_effect, timer_action_effect}
use Rattle.rt_plain.specs.kernel.Shell.{longer_line, prompt_effect, turn_line, turn_effect, reading_effect, line_read_effect, shell_effect, console_bytes, with_received, with_console_bytes, console_name, is_newline, seen_of, prompt}
use Rattle.rt_plain.specs.kernel.Tables.{table}
use Rattle.rt_plain.specs.kernel.DeviceCalls.{find_device}
use Rattle.rt_plain.specs.kernel.Statements.{script_of, statement_at, is_shell, is_soft_thread, with_next, target, print_effect, said_text, with_counter, plain_effect, with_answer, call_effect, done_effect, next_statement_effect, repeated_call_effect, script_effect, thread_effect, statement_effect}
use Rattle.rt_plain.specs.kernel.SoftTurn.{work_effect, soft_turn_effect, soft_effect}
use Rattle.pool_laws.proofs.ServedLemmas.{Spares}
use Rattle.pool_laws.proofs.CallSpares.{spares-same, spares-parts, spares-from, spares-after, spares-line, row-spares, close-spares, waiting-spares, outcome-spares}

module _ (b : PlainBoard) where
  -- what follows from an action
  pub settled-spares : (before s : State) (e : Effect) → Spares b s e → Spares b s (settled_effect b before e)
  settled-spares before s e spares = spares-after b s (reordered_state before e.state) (record { state = e.state; lines = (settled_effect b before e).lines }) (record { kept = spares.kept }) (spares-parts b e.state (reordered_state before e.state) refl refl)

  -- statements of scripts
  if-spares : (s : State) (c : Bool) (x y : Effect) → (c ≡ true → Spares b s x) → (c ≡ false → Spares b s y) → Spares b s (if c then x else y)
  if-spares s true x y one other = one refl
  if-spares s false x y one other = other refl

  if-state : (s : State) (c : Bool) (x y : State) → Spares b s (no_effect x) → Spares b s (no_effect y) → Spares b s (no_effect (if c then x else y))
  if-state s true x y one other = one
  if-state s false x y one other = other

  next-spares : (s : State) (t k : ℕ) → Spares b s (no_effect (with_next s t k))
  next-spares s t k = row-spares b s t (record (thread_at s t) { next = k }) (λ name is. is)

  print-spares : (s : State) (text : List ℕ) → Spares b s (print_effect text s)
  print-spares s [] = spares-same b s
  print-spares s (byte ∷ bytes) = spares-line b s (no_effect s) (Line.Print (byte ∷ bytes)) (spares-same b s)

  plain-spares : (script : List Stmt) (s : State) (t : ℕ) (stmt : Stmt) → Spares b s (plain_effect script t stmt s)
  plain-spares script s t (Stmt.Print text) = print-spares s text
  plain-spares script s t (Stmt.Say what) = print-spares s (said_text what (thread_at s t))
  plain-spares script s t (Stmt.Goto k) = next-spares s t (target script k)
  plain-spares script s t (Stmt.IfCode code k) = if-state s (eqb (code_number (thread_at s t).code) (code_number code)) (with_next s t (target script k)) s (next-spares s t (target script k)) (spares-same b s)
  plain-spares script s t (Stmt.Count n) = row-spares b s t (with_counter (thread_at s t) n) (λ name is. is)
  plain-spares script s t (Stmt.Next k) =
      let row : Thread = with_counter (thread_at s t) ((thread_at s t).counter - 1) in
      let lowered : State = with_thread s t row in
      if-state s (eqb ((thread_at s t).counter - 1) 0) lowered (with_next lowered t (target script k)) (row-spares b s t row (λ name is. is)) (spares-from b s lowered (no_effect (with_next lowered t (target script k))) (row-spares b s t row (λ name is. is)) (next-spares lowered t (target script k)))
  plain-spares script s t Stmt.Exit = close-spares b t s
  plain-spares script s t (Stmt.Do call) = spares-same b s

  answer-spares : (s : State) (t : ℕ) (answer : Answer) → Spares b s (no_effect (with_answer t answer s))
  answer-spares s t (Answers code) = row-spares b s t (record (thread_at s t) { code = code }) (λ name is. is)
  answer-spares s t Waits = spares-same b s

  called-spares : (s : State) (t : ℕ) (line : Option Code → Line) (outcome : Outcome) → Spares b s outcome.effect → Spares b s (call_effect t line outcome)
  called-spares s t line outcome spares = spares-line b s (record { state = with_answer t outcome.answer outcome.effect.state; lines = outcome.effect.lines }) _ (spares-after b s (with_answer t outcome.answer outcome.effect.state) outcome.effect spares (answer-spares outcome.effect.state t outcome.answer))

  stated-spares : (s : State) (name : List ℕ) (k : ℕ) (script : List Stmt) (t : ℕ) (stmt : Stmt) → Spares b s (and_then (line_effect s (Line.Done name k (Some Code.Ok))) (plain_effect script t stmt))
  stated-spares s name k script t stmt = spares-line b s (plain_effect script t stmt s) (Line.Done name k (Some Code.Ok)) (plain-spares script s t stmt)

  done-spares : (s : State) (t core : ℕ) (name : List ℕ) (k : ℕ) (stmt : Stmt) → Spares b s (done_effect b t core name k stmt s)
  done-spares s t core name k (Stmt.Do call) = called-spares s t (Line.Done name k) (outcome_of b call s (ByThread t core) First) (outcome-spares b s call (ByThread t core) First)
  done-spares s t core name k (Stmt.Print text) = stated-spares s name k (script_of b name) t (Stmt.Print text)
  done-spares s t core name k (Stmt.Say what) = stated-spares s name k (script_of b name) t (Stmt.Say what)
  done-spares s t core name k (Stmt.Goto n) = stated-spares s name k (script_of b name) t (Stmt.Goto n)
  done-spares s t core name k (Stmt.IfCode code n) = stated-spares s name k (script_of b name) t (Stmt.IfCode code n)
  done-spares s t core name k (Stmt.Count n) = stated-spares s name k (script_of b name) t (Stmt.Count n)
  done-spares s t core name k (Stmt.Next n) = stated-spares s name k (script_of b name) t (Stmt.Next n)
  done-spares s t core name k Stmt.Exit = stated-spares s name k (script_of b name) t Stmt.Exit

  next_statement-spares : (s : State) (t core : ℕ) → Spares b s (next_statement_effect b t core s)
  next_statement-spares s t core =
      let row : Thread = thread_at s t in
      spares-from b s (with_next s t (row.next + 1)) (next_statement_effect b t core s) (next-spares s t (row.next + 1))
      (done-spares (with_next s t (row.next + 1)) t core row.name row.next (statement_at (script_of b row.name) row.next))

  unretried-spares : (s : State) (t : ℕ) → Spares b s (no_effect (with_thread s t (record (thread_at s t) { retry = None })))
  unretried-spares s t = row-spares b s t (record (thread_at s t) { retry = None }) (λ name is. is)

  repeated-spares : (s : State) (t core : ℕ) (retry : Retry) (what : Awaited) → Spares b s (repeated_call_effect b t core retry what s)
  repeated-spares s t core retry AtConsole = spares-same b s
  repeated-spares s t core retry AtWorks = spares-same b s
  repeated-spares s t core retry (InCall call) =
      let free : State = with_thread s t (record (thread_at s t) { retry = None }) in
      spares-from b s free _ (unretried-spares s t) (called-spares free t (Line.Again (thread_at s t).name ((thread_at s t).next - 1)) (outcome_of b call free (ByThread t core) (Again retry.due)) (outcome-spares b free call (ByThread t core) (Again retry.due)))

  script-spares : (s : State) (t core : ℕ) (retry : Option Retry) → Spares b s (script_effect b t core retry s)
  script-spares s t core None = next_statement-spares s t core
  script-spares s t core (Some retry) = repeated-spares s t core retry retry.what

  -- the shell
  received-spares : (s : State) (o : Option Device) (rx : List ℕ) → Spares b s (no_effect (with_received o rx s))
  received-spares s None rx = spares-same b s
  received-spares s (Some device) rx = spares-parts b s _ refl refl

  line_read-spares : (s : State) (line rest : List ℕ) → Spares b s (line_read_effect b line rest s)
  line_read-spares s line rest =
      let read : State = with_console_bytes rest s in
      let pieces : List (List ℕ) = (line ++ 10 ∷ []) ∷ table line (seen_of b read) ++ prompt ∷ [] in
      spares-from b s read (line_read_effect b line rest s) (received-spares s (find_device s console_name) rest) (record { kept = λ all. all })

  reading-spares : (s : State) (bytes : List ℕ) → Spares b s (reading_effect b bytes s)
  reading-spares s bytes = if-spares s (list_any is_newline bytes) (line_read_effect b (longer_line s.shell_line (before_first is_newline bytes)) (after_first is_newline bytes) s) _
      (λ whole. line_read-spares s (longer_line s.shell_line (before_first is_newline bytes)) (after_first is_newline bytes))
      (λ part. spares-from b s (with_console_bytes [] s) _ (received-spares s (find_device s console_name) []) (spares-parts b (with_console_bytes [] s) _ refl refl))

  turned-spares : (s : State) (t : ℕ) (bytes : List ℕ) → Spares b s (turn_effect b t bytes s)
  turned-spares s t [] =
      let free : State = with_thread s t (record (thread_at s t) { retry = None }) in
      spares-from b s free _ (unretried-spares s t) (spares-line b free (no_effect (waiting_state free t AtConsole None)) (turn_line (thread_at s t) 2 None) (waiting-spares b free t AtConsole None (λ number name is. absurd cc)))
  turned-spares s t (byte ∷ bytes) =
      let free : State = with_thread s t (record (thread_at s t) { retry = None }) in
      spares-from b s free _ (unretried-spares s t) (spares-line b free (reading_effect b (byte ∷ bytes) free) (turn_line (thread_at s t) 2 (Some Code.Ok)) (reading-spares free (byte ∷ bytes)))

  shell-spares : (s : State) (t : ℕ) → Spares b s (shell_effect b t s)
  shell-spares s t = if-spares s (eqb (thread_at s t).next 1) (prompt_effect t s) (turn_effect b t (console_bytes s) s)
      (λ first. record { kept = (row-spares b s t (record (thread_at s t) { next = 2 }) (λ name is. is)).kept }) (λ later. turned-spares s t (console_bytes s))

  -- what a timer does
  timer-spares : (s : State) (line : Fired → Line) (name : List ℕ) (action : Option Stmt) → Spares b s (timer_effect b line name action s)
  timer-spares s line name None = record { kept = λ all. all }
  timer-spares s line name (Some (Stmt.Print text)) = record { kept = λ all. all }
  timer-spares s line name (Some (Stmt.Do call)) = record { kept = (outcome-spares b s call (ByTimer name) First).kept }
  timer-spares s line name (Some _) = record { kept = λ all. all }

  pub action-spares : (s : State) (line : Fired → Line) (timer : Timer) → Spares b s (timer_action_effect b line timer s)
  action-spares s line timer = by_kind timer.kind where
    by_kind : (kind : TimerKind) → Spares b s (timer_effect b line timer.name timer.call (with_period kind timer s))
    by_kind TimerKind.OneShot = timer-spares s line timer.name timer.call
    by_kind TimerKind.Periodic = spares-from b s (with_timer_armed s timer) _ (spares-parts b s _ refl refl) (timer-spares (with_timer_armed s timer) line timer.name timer.call)
    by_kind TimerKind.SoftOne = timer-spares s line timer.name timer.call
    by_kind TimerKind.SoftPer = spares-from b s (with_timer_armed s timer) _ (spares-parts b s _ refl refl) (timer-spares (with_timer_armed s timer) line timer.name timer.call)

  -- the thread of soft timers
  worked-spares : (s : State) (o : Option Timer) → Spares b s (work_effect b o s)
  worked-spares s None = spares-same b s
  worked-spares s (Some timer) = action-spares s (Line.Work timer.name) timer

  softly-spares : (s : State) (t : ℕ) (works : List (List ℕ)) → Spares b s (soft_turn_effect b t works s)
  softly-spares s t [] =
      let free : State = with_thread s t (record (thread_at s t) { retry = None }) in
      spares-from b s free _ (unretried-spares s t) (spares-line b free (no_effect (waiting_state free t AtWorks None)) (turn_line (thread_at s t) 1 None) (waiting-spares b free t AtWorks None (λ number name is. absurd cc)))
  softly-spares s t (name ∷ names) =
      let free : State = with_thread s t (record (thread_at s t) { retry = None }) in
      let left : State = record free { works = names } in
      spares-from b s left _ (spares-from b s free (no_effect left) (unretried-spares s t) (spares-parts b free left refl refl)) (spares-line b left (work_effect b (find_timer left name) left) (turn_line (thread_at s t) 1 (Some Code.Ok)) (worked-spares left (find_timer left name)))

  pub statement-spares : (s : State) (t core : ℕ) → Spares b s (statement_effect b t core s)
  statement-spares s t core = settled-spares s s (thread_effect b t core s) (if-spares s (is_shell b t) (shell_effect b t s) _ (λ shell. shell-spares s t)
      (λ unshell. if-spares s (is_soft_thread b t) (soft_effect b t s) _ (λ soft. softly-spares s t s.works) (λ hard. script-spares s t core (thread_at s t).retry)))
