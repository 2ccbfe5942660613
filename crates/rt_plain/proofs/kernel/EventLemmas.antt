-- What statements, ticks and events leave: the works that their lines tell, what is to arrive, and priorities and bindings that the board has.
use Rattle.std.proofs.Common.{◌≡◌, ◌+◌, ◌-◌, ◌∷◌, [], ◌++◌, ℕ, zero, suc, List, Option, Some, None, Bool, true, false, not, ◌&&◌, ◌||◌, is_some, cond, eqb, bytes_eq, refl, sym, ap, ◌∙◌, subst, arith, slice_get, unwrap_or, option_map, filter_map, map, if◌then◌else◌}
use Rattle.std.specs.List.{AllByRecursion, find, list_any, list_all, before_first, after_first, cons_option}
use Rattle.std.proofs.lemmas.List.Elements.{recursion_from_All, All-contains}
use Rattle.std.proofs.lemmas.Slice.Eq.{bytes_eq-Decides}
use Rattle.rt_base.specs.declared.codes.Code.{Code}
use Rattle.rt_base.specs.Codes.{code_number, sleep_number}
use Rattle.rt_plain.specs.declared.line.Line.{Line}
use Rattle.rt_plain.specs.declared.line.Fired.{Fired}
use Rattle.rt_plain.specs.declared.stmt.Call.{Call}
use Rattle.rt_plain.specs.declared.stmt.Stmt.{Stmt}
use Rattle.rt_plain.specs.declared.board.ThreadDef.{ThreadDef}
use Rattle.rt_plain.specs.declared.board.TimerDef.{TimerDef}
use Rattle.rt_plain.specs.declared.board.TimerKind.{TimerKind}
use Rattle.rt_plain.specs.PlainBoard.{PlainBoard}
use Rattle.rt_plain.specs.kernel.State.{State, Thread, Timer, Device, Retry, Awaited, InCall, AtConsole, AtWorks, OfTimer, thread_at, thread_numbers, with_thread, is_closed}
use Rattle.rt_plain.specs.kernel.Effects.{Effect, no_effect, line_effect, and_then, waiting_state, name_of}
use Rattle.rt_plain.specs.kernel.Outcome.{ByThread, ByTimer, First, Again, Answer, Answers, Waits, Outcome}
use Rattle.rt_plain.specs.kernel.Calls.{outcome_of, has_new_cur, prio_line, prio_lines, mode_lines, reordered_state, settled_effect}
use Rattle.rt_plain.specs.kernel.PowerCalls.{sleep_mode}
use Rattle.rt_plain.specs.kernel.Priority.{cur}
use Rattle.rt_plain.specs.runs.WorkLog.{works_after, works_from, is_work}
use Rattle.rt_plain.specs.kernel.TimerCalls.{find_timer, with_timer_armed}
use Rattle.rt_plain.specs.kernel.Due.{fired_code, with_period, timer_effect, timer_action_effect}
use Rattle.rt_plain.specs.kernel.Shell.{longer_line, prompt_effect, turn_line, turn_effect, reading_effect, line_read_effect, shell_effect, console_bytes, with_received, with_console_bytes, console_name, is_newline, seen_of, prompt}
use Rattle.rt_plain.specs.kernel.Tables.{table}
use Rattle.rt_plain.specs.kernel.DeviceCalls.{find_device}
use Rattle.rt_plain.specs.kernel.Statements.{script_of, statement_at, is_shell, is_soft_thread, with_next, target, print_effect, said_text, with_counter, plain_effect, with_answer, call_effect, done_effect, next_statement_effect, repeated_call_effect, script_effect, thread_effect, statement_effect}
use Rattle.rt_plain.specs.kernel.SoftTurn.{work_effect, soft_turn_effect, soft_effect}
use Rattle.rt_plain.specs.kernel.Sound.{is_levelled_call, is_levelled, is_levelled_action, IsLevelled, IsBoardTimer}
use Rattle.rt_plain.specs.kernel.Tally.{one_if, tally}
use Rattle.rt_plain.proofs.kernel.TallyLemmas.{all-found}
use Rattle.rt_plain.specs.kernel.Kept.{Frame, Kept, is_waiting_call, is_fine_awaited, IsFineRetry, is_owned, is_work_of, IsKnownWork}
use Rattle.rt_plain.proofs.kernel.Invariant.{fine-at}
use Rattle.rt_plain.proofs.kernel.ObjectLemmas.{found-timer, found-name}
use Rattle.rt_plain.proofs.kernel.StatementLemmas.{left-kept}
use Rattle.rt_plain.proofs.kernel.TickLemmas.{still}
use Rattle.rt_plain.proofs.kernel.ActionLemmas.{Leaves, IsQuiet, leaves-same, leaves-parts, leaves-then, leaves-from, leaves-after, leaves-line, row-leaves, close-leaves, waiting-leaves, outcome-leaves}
use Rattle.rt_plain.proofs.TestLemmas.{and-left, and-right}

pub quiet-works : (works : List (List ℕ)) (lines : List Line) → AllByRecursion IsQuiet lines → works_from (Some works) lines ≡ Some works
quiet-works works [] all = refl
quiet-works works (line ∷ lines) all = ap (λ now. works_from now lines) (all.0 works) ∙ quiet-works works lines all.1

maybe-quiet : (c : Bool) (line : Line) (more : List Line) → IsQuiet line → AllByRecursion IsQuiet more → AllByRecursion IsQuiet (cons_option (if c then Some line else None) more)
maybe-quiet true line more quiet all = (quiet, all)
maybe-quiet false line more quiet all = all

prio-quiet : (before after : State) (ts : List ℕ) → AllByRecursion IsQuiet (filter_map (prio_line before after) ts)
prio-quiet before after [] = tt
prio-quiet before after (t ∷ ts) = maybe-quiet (not (is_closed (thread_at after t).stage) && has_new_cur before after t) (Line.Cur (name_of after t) (cur before t) (cur after t)) (filter_map (prio_line before after) ts) (λ works. refl) (prio-quiet before after ts)

prints-quiet : (pieces : List (List ℕ)) → AllByRecursion IsQuiet (map (λ piece. Line.Print piece) pieces)
prints-quiet [] = tt
prints-quiet (piece ∷ pieces) = (λ works. refl, prints-quiet pieces)

turn-quiet : (row : Thread) (k : ℕ) (code : Option Code) → IsQuiet (turn_line row k code)
turn-quiet row k code works = by_test (is_some row.retry) where
  by_test : (c : Bool) → works_after (if c then Line.Again row.name k code else Line.Done row.name k code) works ≡ Some works
  by_test true = refl
  by_test false = refl

-- a call that may wait sets no priority
waiting-levelled : (levels : ℕ) (call : Call) → is_waiting_call call ≡ true → is_levelled_call levels call ≡ true
waiting-levelled levels (Call.SetPrio name prio) is = absurd cc
waiting-levelled levels _ is = refl

-- the statements of a script set no priority that the levels don't have
script-levelled : (b : PlainBoard) (name : List ℕ) → IsLevelled b → list_all (is_levelled b.levels) (script_of b name) ≡ true
script-levelled b name has = by_found (find (λ (def : ThreadDef). bytes_eq def.name name) b.threads) refl where
  by_found : (o : Option ThreadDef) → find (λ (def : ThreadDef). bytes_eq def.name name) b.threads ≡ o → list_all (is_levelled b.levels) (unwrap_or (option_map (λ (def : ThreadDef). def.script) o) []) ≡ true
  by_found None is = refl
  by_found (Some def) is = all-found (λ (d : ThreadDef). list_all (is_levelled b.levels) d.script ≡ true) (λ (d : ThreadDef). bytes_eq d.name name) b.threads def is (recursion_from_All (λ (d : ThreadDef). list_all (is_levelled b.levels) d.script ≡ true) b.threads has.scripts)

statement-levelled : (levels : ℕ) (script : List Stmt) (i : ℕ) → list_all (is_levelled levels) script ≡ true → is_levelled levels (unwrap_or (slice_get script i) Stmt.Exit) ≡ true
statement-levelled levels [] i all = refl
statement-levelled levels (stmt ∷ script) zero all = and-left (is_levelled levels stmt) (list_all (is_levelled levels) script) all
statement-levelled levels (stmt ∷ script) (suc i) all = statement-levelled levels script i (and-right (is_levelled levels stmt) (list_all (is_levelled levels) script) all)

-- what a timer does sets none either
timer-levelled : (b : PlainBoard) (timer : Timer) → IsBoardTimer b timer → IsLevelled b → is_levelled_action b.levels timer.call ≡ true
timer-levelled b timer is has = ap (is_levelled_action b.levels) is.4 ∙ All-contains (λ (def : TimerDef). is_levelled_action b.levels def.call ≡ true) b.timers is.0 has.timers is.1

-- a timer that is there is found
found-there : {A : Type 0} (p : A → Bool) (xs : List A) → find p xs ≡ None → list_any p xs ≡ true → ⊥
found-there p [] none some = cc
found-there p (x ∷ xs) none some = by_test (p x) none some (found-there p xs) where
  by_test : (c : Bool) → cond c (Some x) (find p xs) ≡ None → c || list_any p xs ≡ true → (find p xs ≡ None → list_any p xs ≡ true → ⊥) → ⊥
  by_test true none some more = cc
  by_test false none some more = more none some

-- what none counts as is not there
pub none-there : (works : List (List ℕ)) (name : List ℕ) → tally (is_work_of (OfTimer name)) works ≡ 0 → is_work works name ≡ false
none-there [] name none = refl
none-there (work ∷ works) name none = by_test (bytes_eq work name) none (none-there works name) where
  by_test : (c : Bool) → one_if c + tally (is_work_of (OfTimer name)) works ≡ 0 → (tally (is_work_of (OfTimer name)) works ≡ 0 → is_work works name ≡ false) → c || is_work works name ≡ false
  by_test true none more = absurd (omega (arith, none))
  by_test false none more = more (omega (arith, none))

module _ (b : PlainBoard) where
  quiet-leaves : (s : State) (lines : List Line) → AllByRecursion IsQuiet lines → Leaves b s (record { state = s; lines = lines })
  quiet-leaves s lines all = record { works = quiet-works s.works lines all; arrivals = refl; levelled = λ has rows. rows }

  mode-leaves : (before s : State) → Leaves b s (record { state = s; lines = mode_lines b before s })
  mode-leaves before s = by_test (eqb (sleep_number (sleep_mode b before)) (sleep_number (sleep_mode b s))) where
    by_test : (c : Bool) → Leaves b s (record { state = s; lines = if c then [] else Line.Mode (sleep_mode b s) ∷ [] })
    by_test true = leaves-same b s
    by_test false = leaves-line b s (no_effect s) (Line.Mode (sleep_mode b s)) (λ works. refl) (leaves-same b s)

  -- what follows from an action
  pub settled-leaves : (before s : State) (e : Effect) → Leaves b s e → Leaves b s (settled_effect b before e)
  settled-leaves before s e leaves =
      let prio : Effect = record { state = e.state; lines = e.lines ++ prio_lines before e.state } in
      let mode : Effect = record { state = e.state; lines = prio.lines ++ mode_lines b before e.state } in
      let told : Leaves b s prio = leaves-then b s e (record { state = e.state; lines = prio_lines before e.state }) leaves (quiet-leaves e.state (prio_lines before e.state) (prio-quiet before e.state (thread_numbers e.state))) in
      leaves-after b s (reordered_state before e.state) mode (leaves-then b s prio (record { state = e.state; lines = mode_lines b before e.state }) told (mode-leaves before e.state)) (leaves-parts b e.state (reordered_state before e.state) refl refl refl)

  -- statements of scripts
  if-leaves : (s : State) (c : Bool) (x y : Effect) → (c ≡ true → Leaves b s x) → (c ≡ false → Leaves b s y) → Leaves b s (if c then x else y)
  if-leaves s true x y one other = one refl
  if-leaves s false x y one other = other refl

  if-state : (s : State) (c : Bool) (x y : State) → Leaves b s (no_effect x) → Leaves b s (no_effect y) → Leaves b s (no_effect (if c then x else y))
  if-state s true x y one other = one
  if-state s false x y one other = other

  next-leaves : (s : State) (t k : ℕ) → Leaves b s (no_effect (with_next s t k))
  next-leaves s t k = row-leaves b s t (record (thread_at s t) { next = k }) refl refl

  print-leaves : (s : State) (text : List ℕ) → Leaves b s (print_effect text s)
  print-leaves s [] = leaves-same b s
  print-leaves s (byte ∷ bytes) = leaves-line b s (no_effect s) (Line.Print (byte ∷ bytes)) (λ works. refl) (leaves-same b s)

  plain-leaves : (script : List Stmt) (s : State) (t : ℕ) (stmt : Stmt) → Leaves b s (plain_effect script t stmt s)
  plain-leaves script s t (Stmt.Print text) = print-leaves s text
  plain-leaves script s t (Stmt.Say what) = print-leaves s (said_text what (thread_at s t))
  plain-leaves script s t (Stmt.Goto k) = next-leaves s t (target script k)
  plain-leaves script s t (Stmt.IfCode code k) = if-state s (eqb (code_number (thread_at s t).code) (code_number code)) (with_next s t (target script k)) s (next-leaves s t (target script k)) (leaves-same b s)
  plain-leaves script s t (Stmt.Count n) = row-leaves b s t (with_counter (thread_at s t) n) refl refl
  plain-leaves script s t (Stmt.Next k) =
      let row : Thread = with_counter (thread_at s t) ((thread_at s t).counter - 1) in
      let lowered : State = with_thread s t row in
      if-state s (eqb ((thread_at s t).counter - 1) 0) lowered (with_next lowered t (target script k)) (row-leaves b s t row refl refl) (leaves-from b s lowered (no_effect (with_next lowered t (target script k))) (row-leaves b s t row refl refl) (next-leaves lowered t (target script k)))
  plain-leaves script s t Stmt.Exit = close-leaves b t s
  plain-leaves script s t (Stmt.Do call) = leaves-same b s

  answer-leaves : (s : State) (t : ℕ) (answer : Answer) → Leaves b s (no_effect (with_answer t answer s))
  answer-leaves s t (Answers code) = row-leaves b s t (record (thread_at s t) { code = code }) refl refl
  answer-leaves s t Waits = leaves-same b s

  called-leaves : (s : State) (t : ℕ) (line : Option Code → Line) (outcome : Outcome) → ((code : Option Code) → IsQuiet (line code)) → Leaves b s outcome.effect → Leaves b s (call_effect t line outcome)
  called-leaves s t line outcome quiet leaves = leaves-line b s (record { state = with_answer t outcome.answer outcome.effect.state; lines = outcome.effect.lines }) _ (quiet _) (leaves-after b s (with_answer t outcome.answer outcome.effect.state) outcome.effect leaves (answer-leaves outcome.effect.state t outcome.answer))

  stated-leaves : (s : State) (name : List ℕ) (k : ℕ) (script : List Stmt) (t : ℕ) (stmt : Stmt) → Leaves b s (and_then (line_effect s (Line.Done name k (Some Code.Ok))) (plain_effect script t stmt))
  stated-leaves s name k script t stmt = leaves-line b s (plain_effect script t stmt s) (Line.Done name k (Some Code.Ok)) (λ works. refl) (plain-leaves script s t stmt)

  done-leaves : (s : State) (t core : ℕ) (name : List ℕ) (k : ℕ) (stmt : Stmt) → (IsLevelled b → is_levelled b.levels stmt ≡ true) → Leaves b s (done_effect b t core name k stmt s)
  done-leaves s t core name k (Stmt.Do call) fits = called-leaves s t (Line.Done name k) (outcome_of b call s (ByThread t core) First) (λ code works. refl) (outcome-leaves b s call (ByThread t core) First fits)
  done-leaves s t core name k (Stmt.Print text) fits = stated-leaves s name k (script_of b name) t (Stmt.Print text)
  done-leaves s t core name k (Stmt.Say what) fits = stated-leaves s name k (script_of b name) t (Stmt.Say what)
  done-leaves s t core name k (Stmt.Goto n) fits = stated-leaves s name k (script_of b name) t (Stmt.Goto n)
  done-leaves s t core name k (Stmt.IfCode code n) fits = stated-leaves s name k (script_of b name) t (Stmt.IfCode code n)
  done-leaves s t core name k (Stmt.Count n) fits = stated-leaves s name k (script_of b name) t (Stmt.Count n)
  done-leaves s t core name k (Stmt.Next n) fits = stated-leaves s name k (script_of b name) t (Stmt.Next n)
  done-leaves s t core name k Stmt.Exit fits = stated-leaves s name k (script_of b name) t Stmt.Exit

  next_statement-leaves : (s : State) (t core : ℕ) → Leaves b s (next_statement_effect b t core s)
  next_statement-leaves s t core =
      let row : Thread = thread_at s t in
      leaves-from b s (with_next s t (row.next + 1)) (next_statement_effect b t core s) (next-leaves s t (row.next + 1))
      (done-leaves (with_next s t (row.next + 1)) t core row.name row.next (statement_at (script_of b row.name) row.next) (λ has. statement-levelled b.levels (script_of b row.name) (row.next - 1) (script-levelled b row.name has)))

  unretried-leaves : (s : State) (t : ℕ) → Leaves b s (no_effect (with_thread s t (record (thread_at s t) { retry = None })))
  unretried-leaves s t = row-leaves b s t (record (thread_at s t) { retry = None }) refl refl

  repeated-leaves : (s : State) (t core : ℕ) (retry : Retry) (what : Awaited) → is_fine_awaited what ≡ true → Leaves b s (repeated_call_effect b t core retry what s)
  repeated-leaves s t core retry AtConsole fine = leaves-same b s
  repeated-leaves s t core retry AtWorks fine = leaves-same b s
  repeated-leaves s t core retry (InCall call) fine =
      let free : State = with_thread s t (record (thread_at s t) { retry = None }) in
      leaves-from b s free _ (unretried-leaves s t) (called-leaves free t (Line.Again (thread_at s t).name ((thread_at s t).next - 1)) (outcome_of b call free (ByThread t core) (Again retry.due)) (λ code works. refl) (outcome-leaves b free call (ByThread t core) (Again retry.due) (λ has. waiting-levelled b.levels call (and-left (is_waiting_call call) _ fine))))

  script-leaves : (now : ℕ) (s : State) (t core : ℕ) (retry : Option Retry) → IsFineRetry now retry → Leaves b s (script_effect b t core retry s)
  script-leaves now s t core None fine = next_statement-leaves s t core
  script-leaves now s t core (Some retry) fine = repeated-leaves s t core retry retry.what fine.0

  -- the shell
  received-leaves : (s : State) (o : Option Device) (rx : List ℕ) → Leaves b s (no_effect (with_received o rx s))
  received-leaves s None rx = leaves-same b s
  received-leaves s (Some device) rx = leaves-parts b s _ refl refl refl

  line_read-leaves : (s : State) (line rest : List ℕ) → Leaves b s (line_read_effect b line rest s)
  line_read-leaves s line rest =
      let read : State = with_console_bytes rest s in
      let pieces : List (List ℕ) = (line ++ 10 ∷ []) ∷ table line (seen_of b read) ++ prompt ∷ [] in
      leaves-from b s read (line_read_effect b line rest s) (received-leaves s (find_device s console_name) rest) (record { works = quiet-works read.works (map (λ piece. Line.Print piece) pieces) (prints-quiet pieces); arrivals = refl; levelled = λ has all. all })

  reading-leaves : (s : State) (bytes : List ℕ) → Leaves b s (reading_effect b bytes s)
  reading-leaves s bytes = if-leaves s (list_any is_newline bytes) (line_read_effect b (longer_line s.shell_line (before_first is_newline bytes)) (after_first is_newline bytes) s) _
      (λ whole. line_read-leaves s (longer_line s.shell_line (before_first is_newline bytes)) (after_first is_newline bytes))
      (λ part. leaves-from b s (with_console_bytes [] s) _ (received-leaves s (find_device s console_name) []) (leaves-parts b (with_console_bytes [] s) _ refl refl refl))

  turned-leaves : (s : State) (t : ℕ) (bytes : List ℕ) → Leaves b s (turn_effect b t bytes s)
  turned-leaves s t [] =
      let free : State = with_thread s t (record (thread_at s t) { retry = None }) in
      leaves-from b s free _ (unretried-leaves s t) (leaves-line b free (no_effect (waiting_state free t AtConsole None)) (turn_line (thread_at s t) 2 None) (turn-quiet (thread_at s t) 2 None) (waiting-leaves b free t AtConsole None))
  turned-leaves s t (byte ∷ bytes) =
      let free : State = with_thread s t (record (thread_at s t) { retry = None }) in
      leaves-from b s free _ (unretried-leaves s t) (leaves-line b free (reading_effect b (byte ∷ bytes) free) (turn_line (thread_at s t) 2 (Some Code.Ok)) (turn-quiet (thread_at s t) 2 (Some Code.Ok)) (reading-leaves free (byte ∷ bytes)))

  shell-leaves : (s : State) (t : ℕ) → Leaves b s (shell_effect b t s)
  shell-leaves s t = if-leaves s (eqb (thread_at s t).next 1) (prompt_effect t s) (turn_effect b t (console_bytes s) s)
      (λ first. record { works = refl; arrivals = refl; levelled = (row-leaves b s t (record (thread_at s t) { next = 2 }) refl refl).levelled }) (λ later. turned-leaves s t (console_bytes s))

  -- a line that tells of works, and what follows it
  told-leaves : (s : State) (works : List (List ℕ)) (line : Line) (e : Effect) → works_after line works ≡ Some s.works → Leaves b s e → Leaves b (record s { works = works }) (record { state = e.state; lines = line ∷ e.lines })
  told-leaves s works line e tells leaves = record { works = ap (λ now. works_from now e.lines) tells ∙ leaves.works; arrivals = leaves.arrivals; levelled = leaves.levelled }

  -- what a timer does: its line tells the works of the state
  timer-leaves : (s : State) (works : List (List ℕ)) (line : Fired → Line) (name : List ℕ) (action : Option Stmt) → works_after (line Fired.Nothing) works ≡ Some s.works → ((code : Code) → works_after (line (Fired.Code code)) works ≡ Some s.works) → (IsLevelled b → is_levelled_action b.levels action ≡ true) → Leaves b (record s { works = works }) (timer_effect b line name action s)
  timer-leaves s works line name None nothing coded fits = told-leaves s works (line Fired.Nothing) (no_effect s) nothing (leaves-same b s)
  timer-leaves s works line name (Some (Stmt.Print text)) nothing coded fits = told-leaves s works (line (Fired.Code Code.Ok)) (line_effect s (Line.Print text)) (coded Code.Ok) (leaves-line b s (no_effect s) (Line.Print text) (λ now. refl) (leaves-same b s))
  timer-leaves s works line name (Some (Stmt.Do call)) nothing coded fits = told-leaves s works (line (fired_code outcome.answer)) outcome.effect (by_answer outcome.answer) (outcome-leaves b s call (ByTimer name) First fits) where
    outcome : Outcome
    outcome = outcome_of b call s (ByTimer name) First

    by_answer : (answer : Answer) → works_after (line (fired_code answer)) works ≡ Some s.works
    by_answer (Answers code) = coded code
    by_answer Waits = nothing
  timer-leaves s works line name (Some _) nothing coded fits = told-leaves s works (line Fired.Nothing) (no_effect s) nothing (leaves-same b s)

  pub action-leaves : (s : State) (works : List (List ℕ)) (line : Fired → Line) (timer : Timer) → works_after (line Fired.Nothing) works ≡ Some s.works → ((code : Code) → works_after (line (Fired.Code code)) works ≡ Some s.works) → IsBoardTimer b timer → Leaves b (record s { works = works }) (timer_action_effect b line timer s)
  action-leaves s works line timer nothing coded is = by_kind timer.kind where
    told : (u : State) → u.works ≡ s.works → u.arrivals ≡ s.arrivals → u.threads ≡ s.threads → Leaves b (record s { works = works }) (timer_effect b line timer.name timer.call u)
    told u same arrivals threads = leaves-from b (record s { works = works }) (record u { works = works }) (timer_effect b line timer.name timer.call u) (leaves-parts b (record s { works = works }) (record u { works = works }) refl arrivals threads)
        (timer-leaves u works line timer.name timer.call (nothing ∙ ap (λ (x : List (List ℕ)). Some x) (sym same)) (λ code. coded code ∙ ap (λ (x : List (List ℕ)). Some x) (sym same)) (timer-levelled b timer is))

    by_kind : (kind : TimerKind) → Leaves b (record s { works = works }) (timer_effect b line timer.name timer.call (with_period kind timer s))
    by_kind TimerKind.OneShot = told s refl refl refl
    by_kind TimerKind.Periodic = told (with_timer_armed s timer) refl refl refl
    by_kind TimerKind.SoftOne = told s refl refl refl
    by_kind TimerKind.SoftPer = told (with_timer_armed s timer) refl refl refl

  -- the thread of soft timers: the work that it does was the first one
  worked-leaves : (f : Frame) (s : State) (name : List ℕ) (names : List (List ℕ)) (o : Option Timer) → f.board ≡ b → s.works ≡ names → find_timer s name ≡ o → is_owned s.timers (OfTimer name) ≡ true → Kept f s → Leaves b (record s { works = name ∷ names }) (work_effect b o s)
  worked-leaves f s name names None same works is known kept = absurd (found-there (λ (o : Timer). bytes_eq o.name name) s.timers is known)
  worked-leaves f s name names (Some timer) same works is known kept = action-leaves s (name ∷ names) (Line.Work timer.name) timer told (λ code. told) (subst (λ (x : PlainBoard). IsBoardTimer x timer) same (found-timer f s name timer is kept).3) where
    told : works_after (Line.Work timer.name Fired.Nothing) (name ∷ names) ≡ Some s.works
    told = rw ((bytes_eq-Decides name timer.name).1 (sym (found-name s name timer is))) (ap (λ (x : List (List ℕ)). Some x) (sym works))

  softly-leaves : (f : Frame) (s : State) (t : ℕ) (works : List (List ℕ)) → f.board ≡ b → s.works ≡ works → Kept f s → Leaves b s (soft_turn_effect b t works s)
  softly-leaves f s t [] same is kept =
      let free : State = with_thread s t (record (thread_at s t) { retry = None }) in
      leaves-from b s free _ (unretried-leaves s t) (leaves-line b free (no_effect (waiting_state free t AtWorks None)) (turn_line (thread_at s t) 1 None) (turn-quiet (thread_at s t) 1 None) (waiting-leaves b free t AtWorks None))
  softly-leaves f s t (name ∷ names) same is kept = leaves-from b s (record free { works = name ∷ names }) _ before (leaves-line b (record free { works = name ∷ names }) (work_effect b (find_timer left name) left) (turn_line (thread_at s t) 1 (Some Code.Ok)) (turn-quiet (thread_at s t) 1 (Some Code.Ok))
      (worked-leaves f left name names (find_timer left name) same refl refl known.0 (left-kept f s t name names is kept))) where
        free : State
        free = with_thread s t (record (thread_at s t) { retry = None })

        left : State
        left = record free { works = names }

        before : Leaves b s (no_effect (record free { works = name ∷ names }))
        before = record { works = ap (λ (x : List (List ℕ)). Some x) is; arrivals = refl; levelled = (unretried-leaves s t).levelled }

        known : AllByRecursion (IsKnownWork s.timers) (name ∷ names)
        known = subst (AllByRecursion (IsKnownWork s.timers)) is kept.works_known

  pub statement-leaves : (now : ℕ) (s : State) (t core : ℕ) → Kept (still b now) s → Leaves b s (statement_effect b t core s)
  statement-leaves now s t core kept = settled-leaves s s (thread_effect b t core s) (if-leaves s (is_shell b t) (shell_effect b t s) _ (λ shell. shell-leaves s t)
      (λ unshell. if-leaves s (is_soft_thread b t) (soft_effect b t s) _ (λ soft. softly-leaves (still b now) s t s.works refl refl kept) (λ hard. script-leaves now s t core (thread_at s t).retry (fine-at (still b now) s t kept).1)))
