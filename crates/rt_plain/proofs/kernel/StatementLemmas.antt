-- Statements of threads keep what holds of a state.
use Rattle.std.proofs.Common.{◌≡◌, inl, inr, ◌+◌, ◌-◌, ◌∷◌, [], ℕ, zero, suc, List, Option, Some, None, Bool, true, false, eqb, refl, sym, ◌∙◌, subst, slice_get, unwrap_or, option_map, if◌then◌else◌, bytes_eq, ◌≤◌, length, slice_set, arith, ap, ◌<◌, ◌⊎◌, inl, inr}
use Rattle.std.specs.List.{AllByRecursion, find, list_any, list_all, before_first, after_first}
use Rattle.std.proofs.lemmas.List.Elements.{recursion_from_All}
use Rattle.std.proofs.lemmas.Slice.Eq.{bytes_eq-Decides}
use Rattle.rt_base.specs.declared.codes.Code.{Code}
use Rattle.rt_base.specs.Codes.{code_number}
use Rattle.rt_plain.specs.declared.line.Line.{Line}
use Rattle.rt_plain.specs.declared.board.ThreadDef.{ThreadDef}
use Rattle.rt_plain.specs.declared.stmt.Stmt.{Stmt}
use Rattle.rt_plain.specs.PlainBoard.{PlainBoard}
use Rattle.rt_plain.specs.kernel.State.{State, Awaited, InCall, AtConsole, AtWorks, Retry, Thread, Timer, Device, Alarm, OfTimer, thread_at, with_thread, running_on, no_thread, Closed}
use Rattle.rt_plain.specs.kernel.Effects.{Effect}
use Rattle.rt_plain.specs.kernel.Outcome.{ByThread, First, Again, Answer, Answers, Waits, Outcome}
use Rattle.rt_plain.specs.kernel.Calls.{outcome_of, settled_effect}
use Rattle.rt_plain.specs.kernel.Shell.{longer_line, prompt_effect, turn_effect, reading_effect, line_read_effect, shell_effect, console_bytes, with_received, with_console_bytes, console_name, is_newline}
use Rattle.rt_plain.specs.kernel.DeviceCalls.{find_device}
use Rattle.rt_plain.specs.kernel.Statements.{script_of, statement_at, is_shell, is_soft_thread, with_next, print_effect, said_text, with_counter, plain_effect, with_answer, call_effect, done_effect, next_statement_effect, repeated_call_effect, script_effect, thread_effect, statement_effect, target}
use Rattle.rt_plain.specs.kernel.TimerCalls.{find_timer}
use Rattle.rt_plain.specs.kernel.SoftTurn.{work_effect, soft_turn_effect, soft_effect}
use Rattle.rt_plain.specs.kernel.Sound.{is_timed, is_timed_call, IsProper}
use Rattle.rt_plain.specs.kernel.Owners.{close_effect, withdrawn_state, give_back_effect, mutexes_of}
use Rattle.rt_plain.specs.kernel.Tally.{one_if, tally}
use Rattle.rt_plain.proofs.kernel.TallyLemmas.{all-found, same-set, le_or_lt, past-end, length-set_at, here-set}
use Rattle.rt_plain.specs.kernel.Kept.{Frame, Kept, parts, is_waiting_call, is_fine_awaited, IsNear, IsFineRetry, is_scriptless, is_work_of, standings, IsKnownWork}
use Rattle.rt_plain.proofs.kernel.Invariant.{IsOffNest, fine-at, thread-kept, waiting-kept, reordered-kept, withdrawn-kept, works-kept}
use Rattle.rt_plain.proofs.kernel.WakeLemmas.{close-kept, each-kept, give_back-kept}
use Rattle.rt_plain.proofs.kernel.CallLemmas.{KeptOutcome, IsBy}
use Rattle.rt_plain.proofs.kernel.ObjectLemmas.{outcome-kept, action-kept, found-timer, found-owner, found-name}
use Rattle.rt_plain.proofs.TestLemmas.{and-left, and-right, or-first, or-second, clash, some-is}

-- a choice of states
pub if-state : (f : Frame) (c : Bool) (x y : State) → Kept f x → Kept f y → Kept f (if c then x else y)
if-state f true x y one other = one
if-state f false x y one other = other

pub next-kept : (f : Frame) (s : State) (t k : ℕ) → k ≤ length (script_of f.board (thread_at s t).name) + 2 → Kept f s → Kept f (with_next s t k)
next-kept f s t k few kept = thread-kept f s t (record (thread_at s t) { next = k }) refl ((fine-at f s t kept).0, (fine-at f s t kept).1, λ is. few) kept

counter-kept : (f : Frame) (s : State) (t n : ℕ) → Kept f s → Kept f (with_thread s t (with_counter (thread_at s t) n))
counter-kept f s t n kept = thread-kept f s t (with_counter (thread_at s t) n) refl (fine-at f s t kept) kept

print-kept : (f : Frame) (s : State) (text : List ℕ) → Kept f s → Kept f (print_effect text s).state
print-kept f s [] kept = kept
print-kept f s (byte ∷ bytes) kept = kept

-- no jump goes further than to the implied exit
target-few : (script : List Stmt) (k : ℕ) → target script k ≤ length script + 2
target-few script k = omega arith

plain-kept : (f : Frame) (script : List Stmt) (s : State) (t : ℕ) (stmt : Stmt) → length script ≡ length (script_of f.board (thread_at s t).name) → Kept f s → Kept f (plain_effect script t stmt s).state
plain-kept f script s t (Stmt.Print text) same kept = print-kept f s text kept
plain-kept f script s t (Stmt.Say what) same kept = print-kept f s (said_text what (thread_at s t)) kept
plain-kept f script s t (Stmt.Goto k) same kept = next-kept f s t (target script k) (omega (arith, target-few script k, same)) kept
plain-kept f script s t (Stmt.IfCode code k) same kept = if-state f (eqb (code_number (thread_at s t).code) (code_number code)) (with_next s t (target script k)) s (next-kept f s t (target script k) (omega (arith, target-few script k, same)) kept) kept
plain-kept f script s t (Stmt.Count n) same kept = counter-kept f s t n kept
plain-kept f script s t (Stmt.Next k) same kept =
    let lowered : State = with_thread s t (with_counter (thread_at s t) ((thread_at s t).counter - 1)) in
    let low : Kept f lowered = counter-kept f s t ((thread_at s t).counter - 1) kept in
    if-state f (eqb ((thread_at s t).counter - 1) 0) lowered (with_next lowered t (target script k)) low (next-kept f lowered t (target script k) (omega (arith, target-few script k, same, ap (λ (name : List ℕ). length (script_of f.board name)) (same-set (λ (r : Thread). r.name) s.threads t t (with_counter (thread_at s t) ((thread_at s t).counter - 1)) no_thread refl))) low)
plain-kept f script s t Stmt.Exit same kept = close-kept f s t kept
plain-kept f script s t (Stmt.Do call) same kept = kept

answer-kept : (f : Frame) (s : State) (t : ℕ) (answer : Answer) → Kept f s → Kept f (with_answer t answer s)
answer-kept f s t (Answers code) kept = thread-kept f s t (record (thread_at s t) { code = code }) refl (fine-at f s t kept) kept
answer-kept f s t Waits kept = kept

called-kept : (f : Frame) (t : ℕ) (line : Option Code → Line) (outcome : Outcome) → KeptOutcome f outcome → Kept f (call_effect t line outcome).state
called-kept f t line outcome kept = answer-kept f outcome.effect.state t outcome.answer kept

done-kept : (f : Frame) (s : State) (t core : ℕ) (name : List ℕ) (k : ℕ) (stmt : Stmt) → length (script_of f.board name) ≡ length (script_of f.board (thread_at s t).name) → is_timed stmt ≡ true → IsBy f s (ByThread t core) → Kept f s → Kept f (done_effect f.board t core name k stmt s).state
done-kept f s t core name k (Stmt.Do call) same timed by kept = called-kept f t (Line.Done name k) (outcome_of f.board call s (ByThread t core) First) (outcome-kept f f.board s call (ByThread t core) First timed by tt kept)
done-kept f s t core name k (Stmt.Print text) same timed by kept = plain-kept f (script_of f.board name) s t (Stmt.Print text) same kept
done-kept f s t core name k (Stmt.Say what) same timed by kept = plain-kept f (script_of f.board name) s t (Stmt.Say what) same kept
done-kept f s t core name k (Stmt.Goto n) same timed by kept = plain-kept f (script_of f.board name) s t (Stmt.Goto n) same kept
done-kept f s t core name k (Stmt.IfCode code n) same timed by kept = plain-kept f (script_of f.board name) s t (Stmt.IfCode code n) same kept
done-kept f s t core name k (Stmt.Count n) same timed by kept = plain-kept f (script_of f.board name) s t (Stmt.Count n) same kept
done-kept f s t core name k (Stmt.Next n) same timed by kept = plain-kept f (script_of f.board name) s t (Stmt.Next n) same kept
done-kept f s t core name k Stmt.Exit same timed by kept = plain-kept f (script_of f.board name) s t Stmt.Exit same kept

-- the statements of a timed board are timed
script-timed : (b : PlainBoard) (name : List ℕ) → IsProper b → list_all is_timed (script_of b name) ≡ true
script-timed b name timed = by_found (find (λ (def : ThreadDef). bytes_eq def.name name) b.threads) refl where
  by_found : (o : Option ThreadDef) → find (λ (def : ThreadDef). bytes_eq def.name name) b.threads ≡ o → list_all is_timed (unwrap_or (option_map (λ (def : ThreadDef). def.script) o) []) ≡ true
  by_found None is = refl
  by_found (Some def) is = all-found (λ (d : ThreadDef). list_all is_timed d.script ≡ true) (λ (d : ThreadDef). bytes_eq d.name name) b.threads def is (recursion_from_All (λ (d : ThreadDef). list_all is_timed d.script ≡ true) b.threads timed.scripts)

statement-timed : (script : List Stmt) (i : ℕ) → list_all is_timed script ≡ true → is_timed (unwrap_or (slice_get script i) Stmt.Exit) ≡ true
statement-timed [] i all = refl
statement-timed (stmt ∷ script) zero all = and-left (is_timed stmt) (list_all is_timed script) all
statement-timed (stmt ∷ script) (suc i) all = statement-timed script i (and-right (is_timed stmt) (list_all is_timed script) all)

-- past the last statement stands `exit`
past-exit : (script : List Stmt) (i : ℕ) → length script ≤ i → unwrap_or (slice_get script i) Stmt.Exit ≡ Stmt.Exit
past-exit [] i past = refl
past-exit (stmt ∷ script) zero past = absurd (omega (arith, past))
past-exit (stmt ∷ script) (suc i) past = past-exit script i (omega (arith, past))

set-twice : {X : Type 0} (xs : List X) (i : ℕ) (x y : X) → slice_set (slice_set xs i x) i y ≡ slice_set xs i y
set-twice [] i x y = refl
set-twice (z ∷ zs) zero x y = refl
set-twice {X = X} (z ∷ zs) (suc i) x y = ap (λ (ws : List X). z ∷ ws) (set-twice zs i x y)

-- a thread that ends, whatever its next statement would be
ended-kept : (f : Frame) (s : State) (t k : ℕ) → Kept f s → Kept f (close_effect t (with_next s t k)).state
ended-kept f s t k kept = each-kept f give_back_effect (λ mutex u held. give_back-kept f u mutex held) (mutexes_of (with_next s t k) t) (withdrawn_state (with_next s t k) t) gone where
  first : Thread
  first = record (thread_at s t) { stage = Closed; retry = None }

  last : Thread
  last = record (thread_at (with_next s t k) t) { stage = Closed; retry = None }

  closed_at : (length s.threads ≤ t) ⊎ (t < length s.threads) → Closed ≡ (thread_at (withdrawn_state s t) t).stage
  closed_at (inl past) = sym (ap (λ (r : Thread). r.stage) (past-end (slice_set s.threads t first) t no_thread (omega (arith, past, length-set_at s.threads t first))))
  closed_at (inr there) = sym (ap (λ (r : Thread). r.stage) (here-set s.threads t first no_thread there))

  closed : Closed ≡ (thread_at (withdrawn_state s t) t).stage
  closed = closed_at (le_or_lt (length s.threads) t)

  twice : Kept f (with_thread (withdrawn_state s t) t last)
  twice = thread-kept f (withdrawn_state s t) t last closed (refl, tt, λ is. absurd cc) (withdrawn-kept f s t kept)

  same : slice_set (slice_set s.threads t first) t last ≡ slice_set (slice_set s.threads t (record (thread_at s t) { next = k })) t last
  same = set-twice s.threads t first last ∙ sym (set-twice s.threads t (record (thread_at s t) { next = k }) last)

  gone : Kept f (withdrawn_state (with_next s t k) t)
  gone = subst (λ (threads : List Thread). Kept f (record (withdrawn_state s t) { threads = threads })) same twice

next_statement-kept : (f : Frame) (s : State) (t core : ℕ) → IsProper f.board → IsBy f s (ByThread t core) → Kept f s → Kept f (next_statement_effect f.board t core s).state
next_statement-kept f s t core proper by kept = by_place (le_or_lt row.next (length script + 1)) where
  row : Thread
  row = thread_at s t

  script : List Stmt
  script = script_of f.board row.name

  past : length script < row.next → statement_at script row.next ≡ Stmt.Exit
  past lt = past-exit script (row.next - 1) (omega (arith, lt))

  by_place : (row.next ≤ length script + 1) ⊎ (length script + 1 < row.next) → Kept f (next_statement_effect f.board t core s).state
  by_place (inl few) = done-kept f (with_next s t (row.next + 1)) t core row.name row.next (statement_at script row.next)
      (ap (λ (name : List ℕ). length (script_of f.board name)) (sym (same-set (λ (r : Thread). r.name) s.threads t t (record row { next = row.next + 1 }) no_thread refl)))
      (statement-timed script (row.next - 1) (script-timed f.board row.name proper)) by (next-kept f s t (row.next + 1) (omega (arith, few)) kept)
  by_place (inr far) = subst (λ (stmt : Stmt). Kept f (done_effect f.board t core row.name row.next stmt (with_next s t (row.next + 1))).state) (sym (past (omega (arith, far)))) (ended-kept f s t (row.next + 1) kept)

unretried-kept : (f : Frame) (s : State) (t : ℕ) → Kept f s → Kept f (with_thread s t (record (thread_at s t) { retry = None }))
unretried-kept f s t kept = thread-kept f s t (record (thread_at s t) { retry = None }) refl ((fine-at f s t kept).0, tt, (fine-at f s t kept).2) kept

repeated-kept : (f : Frame) (s : State) (t core : ℕ) (retry : Retry) (what : Awaited) → is_fine_awaited what ≡ true → IsNear f.now retry.due → IsBy f s (ByThread t core) → Kept f s → Kept f (repeated_call_effect f.board t core retry what s).state
repeated-kept f s t core retry AtConsole fine near by kept = kept
repeated-kept f s t core retry AtWorks fine near by kept = kept
repeated-kept f s t core retry (InCall call) fine near by kept =
    let free : State = with_thread s t (record (thread_at s t) { retry = None }) in
    called-kept f t (Line.Again (thread_at s t).name ((thread_at s t).next - 1)) (outcome_of f.board call free (ByThread t core) (Again retry.due)) (outcome-kept f f.board free call (ByThread t core) (Again retry.due) (and-right (is_waiting_call call) (is_timed_call call) fine) by near (unretried-kept f s t kept))

script-kept : (f : Frame) (s : State) (t core : ℕ) (retry : Option Retry) → IsFineRetry f.now retry → IsProper f.board → IsBy f s (ByThread t core) → Kept f s → Kept f (script_effect f.board t core retry s).state
script-kept f s t core None fine timed by kept = next_statement-kept f s t core timed by kept
script-kept f s t core (Some retry) fine timed by kept = repeated-kept f s t core retry retry.what fine.0 fine.1 by kept

-- the shell
received-kept : (f : Frame) (o : Option Device) (rx : List ℕ) (s : State) → Kept f s → Kept f (with_received o rx s)
received-kept f None rx s kept = kept
received-kept f (Some device) rx s kept = kept

reading-kept : (f : Frame) (b : PlainBoard) (bytes : List ℕ) (s : State) → Kept f s → Kept f (reading_effect b bytes s).state
reading-kept f b bytes s kept = by_newline (list_any is_newline bytes) where
  line : Effect
  line = line_read_effect b (longer_line s.shell_line (before_first is_newline bytes)) (after_first is_newline bytes) s

  more : Effect
  more = record { state = record (with_console_bytes [] s) { shell_line = longer_line s.shell_line bytes }; lines = [] }

  by_newline : (c : Bool) → Kept f (if c then line else more).state
  by_newline true = received-kept f (find_device s console_name) (after_first is_newline bytes) s kept
  by_newline false = received-kept f (find_device s console_name) [] s kept

scriptless-off : (f : Frame) (s : State) (t : ℕ) → is_scriptless f.board t ≡ true → Kept f s → IsOffNest (parts s) t
scriptless-off f s t other kept n is runs = clash (is_scriptless f.board t) other (subst (λ r. is_scriptless f.board r ≡ false) (some-is (kept.nest_runs n is).0 t (sym (kept.nest_runs n is).1 ∙ runs)) (kept.nest_runs n is).2)

turned-kept : (f : Frame) (s : State) (t core : ℕ) (bytes : List ℕ) → running_on s core ≡ Some t → is_shell f.board t ≡ true → Kept f s → Kept f (turn_effect f.board t bytes s).state
turned-kept f s t core [] runs shell kept = let free : State = with_thread s t (record (thread_at s t) { retry = None }) in waiting-kept f free t core AtConsole None runs (scriptless-off f free t (or-first (is_shell f.board t) _ shell) (unretried-kept f s t kept)) refl (λ d is. absurd cc) (unretried-kept f s t kept)
turned-kept f s t core (byte ∷ bytes) runs shell kept = reading-kept f f.board (byte ∷ bytes) (with_thread s t (record (thread_at s t) { retry = None })) (unretried-kept f s t kept)

pub if-effect : (f : Frame) (c : Bool) (x y : Effect) → (c ≡ true → Kept f x.state) → (c ≡ false → Kept f y.state) → Kept f (if c then x else y).state
if-effect f true x y one other = one refl
if-effect f false x y one other = other refl

shell-kept : (f : Frame) (s : State) (t core : ℕ) → running_on s core ≡ Some t → is_shell f.board t ≡ true → Kept f s → Kept f (shell_effect f.board t s).state
shell-kept f s t core runs shell kept = if-effect f (eqb (thread_at s t).next 1) (prompt_effect t s) (turn_effect f.board t (console_bytes s) s)
    (λ first. thread-kept f s t (record (thread_at s t) { next = 2 }) refl ((fine-at f s t kept).0, (fine-at f s t kept).1, λ is. omega arith) kept) (λ later. turned-kept f s t core (console_bytes s) runs shell kept)

-- the thread of soft timers
worked-kept : (f : Frame) (s : State) (name : List ℕ) (o : Option Timer) → find_timer s name ≡ o → tally (is_work_of (OfTimer name)) s.works ≡ 0 → Kept f s → Kept f (work_effect f.board o s).state
worked-kept f s name None is idle kept = kept
worked-kept f s name (Some timer) is idle kept = action-kept f s (Line.Work timer.name) timer (found-timer f s name timer is kept) (found-owner s name timer is) (subst (λ (n : List ℕ). tally (is_work_of (OfTimer n)) s.works ≡ 0) (sym (found-name s name timer is)) idle) kept

standings-before : (f : Frame) (s : State) (name : List ℕ) (names : List (List ℕ)) → s.works ≡ name ∷ names → (alarm : Alarm) → Kept f s → standings alarm (name ∷ names) s.armed ≤ 1
standings-before f s name names is alarm kept = subst (λ (works : List (List ℕ)). standings alarm works s.armed ≤ 1) is (kept.single alarm)

-- the first of the works is taken out, and its timer is no work any more
pub left-kept : (f : Frame) (s : State) (t : ℕ) (name : List ℕ) (names : List (List ℕ)) → s.works ≡ name ∷ names → Kept f s → Kept f (record (with_thread s t (record (thread_at s t) { retry = None })) { works = names })
left-kept f s t name names is kept = works-kept f (with_thread s t (record (thread_at s t) { retry = None })) names fewer known (unretried-kept f s t kept) where
  fewer : (alarm : Alarm) → standings alarm names s.armed ≤ 1
  fewer alarm = omega (arith, standings-before f s name names is alarm kept)

  known : AllByRecursion (IsKnownWork s.timers) names
  known = (subst (AllByRecursion (IsKnownWork s.timers)) is kept.works_known).1

softly-kept : (f : Frame) (s : State) (t core : ℕ) (works : List (List ℕ)) → s.works ≡ works → running_on s core ≡ Some t → is_soft_thread f.board t ≡ true → Kept f s → Kept f (soft_turn_effect f.board t works s).state
softly-kept f s t core [] is runs soft kept = let free : State = with_thread s t (record (thread_at s t) { retry = None }) in waiting-kept f free t core AtWorks None runs (scriptless-off f free t (or-second (is_shell f.board t) _ soft) (unretried-kept f s t kept)) refl (λ d is. absurd cc) (unretried-kept f s t kept)
softly-kept f s t core (name ∷ names) is runs soft kept = worked-kept f left name (find_timer left name) refl idle (left-kept f s t name names is kept) where
  left : State
  left = record (with_thread s t (record (thread_at s t) { retry = None })) { works = names }

  idle : tally (is_work_of (OfTimer name)) names ≡ 0
  idle = omega (arith, standings-before f s name names is (OfTimer name) kept, ap one_if ((bytes_eq-Decides name name).1 refl))

-- what follows from an action
pub settled-kept : (f : Frame) (before : State) (e : Effect) → Kept f e.state → Kept f (settled_effect f.board before e).state
settled-kept f before e kept = reordered-kept f before e.state kept

pub statement-kept : (f : Frame) (s : State) (t core : ℕ) → IsProper f.board → running_on s core ≡ Some t → Kept f s → Kept f (statement_effect f.board t core s).state
statement-kept f s t core timed runs kept = settled-kept f s (thread_effect f.board t core s) (if-effect f (is_shell f.board t) (shell_effect f.board t s) _ (λ shell. shell-kept f s t core runs shell kept)
    (λ unshell. if-effect f (is_soft_thread f.board t) (soft_effect f.board t s) _ (λ soft. softly-kept f s t core s.works refl runs soft kept) (λ hard. script-kept f s t core (thread_at s t).retry (fine-at f s t kept).1 timed (runs, both unshell hard) kept))) where
      both : is_shell f.board t ≡ false → is_soft_thread f.board t ≡ false → is_scriptless f.board t ≡ false
      both unshell hard = rw unshell hard
