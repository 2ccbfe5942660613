-- A statement of a thread is what the code does.
use Rattle.std.proofs.Common.{◌≡◌, ℕ, zero, suc, ◌+◌, ◌&&◌, List, [], ◌∷◌, Option, Some, None, Bool, true, false, refl, sym, ap, ◌∙◌, slice_index_or, eqb, is_some}
use Rattle.std.specs.Prelude.{if◌then◌else◌}
use Rattle.rt_plain.specs.declared.line.Line.{Line}
use Rattle.rt_plain.specs.declared.stmt.Call.{Call}
use Rattle.rt_plain.specs.declared.stmt.Stmt.{Stmt}
use Rattle.rt_plain.specs.PlainBoard.{PlainBoard}
use Rattle.rt_plain.specs.kernel.State.{State, Thread, Awaited, InCall, AtConsole, AtWorks, Retry, no_thread, thread_at}
use Rattle.rt_plain.specs.kernel.Effects.{Effect, no_effect}
use Rattle.rt_plain.specs.kernel.Outcome.{ByThread, First}
use Rattle.rt_plain.specs.kernel.Calls.{outcome_of, settled_effect}
use Rattle.rt_plain.specs.kernel.Statements.{script_of, statement_at, statement_effect, script_effect, is_soft_thread, done_effect, call_effect, repeated_call_effect}
use Rattle.rt_plain.specs.kernel.Shell.{shell_effect}
use Rattle.rt_plain.specs.kernel.SoftTurn.{soft_effect}
use Rattle.rt_plain.proofs.kernel.TallyLemmas.{same-set}
use Rattle.kernel_tables.specs.Repeated.{has_call, is_in_call}
use Rattle.rt_kernel.specs.Again.{again_call}
use Rattle.rt_kernel.specs.NextCall.{begun, next_call}
use Rattle.rt_kernel.specs.Plain.{is_plain, next_plain}
use Rattle.rt_kernel.specs.Mutexes.{HasNoMutex, NobodyWaits}
use Rattle.rt_kernel.proofs.Settled.{settled-kept, settled-nothing}
use Rattle.rt_kernel.proofs.Quiet.{IsQuiet, KeepsNames, apart-kept, quiet-free, quiet-then, quiet-row, quiet-plain}

-- the statement of a thread, by whether it is the shell's or that of soft timers
abbrev by_owner : PlainBoard → ℕ → ℕ → State → Bool → Bool → Option Retry → Effect
by_owner b t core s shell soft retry = settled_effect b s (if shell then shell_effect b t s else if soft then soft_effect b t s else script_effect b t core retry s)

-- a thread without a call to make again, on a board whose threads all have scripts
scripted : (b : PlainBoard) (s : State) (t core : ℕ) (st : Stmt) → b.shell ≡ None → b.soft ≡ None → (thread_at s t).retry ≡ None → statement_at (script_of b (thread_at s t).name) (thread_at s t).next ≡ st
    → statement_effect b t core s ≡ settled_effect b s (done_effect b t core (thread_at s t).name (thread_at s t).next st (begun s t))
scripted b s t core st shell soft retry is =
    ap (λ (o : Option ℕ). by_owner b t core s (is_some o && eqb t 0) (is_soft_thread b t) (thread_at s t).retry) shell
    ∙ ap (λ (o : Option ℕ). by_owner b t core s false (is_some o && eqb t (if is_some b.shell then 1 else 0)) (thread_at s t).retry) soft
    ∙ ap (by_owner b t core s false false) retry
    ∙ ap (λ (x : Stmt). settled_effect b s (done_effect b t core (thread_at s t).name (thread_at s t).next x (begun s t))) is

-- a call
pub call_is : (b : PlainBoard) (s : State) (t core : ℕ) (call : Call) → b.shell ≡ None → b.soft ≡ None → (thread_at s t).retry ≡ None → statement_at (script_of b (thread_at s t).name) (thread_at s t).next ≡ Stmt.Do call → statement_effect b t core s ≡ settled_effect b s (next_call b t core call s).effect
call_is b s t core call shell soft retry is =
    scripted b s t core (Stmt.Do call) shell soft retry is
    ∙ ap (λ (name : List ℕ). settled_effect b s (call_effect t (Line.Done name (thread_at s t).next) (outcome_of b call (begun s t) (ByThread t core) First))) (sym (same-set (λ (row : Thread). row.name) s.threads t t (record (thread_at s t) { next = (thread_at s t).next + 1 }) no_thread refl))

-- a call that is made again
pub again_is : (b : PlainBoard) (s : State) (t core : ℕ) (retry : Retry) (call : Call) → b.shell ≡ None → b.soft ≡ None → (thread_at s t).retry ≡ Some retry → retry.what ≡ InCall call → statement_effect b t core s ≡ settled_effect b s (again_call b t core retry.due call s).effect
again_is b s t core retry call shell soft is what =
    ap (λ (o : Option ℕ). by_owner b t core s (is_some o && eqb t 0) (is_soft_thread b t) (thread_at s t).retry) shell
    ∙ ap (λ (o : Option ℕ). by_owner b t core s false (is_some o && eqb t (if is_some b.shell then 1 else 0)) (thread_at s t).retry) soft
    ∙ ap (by_owner b t core s false false) is
    ∙ ap (λ (x : Awaited). settled_effect b s (repeated_call_effect b t core retry x s)) what

-- a thread with a script that was woken from no call does nothing
pub nothing_is : (b : PlainBoard) (s : State) (t core : ℕ) → b.shell ≡ None → b.soft ≡ None → is_some (thread_at s t).retry ≡ true → has_call (thread_at s t).retry ≡ false → statement_effect b t core s ≡ no_effect s
nothing_is b s t core shell soft some none =
    ap (λ (o : Option ℕ). by_owner b t core s (is_some o && eqb t 0) (is_soft_thread b t) (thread_at s t).retry) shell
    ∙ ap (λ (o : Option ℕ). by_owner b t core s false (is_some o && eqb t (if is_some b.shell then 1 else 0)) (thread_at s t).retry) soft
    ∙ by_retry (thread_at s t).retry some none where
      by_awaited : (retry : Retry) (what : Awaited) → is_in_call what ≡ false → settled_effect b s (repeated_call_effect b t core retry what s) ≡ no_effect s
      by_awaited retry (InCall call) apart = absurd cc
      by_awaited retry AtConsole apart = settled-nothing b s
      by_awaited retry AtWorks apart = settled-nothing b s

      by_retry : (o : Option Retry) → is_some o ≡ true → has_call o ≡ false → by_owner b t core s false false o ≡ no_effect s
      by_retry None some none = absurd cc
      by_retry (Some retry) some none = by_awaited retry retry.what none

-- a statement that is no call
done-plain : (b : PlainBoard) (s : State) (t core : ℕ) (st : Stmt) → is_plain st ≡ true → done_effect b t core (thread_at s t).name (thread_at s t).next st (begun s t) ≡ next_plain (script_of b (thread_at s t).name) t st s
done-plain b s t core (Stmt.Print text) is = refl
done-plain b s t core (Stmt.Say what) is = refl
done-plain b s t core (Stmt.Goto k) is = refl
done-plain b s t core (Stmt.IfCode code k) is = refl
done-plain b s t core (Stmt.Count n) is = refl
done-plain b s t core (Stmt.Next k) is = refl
done-plain b s t core Stmt.Exit is = refl
done-plain b s t core (Stmt.Do call) is = absurd cc

-- it is quiet
quiet-next_plain : (s : State) (script : List Stmt) (t : ℕ) (st : Stmt) → HasNoMutex s → NobodyWaits s → IsQuiet s (next_plain script t st s).state
quiet-next_plain s script t st free nobody =
    let one : IsQuiet s (begun s t) = quiet-row s t (record (thread_at s t) { next = (thread_at s t).next + 1 }) refl refl refl in
    quiet-then s (begun s t) (next_plain script t st s).state one (quiet-plain script (begun s t) t st free (λ u. apart-kept s (begun s t) u one (nobody u)))

pub plain-names : (s : State) (script : List Stmt) (t : ℕ) (st : Stmt) → HasNoMutex s → NobodyWaits s → KeepsNames s (next_plain script t st s).state
plain-names s script t st free nobody = (quiet-next_plain s script t st free nobody).names

pub plain-free : (s : State) (script : List Stmt) (t : ℕ) (st : Stmt) → HasNoMutex s → NobodyWaits s → HasNoMutex (next_plain script t st s).state
plain-free s script t st free nobody = quiet-free s (next_plain script t st s).state free (quiet-next_plain s script t st free nobody)

pub plain_is : (b : PlainBoard) (s : State) (t core : ℕ) (st : Stmt) → HasNoMutex s → NobodyWaits s → b.shell ≡ None → b.soft ≡ None → is_plain st ≡ true → (thread_at s t).retry ≡ None → statement_at (script_of b (thread_at s t).name) (thread_at s t).next ≡ st → statement_effect b t core s ≡ next_plain (script_of b (thread_at s t).name) t st s
plain_is b s t core st free nobody shell soft plain retry is =
    let script : List Stmt = script_of b (thread_at s t).name in
    let effect : Effect = next_plain script t st s in
    let quiet : IsQuiet s effect.state = quiet-next_plain s script t st free nobody in
    scripted b s t core st shell soft retry is ∙ ap (settled_effect b s) (done-plain b s t core st plain) ∙ settled-kept b s effect quiet.graph quiet.votes
