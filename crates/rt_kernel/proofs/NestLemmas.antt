-- The calls on the lock over all cores.
use Rattle.std.proofs.Common.{◌≡◌, ℕ, ◌+◌, ◌-◌, [], Option, Some, None, Bool, true, false, arith, refl, sym, ap, ◌∙◌, length}
use Rattle.std.specs.Prelude.{if◌then◌else◌, ◌==◌}
use Rattle.std.proofs.lemmas.List.{append-nil}
use Rattle.rt_base.specs.declared.codes.Code.{Code}
use Rattle.rt_base.specs.Roomy.{Roomy}
use Rattle.rt_plain.specs.declared.line.Line.{Line}
use Rattle.rt_plain.specs.kernel.State.{State, Nest, is_nest_of}
use Rattle.rt_plain.specs.kernel.Outcome.{Answers, Outcome, refusal, silent_success}
use Rattle.rt_plain.specs.kernel.ThreadCalls.{lock, lock_outcome, unlock, unlock_outcome, nest_at}
use Rattle.kernel_cores.specs.Nests.{entered, entry_code, left_by}
use Rattle.kernel_cores.specs.PlainCores.{PlainCores}
use Rattle.rt_kernel.specs.declared.answer.Answer.{Answer}
use Rattle.rt_kernel.specs.declared.caller.Caller.{Caller}
use Rattle.rt_kernel.specs.declared.state.State.{State as KernelState}
use Rattle.rt_kernel.specs.Caller.{plain_by}
use Rattle.rt_kernel.specs.Does.{Does}
use Rattle.rt_kernel.specs.Limits.{limits_of}
use Rattle.rt_kernel.specs.View.{state_of}
use Rattle.rt_kernel.proofs.DoesLemmas.{does_by}

-- another holder of the lock, and what the call answers
abbrev with_nest : State → Option Nest → Code → Outcome
with_nest s nest code = record { effect = record { state = record s { nest = nest }; lines = [] }; answer = Answers code }

lock-by : (s : State) (core : ℕ) (nest : Option Nest) → s.nest ≡ nest → lock_outcome core nest s ≡ with_nest s (entered core nest) (entry_code nest)
lock-by s core None is = refl
lock-by s core (Some n) is = by_test (n.depth == 255) where
  deeper : Option Nest
  deeper = Some (record { core = n.core; depth = n.depth + 1 })

  by_test : (c : Bool) → (if c then refusal s Code.Full else silent_success (record s { nest = deeper })) ≡ with_nest s (if c then Some n else deeper) (if c then Code.Full else Code.Ok)
  by_test true = ap (λ (nest : Option Nest). with_nest s nest Code.Full) is
  by_test false = refl

unlock-by : (s : State) (core : ℕ) (nest : Option Nest) → s.nest ≡ nest → unlock_outcome core nest s ≡ with_nest s (left_by core nest) (if is_nest_of core nest then Code.Ok else Code.Error)
unlock-by s core None is = ap (λ (nest : Option Nest). with_nest s nest Code.Error) is
unlock-by s core (Some n) is = by_test (n.core == core) where
  by_test : (c : Bool) → (if c then silent_success (record s { nest = nest_at core (n.depth - 1) }) else refusal s Code.Error) ≡ with_nest s (if c then nest_at core (n.depth - 1) else Some n) (if c then Code.Ok else Code.Error)
  by_test true = refl
  by_test false = ap (λ (nest : Option Nest). with_nest s nest Code.Error) is

-- the cores with another holder of the lock
abbrev on : KernelState → Option Nest → KernelState
on k nest = record k { cores = record (k.cores) { nest = nest } }

-- such a call, as the cores do it
nested : (k new : KernelState) (out : Roomy Line) (nest : Option Nest) (code is : Code) → code ≡ is → new ≡ on k nest → Does k new out out (Answer.Code code) 0 (with_nest (state_of k) nest is)
nested k new out nest code is answers new_is = record {
  state = ap state_of new_is;
  lines = sym (append-nil out.items);
  answer = ap (λ (c : Code). Answers c) answers;
  limits = ap (λ (m : KernelState). limits_of m.tables) new_is;
  threads = ap (λ (m : KernelState). length m.tables.threads) new_is;
  numbers = omega (arith, ap (λ (m : KernelState). m.numbers) new_is);
  few = omega arith;
  out_room = refl;
}

pub locks : (k : KernelState) (cores : PlainCores) (out : Roomy Line) (by : Caller) (t core : ℕ) (code : Code) → by ≡ Caller.Thread t core → code ≡ entry_code k.cores.nest → cores ≡ record (k.cores) { nest = entered core k.cores.nest }
    → Does k (record k { cores = cores }) out out (Answer.Code code) 0 (lock (state_of k) (plain_by (state_of k) by))
locks k cores out by t core code is answers cores_is =
    does_by (ap (λ (b : Caller). lock (state_of k) (plain_by (state_of k) b)) is ∙ lock-by (state_of k) core k.cores.nest refl)
    (nested k (record k { cores = cores }) out (entered core k.cores.nest) code (entry_code k.cores.nest) answers (ap (λ (c : PlainCores). record k { cores = c }) cores_is))

pub unlocks : (k : KernelState) (cores : PlainCores) (out : Roomy Line) (by : Caller) (t core : ℕ) (code : Code) → by ≡ Caller.Thread t core → code ≡ (if is_nest_of core k.cores.nest then Code.Ok else Code.Error) → cores ≡ record (k.cores) { nest = left_by core k.cores.nest }
    → Does k (record k { cores = cores }) out out (Answer.Code code) 0 (unlock (state_of k) (plain_by (state_of k) by))
unlocks k cores out by t core code is answers cores_is =
    does_by (ap (λ (b : Caller). unlock (state_of k) (plain_by (state_of k) b)) is ∙ unlock-by (state_of k) core k.cores.nest refl)
    (nested k (record k { cores = cores }) out (left_by core k.cores.nest) code (if is_nest_of core k.cores.nest then Code.Ok else Code.Error) answers (ap (λ (c : PlainCores). record k { cores = c }) cores_is))
