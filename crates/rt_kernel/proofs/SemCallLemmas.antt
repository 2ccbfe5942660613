-- What the calls on semaphores do, by what the tables do.
use Rattle.std.proofs.Common.{◌≡◌, ◌++◌, ℕ, ◌+◌, ◌<◌, List, Option, Some, None, Bool, true, false, refl, sym, ap, ◌∙◌, subst, length, filter, not, is_some, nat_lt, ◌==◌, T, eqb→eq, if◌then◌else◌}
use Rattle.std.specs.List.{AllByRecursion}
use Rattle.std.specs.Option.{option_map}
use Rattle.std.specs.Str.{bytes_eq}
use Rattle.rt_base.specs.declared.codes.Code.{Code}
use Rattle.rt_plain.specs.declared.stmt.Call.{Call}
use Rattle.rt_plain.specs.kernel.State.{State, Sem}
use Rattle.rt_plain.specs.kernel.Effects.{each_effect}
use Rattle.rt_plain.specs.kernel.Waiting.{waiters, first_waiter, takes_sem}
use Rattle.rt_plain.specs.kernel.Outcome.{By, First, Outcome, refusal, success, silent_success, found_outcome, wait_or_refusal}
use Rattle.rt_plain.specs.kernel.SemCalls.{with_sem, sem_take, sem_take_outcome, sem_release, sem_release_outcome}
use Rattle.rt_plain.specs.kernel.DeleteCall.{deletion_outcome, sem_deletion}
use Rattle.rt_plain.proofs.text.FieldLemmas.{is_word}
use Rattle.rt_plain.proofs.text.StatementTableLemmas.{find_some}
use Rattle.ipc_counts.specs.declared.sem.SemReleased.TheVariants.{Woke, Raised, Full}
use Rattle.rt_kernel.specs.declared.state.State.{State as KernelState}
use Rattle.kernel_tables.specs.Tabled.{found_sem, sems_taken, woken_row, all_woken}
use Rattle.mutex_tables.specs.Woken.{Releases}
use Rattle.mutex_tables.specs.MutexTabled.{MutexTabled}
use Rattle.kernel_tables.specs.Threads.{row_at}
use Rattle.rt_kernel.specs.View.{state_of}
use Rattle.rt_kernel.specs.Wake.{follow_effect}
use Rattle.rt_kernel.proofs.WakeLemmas.{on, row_names, wake-follows, wakes-follow, line-there}

-- what is found by a name has it
pub found-name : (sems : List Sem) (name : List ℕ) (sem : Sem) → found_sem sems name ≡ Some sem → sem.name ≡ name
found-name sems name sem is = is_word sem.name name (find_some (λ (o : Sem). bytes_eq o.name name) sems sem is)

some-value : (c : Bool) → Some c ≡ Some false → c ≡ false
some-value c e = cc

-- a take of a semaphore of value 0 leaves it
pub none-taken : (sems : List Sem) (o : Option Sem) → option_map (λ (sem : Sem). nat_lt 0 sem.value) o ≡ Some false → sems_taken sems o ≡ sems
none-taken sems None e = absurd cc
none-taken sems (Some sem) e = rw (some-value (nat_lt 0 sem.value) e) refl

-- and waits
pub takes_later : (s : State) (name copy : List ℕ) (timeout : Option ℕ) (by : By) → copy ≡ name → option_map (λ (sem : Sem). nat_lt 0 sem.value) (found_sem s.sems name) ≡ Some false
    → wait_or_refusal s by First (Call.SemTake copy timeout) timeout Code.Timeout ≡ sem_take name timeout s by
takes_later s name copy timeout by same e = ap (λ (n : List ℕ). wait_or_refusal s by First (Call.SemTake n timeout) timeout Code.Timeout) same ∙ sym (by_found (found_sem s.sems name) refl e) where
  by_found : (o : Option Sem) → found_sem s.sems name ≡ o → option_map (λ (sem : Sem). nat_lt 0 sem.value) o ≡ Some false
      → found_outcome o (refusal s Code.Inval) (λ sem. sem_take_outcome sem timeout s by) ≡ wait_or_refusal s by First (Call.SemTake name timeout) timeout Code.Timeout
  by_found None is e = absurd cc
  by_found (Some sem) is e = rw (some-value (nat_lt 0 sem.value) e) (ap (λ (n : List ℕ). wait_or_refusal s by First (Call.SemTake n timeout) timeout Code.Timeout) (found-name s.sems name sem is))

-- what a deletion does, and that those who wake are there
pub sem-deletes : (s : State) (name : List ℕ) (woken : List ℕ) → true ≡ is_some (found_sem s.sems name) → ((sem : Sem) → found_sem s.sems name ≡ Some sem → woken ≡ waiters s sem.order (takes_sem sem.name))
    → (sem_deletion name s ≡ success (each_effect (follow_effect Code.Error) woken (record s { threads = all_woken Code.Error s.threads woken; ready = s.ready ++ woken; sems = filter (λ o. not (bytes_eq o.name name)) s.sems }))) × AllByRecursion (λ t. t < length s.threads) woken
sem-deletes s name woken there are = by_found (found_sem s.sems name) refl there where
  left : State
  left = record s { sems = filter (λ o. not (bytes_eq o.name name)) s.sems }

  by_found : (o : Option Sem) → found_sem s.sems name ≡ o → true ≡ is_some o
      → (found_outcome o (refusal s Code.Inval) (λ sem. deletion_outcome left (waiters s sem.order (takes_sem name))) ≡ success (each_effect (follow_effect Code.Error) woken (record left { threads = all_woken Code.Error s.threads woken; ready = s.ready ++ woken }))) × AllByRecursion (λ t. t < length s.threads) woken
  by_found None is some = absurd cc
  by_found (Some sem) is some = (ap (deletion_outcome left) listed ∙ ap success (wakes-follow Code.Error woken left), subst (AllByRecursion (λ t. t < length s.threads)) (sym (are sem is)) (line-there s sem.order (takes_sem sem.name))) where
    listed : waiters s sem.order (takes_sem name) ≡ woken
    listed = ap (λ (n : List ℕ). waiters s sem.order (takes_sem n)) (sym (found-name s.sems name sem is)) ∙ sym (are sem is)

-- what a release does, by the first of those who wait
release-head : (s : State) (name : List ℕ) (sem : Sem) → found_sem s.sems name ≡ Some sem → sem_release name s ≡ sem_release_outcome sem (first_waiter s sem.order (takes_sem sem.name)) s
release-head s name sem is =
    ap (λ (o : Option Sem). found_outcome o (refusal s Code.Inval) (λ (x : Sem). sem_release_outcome x (first_waiter s x.order (takes_sem name)) s)) is
    ∙ ap (λ (n : List ℕ). sem_release_outcome sem (first_waiter s sem.order (takes_sem n)) s) (sym (found-name s.sems name sem is))

-- the call does nothing at the highest value
pub release-full : (r : KernelState) (new : MutexTabled) (name : List ℕ) → Releases r.tables new name (Some Full) → (new ≡ r.tables) × (sem_release name (state_of r) ≡ refusal (state_of r) Code.Full)
release-full r new name (sem, (is, (none, (high, same)))) = (same, release-head (state_of r) name sem is ∙ ap (λ (o : Option ℕ). sem_release_outcome sem o (state_of r)) none ∙ rw high refl)

-- the value is one more where nobody waits
pub release-raised : (r : KernelState) (new : MutexTabled) (name : List ℕ) → Releases r.tables new name (Some Raised) → (new.threads ≡ r.tables.threads) × (sem_release name (state_of r) ≡ silent_success (on r new))
release-raised r new name (sem, (is, (none, (low, same)))) = (
  ap (λ (k : MutexTabled). k.threads) same,
  release-head (state_of r) name sem is ∙ ap (λ (o : Option ℕ). sem_release_outcome sem o (state_of r)) none ∙ by_test (sem.value == 65535) refl ∙ ap (λ (k : MutexTabled). silent_success (on r k)) (sym same),
) where
  raised : Outcome
  raised = silent_success (with_sem (state_of r) (record sem { value = sem.value + 1 }))

  by_test : (c : Bool) → (sem.value == 65535) ≡ c → (if c then refusal (state_of r) Code.Full else raised) ≡ raised
  by_test true is = absurd (low (eqb→eq sem.value 65535 (subst T (sym is) tt)))
  by_test false is = refl

-- the first waiter wakes
pub release-woke : (r : KernelState) (new : MutexTabled) (name : List ℕ) (u : ℕ) → Releases r.tables new name (Some (Woke u)) → ((v : ℕ) → (row_at new.threads v).name ≡ (row_at r.tables.threads v).name) × (sem_release name (state_of r) ≡ success (follow_effect Code.Ok u (on r new)))
release-woke r new name u (sem, (is, (first, (there, same)))) = (
  λ v. ap (λ (k : MutexTabled). (row_at k.threads v).name) same ∙ row_names r.tables.threads u v (woken_row Code.Ok (row_at r.tables.threads u)) refl,
  release-head (state_of r) name sem is ∙ ap (λ (o : Option ℕ). sem_release_outcome sem o (state_of r)) first ∙ ap success (wake-follows Code.Ok u (state_of r)) ∙ ap (λ (k : MutexTabled). success (follow_effect Code.Ok u (on r k))) (sym same),
)
