-- Who is not active.
use Rattle.std.proofs.Common.{◌≡◌, ◌<◌, ℕ, List, None, Bool, true, false, arith, length, refl, sym, ap, ◌∙◌, slice_set}
use Rattle.rt_plain.specs.kernel.State.{Thread, Stage, Initial, Active, Suspended, Waiting, no_thread, is_among, is_closed, is_initial, is_suspended}
use Rattle.rt_plain.specs.kernel.Priority.{awaited_mutex}
use Rattle.rt_plain.specs.kernel.Sound.{is_active, is_waiting}
use Rattle.rt_plain.proofs.kernel.TallyLemmas.{length-set_at, same-set}
use Rattle.kernel_tables.specs.Threads.{row_at, with_row}
use Rattle.mutex_tables.specs.MutexTabled.{MutexTabled}
use Rattle.mutex_tables.specs.Mutexes.{AreOut}
use Rattle.rt_kernel.specs.Caller.{IsOnCore}
use Rattle.rt_kernel.specs.Mutexes.{AreActive}

pub initial_idle : (stage : Stage) → is_initial stage ≡ true → is_active stage ≡ false
initial_idle Initial is = refl
initial_idle _ is = absurd cc

pub initial_open : (stage : Stage) → is_initial stage ≡ true → is_closed stage ≡ false
initial_open Initial is = refl
initial_open _ is = absurd cc

pub initial_apart : (stage : Stage) → is_initial stage ≡ true → awaited_mutex stage ≡ None
initial_apart Initial is = refl
initial_apart _ is = absurd cc

pub active_apart : (stage : Stage) → is_active stage ≡ true → awaited_mutex stage ≡ None
active_apart Active is = refl
active_apart _ is = absurd cc

pub suspended_open : (stage : Stage) → is_suspended stage ≡ true → is_closed stage ≡ false
suspended_open Suspended is = refl
suspended_open _ is = absurd cc

pub suspended_apart : (stage : Stage) → is_suspended stage ≡ true → awaited_mutex stage ≡ None
suspended_apart Suspended is = refl
suspended_apart _ is = absurd cc

pub suspended_idle : (stage : Stage) → is_suspended stage ≡ true → is_active stage ≡ false
suspended_idle Suspended is = refl
suspended_idle _ is = absurd cc

pub waiting_idle : (stage : Stage) → is_waiting stage ≡ true → is_active stage ≡ false
waiting_idle (Waiting what number) is = refl
waiting_idle _ is = absurd cc

-- a change of a thread that keeps its stage
pub stage-same : (threads : List Thread) (t : ℕ) (row : Thread) → row.stage ≡ (row_at threads t).stage → is_active (row_at (with_row threads t (λ _. row)) t).stage ≡ is_active (row_at threads t).stage
stage-same threads t row same = ap is_active (same-set (λ (x : Thread). x.stage) threads t t row no_thread same)

-- and of any thread
pub active-same : (threads : List Thread) (t u : ℕ) (row : Thread) → row.stage ≡ (row_at threads t).stage → is_active (row_at (slice_set threads t row) u).stage ≡ is_active (row_at threads u).stage
active-same threads t u row same = ap is_active (same-set (λ (x : Thread). x.stage) threads t u row no_thread same)

-- so those that are ready stay active, and who stands on a core stays there
pub active-kept : (old new : MutexTabled) (t : ℕ) (row : Thread) → row.stage ≡ (row_at old.threads t).stage → new ≡ record old { threads = slice_set old.threads t row } → AreActive old → AreActive new
active-kept old new t row same is active u among = ap (λ (k : MutexTabled). is_active (row_at k.threads u).stage) is ∙ active-same old.threads t u row same ∙ active u (ap (λ (k : MutexTabled). is_among k.ready u) (sym is) ∙ among)

pub on-kept : (old new : MutexTabled) (t r : ℕ) (row : Thread) → row.stage ≡ (row_at old.threads t).stage → new ≡ record old { threads = slice_set old.threads t row } → IsOnCore old r → IsOnCore new r
on-kept old new t r row same is on = record {
  there = omega (arith, on.there, ap (λ (k : MutexTabled). length k.threads) is, length-set_at old.threads t row);
  active = ap (λ (k : MutexTabled). is_active (row_at k.threads r).stage) is ∙ active-same old.threads t r row same ∙ on.active;
  unready = ap (λ (k : MutexTabled). is_among k.ready r) is ∙ on.unready;
}

-- what is said of the stage of a thread stays where no stage is changed
pub any-same : {A : Type 0} (f : Stage → A) (threads : List Thread) (t u : ℕ) (row : Thread) → row.stage ≡ (row_at threads t).stage → f (row_at (slice_set threads t row) u).stage ≡ f (row_at threads u).stage
any-same f threads t u row same = ap f (same-set (λ (x : Thread). x.stage) threads t u row no_thread same)

-- where ready threads are active, those that wait for a mutex aren't ready
pub actives-out : (k : MutexTabled) → AreActive k → AreOut k
actives-out k active u awaits = by_test (is_among k.ready u) refl where
  by_test : (c : Bool) → is_among k.ready u ≡ c → c ≡ false
  by_test true is = absurd (awaits (active_apart (row_at k.threads u).stage (active u is)))
  by_test false is = refl
