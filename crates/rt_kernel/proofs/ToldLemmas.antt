-- What the tables do to a thread that ends, where there is no mutex.
use Rattle.std.proofs.Common.{◌≡◌, ℕ, not, List, None, refl, sym, ap, ◌∙◌, filter, length, slice_set}
use Rattle.std.specs.Prelude.{◌==◌}
use Rattle.rt_plain.specs.kernel.State.{State, Thread, Closed}
use Rattle.rt_plain.specs.kernel.Effects.{Effect}
use Rattle.rt_plain.specs.kernel.Owners.{close_effect}
use Rattle.rt_plain.specs.kernel.Ownership.{CurChange}
use Rattle.rt_plain.specs.kernel.Priority.{awaited_mutex}
use Rattle.kernel_tables.specs.Threads.{row_at}
use Rattle.mutex_tables.specs.Moved.{moved_behind}
use Rattle.mutex_tables.specs.Mutexes.{followed}
use Rattle.mutex_tables.specs.MutexTabled.{MutexTabled, plain_state}
use Rattle.mutex_tie.specs.Changes.{new_curs}
use Rattle.rt_kernel.specs.Mutexes.{HasNoMutex, NobodyWaits}
use Rattle.rt_kernel.proofs.Settled.{no-curs}
use Rattle.rt_kernel.proofs.CurLemmas.{KeepsGraph, graph-then}
use Rattle.rt_kernel.proofs.Quiet.{IsQuiet, quiet-closed}

-- a thread that ends
pub ended-tables : (k new : MutexTabled) (changes : List CurChange) (t : ℕ) → HasNoMutex (plain_state k) → NobodyWaits (plain_state k) → changes ≡ new_curs (plain_state k) (plain_state new)
    → new ≡ followed k (close_effect t (plain_state k)).state changes
    → new ≡ record k { threads = slice_set k.threads t (record (row_at k.threads t) { stage = Closed; retry = None }); ready = filter (λ u. not (u == t)) k.ready }
ended-tables k new changes t free nobody told is = same ∙ ap (λ (cs : List CurChange). left (moved_behind k.ready cs kept)) (told ∙ no-curs before after graph) where
  before : State
  before = plain_state k

  after : State
  after = plain_state new

  kept : List ℕ
  kept = filter (λ u. not (u == t)) k.ready

  row : Thread
  row = record (row_at k.threads t) { stage = Closed; retry = None }

  left : List ℕ → MutexTabled
  left ready = record k { threads = slice_set k.threads t row; ready = ready }

  closed : IsQuiet before (close_effect t before).state
  closed = (quiet-closed before t free nobody).1

  same : new ≡ left (moved_behind k.ready changes kept)
  same = is ∙ ap (λ (e : Effect). followed k e.state changes) (quiet-closed before t free nobody).0

  threads : after.threads ≡ (close_effect t before).state.threads
  threads = ap (λ (x : MutexTabled). x.threads) is

  graph : KeepsGraph before after
  graph = graph-then before (close_effect t before).state after closed.graph (record {
    holdings = sym (ap (λ (x : MutexTabled). x.holdings) is);
    mutexes = sym (ap (λ (x : MutexTabled). x.mutexes) is);
    size = sym (ap length threads);
    bases = λ u. sym (ap (λ (rows : List Thread). (row_at rows u).base) threads);
    waits = λ u. sym (ap (λ (rows : List Thread). awaited_mutex (row_at rows u).stage) threads);
  })
