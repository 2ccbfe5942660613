-- What a release does.
use Rattle.std.specs.Prelude.{ℕ, ◌≡◌, ◌≢◌, ◌+◌, Some, None, slice_set}
use Rattle.rt_plain.specs.kernel.Waiting.{first_of}
use Rattle.susp_list.specs.Rows.{Waits, waiters}
use Rattle.ipc_counts.specs.Counted.{Counted}
use Rattle.ipc_counts.specs.declared.sem.SemReleased.{SemReleased}
use Rattle.ipc_counts.specs.declared.sem.SemReleased.TheVariants.{Woke, Raised, Full}

-- the waiters without a thread
abbrev pub without : Waits → ℕ → Waits
without w t = record w { rows = slice_set w.rows t None }

-- each answer of a release, with its cause and what it leaves
abbrev pub Releases : Counted → Counted → SemReleased → Type 0
Releases old new (Woke t) = (first_of old.waiters.order (waiters old.waiters) ≡ Some t) × (new ≡ record old { waiters = without old.waiters t })
Releases old new Full = (first_of old.waiters.order (waiters old.waiters) ≡ None) × ((old.value ≡ 65535) × (new ≡ old))
Releases old new Raised = (first_of old.waiters.order (waiters old.waiters) ≡ None) × ((old.value ≢ 65535) × (new ≡ record old { value = old.value + 1 }))
