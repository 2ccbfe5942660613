-- What the kernel's calls need of mutexes and of threads that are ready.
use Rattle.std.specs.Prelude.{ℕ, ◌≡◌, [], true, None}
use Rattle.rt_plain.specs.kernel.State.{State, is_among, thread_at}
use Rattle.rt_plain.specs.kernel.Priority.{awaited_mutex}
use Rattle.rt_plain.specs.kernel.Sound.{is_active}
use Rattle.kernel_tables.specs.Threads.{row_at}
use Rattle.mutex_tables.specs.MutexTabled.{MutexTabled}

-- there is no mutex, and so nobody owns one
abbrev pub HasNoMutex : State → Type 0
HasNoMutex s = (s.holdings ≡ []) × (s.mutexes ≡ [])

-- the threads that are ready are active
abbrev pub AreActive : MutexTabled → Type 0
AreActive k = (u : ℕ) → is_among k.ready u ≡ true → is_active (row_at k.threads u).stage ≡ true

-- nobody waits for a mutex
abbrev pub NobodyWaits : State → Type 0
NobodyWaits s = (t : ℕ) → awaited_mutex (thread_at s t).stage ≡ None
