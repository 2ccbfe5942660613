-- A mutex is made.
use Rattle.std.specs.Prelude.{ℕ, ◌≡◌, ◌<◌, true, List, ◌∷◌, Option, None, Result, Ok, Err, length, is_some}
use Rattle.std.specs.List.{find}
use Rattle.std.specs.Str.{bytes_eq}
use Rattle.rt_plain.specs.kernel.State.{Mutex}
use Rattle.object_box.specs.declared.fault.Make.{Make}
use Rattle.object_box.specs.declared.fault.Make.TheVariants.{Taken, ClassFull}
use Rattle.mutex_tables.specs.MutexTabled.{MutexTabled}

-- the mutex of a name
abbrev pub found_mutex : List Mutex → List ℕ → Option Mutex
found_mutex mutexes name = find (λ o. bytes_eq o.name name) mutexes

-- each answer of a creation, with its cause and what it leaves
abbrev pub CreatesMutex : MutexTabled → MutexTabled → Mutex → Result Unit Make → Type 0
CreatesMutex old new mutex (Ok done) = (found_mutex old.mutexes mutex.name ≡ None) × ((length old.mutexes < old.mutex_limit) × (new ≡ record old { mutexes = mutex ∷ old.mutexes }))
CreatesMutex old new mutex (Err (Taken number)) = (is_some (found_mutex old.mutexes mutex.name) ≡ true) × (new ≡ old)
CreatesMutex old new mutex (Err (ClassFull limit)) = (found_mutex old.mutexes mutex.name ≡ None) × ((length old.mutexes ≡ old.mutex_limit) × (new ≡ old))
