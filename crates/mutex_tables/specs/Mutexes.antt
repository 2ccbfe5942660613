-- What calls do to mutexes and their owners.
use Rattle.std.specs.Prelude.{ℕ, ◌+◌, ◌-◌, ◌≡◌, ◌≢◌, ◌<◌, true, false, List, [], ◌∷◌, Option, Some, None, length, nat_lt, if◌then◌else◌, ◌==◌}
use Rattle.std.specs.List.{AllByRecursion}
use Rattle.rt_base.specs.declared.codes.Code.{Code}
use Rattle.rt_plain.specs.kernel.State.{State, Holding, is_among, is_closed}
use Rattle.rt_plain.specs.kernel.Sound.{is_active}
use Rattle.rt_plain.specs.kernel.Owners.{with_owner}
use Rattle.rt_plain.specs.kernel.Ownership.{CurChange, Ownership, cur_in, is_there, member_at}
use Rattle.rt_plain.specs.kernel.Priority.{awaited_mutex}
use Rattle.rt_plain.specs.kernel.MutexCalls.{with_hold}
use Rattle.kernel_tables.specs.Tabled.{Tabled}
use Rattle.kernel_tables.specs.Threads.{row_at}
use Rattle.mutex_chain.specs.Graph.{passed_of}
use Rattle.mutex_chain.specs.declared.answers.Released.{Released}
use Rattle.mutex_chain.specs.declared.answers.Took.{Took}
use Rattle.mutex_tables.specs.MutexTabled.{MutexTabled}
use Rattle.mutex_tables.specs.Moved.{moved_behind, roused}

-- how a thread takes a mutex, by who owns it
abbrev pub took_by : ℕ → Option Holding → Took
took_by t None = Took.Free
took_by t (Some h) = if h.owner == t then (if nat_lt h.hold 255 then Took.Again else Took.HoldFull) else Took.Owned h.owner

-- and what that leaves: a free one is owned, and its own is held once more, up to 255
abbrev pub taken_state : List ℕ → ℕ → Option Holding → State → State
taken_state name t None s = with_owner s name t
taken_state name t (Some h) s = if h.owner == t then (if nat_lt h.hold 255 then with_hold s h (h.hold + 1) else s) else s

-- how a thread releases a mutex, by who owns it and who waits for it first
abbrev pub released_by : ℕ → Option Holding → Option ℕ → Released
released_by t None first = Released.NotOwner None
released_by t (Some h) first = if h.owner == t then (if nat_lt 1 h.hold then Released.Held (h.hold - 1) else passed_of first) else Released.NotOwner (Some h.owner)

-- whom a released mutex passed to
abbrev pub passed_to : Released → Option ℕ
passed_to (Released.Passed t) = Some t
passed_to _ = None

-- the tables after an action, and then changes of current priorities: the changed threads that were ready before it stand at the end
abbrev pub followed : MutexTabled → State → List CurChange → MutexTabled
followed v s cs = record v { threads = s.threads; mutexes = s.mutexes; holdings = s.holdings; ready = moved_behind v.ready cs s.ready }

-- threads that wait for a mutex aren't ready
abbrev pub AreOut : MutexTabled → Type 0
AreOut v = (u : ℕ) → awaited_mutex (row_at v.threads u).stage ≢ None → is_among v.ready u ≡ false

-- the tables in which the thread, if there is one, has woken with 0
abbrev pub woken_next : Tabled → Ownership → Option ℕ → Tabled
woken_next k p None = k
woken_next k p (Some w) = roused k w Code.Ok (cur_in p w)

-- a thread that may wake
pub record MayWake (k : Tabled) (p : Ownership) (w : ℕ) : Type 0 where
  pub there : w < length k.threads
  pub live : is_closed (row_at k.threads w).stage ≡ false
  pub idle : is_active (row_at k.threads w).stage ≡ false
  pub unready : is_among k.ready w ≡ false
  pub level : cur_in p w < k.levels
  pub member : is_there (member_at p w) ≡ true

-- the tables in which these threads have woken with a code, one after the other
abbrev pub roused_all : Tabled → Ownership → Code → List ℕ → Tabled
roused_all k p code [] = k
roused_all k p code (t ∷ ts) = roused_all (roused k t code (cur_in p t)) p code ts

-- each is listed once
abbrev pub AreApart : List ℕ → Type 0
AreApart [] = Unit {0}
AreApart (t ∷ ts) = (is_among ts t ≡ false) × AreApart ts

-- threads that may wake one after the other
pub record MayWakeAll (k : Tabled) (p : Ownership) (ts : List ℕ) : Type 0 where
  pub all : AllByRecursion (MayWake k p) ts
  pub apart : AreApart ts
