-- The lists after changes of current priorities.
use Rattle.std.specs.Prelude.{ℕ, ◌≡◌, ◌<◌, ◌≤◌, true, List, [], ◌∷◌, ◌++◌, filter, length, map, if◌then◌else◌, ◌==◌}
use Rattle.std.specs.List.{AllByRecursion}
use Rattle.rt_base.specs.declared.codes.Code.{Code}
use Rattle.rt_plain.specs.PlainBoard.{PlainBoard}
use Rattle.rt_plain.specs.kernel.Calls.{mode_lines}
use Rattle.rt_plain.specs.kernel.Effects.{Effect}
use Rattle.rt_plain.specs.kernel.State.{State, Active, is_among}
use Rattle.rt_plain.specs.kernel.Ownership.{CurChange}
use Rattle.kernel_tables.specs.Tabled.{Tabled, moved_last, rebased}
use Rattle.kernel_tables.specs.Threads.{with_row}
use Rattle.mutex_tie.specs.Changes.{change_line, is_changed}

-- the changed threads that were ready before go to the end, one after the other
abbrev pub moved_behind : List ℕ → List CurChange → List ℕ → List ℕ
moved_behind before [] ready = ready
moved_behind before (c ∷ cs) ready = moved_behind before cs (if is_among before c.thread then moved_last ready c.thread else ready)

-- at most one of the changed threads was ready before
abbrev pub MovesOne : List ℕ → List CurChange → Type 0
MovesOne before cs = (a b : ℕ) → is_among before a ≡ true → is_among before b ≡ true → is_changed cs a ≡ true → is_changed cs b ≡ true → a ≡ b

-- the tables with the new priority of a changed thread in all its lists
abbrev pub renewed_by : Tabled → CurChange → Tabled
renewed_by k c = record k { threads = with_row k.threads c.thread (λ row. record row { base = c.new }); ready = rebased k c.thread c.new }

-- of all changed threads, one after the other
abbrev pub renewed : Tabled → List CurChange → Tabled
renewed k [] = k
renewed k (c ∷ cs) = renewed (renewed_by k c) cs

-- threads that are there, with priorities that there are
abbrev pub AreWithin : Tabled → List CurChange → Type 0
AreWithin k cs = AllByRecursion (λ c. (c.thread < length k.threads) × (c.new < k.levels)) cs

-- a thread wakes with a code: it is active, at the end of the ready list, with this priority in the lists
abbrev pub roused : Tabled → ℕ → Code → ℕ → Tabled
roused k t code prio = record k { threads = with_row k.threads t (λ row. record row { base = prio; code = code; stage = Active }); ready = k.ready ++ t ∷ [] }

-- what follows from an action by these changes: the changed threads that were ready before go to the end of the ready list, one after the other, each change has its line, and then comes the mode
abbrev pub settled_by : PlainBoard → State → List CurChange → Effect → Effect
settled_by b before cs e = record { state = record (e.state) { ready = moved_behind before.ready cs e.state.ready }; lines = e.lines ++ map (change_line e.state) cs ++ mode_lines b before e.state }

-- each thread is listed once at most
abbrev pub AreOnce : List ℕ → Type 0
AreOnce ts = (u : ℕ) → length (filter (λ v. v == u) ts) ≤ 1
