-- What follows from an action, by the changes that the graph lists.
use Rattle.std.specs.Prelude.{ℕ, ◌≡◌, ◌<◌, Bool, false, not, ◌&&◌, List, ◌++◌, Option, Some, None, length, map, filter, if◌then◌else◌, ◌==◌}
use Rattle.std.specs.List.{list_any, filter_map, AllByRecursion}
use Rattle.rt_plain.specs.declared.line.Line.{Line}
use Rattle.rt_plain.specs.PlainBoard.{PlainBoard}
use Rattle.rt_plain.specs.kernel.State.{State, thread_at, thread_numbers, is_closed, is_among}
use Rattle.rt_plain.specs.kernel.Effects.{Effect, name_of}
use Rattle.rt_plain.specs.kernel.Priority.{cur}
use Rattle.rt_plain.specs.kernel.Calls.{has_new_cur, mode_lines}
use Rattle.rt_plain.specs.kernel.Ownership.{CurChange}

-- the line of a change
abbrev pub change_line : State → CurChange → Line
change_line s c = Line.Cur (name_of s c.thread) c.old c.new

-- whether a thread is in the list of changes
abbrev pub is_changed : List CurChange → ℕ → Bool
is_changed cs t = list_any (λ c. c.thread == t) cs

-- whether a thread was ready before, and is in the list
abbrev pub moves_in : State → List CurChange → ℕ → Bool
moves_in before cs t = is_among before.ready t && is_changed cs t

-- the ready threads of the list go to the end of the ready list, in its order
abbrev pub followed_state : State → List CurChange → State → State
followed_state before cs after = record after { ready = filter (λ t. not (moves_in before cs t)) after.ready ++ filter (moves_in before cs) after.ready }

-- what follows from an action
abbrev pub followed_effect : PlainBoard → State → List CurChange → Effect → Effect
followed_effect b before cs e = record { state = followed_state before cs e.state; lines = e.lines ++ map (change_line e.state) cs ++ mode_lines b before e.state }

-- there are the same threads, and none that has ended is back
pub record CameFrom (before after : State) : Type 0 where
  pub size : length before.threads ≡ length after.threads
  pub ended : (t : ℕ) → is_closed (thread_at after t).stage ≡ false → is_closed (thread_at before t).stage ≡ false

-- ready threads haven't ended
abbrev pub AreLive : State → Type 0
AreLive s = AllByRecursion (λ t. (t < length s.threads) × (is_closed (thread_at s t).stage ≡ false)) s.ready

-- the change of a thread that hasn't ended, where its current priority differs, by the plain states alone
abbrev pub new_cur_of : State → State → ℕ → Option CurChange
new_cur_of before after t = if not (is_closed (thread_at after t).stage) && has_new_cur before after t then Some (record { thread = t; old = cur before t; new = cur after t }) else None

-- all of them, in thread order
abbrev pub new_curs : State → State → List CurChange
new_curs before after = filter_map (new_cur_of before after) (thread_numbers after)
