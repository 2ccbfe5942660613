-- The works: soft timers that fired and whose calls aren't made yet.
use Rattle.std.specs.Prelude.{ℕ, Bool, true, false, not, List, [], ◌∷◌, ◌++◌, Option, filter, if◌then◌else◌}
use Rattle.std.specs.List.{find, list_any}
use Rattle.std.specs.Str.{bytes_eq}
use Rattle.rt_plain.specs.declared.line.Line.{Line}
use Rattle.rt_plain.specs.kernel.State.{State, Stage, Waiting, AtWorks, thread_at, thread_numbers}
use Rattle.rt_plain.specs.kernel.Effects.{Effect, no_effect, line_effect}

-- whether a timer is among the works
abbrev pub has_work : State → List ℕ → Bool
has_work s timer = list_any (λ o. bytes_eq o timer) s.works

-- a timer is the last of the works
abbrev pub with_work : State → List ℕ → State
with_work s timer = record s { works = s.works ++ timer ∷ [] }

-- a timer is among the works no more
abbrev pub without_work : State → List ℕ → State
without_work s timer = record s { works = filter (λ o. not (bytes_eq o timer)) s.works }

-- a timer is taken out of the works, where it is among them
abbrev pub unwork_effect : List ℕ → State → Effect
unwork_effect timer s = if has_work s timer then line_effect (without_work s timer) (Line.Unwork timer) else no_effect s

-- whether a thread at this stage waits for a work
abbrev pub waits_for_work : Stage → Bool
waits_for_work (Waiting AtWorks number) = true
waits_for_work _ = false

-- the thread that waits for a work, if one does
abbrev pub work_waiter : State → Option ℕ
work_waiter s = find (λ t. waits_for_work (thread_at s t).stage) (thread_numbers s)
