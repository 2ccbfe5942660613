-- What a core does before its thread goes on: it may take another thread.
use Rattle.std.specs.Prelude.{ℕ, ◌≡◌, ◌<◌, true, false, not, ◌&&◌, [], ◌∷◌, Option, Some, None, length, if◌then◌else◌}
use Rattle.rt_plain.specs.declared.line.Line.{Line}
use Rattle.rt_plain.specs.kernel.State.{State, thread_at, running_on, is_among}
use Rattle.rt_plain.specs.kernel.Pick.{pick}
use Rattle.rt_plain.specs.kernel.Effects.{Effect, no_effect, name_of}
use Rattle.rt_plain.specs.kernel.Steps.{with_running, preempted_state, is_preemptible, takes_from}

-- a free core runs the thread
abbrev pub run_effect : State → ℕ → ℕ → Effect
run_effect s core p = record { state = with_running s core p; lines = Line.Run (name_of s p) ∷ [] }

-- the running thread r leaves the core for the thread p
abbrev pub preempt_effect : State → ℕ → ℕ → ℕ → Effect
preempt_effect s core r p = record { state = with_running (preempted_state s r) core p; lines = Line.Out (name_of s r) (not (thread_at s r).marked) ∷ Line.Run (name_of s p) ∷ [] }

-- what a core that would pick p does, if it takes it
abbrev pub switched_by : State → ℕ → Option ℕ → Option ℕ → Option Effect
switched_by s core None None = None
switched_by s core None (Some p) = Some (run_effect s core p)
switched_by s core (Some r) None = None
switched_by s core (Some r) (Some p) = if is_preemptible s core r && takes_from s p r then Some (preempt_effect s core r p) else None

-- what a core does, if it takes a thread
abbrev pub switched : State → ℕ → Option Effect
switched s core = switched_by s core (running_on s core) (pick s core)

-- what was done, or nothing
abbrev pub effect_or : State → Option Effect → Effect
effect_or s None = no_effect s
effect_or s (Some e) = e
