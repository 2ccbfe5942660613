-- How deep the lock over all cores is held.
use Rattle.std.specs.Prelude.{ℕ, Option, Some, None, if◌then◌else◌, ◌==◌}
use Rattle.rt_plain.specs.kernel.State.{Nest}

-- how deep a core holds it: 0 where it doesn't
abbrev pub depth_of : ℕ → Option Nest → ℕ
depth_of core None = 0
depth_of core (Some nest) = if nest.core == core then nest.depth else 0

-- the core that holds it, and how deep
abbrev pub holder_of : Option Nest → Option (ℕ × ℕ)
holder_of None = None
holder_of (Some nest) = Some (nest.core, nest.depth)

-- a holder as a nest
abbrev pub nest_of : Option (ℕ × ℕ) → Option Nest
nest_of None = None
nest_of (Some holder) = Some (record { core = holder.0; depth = holder.1 })
