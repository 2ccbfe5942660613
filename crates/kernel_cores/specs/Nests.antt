-- The lock over all cores as it is entered and left.
use Rattle.std.specs.Prelude.{ℕ, ◌+◌, ◌-◌, List, Option, Some, None, slice_index_or, if◌then◌else◌, ◌==◌}
use Rattle.rt_base.specs.declared.codes.Code.{Code}
use Rattle.rt_plain.specs.kernel.State.{Nest, is_number}
use Rattle.rt_plain.specs.kernel.ThreadCalls.{nest_at}

-- one deeper for the core that holds it, or held by a core, at most 255 deep
abbrev pub entered : ℕ → Option Nest → Option Nest
entered core None = Some (record { core = core; depth = 1 })
entered core (Some n) = if n.depth == 255 then Some n else Some (record { core = n.core; depth = n.depth + 1 })

-- what entering answers
abbrev pub entry_code : Option Nest → Code
entry_code None = Code.Ok
entry_code (Some n) = if n.depth == 255 then Code.Full else Code.Ok

-- one less deep where the core holds it
abbrev pub left_by : ℕ → Option Nest → Option Nest
left_by core None = None
left_by core (Some n) = if n.core == core then nest_at core (n.depth - 1) else Some n

-- free where the core that holds it runs the thread
abbrev pub freed_by : List (Option ℕ) → ℕ → Option Nest → Option Nest
freed_by running t None = None
freed_by running t (Some n) = if is_number t (slice_index_or running n.core None) then None else Some n
