-- Where a schedule stands, as the code keeps it.
use Rattle.std.specs.Prelude.{ℕ, zero, suc, ◌-◌, ◌%◌, List, [], ◌∷◌, drop}
use Rattle.rt_plain.specs.PlainBoard.{PlainBoard}
use Rattle.rt_plain.specs.runs.Runs.{Course}
use Rattle.rt_plain.specs.runs.Schedules.{Place as PlainPlace, Driven, listed_of}
use Rattle.core_runner.specs.declared.place.Place.{Place}

-- the core whose turn it is where n more steps come behind it in whole rounds
abbrev pub core_before : ℕ → ℕ → ℕ
core_before cores n = cores - 1 - n % cores

-- the last steps of whole rounds, so many of them
abbrev pub in_turn : ℕ → ℕ → List ℕ
in_turn cores zero = []
in_turn cores (suc n) = core_before cores n ∷ in_turn cores n

-- the listed events that aren't made yet, and what is left of the period
abbrev pub plain_place : PlainBoard → Place → PlainPlace
plain_place b p = record { listed = drop p.made (listed_of b.schedule); draws = p.draws; left = in_turn b.cores p.left; words = p.words }

-- the machine, and where the schedule stands
abbrev pub stands : PlainBoard → Course → Place → Driven
stands b c p = record { place = plain_place b p; course = c }
