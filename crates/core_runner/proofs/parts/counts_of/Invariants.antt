use Rattle.std.proofs.Common.{◌≡◌, take}
use Rattle.rt_plain.specs.runs.Runs.{events_of}
use Rattle.rt_plain.specs.runs.Live.{owner_counts}
use Rattle.core_runner.proofs.parts.counts_of.Given as goal

abbrev pub invariant-loop-core : goal.invariant-loop-core
invariant-loop-core l = l.counts.items ≡ owner_counts l.core (events_of (take l.entries l.journal.entries))
