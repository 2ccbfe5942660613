use Rattle.std.proofs.Common.{◌≡◌, ◌≤◌, take}
use Rattle.rt_plain.specs.runs.Runs.{events_of}
use Rattle.core_runner.specs.Parts.{owned_by}
use Rattle.core_runner.proofs.parts.count_of.Given as goal

abbrev pub invariant-loop-i : goal.invariant-loop-i
invariant-loop-i l = record {
  count : l.count ≡ owned_by l.core (events_of (take l.i l.journal.entries));
  few : l.count ≤ l.i;
}
