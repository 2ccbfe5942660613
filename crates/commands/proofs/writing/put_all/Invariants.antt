use Rattle.std.proofs.Common.{◌-◌, ◌≤◌, length, take}
use Rattle.rt_edge.specs.Contents.{HasGrown}
use Rattle.commands.proofs.writing.put_all.Given as goal

abbrev pub invariant-loop-at : goal.invariant-loop-at
invariant-loop-at g l = record {
  within : l.at ≤ length l.text;
  grown : HasGrown (g.O.Sink.holds l.initial.out) (g.O.Sink.holds l.out) (take l.at l.text);
  faults : g.O.Sink.faults l.initial.out ≤ g.O.Sink.faults l.out;
}

abbrev pub decreases-loop-at : goal.decreases-loop-at
decreases-loop-at g l = length l.text - l.at
