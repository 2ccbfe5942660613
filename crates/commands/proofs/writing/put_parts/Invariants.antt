use Rattle.std.proofs.Common.{◌≤◌, take, flat_map}
use Rattle.rt_edge.specs.Contents.{HasGrown}
use Rattle.commands.proofs.writing.put_parts.Given as goal

abbrev pub invariant-loop-part : goal.invariant-loop-part
invariant-loop-part g l = record {
  grown : HasGrown (g.O.Sink.holds l.initial.out) (g.O.Sink.holds l.out) (flat_map (λ part. part.now) (take l.part-index l.parts));
  faults : g.O.Sink.faults l.initial.out ≤ g.O.Sink.faults l.out;
}
