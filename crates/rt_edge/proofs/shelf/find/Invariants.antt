use Rattle.std.proofs.Common.{◌≡◌, drop}
use Rattle.rt_edge.specs.Shelved.{names_of}
use Rattle.rt_edge.proofs.shelf.find.Given as goal

abbrev pub invariant-loop-number : goal.invariant-loop-number
invariant-loop-number l = names_of l.files l.name ≡ names_of (drop l.number l.files) l.name
