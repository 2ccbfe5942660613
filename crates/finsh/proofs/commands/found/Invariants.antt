use Rattle.std.proofs.Common.{◌≡◌, drop}
use Rattle.std.specs.List.{find}
use Rattle.finsh.proofs.Found.{is_named}
use Rattle.finsh.proofs.commands.found.Given as goal

abbrev pub invariant-loop-named : goal.invariant-loop-named
invariant-loop-named l = find (is_named l.line) (drop l.named-index l.named-items) ≡ find (is_named l.line) l.named-items
