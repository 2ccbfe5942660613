use Rattle.std.proofs.Common.{◌≡◌, ◌+◌, ◌++◌, [], ◌∷◌, length, map, take}
use Rattle.rt_plain.specs.declared.line.Line.{Line}
use Rattle.finsh.proofs.commands.help.Given as goal

abbrev pub invariant-loop-named : goal.invariant-loop-named
invariant-loop-named l = record {
  items : l.out.items ≡ l.fn.out.items ++ map (λ named. Line.Print (named.0.now ++ 10 ∷ [])) (take l.named-index l.named-items);
  room : l.out.room ≡ l.fn.out.room;
  count : length l.out.items ≡ length l.fn.out.items + l.named-index;
}
