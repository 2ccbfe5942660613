use Rattle.std.proofs.Common.{◌≡◌, ◌<◌, ◌^◌, drop}
use Rattle.rt_plain.specs.text.Fields.{read_on}
use Rattle.rt_plain.proofs.numbers.value_of.Given as goal

abbrev pub invariant-loop-b : goal.invariant-loop-b
invariant-loop-b l = (l.n < 2 ^ 32) × (read_on l.n (drop l.b-index l.word) ≡ read_on 0 l.word)
