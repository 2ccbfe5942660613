use Rattle.std.proofs.Common.{arith}
use Rattle.rt_plain.proofs.text.NumberLemmas.{read_past}
use Rattle.rt_plain.proofs.numbers.value_of.Goals as goal

pub returns-then-more-from : goal.returns-then-more-from
returns-then-more-from c = read_past c.loop-b.n c.loop-b.b-index c.args.word.now 4294967296 _ (omega arith) c.loop-b.invariant.1 (omega arith)
