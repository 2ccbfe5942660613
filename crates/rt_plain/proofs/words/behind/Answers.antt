use Rattle.rt_plain.proofs.text.SplitLemmas.{nows_rest}
use Rattle.rt_plain.proofs.words.behind.Goals as goal

pub returns-then-first-words : goal.returns-then-first-words
returns-then-first-words c = nows_rest c.args.words.now c.args.first
