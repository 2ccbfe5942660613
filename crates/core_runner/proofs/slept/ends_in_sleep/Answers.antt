use Rattle.std.proofs.Common.{◌-◌, ap, arith}
use Rattle.core_runner.proofs.SleptLemmas.{first-last, has-line}
use Rattle.core_runner.proofs.slept.ends_in_sleep.Goals as goal

pub line-requires : goal.line-requires
line-requires c = has-line c.args.journal.now.entries _ _ _ _ _ c.entry-first.ensures (omega (arith, c.if-count-eq0.false))

pub returns : goal.returns
returns c = first-last c.args.journal.now.entries _ _ _ _ _ _ _ (ap (λ n. n - 1) c.entries-entries.ensures.count) c.entry-first.ensures c.line.ensures c.is_sleep.ensures
