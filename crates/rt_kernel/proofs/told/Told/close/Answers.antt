use Rattle.std.proofs.Common.{ap}
use Rattle.mutex_chain.specs.Graph.{ChangeList}
use Rattle.rt_kernel.proofs.ToldLemmas.{ended-tables}
use Rattle.rt_kernel.proofs.told.Told.close.Goals as goal

pub close-requires-clause-apart : goal.close-requires-clause-apart
close-requires-clause-apart g c u awaits = absurd (awaits (c.know_waits.ensures u))

pub returns : goal.returns
returns g c = ended-tables c.args.tables.now c.close.new.self c.close.new.out.changes c.args.t c.requires.free c.know_waits.ensures (ap (λ (x : ChangeList). x.changes) c.close.ensures.changes) c.close.ensures.state
