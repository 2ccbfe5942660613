use Rattle.mutex_tables.proofs.ShownLemmas.{nobody-awaits}
use Rattle.mutex_tables.proofs.tables.MutexTables.know_waits.Goals as goal

pub returns : goal.returns
returns c t = nobody-awaits c.self.inside c.args.self.now t c.self.view_is c.self.invariant c.requires
