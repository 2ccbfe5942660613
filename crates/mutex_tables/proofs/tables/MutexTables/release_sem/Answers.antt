use Rattle.mutex_tables.proofs.ObjectLemmas.{release-keeps, release-seen}
use Rattle.mutex_tables.proofs.tables.MutexTables.release_sem.Goals as goal

pub invariant_of-self : goal.invariant_of-self
invariant_of-self c = release-keeps c.self.inside c.release_sem.new.self c.args.name.now c.release_sem.result c.self.invariant c.release_sem.ensures

pub returns : goal.returns
returns c = release-seen c.self.inside c.args.self.now c.release_sem.new.self c.args.name.now c.release_sem.result c.self.view_is c.self.invariant c.release_sem.ensures
