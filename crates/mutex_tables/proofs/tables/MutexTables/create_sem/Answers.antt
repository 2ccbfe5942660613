use Rattle.mutex_tables.proofs.ObjectLemmas.{sem-created}
use Rattle.mutex_tables.proofs.tables.MutexTables.create_sem.Goals as goal

pub invariant_of-self : goal.invariant_of-self
invariant_of-self c = (sem-created c.self.inside c.args.self.now c.create_sem.new.self (record { name = c.args.name; value = c.args.value; order = c.args.order }) c.create_sem.result c.self.view_is c.self.invariant c.create_sem.ensures).1

pub returns : goal.returns
returns c = (sem-created c.self.inside c.args.self.now c.create_sem.new.self (record { name = c.args.name; value = c.args.value; order = c.args.order }) c.create_sem.result c.self.view_is c.self.invariant c.create_sem.ensures).0
