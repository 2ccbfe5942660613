use Rattle.mutex_tables.proofs.ObjectLemmas.{event-created}
use Rattle.mutex_tables.proofs.tables.MutexTables.create_event.Goals as goal

pub invariant_of-self : goal.invariant_of-self
invariant_of-self c = (event-created c.self.inside c.args.self.now c.create_event.new.self (record { name = c.args.name; flags = 0; order = c.args.order }) c.create_event.result c.self.view_is c.self.invariant c.create_event.ensures).1

pub returns : goal.returns
returns c = (event-created c.self.inside c.args.self.now c.create_event.new.self (record { name = c.args.name; flags = 0; order = c.args.order }) c.create_event.result c.self.view_is c.self.invariant c.create_event.ensures).0
