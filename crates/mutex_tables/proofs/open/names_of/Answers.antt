use Rattle.mutex_tables.proofs.OpenLemmas.{names-ok}
use Rattle.mutex_tables.proofs.open.names_of.Goals as goal

pub returns : goal.returns
returns c = names-ok (record { thread = 0; sem = 0; event = 0; mutex = c.args.mutexes; mailbox = 0; msgqueue = 0; timer = 0; device = 0 }) c.new.result c.new.ensures
