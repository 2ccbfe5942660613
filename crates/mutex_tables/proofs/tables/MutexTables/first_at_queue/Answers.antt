use Rattle.std.proofs.Common.{◌∙◌, ap}
use Rattle.rt_plain.specs.kernel.Waiting.{head_of}
use Rattle.kernel_tables.specs.Tabled.{found_queue}
use Rattle.mutex_tables.specs.MutexTabled.{MutexTabled}
use Rattle.mutex_tables.proofs.EndLemmas.{first-repeats, first-there, message-seen}
use Rattle.mutex_tables.proofs.tables.MutexTables.first_at_queue.Goals as goal

pub returns-clause-first : goal.returns-clause-first
returns-clause-first c queue found =
    c.first_at_queue.ensures.first queue (ap (λ (v : MutexTabled). found_queue v.queues c.args.name.now) c.self.view_is ∙ found)
    ∙ ap head_of (message-seen c.self.inside c.args.self.now queue c.args.end c.self.view_is c.self.invariant)

pub returns-clause-there : goal.returns-clause-there
returns-clause-there c = first-there c.self.inside c.args.self.now c.first_at_queue.result c.self.view_is c.first_at_queue.ensures.there

pub returns-clause-waits : goal.returns-clause-waits
returns-clause-waits c = first-repeats c.self.inside c.args.self.now c.first_at_queue.result c.self.view_is c.first_at_queue.ensures.waits
