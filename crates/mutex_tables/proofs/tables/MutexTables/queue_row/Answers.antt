use Rattle.std.proofs.Common.{◌∙◌, ◌<◌, sym, ap, subst, length, slice_get}
use Rattle.std.specs.Option.{option_map}
use Rattle.mutex_tables.specs.MutexTabled.{MutexTabled}
use Rattle.mutex_tables.specs.ObjectRows.{queue_shown}
use Rattle.mutex_tables.proofs.ObjectRowLemmas.{queue-row}
use Rattle.mutex_tables.proofs.tables.MutexTables.queue_row.Goals as goal

pub queue_row-requires : goal.queue_row-requires
queue_row-requires c = subst (λ (v : MutexTabled). c.args.place < length v.queues) (sym c.self.view_is) c.requires

pub returns : goal.returns
returns c =
    sym (ap (λ (v : MutexTabled). option_map (queue_shown v) (slice_get v.queues c.args.place)) c.self.view_is)
    ∙ queue-row c.self.inside (slice_get c.self.inside.tables.queues c.args.place) c.self.invariant
    ∙ c.queue_row.ensures
