use Rattle.std.proofs.Common.{◌∙◌, ◌<◌, sym, ap, subst, length, slice_get}
use Rattle.std.specs.Option.{option_map}
use Rattle.mutex_tables.specs.MutexTabled.{MutexTabled}
use Rattle.mutex_tables.specs.ObjectRows.{event_shown}
use Rattle.mutex_tables.proofs.ObjectRowLemmas.{event-row}
use Rattle.mutex_tables.proofs.tables.MutexTables.event_row.Goals as goal

pub event_row-requires : goal.event_row-requires
event_row-requires c = subst (λ (v : MutexTabled). c.args.place < length v.events) (sym c.self.view_is) c.requires

pub returns : goal.returns
returns c =
    sym (ap (λ (v : MutexTabled). option_map (event_shown v) (slice_get v.events c.args.place)) c.self.view_is)
    ∙ event-row c.self.inside (slice_get c.self.inside.tables.events c.args.place) c.self.invariant
    ∙ c.event_row.ensures
