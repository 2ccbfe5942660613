use Rattle.std.proofs.Common.{◌∙◌, ◌<◌, sym, ap, subst, length, slice_get}
use Rattle.std.specs.Option.{option_map}
use Rattle.mutex_tables.specs.MutexTabled.{MutexTabled}
use Rattle.mutex_tables.specs.ObjectRows.{sem_shown}
use Rattle.mutex_tables.proofs.ObjectRowLemmas.{sem-row}
use Rattle.mutex_tables.proofs.tables.MutexTables.sem_row.Goals as goal

pub sem_row-requires : goal.sem_row-requires
sem_row-requires c = subst (λ (v : MutexTabled). c.args.place < length v.sems) (sym c.self.view_is) c.requires

pub returns : goal.returns
returns c =
    sym (ap (λ (v : MutexTabled). option_map (sem_shown v) (slice_get v.sems c.args.place)) c.self.view_is)
    ∙ sem-row c.self.inside (slice_get c.self.inside.tables.sems c.args.place) c.self.invariant
    ∙ c.sem_row.ensures
