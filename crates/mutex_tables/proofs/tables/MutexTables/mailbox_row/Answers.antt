use Rattle.std.proofs.Common.{◌∙◌, ◌<◌, sym, ap, subst, length, slice_get}
use Rattle.std.specs.Option.{option_map}
use Rattle.mutex_tables.specs.MutexTabled.{MutexTabled}
use Rattle.mutex_tables.specs.ObjectRows.{mailbox_shown}
use Rattle.mutex_tables.proofs.ObjectRowLemmas.{mailbox-row}
use Rattle.mutex_tables.proofs.tables.MutexTables.mailbox_row.Goals as goal

pub mailbox_row-requires : goal.mailbox_row-requires
mailbox_row-requires c = subst (λ (v : MutexTabled). c.args.place < length v.mailboxes) (sym c.self.view_is) c.requires

pub returns : goal.returns
returns c =
    sym (ap (λ (v : MutexTabled). option_map (mailbox_shown v) (slice_get v.mailboxes c.args.place)) c.self.view_is)
    ∙ mailbox-row c.self.inside (slice_get c.self.inside.tables.mailboxes c.args.place) c.self.invariant
    ∙ c.mailbox_row.ensures
