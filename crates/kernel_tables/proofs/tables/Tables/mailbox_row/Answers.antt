use Rattle.std.proofs.Common.{◌≡◌, Some, ap, ◌∙◌, sym, length, option_map, slice_get}
use Rattle.object_box.specs.declared.object.Object.{Object}
use Rattle.rt_plain.specs.declared.row.Row.{Row}
use Rattle.susp_list.specs.Rows.{line}
use Rattle.ipc_queues.specs.Queues.{PlainMailbox}
use Rattle.ipc_queues.specs.Channels.{mail_at, waits_at}
use Rattle.ipc_queues.specs.declared.channels.ChannelKind.{ChannelKind}
use Rattle.ipc_queues.specs.declared.ends.End.{End}
use Rattle.kernel_tables.specs.ObjectRows.{mailbox_shown}
use Rattle.kernel_tables.specs.Tabled.{Tabled}
use Rattle.kernel_tables.proofs.ObjectRowLemmas.{mail_placed, mailbox_row_is}
use Rattle.kernel_tables.proofs.tables.Tables.mailbox_row.Goals as goal

pub mailbox-mailbox-requires : goal.mailbox-mailbox-requires
mailbox-mailbox-requires c = mail_placed c.self.inside.threads c.self.inside.lists c.args.place (record { no = c.at-no.result.0; name = c.at-no.result.1 }) c.self.invariant.tied c.at-no.ensures

pub waiters-receivers-requires : goal.waiters-receivers-requires
waiters-receivers-requires c = mail_placed c.self.inside.threads c.self.inside.lists c.args.place (record { no = c.at-no.result.0; name = c.at-no.result.1 }) c.self.invariant.tied c.at-no.ensures

pub waiters-senders-requires : goal.waiters-senders-requires
waiters-senders-requires c = mail_placed c.self.inside.threads c.self.inside.lists c.args.place (record { no = c.at-no.result.0; name = c.at-no.result.1 }) c.self.invariant.tied c.at-no.ensures

pub returns : goal.returns
returns c =
    let o : Object = record { no = c.at-no.result.0; name = c.at-no.result.1 } in
    let m : PlainMailbox = (mail_at c.self.inside.lists.channels.mails o.no).mailbox in
    let all = length (line (waits_at c.self.inside.lists.channels ChannelKind.Mailbox End.Receivers o.no)) in
    let rest = length (line (waits_at c.self.inside.lists.channels ChannelKind.Mailbox End.Senders o.no)) in
    let is : c.mailbox-mailbox.result.now ≡ m = c.mailbox-mailbox.ensures in
    ap (λ (k : Tabled). option_map (mailbox_shown k.threads) (slice_get k.mailboxes c.args.place)) (sym c.self.view_is)
    ∙ mailbox_row_is c.self.inside.threads c.self.inside.lists c.args.place o c.self.invariant.tied c.at-no.ensures
    ∙ ap (λ n. Some (Row.Mailbox o.name n m.size all rest)) (sym (c.len-used.ensures.len ∙ ap (λ (x : PlainMailbox). length x.words) is))
    ∙ ap (λ n. Some (Row.Mailbox o.name c.len-used.result n all rest)) (sym (c.size-size.ensures ∙ ap (λ (x : PlainMailbox). x.size) is))
    ∙ ap (λ n. Some (Row.Mailbox o.name c.len-used.result c.size-size.result n rest)) (sym c.waiters-receivers.ensures)
    ∙ ap (λ n. Some (Row.Mailbox o.name c.len-used.result c.size-size.result c.waiters-receivers.result n)) (sym c.waiters-senders.ensures)
