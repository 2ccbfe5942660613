use Rattle.std.proofs.Common.{◌≡◌, Some, ap, ◌∙◌, sym, length, option_map, slice_get}
use Rattle.object_box.specs.declared.object.Object.{Object}
use Rattle.rt_plain.specs.declared.row.Row.{Row}
use Rattle.susp_list.specs.Rows.{line}
use Rattle.ipc_queues.specs.Queues.{PlainMsgQueue}
use Rattle.ipc_queues.specs.Channels.{messages_at, waits_at}
use Rattle.ipc_queues.specs.declared.channels.ChannelKind.{ChannelKind}
use Rattle.ipc_queues.specs.declared.ends.End.{End}
use Rattle.kernel_tables.specs.ObjectRows.{queue_shown}
use Rattle.kernel_tables.specs.Tabled.{Tabled}
use Rattle.kernel_tables.proofs.ObjectRowLemmas.{queue_placed, queue_row_is}
use Rattle.kernel_tables.proofs.tables.Tables.queue_row.Goals as goal

pub queue-queue-requires : goal.queue-queue-requires
queue-queue-requires c = queue_placed c.self.inside.threads c.self.inside.lists c.args.place (record { no = c.at-no.result.0; name = c.at-no.result.1 }) c.self.invariant.tied c.at-no.ensures

pub waiters-receivers-requires : goal.waiters-receivers-requires
waiters-receivers-requires c = queue_placed c.self.inside.threads c.self.inside.lists c.args.place (record { no = c.at-no.result.0; name = c.at-no.result.1 }) c.self.invariant.tied c.at-no.ensures

pub waiters-senders-requires : goal.waiters-senders-requires
waiters-senders-requires c = queue_placed c.self.inside.threads c.self.inside.lists c.args.place (record { no = c.at-no.result.0; name = c.at-no.result.1 }) c.self.invariant.tied c.at-no.ensures

pub returns : goal.returns
returns c =
    let o : Object = record { no = c.at-no.result.0; name = c.at-no.result.1 } in
    let m : PlainMsgQueue = (messages_at c.self.inside.lists.channels.messages o.no).queue in
    let all = length (line (waits_at c.self.inside.lists.channels ChannelKind.MsgQueue End.Receivers o.no)) in
    let rest = length (line (waits_at c.self.inside.lists.channels ChannelKind.MsgQueue End.Senders o.no)) in
    let is : c.queue-queue.result.now ≡ m = c.queue-queue.ensures in
    ap (λ (k : Tabled). option_map (queue_shown k.threads) (slice_get k.queues c.args.place)) (sym c.self.view_is)
    ∙ queue_row_is c.self.inside.threads c.self.inside.lists c.args.place o c.self.invariant.tied c.at-no.ensures
    ∙ ap (λ n. Some (Row.MsgQueue o.name n m.size m.max all rest)) (sym (c.len-used.ensures.len ∙ ap (λ (x : PlainMsgQueue). length x.messages) is))
    ∙ ap (λ n. Some (Row.MsgQueue o.name c.len-used.result n m.max all rest)) (sym (c.size-size.ensures ∙ ap (λ (x : PlainMsgQueue). x.size) is))
    ∙ ap (λ n. Some (Row.MsgQueue o.name c.len-used.result c.size-size.result n all rest)) (sym (c.max-max.ensures ∙ ap (λ (x : PlainMsgQueue). x.max) is))
    ∙ ap (λ n. Some (Row.MsgQueue o.name c.len-used.result c.size-size.result c.max-max.result n rest)) (sym c.waiters-receivers.ensures)
    ∙ ap (λ n. Some (Row.MsgQueue o.name c.len-used.result c.size-size.result c.max-max.result c.waiters-receivers.result n)) (sym c.waiters-senders.ensures)
