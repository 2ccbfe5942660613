use Rattle.std.proofs.Common.{◌≡◌, ◌∙◌, ap, refl, arith}
use Rattle.rt_plain.specs.PlainBoard.{PlainBoard}
use Rattle.kernel_tables.proofs.tables.Tables.create_objects.Goals as goal

pub create_sems-requires : goal.create_sems-requires
create_sems-requires c =
    let defs : c.as_slice.result.now ≡ c.args.board.now.sems = c.as_slice.ensures ∙ ap (λ (x : PlainBoard). x.sems) c.board.view_is in
    rw (c.requires.bare, defs) (record { none = refl; room = c.requires.fitting.sem_room; names = c.requires.fitting.sem_names })

pub create_events-requires : goal.create_events-requires
create_events-requires c =
    let defs : c.as_slice-2.result.now ≡ c.args.board.now.events = c.as_slice-2.ensures ∙ ap (λ (x : PlainBoard). x.events) c.board.view_is in
    rw (c.create_sems.ensures, c.requires.bare, defs) (record { none = refl; room = c.requires.fitting.event_room; names = c.requires.fitting.event_names })

pub create_mailboxes-requires : goal.create_mailboxes-requires
create_mailboxes-requires c =
    let defs : c.as_slice-3.result.now ≡ c.args.board.now.mailboxes = c.as_slice-3.ensures ∙ ap (λ (x : PlainBoard). x.mailboxes) c.board.view_is in
    rw (c.create_events.ensures, c.create_sems.ensures, c.requires.bare, defs) (record { none = refl; room = omega arith; names = c.requires.fitting.mailbox_names })

pub create_queues-requires : goal.create_queues-requires
create_queues-requires c =
    let defs : c.as_slice-4.result.now ≡ c.args.board.now.queues = c.as_slice-4.ensures ∙ ap (λ (x : PlainBoard). x.queues) c.board.view_is in
    rw (c.in_ok-create_mailboxes.ensures, c.create_events.ensures, c.create_sems.ensures, c.requires.bare, defs) (record { none = refl; room = omega arith; names = c.requires.fitting.queue_names })
