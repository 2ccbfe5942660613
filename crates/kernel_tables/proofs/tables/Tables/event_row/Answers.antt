use Rattle.std.proofs.Common.{◌≡◌, Some, ap, ◌∙◌, sym, slice_get, length, option_map, arith}
use Rattle.object_box.specs.declared.object.Object.{Object}
use Rattle.rt_plain.specs.declared.row.Row.{Row}
use Rattle.susp_list.specs.Rows.{line}
use Rattle.kernel_tables.specs.declared.wait_list.WaitList.{WaitList}
use Rattle.kernel_tables.specs.ObjectRows.{event_shown}
use Rattle.kernel_tables.specs.Tabled.{Tabled}
use Rattle.kernel_tables.proofs.ObjectRowLemmas.{placed_below, event_row_is}
use Rattle.kernel_tables.proofs.tables.Tables.event_row.Goals as goal

pub index-event-requires : goal.index-event-requires
index-event-requires c =
    let o : Object = record { no = c.no.inside.0; name = c.at-no.result.1 } in
    let at : slice_get c.self.inside.lists.objects.event.objects c.args.place ≡ Some o = c.at-no.ensures ∙ ap (λ n. Some (record { no = n; name = c.at-no.result.1 })) (sym c.no.view_is) in
    let slots : length c.self.inside.lists.events.items ≡ c.self.inside.lists.objects.event.limit = c.self.invariant.tied.slots WaitList.Event in
    omega (arith, placed_below c.self.inside.lists.objects.event c.args.place o (c.self.invariant.tied.lists.sound WaitList.Event) at, slots)

pub returns : goal.returns
returns c =
    let o : Object = record { no = c.no.inside.0; name = c.at-no.result.1 } in
    let at : slice_get c.self.inside.lists.objects.event.objects c.args.place ≡ Some o = c.at-no.ensures ∙ ap (λ n. Some (record { no = n; name = c.at-no.result.1 })) (sym c.no.view_is) in
    ap (λ (k : Tabled). option_map (event_shown k.threads) (slice_get k.events c.args.place)) (sym c.self.view_is)
    ∙ event_row_is c.self.inside.threads c.self.inside.lists c.args.place o c.index-event.result.now c.self.invariant.tied at c.index-event.ensures
    ∙ ap (λ n. Some (Row.Event o.name n (length (line c.index-event.result.now.waiters)))) (sym c.flags.ensures)
    ∙ ap (λ n. Some (Row.Event o.name c.flags.result n)) (sym c.len.ensures)
