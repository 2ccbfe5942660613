use Rattle.std.proofs.Common.{◌≡◌, Some, ap, ◌∙◌, sym, slice_get, length, option_map, arith}
use Rattle.object_box.specs.declared.object.Object.{Object}
use Rattle.rt_plain.specs.declared.row.Row.{Row}
use Rattle.susp_list.specs.Rows.{line}
use Rattle.kernel_tables.specs.declared.wait_list.WaitList.{WaitList}
use Rattle.kernel_tables.specs.ObjectRows.{sem_shown}
use Rattle.kernel_tables.specs.Tabled.{Tabled}
use Rattle.kernel_tables.proofs.ObjectRowLemmas.{placed_below, sem_row_is}
use Rattle.kernel_tables.proofs.tables.Tables.sem_row.Goals as goal

pub index-sem-requires : goal.index-sem-requires
index-sem-requires c =
    let o : Object = record { no = c.no.inside.0; name = c.at-no.result.1 } in
    let at : slice_get c.self.inside.lists.objects.sem.objects c.args.place ≡ Some o = c.at-no.ensures ∙ ap (λ n. Some (record { no = n; name = c.at-no.result.1 })) (sym c.no.view_is) in
    let slots : length c.self.inside.lists.sems.items ≡ c.self.inside.lists.objects.sem.limit = c.self.invariant.tied.slots WaitList.Sem in
    omega (arith, placed_below c.self.inside.lists.objects.sem c.args.place o (c.self.invariant.tied.lists.sound WaitList.Sem) at, slots)

pub returns : goal.returns
returns c =
    let o : Object = record { no = c.no.inside.0; name = c.at-no.result.1 } in
    let at : slice_get c.self.inside.lists.objects.sem.objects c.args.place ≡ Some o = c.at-no.ensures ∙ ap (λ n. Some (record { no = n; name = c.at-no.result.1 })) (sym c.no.view_is) in
    ap (λ (k : Tabled). option_map (sem_shown k.threads) (slice_get k.sems c.args.place)) (sym c.self.view_is)
    ∙ sem_row_is c.self.inside.threads c.self.inside.lists c.args.place o c.index-sem.result.now c.self.invariant.tied at c.index-sem.ensures
    ∙ ap (λ n. Some (Row.Sem o.name n (length (line c.index-sem.result.now.waiters)))) (sym c.value.ensures)
    ∙ ap (λ n. Some (Row.Sem o.name c.value.result n)) (sym c.len.ensures)
