use Rattle.std.proofs.Common.{ℕ, ◌≡◌, ◌∙◌, ◌<◌, arith, List, Some, sym, ap, subst, length, slice_get}
use Rattle.std.specs.Option.{option_map}
use Rattle.rt_plain.specs.declared.row.Row.{Row}
use Rattle.rt_plain.specs.kernel.Rows.{mutex_row}
use Rattle.mutex_tables.specs.MutexTabled.{MutexTabled, based, plain_state}
use Rattle.mutex_tables.proofs.BaseLemmas.{length-based}
use Rattle.mutex_tables.proofs.RenewLemmas.{members-count}
use Rattle.mutex_tables.proofs.MutexRowLemmas.{has-at, mutex-row}
use Rattle.mutex_tables.proofs.tables.MutexTables.mutex_row.Goals as goal

pub owner_name-owner-requires-clause-mutex : goal.owner_name-owner-requires-clause-mutex
owner_name-owner-requires-clause-mutex c =
    c.self.invariant.graph.there c.at-no.result.0 ∙ has-at c.self.inside.names.mutex.objects c.args.place (record { no = c.at-no.result.0; name = c.at-no.result.1 }) c.at-no.ensures

pub owner_name-owner-requires-clause-members : goal.owner_name-owner-requires-clause-members
owner_name-owner-requires-clause-members c =
    let k = c.self.inside in
    members-count (based k.bases.items k.tables.threads) k.names.mutex k.graph c.self.invariant.graph ∙ length-based k.bases.items k.tables.threads

pub hold-hold-requires : goal.hold-hold-requires
hold-hold-requires c =
    c.self.invariant.graph.there c.at-no.result.0 ∙ has-at c.self.inside.names.mutex.objects c.args.place (record { no = c.at-no.result.0; name = c.at-no.result.1 }) c.at-no.ensures

pub ceiling-ceiling-requires : goal.ceiling-ceiling-requires
ceiling-ceiling-requires c =
    c.self.invariant.graph.there c.at-no.result.0 ∙ has-at c.self.inside.names.mutex.objects c.args.place (record { no = c.at-no.result.0; name = c.at-no.result.1 }) c.at-no.ensures

pub waiters-waiters-requires : goal.waiters-waiters-requires
waiters-waiters-requires c =
    c.self.invariant.graph.there c.at-no.result.0 ∙ has-at c.self.inside.names.mutex.objects c.args.place (record { no = c.at-no.result.0; name = c.at-no.result.1 }) c.at-no.ensures

pub returns : goal.returns
returns c =
    let k = c.self.inside in
    let name : List ℕ = c.at-no.result.1 in
    sym (ap (λ (v : MutexTabled). option_map (mutex_row (plain_state v)) (slice_get v.mutexes c.args.place)) c.self.view_is)
    ∙ mutex-row k c.args.place c.ceiling-ceiling.result (record { no = c.at-no.result.0; name = c.at-no.result.1 }) c.self.invariant c.at-no.ensures c.ceiling-ceiling.ensures
    ∙ (λ j. Some (Row.Mutex name (sym c.owner_name-owner.ensures j) (sym c.hold-hold.ensures j) c.ceiling-ceiling.result (sym c.waiters-waiters.ensures j)))
