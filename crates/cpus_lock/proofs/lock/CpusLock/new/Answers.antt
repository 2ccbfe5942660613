use Rattle.std.proofs.Common.{rules, ◌≡◌, List, reverse, sym, subst, ◌∙◌}
use Rattle.std.specs.List.{All, Contains}
use Rattle.cpus_lock.specs.Passes.{LockPass, cores_of}
use Rattle.cpus_lock.specs.Seats.{lock_of, TookIn}
use Rattle.cpus_lock.proofs.Gathered.{has_cores, untried_in, first_cores, first_untried, IsUntriedPass}
use Rattle.cpus_lock.proofs.lock.CpusLock.new.Goals as goal

pub close-requires-clause-all : goal.close-requires-clause-all
close-requires-clause-all g c core less =
    let passes = reverse c.deal-row.result.items in
    let seat = c.in-Err.seat in
    let made = c.deal-row.ensures.passes in
    let took : TookIn seat.table_id passes seat.me.0 = search rules in
    let P : List LockPass → Type 0 = λ ps. Contains (cores_of ps) core in
    has_cores seat.table_id passes seat.me.0 took core (subst P (sym made) (first_cores (lock_of c.in_ok-table.seat.table_id c.in_ok-table.table.cores) _ _ core less))

pub returns-in-Err-clause-refused : goal.returns-in-Err-clause-refused
returns-in-Err-clause-refused g c =
    let passes = reverse c.deal-row.result.items in
    let seat = c.in-Err.seat in
    let made = c.deal-row.ensures.passes in
    let took : TookIn seat.table_id passes seat.me.0 = search rules in
    let P : List LockPass → Type 0 = λ ps. All IsUntriedPass ps in
    let untried = untried_in seat.table_id passes seat.me.0 took (subst P (sym made) (first_untried (lock_of c.in_ok-table.seat.table_id c.in_ok-table.table.cores) _ _)) in
    let first : c.in_ok-table.table.table.shared.key.value.value ≡ c.args.value = search rules in
    c.close.ensures.first_is untried ∙ first
