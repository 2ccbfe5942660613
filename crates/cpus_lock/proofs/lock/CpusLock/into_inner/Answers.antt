use Rattle.std.proofs.Common.{rules, ◌≡◌, arith}
use Rattle.cpus_lock.proofs.Gathered.{has_cores, roots_back, logs_back}
use Rattle.cpus_lock.proofs.lock.CpusLock.into_inner.Goals as goal

pub close-requires-clause-all : goal.close-requires-clause-all
close-requires-clause-all g c core less =
    let seat = c.gather-seat.result in
    let same : c.self.inside.table.cores ≡ c.args.self.cores = search rules in
    has_cores seat.table_id c.args.passes seat.me.0 c.gather-seat.ensures.took core (c.requires.all_cores core (omega (arith, less, same)))

pub returns-clause-root : goal.returns-clause-root
returns-clause-root g c =
    let table = c.self.inside.table in
    let seat = c.gather-seat.result in
    roots_back g.K.Nested table.cores table.table.shared.key.value.value seat.table_id c.args.passes seat.me.0 c.close.result c.gather-seat.ensures.took c.close.ensures

pub returns-clause-log : goal.returns-clause-log
returns-clause-log g c =
    let table = c.self.inside.table in
    let seat = c.gather-seat.result in
    logs_back g.K.Nested table.cores table.table.shared.key.value.value seat.table_id c.args.passes seat.me.0 c.close.result c.gather-seat.ensures.took c.close.ensures
