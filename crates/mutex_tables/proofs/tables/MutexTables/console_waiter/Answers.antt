use Rattle.std.proofs.Common.{◌<◌, ap, ◌∙◌, subst, length, List}
use Rattle.std.specs.Prelude.{IfSome}
use Rattle.std.specs.List.{position_from}
use Rattle.rt_plain.specs.kernel.DeviceCalls.{waits_at_console}
use Rattle.rt_plain.specs.kernel.State.{Thread}
use Rattle.mutex_tables.proofs.ShownLemmas.{console-seen, count-seen}
use Rattle.mutex_tables.proofs.tables.MutexTables.console_waiter.Goals as goal

pub returns-clause-found : goal.returns-clause-found
returns-clause-found c =
    c.console_waiter.ensures.found
    ∙ ap (λ (rows : List Thread). position_from (λ (row : Thread). waits_at_console row.stage) 0 rows) c.threads.ensures
    ∙ console-seen c.self.inside c.args.self.now c.self.view_is

pub returns-clause-there : goal.returns-clause-there
returns-clause-there c = subst (λ n. IfSome c.console_waiter.result (λ t. t < n)) (ap (λ (rows : List Thread). length rows) c.threads.ensures ∙ count-seen c.self.inside c.args.self.now c.self.view_is) c.console_waiter.ensures.there
