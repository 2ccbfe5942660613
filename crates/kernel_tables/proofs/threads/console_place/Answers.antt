use Rattle.std.proofs.Common.{rules, ◌∙◌}
use Rattle.std.proofs.lemmas.Iterator.{YieldsList-from_slice}
use Rattle.std.proofs.lemmas.Iterator.Search.{position_from_yields_List}
use Rattle.std.proofs.lemmas.Iterator.Adapters.{position_from-zero}
use Rattle.rt_plain.specs.kernel.DeviceCalls.{waits_at_console}
use Rattle.kernel_tables.specs.declared.threads.Thread.{Thread as ThreadRow}
use Rattle.kernel_tables.specs.Threads.{plain_thread}
use Rattle.kernel_tables.proofs.threads.console_place.Goals as goal

pub returns-clause-found : goal.returns-clause-found
returns-clause-found c =
    position_from_yields_List (λ (row : ThreadRow). waits_at_console (plain_thread row).stage) _ _ _ c.position.ensures.ran (YieldsList-from_slice c.args.threads.now cc) (λ x b q k. search rules)
    ∙ position_from-zero (λ (row : ThreadRow). waits_at_console (plain_thread row).stage) c.args.threads.now
