use Rattle.std.proofs.Common.{◌∙◌, refl, ap, false}
use Rattle.rt_plain.specs.kernel.Sound.{is_active}
use Rattle.mutex_tables.specs.MutexTabled.{MutexTabled}
use Rattle.kernel_tables.specs.Threads.{row_at}
use Rattle.rt_kernel.proofs.StageLemmas.{stage-same}
use Rattle.rt_kernel.proofs.state.State.preempt.Goals as goal

pub enter_last-requires-clause-active : goal.enter_last-requires-clause-active
enter_last-requires-clause-active c = ap (λ (k : MutexTabled). is_active (row_at k.threads c.args.r).stage) c.unmark.ensures ∙ stage-same c.args.self.now.tables.threads c.args.r (record (row_at c.args.self.now.tables.threads c.args.r) { marked = false }) refl ∙ c.requires.active

pub enter_first-requires-clause-active : goal.enter_first-requires-clause-active
enter_first-requires-clause-active c = ap (λ (k : MutexTabled). is_active (row_at k.threads c.args.r).stage) c.unmark.ensures ∙ stage-same c.args.self.now.tables.threads c.args.r (record (row_at c.args.self.now.tables.threads c.args.r) { marked = false }) refl ∙ c.requires.active
