use Rattle.std.proofs.Common.{◌∙◌, refl, ap}
use Rattle.rt_plain.specs.kernel.Priority.{awaited_mutex}
use Rattle.rt_plain.specs.kernel.State.{Stage, is_closed}
use Rattle.rt_plain.specs.kernel.Sound.{is_active}
use Rattle.rt_plain.proofs.kernel.Invariant.{waiting-open}
use Rattle.mutex_tables.specs.MutexTabled.{MutexTabled}
use Rattle.kernel_tables.specs.Threads.{row_at}
use Rattle.rt_kernel.proofs.StageLemmas.{any-same, waiting_idle}
use Rattle.rt_kernel.proofs.state.State.wake.Goals as goal

pub activate-requires-clause-idle : goal.activate-requires-clause-idle
activate-requires-clause-idle c = ap (λ (k : MutexTabled). is_active (row_at k.threads c.args.t).stage) c.set_code.ensures ∙ any-same is_active c.args.self.now.tables.threads c.args.t c.args.t (record (row_at c.args.self.now.tables.threads c.args.t) { code = c.args.code }) refl ∙ waiting_idle (row_at c.args.self.now.tables.threads c.args.t).stage c.requires.waits

pub activate-requires-clause-live : goal.activate-requires-clause-live
activate-requires-clause-live c = ap (λ (k : MutexTabled). is_closed (row_at k.threads c.args.t).stage) c.set_code.ensures ∙ any-same is_closed c.args.self.now.tables.threads c.args.t c.args.t (record (row_at c.args.self.now.tables.threads c.args.t) { code = c.args.code }) refl ∙ waiting-open (row_at c.args.self.now.tables.threads c.args.t).stage c.requires.waits

pub activate-requires-clause-apart : goal.activate-requires-clause-apart
activate-requires-clause-apart c = ap (λ (k : MutexTabled). awaited_mutex (row_at k.threads c.args.t).stage) c.set_code.ensures ∙ any-same awaited_mutex c.args.self.now.tables.threads c.args.t c.args.t (record (row_at c.args.self.now.tables.threads c.args.t) { code = c.args.code }) refl ∙ c.requires.apart
