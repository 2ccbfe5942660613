use Rattle.std.proofs.Common.{◌≡◌, ◌<◌, arith, refl, ap, ◌∙◌, length}
use Rattle.std.proofs.lemmas.Grind.{common_steps}
use Rattle.rt_base.specs.declared.codes.Code.{Code}
use Rattle.rt_plain.proofs.kernel.TallyLemmas.{all-weaker}
use Rattle.mutex_tables.specs.MutexTabled.{MutexTabled}
use Rattle.rt_kernel.specs.View.{state_of}
use Rattle.rt_kernel.proofs.DoesLemmas.{does_by}
use Rattle.rt_kernel.proofs.QueueCallLemmas.{deletes}
use Rattle.rt_kernel.proofs.WakeLemmas.{woken-length}
use Rattle.rt_kernel.proofs.state.State.queue_delete.Goals as goal

pub follow_waited-requires-clause-there : goal.follow_waited-requires-clause-there
follow_waited-requires-clause-there c =
    let delete = c.if-not-delete_queue.ensures in
    let same : length c.delete_queue.new.self.threads ≡ length c.args.self.now.tables.threads = ap (λ (k : MutexTabled). length k.threads) delete.state ∙ woken-length Code.Error c.delete_queue.new.woken c.args.self.now.tables.threads in
    all-weaker (λ t. t < length c.args.self.now.tables.threads) (λ t. t < length c.delete_queue.new.self.threads) c.delete_queue.new.woken (λ t there. omega (arith, there, same)) (deletes (state_of c.args.self.now) c.args.name.now c.delete_queue.new.woken delete.answer delete.woken).1

pub returns : goal.returns
returns c =
    let delete = c.if-not-delete_queue.ensures in
    let same : length c.delete_queue.new.self.threads ≡ length c.args.self.now.tables.threads = ap (λ (k : MutexTabled). length k.threads) delete.state ∙ woken-length Code.Error c.delete_queue.new.woken c.args.self.now.tables.threads in
    does_by (deletes (state_of c.args.self.now) c.args.name.now c.delete_queue.new.woken delete.answer delete.woken).0 (grind (arith, common_steps))
