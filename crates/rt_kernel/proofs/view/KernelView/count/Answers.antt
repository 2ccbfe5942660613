use Rattle.std.proofs.Common.{arith, ap}
use Rattle.rt_kernel.specs.Limits.{ObjectLimits}
use Rattle.rt_kernel.proofs.view.KernelView.count.Goals as goal

pub returns-in-Mailbox-clause-few : goal.returns-in-Mailbox-clause-few
returns-in-Mailbox-clause-few c = omega (arith, c.mailbox_count.ensures.few, ap (λ (l : ObjectLimits). l.mailbox) c.self.invariant.limits, c.self.invariant.built.sized.mailboxes)

pub returns-in-MsgQueue-clause-few : goal.returns-in-MsgQueue-clause-few
returns-in-MsgQueue-clause-few c = omega (arith, c.queue_count.ensures.few, ap (λ (l : ObjectLimits). l.queue) c.self.invariant.limits, c.self.invariant.built.sized.queues)

pub returns-in-Mutex-clause-few : goal.returns-in-Mutex-clause-few
returns-in-Mutex-clause-few c = omega (arith, c.mutex_count.ensures.few, ap (λ (l : ObjectLimits). l.mutex) c.self.invariant.limits, c.self.invariant.built.sized.mutex_limit)
