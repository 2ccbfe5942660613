use Rattle.rt_kernel.proofs.RetryCallLemmas.{retry-acts}
use Rattle.rt_kernel.proofs.state.State.wake_to_retry.Goals as goal

pub returns-clause-acts : goal.returns-clause-acts
returns-clause-acts c =
    retry-acts c.args.self.now c.activate_to_retry.new.self c.disarm_wait.new.self c.args.out.now c.push.new.self c.args.t c.wait_due.result c.name.result c.wait_due.ensures c.activate_to_retry.ensures c.disarm_wait.ensures c.name.ensures c.push.ensures.items c.push.ensures.room
