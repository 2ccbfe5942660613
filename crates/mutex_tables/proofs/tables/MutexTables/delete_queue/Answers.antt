use Rattle.std.proofs.Common.{ℕ, ◌∙◌, ◌++◌, List, arith, length, is_some, ap}
use Rattle.ipc_queues.specs.declared.ends.End.{End}
use Rattle.kernel_tables.specs.Tabled.{found_queue}
use Rattle.mutex_tables.specs.MutexTabled.{MutexTabled}
use Rattle.mutex_tables.proofs.BaseLemmas.{length-based}
use Rattle.mutex_tables.proofs.EndLemmas.{message-seens, queue-deleted-keeps, queue-deleted-state}
use Rattle.mutex_tables.proofs.ObjectLemmas.{not-deleted}
use Rattle.mutex_tables.proofs.tables.MutexTables.delete_queue.Goals as goal

pub invariant_of-self : goal.invariant_of-self
invariant_of-self c =
    queue-deleted-keeps c.self.inside c.delete_queue.new.self c.args.name.now c.delete_queue.new.woken c.delete_queue.result c.self.invariant
    (record { answered = c.delete_queue.ensures.answer; missing = c.delete_queue.ensures.missing; waiters_are = c.delete_queue.ensures.woken; state = c.delete_queue.ensures.state })

pub returns-clause-answer : goal.returns-clause-answer
returns-clause-answer c = c.delete_queue.ensures.answer ∙ ap (λ (v : MutexTabled). is_some (found_queue v.queues c.args.name.now)) c.self.view_is

pub returns-clause-missing : goal.returns-clause-missing
returns-clause-missing c = not-deleted c.self.inside c.args.self.now c.delete_queue.new.self c.delete_queue.result c.self.view_is c.delete_queue.ensures.missing

pub returns-clause-woken : goal.returns-clause-woken
returns-clause-woken c queue found =
    c.delete_queue.ensures.woken queue (ap (λ (v : MutexTabled). found_queue v.queues c.args.name.now) c.self.view_is ∙ found)
    ∙ message-seens c.self.inside c.args.self.now queue c.self.view_is c.self.invariant

pub returns-clause-state : goal.returns-clause-state
returns-clause-state c = queue-deleted-state c.self.inside c.args.self.now c.delete_queue.new.self c.args.name.now c.delete_queue.new.woken c.delete_queue.result c.self.view_is c.self.invariant c.delete_queue.ensures.state

pub returns-clause-few : goal.returns-clause-few
returns-clause-few c = omega (arith, c.delete_queue.ensures.few, length-based c.self.inside.bases.items c.self.inside.tables.threads, ap (λ (v : MutexTabled). length v.threads) c.self.view_is)
