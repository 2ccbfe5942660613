use Rattle.std.proofs.Common.{◌∙◌, arith, length, is_some, ap}
use Rattle.rt_plain.specs.kernel.Waiting.{takes_sem}
use Rattle.kernel_tables.specs.Tabled.{found_sem}
use Rattle.mutex_tables.specs.MutexTabled.{MutexTabled}
use Rattle.mutex_tables.proofs.BaseLemmas.{length-based}
use Rattle.mutex_tables.proofs.LineLemmas.{line-seen}
use Rattle.mutex_tables.proofs.ObjectLemmas.{sem-deleted-keeps, sem-deleted-state, not-deleted}
use Rattle.mutex_tables.proofs.tables.MutexTables.delete_sem.Goals as goal

pub invariant_of-self : goal.invariant_of-self
invariant_of-self c =
    sem-deleted-keeps c.self.inside c.delete_sem.new.self c.args.name.now c.delete_sem.new.woken c.delete_sem.result c.self.invariant
    (record { answered = c.delete_sem.ensures.answer; missing = c.delete_sem.ensures.missing; waiters_are = c.delete_sem.ensures.woken; state = c.delete_sem.ensures.state })

pub returns-clause-answer : goal.returns-clause-answer
returns-clause-answer c = c.delete_sem.ensures.answer ∙ ap (λ (v : MutexTabled). is_some (found_sem v.sems c.args.name.now)) c.self.view_is

pub returns-clause-missing : goal.returns-clause-missing
returns-clause-missing c = not-deleted c.self.inside c.args.self.now c.delete_sem.new.self c.delete_sem.result c.self.view_is c.delete_sem.ensures.missing

pub returns-clause-woken : goal.returns-clause-woken
returns-clause-woken c sem found =
    c.delete_sem.ensures.woken sem (ap (λ (v : MutexTabled). found_sem v.sems c.args.name.now) c.self.view_is ∙ found)
    ∙ line-seen c.self.inside c.args.self.now sem.order (takes_sem sem.name) c.self.view_is c.self.invariant

pub returns-clause-state : goal.returns-clause-state
returns-clause-state c = sem-deleted-state c.self.inside c.args.self.now c.delete_sem.new.self c.args.name.now c.delete_sem.new.woken c.delete_sem.result c.self.view_is c.self.invariant c.delete_sem.ensures.state

pub returns-clause-few : goal.returns-clause-few
returns-clause-few c = omega (arith, c.delete_sem.ensures.few, length-based c.self.inside.bases.items c.self.inside.tables.threads, ap (λ (v : MutexTabled). length v.threads) c.self.view_is)
