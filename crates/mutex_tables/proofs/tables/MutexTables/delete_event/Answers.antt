use Rattle.std.proofs.Common.{◌∙◌, arith, length, is_some, ap}
use Rattle.rt_plain.specs.kernel.Waiting.{receives_event}
use Rattle.kernel_tables.specs.Tabled.{found_event}
use Rattle.mutex_tables.specs.MutexTabled.{MutexTabled}
use Rattle.mutex_tables.proofs.BaseLemmas.{length-based}
use Rattle.mutex_tables.proofs.LineLemmas.{line-seen}
use Rattle.mutex_tables.proofs.ObjectLemmas.{event-deleted-keeps, event-deleted-state, not-deleted}
use Rattle.mutex_tables.proofs.tables.MutexTables.delete_event.Goals as goal

pub invariant_of-self : goal.invariant_of-self
invariant_of-self c =
    event-deleted-keeps c.self.inside c.delete_event.new.self c.args.name.now c.delete_event.new.woken c.delete_event.result c.self.invariant
    (record { answered = c.delete_event.ensures.answer; missing = c.delete_event.ensures.missing; waiters_are = c.delete_event.ensures.woken; state = c.delete_event.ensures.state })

pub returns-clause-answer : goal.returns-clause-answer
returns-clause-answer c = c.delete_event.ensures.answer ∙ ap (λ (v : MutexTabled). is_some (found_event v.events c.args.name.now)) c.self.view_is

pub returns-clause-missing : goal.returns-clause-missing
returns-clause-missing c = not-deleted c.self.inside c.args.self.now c.delete_event.new.self c.delete_event.result c.self.view_is c.delete_event.ensures.missing

pub returns-clause-woken : goal.returns-clause-woken
returns-clause-woken c event found =
    c.delete_event.ensures.woken event (ap (λ (v : MutexTabled). found_event v.events c.args.name.now) c.self.view_is ∙ found)
    ∙ line-seen c.self.inside c.args.self.now event.order (receives_event event.name) c.self.view_is c.self.invariant

pub returns-clause-state : goal.returns-clause-state
returns-clause-state c = event-deleted-state c.self.inside c.args.self.now c.delete_event.new.self c.args.name.now c.delete_event.new.woken c.delete_event.result c.self.view_is c.self.invariant c.delete_event.ensures.state

pub returns-clause-few : goal.returns-clause-few
returns-clause-few c = omega (arith, c.delete_event.ensures.few, length-based c.self.inside.bases.items c.self.inside.tables.threads, ap (λ (v : MutexTabled). length v.threads) c.self.view_is)
