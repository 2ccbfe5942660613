use Rattle.std.proofs.Common.{◌∙◌, arith, length, is_some, ap}
use Rattle.kernel_tables.specs.Tabled.{found_event}
use Rattle.mutex_tables.specs.MutexTabled.{MutexTabled}
use Rattle.mutex_tables.proofs.BaseLemmas.{length-based}
use Rattle.mutex_tables.proofs.ObjectLemmas.{send-keeps, sent-seen, woken-same, not-deleted}
use Rattle.mutex_tables.proofs.tables.MutexTables.send.Goals as goal

pub invariant_of-self : goal.invariant_of-self
invariant_of-self c =
    send-keeps c.self.inside c.send.new.self c.args.name.now c.args.mask c.send.result c.self.invariant
    (record { answered = c.send.ensures.answer; missing = c.send.ensures.missing; state = c.send.ensures.state })

pub returns-clause-answer : goal.returns-clause-answer
returns-clause-answer c = c.send.ensures.answer ∙ ap (λ (v : MutexTabled). is_some (found_event v.events c.args.name.now)) c.self.view_is

pub returns-clause-missing : goal.returns-clause-missing
returns-clause-missing c = not-deleted c.self.inside c.args.self.now c.send.new.self c.send.result c.self.view_is c.send.ensures.missing

pub returns-clause-woken : goal.returns-clause-woken
returns-clause-woken c event found =
    c.send.ensures.woken event (ap (λ (v : MutexTabled). found_event v.events c.args.name.now) c.self.view_is ∙ found)
    ∙ woken-same c.self.inside c.args.self.now event c.args.mask c.self.view_is c.self.invariant

pub returns-clause-state : goal.returns-clause-state
returns-clause-state c event found =
    sent-seen c.self.inside c.args.self.now c.send.new.self event c.args.mask c.self.view_is c.self.invariant
    (c.send.ensures.state event (ap (λ (v : MutexTabled). found_event v.events c.args.name.now) c.self.view_is ∙ found))

pub returns-clause-few : goal.returns-clause-few
returns-clause-few c event found = omega (arith, c.send.ensures.few event (ap (λ (v : MutexTabled). found_event v.events c.args.name.now) c.self.view_is ∙ found), length-based c.self.inside.bases.items c.self.inside.tables.threads, ap (λ (v : MutexTabled). length v.threads) c.self.view_is)
