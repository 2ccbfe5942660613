use Rattle.std.proofs.Common.{◌∙◌, ap}
use Rattle.std.specs.Option.{option_map}
use Rattle.std.specs.Prelude.{nat_lt}
use Rattle.kernel_tables.specs.Tabled.{Tabled, found_sem, sems_taken}
use Rattle.mutex_tables.specs.MutexTabled.{MutexTabled}
use Rattle.mutex_tables.proofs.SeenLemmas.{keeps-same}
use Rattle.mutex_tables.proofs.ObjectLemmas.{seen_by}
use Rattle.mutex_tables.proofs.tables.MutexTables.take_sem.Goals as goal

pub invariant_of-self : goal.invariant_of-self
invariant_of-self c = keeps-same c.self.inside c.take_sem.new.self c.self.invariant (ap (λ (x : Tabled). x.threads) c.take_sem.ensures.state) (ap (λ (x : Tabled). x.levels) c.take_sem.ensures.state)

pub returns-clause-answer : goal.returns-clause-answer
returns-clause-answer c = c.take_sem.ensures.answer ∙ ap (λ (v : MutexTabled). option_map (λ sem. nat_lt 0 sem.value) (found_sem v.sems c.args.name.now)) c.self.view_is

pub returns-clause-state : goal.returns-clause-state
returns-clause-state c = ap (seen_by c.self.inside) c.take_sem.ensures.state ∙ ap (λ (v : MutexTabled). record v { sems = sems_taken v.sems (found_sem v.sems c.args.name.now) }) c.self.view_is
