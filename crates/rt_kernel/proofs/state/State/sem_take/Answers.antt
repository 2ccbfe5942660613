use Rattle.std.proofs.Common.{List, Some, sym, ap, ◌∙◌, arith}
use Rattle.std.proofs.lemmas.Grind.{common_steps}
use Rattle.rt_plain.specs.kernel.State.{Sem}
use Rattle.kernel_tables.specs.Tabled.{found_sem}
use Rattle.mutex_tables.specs.MutexTabled.{MutexTabled}
use Rattle.rt_kernel.specs.Caller.{plain_by}
use Rattle.rt_kernel.specs.View.{state_of}
use Rattle.rt_kernel.proofs.DoesLemmas.{does_by}
use Rattle.rt_kernel.proofs.SemCallLemmas.{none-taken, takes_later}
use Rattle.rt_kernel.proofs.state.State.sem_take.Goals as goal

pub returns-in-Some-false : goal.returns-in-Some-false
returns-in-Some-false c =
    let old : MutexTabled = c.args.self.now.tables in
    let is = sym c.take_sem.ensures.answer ∙ c.in-Some-false.is ∙ ap (λ b. Some b) c.in-Some-false.field-0-test in
    let kept = c.take_sem.ensures.state ∙ ap (λ (sems : List Sem). record old { sems = sems }) (none-taken old.sems (found_sem old.sems c.args.name.now) is) in
    does_by (sym (takes_later (state_of c.args.self.now) c.args.name.now c.copy.result c.args.timeout (plain_by (state_of c.args.self.now) c.args.by) c.copy.ensures is)) (grind (arith, common_steps))
