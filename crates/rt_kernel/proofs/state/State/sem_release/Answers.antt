use Rattle.std.proofs.Common.{Some, ap, ◌∙◌, subst, arith}
use Rattle.std.proofs.lemmas.Grind.{common_steps}
use Rattle.mutex_tables.specs.Woken.{Releases}
use Rattle.rt_kernel.proofs.DoesLemmas.{does_by}
use Rattle.rt_kernel.proofs.SemCallLemmas.{release-full, release-raised, release-woke}
use Rattle.rt_kernel.proofs.state.State.sem_release.Goals as goal

pub returns-in-Full : goal.returns-in-Full
returns-in-Full c =
    let is = release-full c.args.self.now c.release_sem.new.self c.args.name.now (subst (Releases c.args.self.now.tables c.release_sem.new.self c.args.name.now) (c.in-Some.is ∙ ap (λ o. Some o) c.in-Full.is) c.release_sem.ensures) in
    does_by is.1 (grind (arith, common_steps))

pub returns-in-Raised : goal.returns-in-Raised
returns-in-Raised c =
    let is = release-raised c.args.self.now c.release_sem.new.self c.args.name.now (subst (Releases c.args.self.now.tables c.release_sem.new.self c.args.name.now) (c.in-Some.is ∙ ap (λ o. Some o) c.in-Raised.is) c.release_sem.ensures) in
    does_by is.1 (grind (arith, common_steps))

pub returns-in-Woke : goal.returns-in-Woke
returns-in-Woke c =
    let is = release-woke c.args.self.now c.release_sem.new.self c.args.name.now c.in-Woke.u (subst (Releases c.args.self.now.tables c.release_sem.new.self c.args.name.now) (c.in-Some.is ∙ ap (λ o. Some o) c.in-Woke.is) c.release_sem.ensures) in
    does_by is.1 (grind (arith, common_steps))
