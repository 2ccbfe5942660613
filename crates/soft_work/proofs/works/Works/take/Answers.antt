use Rattle.std.proofs.Common.{◌∙◌, List, ℕ, ap}
use Rattle.soft_work.proofs.LinkLemmas.{first_seen}
use Rattle.soft_work.proofs.works.Works.take.Goals as goal

pub returns-clause-rest : goal.returns-clause-rest
returns-clause-rest c =
    let first = first_seen _ _ _ _ _ c.index-first.result.now c.args.self.now c.self.invariant c.self.view_is c.index-first.ensures c.if-first-self.false in
    c.unlink.ensures ∙ ap (λ (ys : List ℕ). record c.args.self.now { works = ys }) first.rest_is
