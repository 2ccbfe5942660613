use Rattle.std.proofs.Common.{◌∙◌, sym}
use Rattle.soft_work.proofs.LinkLemmas.{nothing_dropped}
use Rattle.soft_work.proofs.works.Works.drop_one.Goals as goal

pub returns-then-not-holds-clause-works : goal.returns-then-not-holds-clause-works
returns-then-not-holds-clause-works c = nothing_dropped c.args.timer c.args.self.now (sym c.holds.ensures.held ∙ c.if-not-holds.true)
