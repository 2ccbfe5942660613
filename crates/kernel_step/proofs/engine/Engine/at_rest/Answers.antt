use Rattle.std.proofs.Common.{◌≡◌, arith, ◌∙◌}
use Rattle.kernel_step.proofs.RestLemmas.{idle-rests}
use Rattle.kernel_step.proofs.engine.Engine.at_rest.Goals as goal

pub rest-requires-clause-fits : goal.rest-requires-clause-fits
rest-requires-clause-fits g c new lines is = c.requires.fits new lines (idle-rests c.args.self.now.kernel.board c.args.self.now.kernel.state c.args.core (omega (arith, c.if-core-eq0.true, c.core.view_is)) c.if-all_idle.ensures ∙ is)

pub returns-then-all_idle-clause-count : goal.returns-then-all_idle-clause-count
returns-then-all_idle-clause-count g c = c.rest.ensures.count c.args.core
