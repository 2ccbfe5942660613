use Rattle.std.proofs.Common.{refl, sym}
use Rattle.kernel_step.proofs.RestLemmas.{rest-busy, rest-halts}
use Rattle.kernel_step.proofs.engine.Engine.rest.Goals as goal

pub returns-then-busy-clause-gives : goal.returns-then-busy-clause-gives
returns-then-busy-clause-gives g c = (rest-busy c.args.self.now.kernel.board c.args.self.now.kernel.state c.if-busy.ensures, refl, c.requires.empty)

pub returns-in-Some-clause-gives : goal.returns-in-Some-clause-gives
returns-in-Some-clause-gives g c = (rest-halts c.args.self.now.kernel.board c.args.self.now.kernel.state c.mode-mode.result c.in-Some.halt c.if-busy.ensures c.mode-mode.ensures c.in-Some.ensures, refl, c.requires.empty)
