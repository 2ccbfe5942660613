use Rattle.std.proofs.Common.{◌+◌, arith, ap}
use Rattle.pm_core.specs.Clock.{Clock}
use Rattle.rt_plain.specs.kernel.State.{State}
use Rattle.kernel_step.proofs.RestLemmas.{on-time}
use Rattle.kernel_step.proofs.engine.Engine.skip.Goals as goal

pub advance-requires : goal.advance-requires
advance-requires c = omega (arith, ap (λ (k : Clock). k.moment) c.requires.clock, c.requires.moment)

pub returns-clause-clock : goal.returns-clause-clock
returns-clause-clock c = on-time c.args.self.now.clock c.advance.new.self c.args.self.now.kernel.board c.skip.new.self.board c.args.self.now.kernel.state c.skip.new.self.state c.args.n c.requires.clock c.advance.ensures c.skip.ensures.board (ap (λ (s : State). s.moment) c.skip.ensures.state)
