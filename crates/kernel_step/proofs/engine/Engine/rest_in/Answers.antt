use Rattle.std.proofs.Common.{◌≤◌, arith, refl, sym, ◌∙◌, subst}
use Rattle.rt_plain.specs.kernel.Sleeps.{Did as Happened}
use Rattle.kernel_step.specs.Did.{FitsIn}
use Rattle.kernel_step.proofs.RestLemmas.{rest-quiet, rest-sleeps, rest-waits}
use Rattle.kernel_step.proofs.engine.Engine.rest_in.Goals as goal

pub returns-then-nothing_comes-clause-gives : goal.returns-then-nothing_comes-clause-gives
returns-then-nothing_comes-clause-gives g c = (rest-quiet c.args.self.now.kernel.board c.args.self.now.kernel.state c.args.mode (sym c.requires.silent) c.requires.mode (sym c.requires.goes_on) c.if-nothing_comes.ensures, refl, c.requires.empty)

pub sleep-requires-clause-ticks : goal.sleep-requires-clause-ticks
sleep-requires-clause-ticks g c = (rest-sleeps c.args.self.now.kernel.board c.args.self.now.kernel.state c.args.mode c.in-Some.ticks (sym c.requires.silent) c.requires.mode (sym c.requires.goes_on) c.if-nothing_comes.ensures c.in-Some.ensures).length_is

pub sleep-requires-clause-some : goal.sleep-requires-clause-some
sleep-requires-clause-some g c = omega (arith, (rest-sleeps c.args.self.now.kernel.board c.args.self.now.kernel.state c.args.mode c.in-Some.ticks (sym c.requires.silent) c.requires.mode (sym c.requires.goes_on) c.if-nothing_comes.ensures c.in-Some.ensures).long, c.requires.going.built.kernel.proper.thresh)

pub sleep-requires-clause-fits : goal.sleep-requires-clause-fits
sleep-requires-clause-fits g c = subst (λ (h : Happened). FitsIn h c.args.out.now.room) (rest-sleeps c.args.self.now.kernel.board c.args.self.now.kernel.state c.args.mode c.in-Some.ticks (sym c.requires.silent) c.requires.mode (sym c.requires.goes_on) c.if-nothing_comes.ensures c.in-Some.ensures).did c.requires.fits

pub returns-in-Some-clause-gives : goal.returns-in-Some-clause-gives
returns-in-Some-clause-gives g c = (rest-sleeps c.args.self.now.kernel.board c.args.self.now.kernel.state c.args.mode c.in-Some.ticks (sym c.requires.silent) c.requires.mode (sym c.requires.goes_on) c.if-nothing_comes.ensures c.in-Some.ensures).did ∙ c.sleep.ensures.did

pub returns-in-None-clause-gives : goal.returns-in-None-clause-gives
returns-in-None-clause-gives g c = (rest-waits c.args.self.now.kernel.board c.args.self.now.kernel.state c.args.mode (sym c.requires.silent) c.requires.mode (sym c.requires.goes_on) c.if-nothing_comes.ensures c.in-None.ensures, refl, c.requires.empty)
