use Rattle.std.proofs.Common.{refl, arith, ap, length}
use Rattle.kernel_step.proofs.BuiltLemmas.{room-enough}
use Rattle.kernel_step.proofs.RestLemmas.{undue}
use Rattle.kernel_step.proofs.TickLemmas.{tick_waits, tick_lines, tick_made}
use Rattle.kernel_step.proofs.engine.Engine.tick_step.Goals as goal

pub returns-then-is_nested-clause-gives : goal.returns-then-is_nested-clause-gives
returns-then-is_nested-clause-gives g c = (tick_waits c.args.self.now c.requires.going.live c.know_kernel.ensures.alone c.if-is_nested.ensures, refl, c.requires.empty)

pub pass_tick-requires-clause-none : goal.pass_tick-requires-clause-none
pass_tick-requires-clause-none g c = undue c.args.self.now.kernel.state c.requires.going.rows

pub pass_tick-requires-clause-moment : goal.pass_tick-requires-clause-moment
pass_tick-requires-clause-moment g c = omega (arith, c.requires.going.early, c.requires.going.built.kernel.until)

pub pass_tick-requires-clause-room : goal.pass_tick-requires-clause-room
pass_tick-requires-clause-room g c = omega (arith, ap length c.requires.empty, (room-enough c.args.self.now.kernel.board c.requires.going.built).rows, c.requires.room)

pub pass_tick-requires-clause-number : goal.pass_tick-requires-clause-number
pass_tick-requires-clause-number g c = omega (arith, c.requires.going.built.kernel.few, c.requires.going.built.kernel.few_timers, c.requires.going.number)

pub pass_tick-requires-clause-fits : goal.pass_tick-requires-clause-fits
pass_tick-requires-clause-fits g c = omega (arith, ap length c.requires.empty, tick_lines c.args.self.now c.args.out.now.room c.requires.going.live c.know_kernel.ensures.alone c.if-is_nested.ensures c.requires.fits)

pub returns-clause-gives : goal.returns-clause-gives
returns-clause-gives g c = tick_made c.args.self.now c.pass_tick.new.self c.args.out.now.items c.pass_tick.new.out.items c.requires.going.live c.know_kernel.ensures.alone c.if-is_nested.ensures c.requires.empty c.pass_tick.ensures.state c.pass_tick.ensures.lines
