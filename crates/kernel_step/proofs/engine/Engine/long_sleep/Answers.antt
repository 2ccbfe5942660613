use Rattle.std.proofs.Common.{◌≤◌, arith}
use Rattle.kernel_step.proofs.RestLemmas.{sleep-length, undue}
use Rattle.kernel_step.proofs.engine.Engine.long_sleep.Goals as goal

pub returns : goal.returns
returns c =
    sleep-length c.args.self.now.kernel.board c.args.self.now.kernel.state c.args.self.now.clock c.ticks_to_end-until.result c.longest-most.result c.threshold-thresh.result c.next_due-due.result c.ticks_to_arrival-arrival.result c.length.result c.requires.clock c.ticks_to_end-until.ensures.last c.longest-most.ensures c.threshold-thresh.ensures
    c.next_due-due.ensures.least c.ticks_to_arrival-arrival.ensures.least c.length.ensures

pub length-requires-clause-due_ahead : goal.length-requires-clause-due_ahead
length-requires-clause-due_ahead c = c.next_due-due.ensures.ahead (undue c.args.self.now.kernel.state c.requires.rows)

pub length-requires-clause-longest : goal.length-requires-clause-longest
length-requires-clause-longest c = omega (arith, c.longest-most.ensures, c.requires.built.clocked.some_longest)
