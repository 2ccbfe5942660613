use Rattle.std.proofs.Common.{arith}
use Rattle.kernel_timers.proofs.AlarmLemmas.{opened-kept, opened-seen}
use Rattle.kernel_timers.proofs.alarms.Alarms.open.Goals as goal

pub invariant_of-result : goal.invariant_of-result
invariant_of-result c = opened-kept c.args.defs.now c.in_ok-timers.timers.items c.in_ok-rows.rows c.len.result c.in_ok-timers.ensures c.in_ok-rows.ensures (omega (arith, c.len.ensures, c.in_ok-timers.timers.ok)) c.requires

pub returns : goal.returns
returns c = opened-seen c.args.defs.now c.in_ok-timers.timers.items c.in_ok-rows.rows c.len.result c.in_ok-timers.ensures c.in_ok-rows.ensures
