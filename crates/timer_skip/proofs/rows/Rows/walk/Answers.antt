use Rattle.std.proofs.Common.{refl, arith}
use Rattle.timer_skip.specs.Firing.{armed_row}
use Rattle.timer_skip.proofs.Levels.{reached_first, reached_more, stop_at_end, stop_at_last}
use Rattle.timer_skip.proofs.rows.Rows.walk.Goals as goal

pub loop-init : goal.loop-init
loop-init g c = reached_first c.args.self.now c.args.level (armed_row c.args.self.now.tick c.args.row.now) c.args.from c.requires.linked c.requires.from

pub returns-in_default : goal.returns-in_default
returns-in_default g c = stop_at_end c.args.self.now c.args.level (armed_row c.args.self.now.tick c.args.row.now) c.loop.last c.loop.counter c.requires.level c.requires.linked c.loop.invariant c.in_default.ensures.goes

pub loop-preserved : goal.loop-preserved
loop-preserved g c =
    reached_more c.args.self.now c.args.level (armed_row c.args.self.now.tick c.args.row.now) c.loop.last c.loop.counter c.in-Some.next c.requires.level c.requires.linked c.loop.invariant c.in-Some.ensures.goes (c.in-Some.ensures.before c.in-Some.next refl)

pub returns : goal.returns
returns g c = stop_at_last c.args.self.now c.args.level (armed_row c.args.self.now.tick c.args.row.now) c.loop.last c.loop.counter c.requires.linked c.loop.invariant (omega arith)
