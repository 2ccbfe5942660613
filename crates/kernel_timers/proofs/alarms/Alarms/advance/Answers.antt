use Rattle.std.proofs.Common.{rules, ◌+◌, ◌≤◌, map, ap, ◌∙◌}
use Rattle.std.proofs.lemmas.List.Elements.{All-from_recursion}
use Rattle.rt_plain.specs.kernel.Opening.{new_timer}
use Rattle.timer_skip.specs.Armed.{ArmedRow as SkipRow}
use Rattle.kernel_timers.specs.Alarmed.{AlarmsSeen}
use Rattle.kernel_timers.proofs.AlarmLemmas.{rows-ahead, advanced-kept, advanced-seen}
use Rattle.kernel_timers.proofs.alarms.Alarms.advance.Goals as goal

pub advance-requires : goal.advance-requires
advance-requires c =
    let ts = map new_timer c.self.inside.timers.items in
    (search rules, All-from_recursion (λ (r : SkipRow). c.args.n ≤ r.left) c.self.inside.rows.rows (rows-ahead c.self.inside.moment c.args.n ts c.self.inside.rows c.args.self.now c.self.view_is c.requires.ahead))

pub invariant_of-self : goal.invariant_of-self
invariant_of-self c = advanced-kept c.self.inside.moment c.args.n (map new_timer c.self.inside.timers.items) c.self.inside.rows c.advance.new.self c.advance.ensures c.self.invariant

pub returns : goal.returns
returns c =
    let ts = map new_timer c.self.inside.timers.items in
    advanced-seen c.self.inside.moment c.args.n ts c.self.inside.rows c.advance.new.self c.advance.ensures (rows-ahead c.self.inside.moment c.args.n ts c.self.inside.rows c.args.self.now c.self.view_is c.requires.ahead)
    ∙ ap (λ (s : AlarmsSeen). record s { moment = s.moment + c.args.n }) c.self.view_is
