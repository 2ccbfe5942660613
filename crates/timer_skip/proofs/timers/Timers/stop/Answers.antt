use Rattle.std.proofs.Common.{◌∙◌, sym, ap}
use Rattle.timer_skip.specs.Armed.{Armed, is_armed, is_row_of, by_number, without}
use Rattle.timer_skip.specs.Links.{line}
use Rattle.timer_skip.proofs.Starts.{any-by_number}
use Rattle.timer_skip.proofs.Lines.{by_start-take_out, armed-is}
use Rattle.timer_skip.proofs.timers.Timers.stop.Goals as goal

pub returns-clause-armed : goal.returns-clause-armed
returns-clause-armed g c =
    c.remove.ensures.answer ∙ sym (any-by_number (is_row_of c.args.no) (line c.self.inside.rows)) ∙ ap (λ (a : Armed). is_armed c.args.no a.rows) c.self.view_is

pub returns-clause-rows : goal.returns-clause-rows
returns-clause-rows g c =
    armed-is _ _ _ _ _ _ c.remove.ensures.tick c.remove.ensures.count
    (ap by_number c.remove.ensures.line ∙ by_start-take_out c.args.no (line c.self.inside.rows) c.self.invariant.in_order.in_order)
    ∙ ap (λ (a : Armed). record a { rows = without c.args.no a.rows }) c.self.view_is
