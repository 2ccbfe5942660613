use Rattle.std.proofs.Common.{ℕ, ◌≡◌, ◌+◌, Option, Some, None, map, sym, ap, ◌∙◌}
use Rattle.std.specs.Option.{option_map}
use Rattle.rt_plain.specs.kernel.Opening.{new_timer}
use Rattle.rt_plain.specs.kernel.State.{OfThread}
use Rattle.timer_skip.specs.Armed.{left_of}
use Rattle.kernel_timers.specs.Alarmed.{AlarmsSeen, due_of}
use Rattle.kernel_timers.proofs.AlarmLemmas.{wait-due}
use Rattle.kernel_timers.proofs.alarms.Alarms.wait_due.Goals as goal

pub returns-in_err-left : goal.returns-in_err-left
returns-in_err-left c =
    let m : ℕ = c.self.inside.moment in
    let ts = map new_timer c.self.inside.timers.items in
    let none : left_of c.thread_no.result c.self.inside.rows.rows ≡ None = sym c.left.ensures ∙ c.in_err-left.was in
    c.from_residual.ensures
    ∙ ap (option_map (λ n. m + n)) (sym none)
    ∙ wait-due m ts c.self.inside.rows c.args.t c.thread_no.result c.self.invariant c.thread_no.ensures c.requires.there
    ∙ ap (λ (s : AlarmsSeen). due_of (OfThread c.args.t) s.rows) c.self.view_is

pub returns : goal.returns
returns c =
    let m : ℕ = c.self.inside.moment in
    let ts = map new_timer c.self.inside.timers.items in
    let some : left_of c.thread_no.result c.self.inside.rows.rows ≡ Some c.in_ok-left.left = sym c.left.ensures ∙ c.in_ok-left.was in
    ap (option_map (λ n. m + n)) (sym some)
    ∙ wait-due m ts c.self.inside.rows c.args.t c.thread_no.result c.self.invariant c.thread_no.ensures c.requires.there
    ∙ ap (λ (s : AlarmsSeen). due_of (OfThread c.args.t) s.rows) c.self.view_is
