use Rattle.std.proofs.Common.{rules, ◌≡◌, ◌+◌, ◌-◌, ◌<◌, ◌++◌, ◌∷◌, [], length, map, ap, ◌∙◌, arith}
use Rattle.std.proofs.lemmas.List.Elements.{All-from_recursion}
use Rattle.rt_plain.specs.kernel.Opening.{new_timer}
use Rattle.rt_plain.specs.kernel.State.{OfThread}
use Rattle.timer_skip.specs.Armed.{ArmedRow as SkipRow}
use Rattle.kernel_timers.specs.Alarmed.{AlarmsSeen, is_armed}
use Rattle.kernel_timers.proofs.AlarmLemmas.{thread-is, stopped-armed, rows-latest, started-kept, started-seen}
use Rattle.kernel_timers.proofs.alarms.Alarms.arm_wait.Goals as goal

pub start-requires : goal.start-requires
start-requires c =
    let m = c.self.inside.moment in
    let ts = map new_timer c.self.inside.timers.items in
    let same : m ≡ c.args.self.now.moment = ap (λ (s : AlarmsSeen). s.moment) c.self.view_is in
    let there : c.thread_no.result < 256 + length ts = omega (arith, c.thread_no.ensures, c.requires.there) in (
      search rules,
      (
        omega (arith, c.self.invariant.count, there),
        (
          stopped-armed m ts c.self.inside.rows c.thread_no.result (OfThread c.args.t) c.self.invariant there (thread-is ts c.args.t c.thread_no.result c.thread_no.ensures c.requires.there) ∙ ap (λ (s : AlarmsSeen). is_armed (OfThread c.args.t) s.rows) c.self.view_is ∙ c.requires.free,
          (
            omega (arith, same, c.requires.ahead),
            (
              omega (arith, same, c.requires.near),
              All-from_recursion (λ (r : SkipRow). r.number < c.args.number) c.self.inside.rows.rows (rows-latest m ts c.self.inside.rows c.args.self.now c.args.number c.self.view_is c.requires.latest),
            ),
          ),
        ),
      ),
    )

pub invariant_of-self : goal.invariant_of-self
invariant_of-self c =
    let ts = map new_timer c.self.inside.timers.items in
    started-kept c.self.inside.moment ts c.self.inside.rows c.start.new.self c.thread_no.result (c.args.due - c.self.inside.moment) c.args.number c.start.ensures (omega (arith, c.thread_no.ensures, c.requires.there)) c.self.invariant

pub returns : goal.returns
returns c =
    let m = c.self.inside.moment in
    let ts = map new_timer c.self.inside.timers.items in
    let same : m ≡ c.args.self.now.moment = ap (λ (s : AlarmsSeen). s.moment) c.self.view_is in
    started-seen m ts c.self.inside.rows c.start.new.self c.thread_no.result (c.args.due - m) c.args.number c.args.due (OfThread c.args.t) c.start.ensures (omega (arith, same, c.requires.ahead)) (thread-is ts c.args.t c.thread_no.result c.thread_no.ensures c.requires.there)
    ∙ ap (λ (s : AlarmsSeen). record s { rows = s.rows ++ record { due = c.args.due; number = c.args.number; alarm = OfThread c.args.t } ∷ [] }) c.self.view_is
