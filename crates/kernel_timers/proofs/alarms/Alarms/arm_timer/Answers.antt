use Rattle.std.proofs.Common.{rules, ◌≡◌, ◌+◌, ◌<◌, ◌++◌, ◌∷◌, [], length, map, ap, ◌∙◌, arith}
use Rattle.std.proofs.lemmas.List.Elements.{All-from_recursion}
use Rattle.rt_plain.specs.kernel.Opening.{new_timer}
use Rattle.rt_plain.specs.kernel.State.{Timer, OfTimer}
use Rattle.timer_skip.specs.Armed.{Armed, ArmedRow as SkipRow}
use Rattle.kernel_timers.specs.Alarmed.{AlarmsSeen, alarm_of, names_of, timer_at, without}
use Rattle.kernel_timers.specs.Alarmed.{IsTimed}
use Rattle.timer_skip.specs.Armed.{is_armed as is_row_armed}
use Rattle.kernel_timers.proofs.RowLemmas.{free-without}
use Rattle.kernel_timers.proofs.TimerLemmas.{timed-at}
use Rattle.kernel_timers.proofs.AlarmLemmas.{timer-is, stopped-kept, stopped-seen, rows-latest, latest-without, started-kept, started-seen, read-is}
use Rattle.kernel_timers.proofs.alarms.Alarms.arm_timer.Goals as goal

pub start-requires : goal.start-requires
start-requires c =
    let m = c.self.inside.moment in
    let ts = map new_timer c.self.inside.timers.items in
    let there : c.args.o < length ts = omega (arith, c.requires.there, ap (λ (s : AlarmsSeen). length s.timers) c.self.view_is) in
    let timed : IsTimed (timer_at ts c.args.o) = timed-at ts c.args.o c.self.invariant.timed there in
    let time : (timer_at ts c.args.o).time ≡ c.index.result.now.time = ap (λ (t : Timer). t.time) (read-is c.self.inside.timers.items c.o.inside.0 c.args.o c.index.result.now c.o.view_is there c.index.ensures) in
    let held : c.stop.new.self.count ≡ c.self.inside.rows.count = ap (λ (a : Armed). a.count) c.stop.ensures.rows in (
      search rules,
      (
        omega (arith, held, c.self.invariant.count, c.timer_no-no.ensures, there),
        (
          ap (λ (a : Armed). is_row_armed c.timer_no-no.result a.rows) c.stop.ensures.rows ∙ free-without c.timer_no-no.result c.self.inside.rows.rows,
          (
            omega (arith, time, timed.0),
            (
              omega (arith, time, timed.1),
              All-from_recursion (λ (r : SkipRow). r.number < c.args.number) c.stop.new.self.rows (latest-without c.self.inside.rows c.stop.new.self c.timer_no-no.result c.args.number c.stop.ensures.rows (rows-latest m ts c.self.inside.rows c.args.self.now c.args.number c.self.view_is c.requires.latest)),
            ),
          ),
        ),
      ),
    )

pub invariant_of-self : goal.invariant_of-self
invariant_of-self c =
    let m = c.self.inside.moment in
    let ts = map new_timer c.self.inside.timers.items in
    let there : c.args.o < length ts = omega (arith, c.requires.there, ap (λ (s : AlarmsSeen). length s.timers) c.self.view_is) in
    started-kept m ts c.stop.new.self c.start.new.self c.timer_no-no.result c.index.result.now.time c.args.number c.start.ensures (omega (arith, c.timer_no-no.ensures, there))
    (stopped-kept m ts c.self.inside.rows c.stop.new.self c.timer_no-no.result c.stop.ensures.rows c.self.invariant)

pub returns : goal.returns
returns c =
    let m = c.self.inside.moment in
    let ts = map new_timer c.self.inside.timers.items in
    let o = c.args.o in
    let there : o < length ts = omega (arith, c.requires.there, ap (λ (s : AlarmsSeen). length s.timers) c.self.view_is) in
    let time : (timer_at ts o).time ≡ c.index.result.now.time = ap (λ (t : Timer). t.time) (read-is c.self.inside.timers.items c.o.inside.0 o c.index.result.now c.o.view_is there c.index.ensures) in
    let whose : alarm_of (names_of ts) c.timer_no-no.result ≡ OfTimer (timer_at ts o).name = timer-is ts o c.timer_no-no.result c.timer_no-no.ensures in
    started-seen m ts c.stop.new.self c.start.new.self c.timer_no-no.result c.index.result.now.time c.args.number (m + (timer_at ts o).time) (OfTimer (timer_at ts o).name) c.start.ensures (omega (arith, time)) whose
    ∙ ap (λ (s : AlarmsSeen). record s { rows = s.rows ++ record { due = m + (timer_at ts o).time; number = c.args.number; alarm = OfTimer (timer_at ts o).name } ∷ [] }) (stopped-seen m ts c.self.inside.rows c.stop.new.self c.timer_no-no.result (OfTimer (timer_at ts o).name) c.stop.ensures.rows c.self.invariant (omega (arith, c.timer_no-no.ensures, there)) whose)
    ∙ ap (λ (s : AlarmsSeen). record s { rows = without (OfTimer (timer_at s.timers o).name) s.rows ++ record { due = s.moment + (timer_at s.timers o).time; number = c.args.number; alarm = OfTimer (timer_at s.timers o).name } ∷ [] }) c.self.view_is
