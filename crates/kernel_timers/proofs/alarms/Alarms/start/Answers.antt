use Rattle.std.proofs.Common.{◌+◌, ◌-◌, length, refl, sym, subst, ap, ◌∙◌}
use Rattle.rt_plain.specs.declared.board.TimerDef.{TimerDef}
use Rattle.kernel_timers.specs.Alarmed.{AlarmsSeen}
use Rattle.kernel_timers.proofs.StartLemmas.{Begun, begun-more, begun-skipped}
use Rattle.kernel_timers.proofs.alarms.Alarms.start.Goals.{then-defs-i, else-defs-i}
use Rattle.kernel_timers.proofs.alarms.Alarms.start.Goals as goal

pub loop-i-preserved : goal.loop-i-preserved
loop-i-preserved c =
    let defs = c.args.defs.now in
    record {
      begun = elim c.if-defs-i.branch [
        | then-defs-i w ↦ subst (λ (s : AlarmsSeen). Begun defs (c.loop-i.i + 1) s c.if-defs-i.number) (sym w.self-is) (subst (λ n. Begun defs (c.loop-i.i + 1) w.arm_timer.new.self n) (sym w.number-is) (begun-more defs c.loop-i.i (length defs - 1 - c.loop-i.i) c.index-defs-i.result c.loop-i.self w.arm_timer.new.self c.loop-i.number c.loop-i-test.true c.index-defs-i.is (ap (λ (d : TimerDef). d.started) c.index-defs-i.is ∙ w.if-defs-i.true) c.requires.may.apart refl c.loop-i.invariant.begun w.arm_timer.ensures))
        | else-defs-i w ↦ subst (λ (s : AlarmsSeen). Begun defs (c.loop-i.i + 1) s c.if-defs-i.number) (sym w.self-is) (subst (λ n. Begun defs (c.loop-i.i + 1) c.loop-i.self n) (sym w.number-is) (begun-skipped defs c.loop-i.i c.index-defs-i.result c.loop-i.self c.loop-i.number c.loop-i-test.true c.index-defs-i.is (ap (λ (d : TimerDef). d.started) c.index-defs-i.is ∙ w.if-defs-i.false) c.loop-i.invariant.begun))
      ];
      ends = refl;
      defs = refl;
    }
