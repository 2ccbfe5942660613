use Rattle.std.proofs.Common.{◌≡◌, ◌∙◌, ℕ, subst, arith}
use Rattle.std.specs.List.{range_with_len}
use Rattle.rt_plain.specs.runs.Generated.{draw_each, draw_sem}
use Rattle.board_show.proofs.DrawLemmas.{drawn-next}
use Rattle.board_show.proofs.draws.draw_sems.Goals as goal

pub loop-i-preserved : goal.loop-i-preserved
loop-i-preserved c =
    let draw = c.draw_sem.ensures in
    let all = drawn-next draw_sem c.loop-i.i c.args.words.now c.loop-i.sems c.loop-i.words c.draw_sem.result c.draw_sem.new.words c.loop-i.invariant.value c.loop-i.invariant.rest draw.value draw.rest in
    record { value = c.in_ok-push.ensures ∙ all.0; rest = all.1 }

pub returns-clause-value : goal.returns-clause-value
returns-clause-value c =
    let four : c.loop-i.i ≡ 4 = omega (arith, c.loop-i-test.false, c.loop-i.auto.i-end) in
    subst (λ (n : ℕ). c.loop-i.sems ≡ (draw_each draw_sem (range_with_len 0 n) c.args.words.now).value) four c.loop-i.invariant.value
