use Rattle.std.proofs.Common.{◌≡◌, ℕ, ◌++◌, subst, arith}
use Rattle.std.specs.List.{flat_map, range_with_len}
use Rattle.rt_plain.specs.runs.Generated.{draw_block, draw_each}
use Rattle.board_show.proofs.DrawLemmas.{blocks-next, never-ok}
use Rattle.board_show.proofs.scripts.push_blocks.Goals as goal

pub loop-i-preserved : goal.loop-i-preserved
loop-i-preserved c =
    let kind = c.draw_below-kind.ensures in
    let block = c.in_ok-push_block_of.ensures in
    let all = blocks-next c.loop-i._i c.args.words.now c.args.script.now c.loop-i.script c.loop-i.words c.draw_below-kind.result c.draw_below-kind.new.words c.push_block_of.new.script c.push_block_of.new.words c.loop-i.invariant.value c.loop-i.invariant.rest kind.value kind.rest block.value block.rest in
    record { value = all.0; rest = all.1 }

pub returns-in_err-push_block_of-clause-value : goal.returns-in_err-push_block_of-clause-value
returns-in_err-push_block_of-clause-value c = never-ok c.from_residual.result _ _ c.from_residual.ensures

pub returns-in_err-push_block_of-clause-rest : goal.returns-in_err-push_block_of-clause-rest
returns-in_err-push_block_of-clause-rest c = never-ok c.from_residual.result _ _ c.from_residual.ensures

pub returns-clause-value : goal.returns-clause-value
returns-clause-value c =
    let four : c.loop-i._i ≡ 4 = omega (arith, c.loop-i-test.false, c.loop-i.auto._i-end) in
    subst (λ (n : ℕ). c.loop-i.script ≡ c.args.script.now ++ flat_map (λ block. block) (draw_each draw_block (range_with_len 0 n) c.args.words.now).value) four c.loop-i.invariant.value

pub returns-clause-rest : goal.returns-clause-rest
returns-clause-rest c =
    let four : c.loop-i._i ≡ 4 = omega (arith, c.loop-i-test.false, c.loop-i.auto._i-end) in
    subst (λ (n : ℕ). c.loop-i.words ≡ (draw_each draw_block (range_with_len 0 n) c.args.words.now).rest) four c.loop-i.invariant.rest
