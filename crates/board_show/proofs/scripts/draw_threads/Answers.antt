use Rattle.std.proofs.Common.{◌∙◌}
use Rattle.rt_plain.specs.runs.Generated.{draw_thread}
use Rattle.board_show.proofs.DrawLemmas.{drawn-next}
use Rattle.board_show.proofs.scripts.draw_threads.Goals as goal

pub loop-i-preserved : goal.loop-i-preserved
loop-i-preserved c =
    let draw = c.in_ok-thread.ensures in
    let all = drawn-next draw_thread c.loop-i.i c.args.words.now c.loop-i.threads c.loop-i.words c.in_ok-thread.thread c.draw_thread.new.words c.loop-i.invariant.value c.loop-i.invariant.rest draw.value draw.rest in
    record { value = c.in_ok-push.ensures ∙ all.0; rest = all.1 }
