use Rattle.board_show.proofs.DrawLemmas.{script-is}
use Rattle.board_show.proofs.scripts.draw_script.Goals as goal

pub returns-clause-value : goal.returns-clause-value
returns-clause-value c =
    (script-is c.args.words.now _ _ _ _ _ _ _ c.new-script.ensures c.in_ok-push_blocks.ensures.value c.in_ok-push_blocks.ensures.rest c.draw_below-pause.ensures.value c.draw_below-pause.ensures.rest c.in_ok-push.ensures c.in_ok-push-2.ensures).0

pub returns-clause-rest : goal.returns-clause-rest
returns-clause-rest c =
    (script-is c.args.words.now _ _ _ _ _ _ _ c.new-script.ensures c.in_ok-push_blocks.ensures.value c.in_ok-push_blocks.ensures.rest c.draw_below-pause.ensures.value c.draw_below-pause.ensures.rest c.in_ok-push.ensures c.in_ok-push-2.ensures).1
