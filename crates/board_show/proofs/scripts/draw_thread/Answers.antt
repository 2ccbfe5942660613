use Rattle.board_show.proofs.DrawLemmas.{thread-is}
use Rattle.board_show.proofs.scripts.draw_thread.Goals as goal

pub returns-clause-value : goal.returns-clause-value
returns-clause-value c =
    (thread-is c.args.number c.args.words.now _ _ _ _ _ _ _ c.numbered.ensures c.draw_below-base.ensures.value c.draw_below-base.ensures.rest c.draw_below-slice.ensures.value c.draw_below-slice.ensures.rest c.in_ok-script.ensures.value c.in_ok-script.ensures.rest).0

pub returns-clause-rest : goal.returns-clause-rest
returns-clause-rest c =
    (thread-is c.args.number c.args.words.now _ _ _ _ _ _ _ c.numbered.ensures c.draw_below-base.ensures.value c.draw_below-base.ensures.rest c.draw_below-slice.ensures.value c.draw_below-slice.ensures.rest c.in_ok-script.ensures.value c.in_ok-script.ensures.rest).1
