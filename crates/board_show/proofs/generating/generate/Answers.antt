use Rattle.std.proofs.Common.{◌≡◌, IfOk, subst, sym}
use Rattle.rt_plain.specs.PlainBoard.{PlainBoard}
use Rattle.rt_plain.specs.text.Canon.{IsValid}
use Rattle.board_show.proofs.DrawLemmas.{board-is}
use Rattle.board_show.proofs.generating.generate.Goals as goal

pub board_with-requires-clause-valid : goal.board_with-requires-clause-valid
board_with-requires-clause-valid c =
    subst (λ (b : PlainBoard). IsValid b)
    (sym (board-is c.args.n c.seed_from_u64-words.result _ _ _ _ _ _ _ _ _ c.seed_from_u64-words.ensures c.draw_below-more_cores.ensures.value c.draw_below-more_cores.ensures.rest c.in_ok-sems.ensures.value c.in_ok-sems.ensures.rest c.in_ok-timers.ensures.value c.in_ok-timers.ensures.rest c.draw_below-more_threads.ensures.value c.draw_below-more_threads.ensures.rest c.in_ok-threads.ensures.value))
    (c.generated_boards_are_valid.ensures c.args.n)

pub returns : goal.returns
returns c =
    subst (λ (b : PlainBoard). IfOk c.board_with.result (λ (board : PlainBoard). board ≡ b))
    (board-is c.args.n c.seed_from_u64-words.result _ _ _ _ _ _ _ _ _ c.seed_from_u64-words.ensures c.draw_below-more_cores.ensures.value c.draw_below-more_cores.ensures.rest c.in_ok-sems.ensures.value c.in_ok-sems.ensures.rest c.in_ok-timers.ensures.value c.in_ok-timers.ensures.rest c.draw_below-more_threads.ensures.value c.draw_below-more_threads.ensures.rest c.in_ok-threads.ensures.value)
    c.board_with.ensures
