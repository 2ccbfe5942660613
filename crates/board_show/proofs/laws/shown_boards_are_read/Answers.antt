use Rattle.std.proofs.Common.{◌∙◌}
use Rattle.board_show.proofs.BoardLemmas.{read_back}
use Rattle.board_show.proofs.laws.shown_boards_are_read.Goals as goal

pub returns-in-Ok : goal.returns-in-Ok
returns-in-Ok c = read_back c.parse.result c.as_slice.result.now c.args.board.now (c.as_slice.ensures ∙ c.in-Ok.ensures) c.is_valid.ensures c.parse.ensures.every
