use Rattle.board_show.specs.Writing.{whole_line}
use Rattle.board_show.proofs.lines.put_limit.Goals as goal

pub returns : goal.returns
unfolding whole_line
returns c = rw (c.limit_class.ensures, c.half.ensures) at c.put_line.ensures
