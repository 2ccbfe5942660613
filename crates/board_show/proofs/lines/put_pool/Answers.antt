use Rattle.board_show.specs.Writing.{whole_line}
use Rattle.board_show.proofs.lines.put_pool.Goals as goal

pub returns : goal.returns
unfolding whole_line
returns c = rw (c.name.ensures, c.byte.ensures, c.half.ensures, c.order.ensures) at c.put_line.ensures
