use Rattle.board_show.specs.Writing.{whole_line}
use Rattle.board_show.proofs.lines.put_arrival.Goals as goal

pub returns : goal.returns
unfolding whole_line
returns c = rw (c.number.ensures, c.name.ensures, c.text.ensures) at c.put_line.ensures
