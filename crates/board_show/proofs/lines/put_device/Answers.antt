use Rattle.board_show.specs.Writing.{whole_line}
use Rattle.board_show.proofs.lines.put_device.Goals as goal

pub returns : goal.returns
unfolding whole_line
returns c = rw (c.name.ensures, c.byte.ensures, c.byte-2.ensures, c.byte-3.ensures, c.power.ensures, c.indicated.ensures) at c.put_line.ensures
