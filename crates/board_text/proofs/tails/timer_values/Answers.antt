use Rattle.board_text.proofs.tails.timer_values.Goals as goal

pub returns : goal.returns
returns c = rw (c.both-4.ensures, c.both-3.ensures, c.both-2.ensures, c.both.ensures)
