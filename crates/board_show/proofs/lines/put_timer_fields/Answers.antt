use Rattle.board_show.proofs.lines.put_timer_fields.Goals as goal

pub returns : goal.returns
returns c = rw (c.name.ensures, c.timer_kind.ensures, c.number.ensures, c.armed.ensures) at c.put_words.ensures
