use Rattle.rt_plain.specs.text.LineTable.{line_in}
use Rattle.board_text.proofs.tails.read_timer.Goals as goal

pub returns-in-Err : goal.returns-in-Err
unfolding line_in
returns-in-Err c = rw (← c.behind.ensures, ← c.read_call-call.ensures, ← c.name.ensures, ← c.timer_kind.ensures, ← c.number.ensures, ← c.armed.ensures, ← c.timer_values-values.ensures, c.in-Err.is)
