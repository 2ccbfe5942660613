use Rattle.rt_plain.proofs.fields.all3.Goals as goal

pub returns : goal.returns
returns g c = rw (c.both-3.ensures, c.both-2.ensures, c.both.ensures)
