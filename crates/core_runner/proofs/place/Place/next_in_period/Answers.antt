use Rattle.core_runner.proofs.place.Place.next_in_period.Goals as goal

pub returns-then-self-gt0 : goal.returns-then-self-gt0
returns-then-self-gt0 c = c.draw.ensures c.args.nested

pub returns-then-self-gt0-2 : goal.returns-then-self-gt0-2
returns-then-self-gt0-2 c = c.turn.ensures c.args.nested
