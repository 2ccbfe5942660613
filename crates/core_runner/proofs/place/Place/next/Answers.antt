use Rattle.std.proofs.Common.{sym}
use Rattle.rt_plain.specs.runs.Schedules.{listed_of}
use Rattle.core_runner.proofs.ListLemmas.{drop-none}
use Rattle.core_runner.proofs.place.Place.next.Goals as goal

pub next_in_period-requires-clause-spent : goal.next_in_period-requires-clause-spent
next_in_period-requires-clause-spent c = drop-none (listed_of c.args.board.now.schedule) c.args.self.now.made (sym c.in-None.ensures.event)

pub returns-in-Some : goal.returns-in-Some
returns-in-Some c = c.make_listed-coming.ensures c.args.nested c.in-Some.event (sym c.in-Some.ensures.event)
