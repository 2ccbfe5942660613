use Rattle.std.proofs.Common.{sym}
use Rattle.rt_plain.specs.runs.Schedules.{listed_of}
use Rattle.core_runner.proofs.ListLemmas.{drop-none}
use Rattle.core_runner.proofs.place.Place.opened.Goals as goal

pub begin_period-requires-clause-spent : goal.begin_period-requires-clause-spent
begin_period-requires-clause-spent c = drop-none (listed_of c.args.board.now.schedule) 0 (sym c.in-None.ensures.event)
