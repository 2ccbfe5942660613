use Rattle.std.proofs.Common.{arith}
use Rattle.journal.proofs.HeaderLemmas.{first-from}
use Rattle.journal.proofs.traces.lines_before.Goals as goal

pub returns-then-place-headers : goal.returns-then-place-headers
returns-then-place-headers c = first-from c.args.headers.now c.args.place c.index-headers-place.result c.requires.stand (omega arith)
