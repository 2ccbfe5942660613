use Rattle.std.proofs.Common.{arith}
use Rattle.journal.proofs.HeaderLemmas.{length-entries_of}
use Rattle.journal.proofs.traces.put_body.Goals as goal

pub put_split-requires-clause-within : goal.put_split-requires-clause-within
put_split-requires-clause-within c =
    let stands = rw c.in-Some.is at c.requires.stands in
    omega (arith, stands, length-entries_of c.args.headers.now c.args.lines.now)
