use Rattle.core_runner.proofs.ReaderLemmas.{due-front, due-goes_on}
use Rattle.core_runner.proofs.trace_reader.TraceReader.read_due.Goals as goal

pub returns-clause-read : goal.returns-clause-read
returns-clause-read c = λ front r at.
    due-goes_on c.args.self.now.machine.board front c.args.line.now r c.args.self.now at c.requires
    (due-front c.args.line.now c.as_slice.result.now c.args.self.now.due c.args.self.now.at c.stands_first.result c.as_slice.ensures c.stands_first.ensures.front c.if-not-stands_first.false)
