use Rattle.std.proofs.Common.{arith}
use Rattle.std.proofs.lemmas.Fmt.{length-decimal-le}
use Rattle.finsh.proofs.cells.know_number.Goals as goal

pub returns : goal.returns
returns c = length-decimal-le 10 c.args.n (omega arith) (omega arith) (omega arith)
