use Rattle.std.proofs.Common.{refl}
use Rattle.rt_plain.specs.text.StatementTable.{all_statements}
use Rattle.board_text.proofs.table.every_statement.Goals as goal

pub returns : goal.returns
unfolding all_statements
returns c = refl
