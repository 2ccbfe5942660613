use Rattle.std.proofs.Common.{refl}
use Rattle.rt_plain.specs.text.LineTable.{all_lines}
use Rattle.board_text.proofs.table.every_line.Goals as goal

pub returns : goal.returns
unfolding all_lines
returns c = refl
