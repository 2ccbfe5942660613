use Rattle.std.proofs.Common.{refl}
use Rattle.rt_plain.specs.text.TraceRows.{all_trace_kinds}
use Rattle.journal.proofs.rows.every_kind.Goals as goal

pub returns : goal.returns
unfolding all_trace_kinds
returns c = refl
