use Rattle.rt_plain.proofs.laws.rows_are_read_back.Goals as goal
use Rattle.std.proofs.Common.{◌∙◌, sym, ap}
use Rattle.rt_plain.specs.text.TraceRows.{trace_rows, whole_lines_of}
use Rattle.rt_plain.proofs.text.TraceLemmas.{trace-text, lines-rows, written-trace, rows-all}

pub returns : goal.returns
returns c = record {
  text = trace-text;
  lines = λ journal cut end h. ap whole_lines_of (sym (trace-text journal cut end)) ∙ lines-rows (trace_rows journal cut end) (written-trace journal cut end h);
  rows = λ journal cut end h. rows-all (trace_rows journal cut end) (written-trace journal cut end h);
}
