use Rattle.std.proofs.Common.{◌≡◌, ◌∙◌, List, Some, None, ap}
use Rattle.std.specs.Prelude.{bytes_eq}
use Rattle.rt_plain.specs.declared.entry.Entry.{Entry}
use Rattle.rt_plain.specs.text.Texts.{trace_text, with_newline}
use Rattle.rt_plain.specs.text.TraceRows.{Ended, row_text}
use Rattle.core_runner.proofs.parts.is_end.Goals as goal

pub returns : goal.returns
returns c =
    let row = row_text (Ended c.args.halt c.args.tick) in
    let is : c.as_slice.result.now ≡ with_newline row =
    c.as_slice.ensures ∙ c.in_ok-end.ensures ∙ ap (λ (es : List Entry). trace_text es None (Some (record { halt = c.args.halt; tick = c.args.tick }))) c.new-none.ensures in
    c.eq.ensures ∙ ap (bytes_eq c.args.line.now) (c.without_newline.ensures row is)
