use Rattle.std.proofs.Common.{ℕ, List, ◌++◌, ◌∙◌, sym, ap}
use Rattle.std.proofs.lemmas.Result.{on_ok_weaker}
use Rattle.rt_plain.specs.text.Texts.{printed_by}
use Rattle.journal.proofs.ConsoleLemmas.{nothing-printed}
use Rattle.journal.proofs.consoles.put_line.Goals as goal

pub returns-in-Print : goal.returns-in-Print
returns-in-Print c = on_ok_weaker c.extend_from_slice.result (λ e. e ∙ ap (λ (t : List ℕ). c.args.out.now ++ t) (c.bytes.ensures.bytes ∙ ap printed_by (sym c.in-Print.is))) c.extend_from_slice.ensures.ok

pub returns-in_default : goal.returns-in_default
returns-in_default c = nothing-printed c.args.line.now c.args.out.now c.in_default.not-Print
