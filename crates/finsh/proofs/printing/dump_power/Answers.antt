use Rattle.std.proofs.Common.{◌∙◌, ap, List, ◌++◌, ◌∷◌, [], map, codes}
use Rattle.rt_plain.specs.declared.line.Line.{Line}
use Rattle.rt_plain.specs.kernel.Tables.{Column, table_line}
use Rattle.rt_plain.specs.text.Words.{words, sleep_text}
use Rattle.finsh.proofs.Printed.{three_parts}
use Rattle.finsh.proofs.printing.dump_power.Goals as goal

pub returns-clause-items : goal.returns-clause-items
returns-clause-items g c = three_parts _ _ _ _ _ _ _
    (c.put_titles.ensures.items ∙ ap (λ (cs : List Column). c.args.out.now.items ++ Line.Print (table_line cs (map (λ d. d.title) cs)) ∷ []) c.power_columns.ensures)
    c.put_votes.ensures.items
    (c.put_mode.ensures.items ∙ ap (λ m. c.put_votes.new.out.items ++ Line.Print (words (codes "sleep" ∷ sleep_text m ∷ []) ++ 10 ∷ []) ∷ []) c.mode.ensures)
