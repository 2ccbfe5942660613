use Rattle.std.proofs.Common.{◌∙◌, ap, sym, ℕ, ◌++◌, List, map}
use Rattle.rt_plain.specs.declared.line.Line.{Line}
use Rattle.finsh.proofs.Found.{found_pieces}
use Rattle.finsh.proofs.commands.command.Goals as goal

pub returns-in-Some-clause-items : goal.returns-in-Some-clause-items
returns-in-Some-clause-items g c =
    c.perform.ensures.items ∙ ap (λ (ps : List (List ℕ)). c.args.out.now.items ++ map (λ piece. Line.Print piece) ps) (sym (found_pieces _ _ c.args.line.now _ c.in-Some.ensures))
