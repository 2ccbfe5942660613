use Rattle.std.proofs.Common.{◌≡◌, List, ℕ, [], ◌∷◌, subst}
use Rattle.commands.specs.Boards.{IsCauseOf}
use Rattle.commands.specs.Command.{written}
use Rattle.commands.proofs.CommandLemmas.{if-err_more, one-cause}
use Rattle.commands.proofs.command_files.text_of_file.Goals as goal

pub returns-clause-failed : goal.returns-clause-failed
returns-clause-failed g c =
    if-err_more c.text_of.result _ _ (λ e cause.
    one-cause c.args.output (g.F.Files.held c.args.files.now) c.args.file.now c.in_ok-bytes.bytes.items (g.F.Files.missing c.args.files.now) (g.F.Files.missing c.read_board.new.files) (g.F.Files.faults c.args.files.now) (g.F.Files.faults c.read_board.new.files) e c.in_ok-bytes.ensures.whole
    (subst (λ (x : List ℕ). IsCauseOf (written c.args.output c.args.file.now) (x ∷ []) e) c.deref.ensures.value cause)) (c.text_of.ensures.cause c.args.file.now)
