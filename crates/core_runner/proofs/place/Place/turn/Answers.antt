use Rattle.std.proofs.Common.{◌∙◌, ◌-◌, ap, arith}
use Rattle.rt_plain.specs.PlainBoard.{PlainBoard}
use Rattle.core_runner.specs.Places.{core_before}
use Rattle.core_runner.proofs.PlaceLemmas.{turned}
use Rattle.core_runner.proofs.place.Place.turn.Goals as goal

pub returns : goal.returns
returns c = λ nested.
    turned c.args.board.now nested c.args.self.now _ _ c.requires.none (omega (arith, c.requires.some)) (c.core_before.ensures ∙ ap (λ (b : PlainBoard). core_before b.cores (c.args.self.now.left - 1)) c.board.view_is) c.requires.spent c.requires.cores
