use Rattle.std.proofs.Common.{◌≡◌, ◌-◌, true, ap}
use Rattle.rt_plain.specs.PlainBoard.{PlainBoard}
use Rattle.core_runner.proofs.PlaceLemmas.{goes-round}
use Rattle.core_runner.proofs.place.Place.close.Goals as goal

pub returns-then-nested : goal.returns-then-nested
returns-then-nested c =
    let nested : c.args.nested ≡ true = c.if-nested.true in
    rw nested (goes-round c.args.board.now c.args.self.now _ c.requires.no_draws c.requires.none (ap (λ (b : PlainBoard). b.cores - 1) c.board.view_is) c.requires.spent c.requires.cores)
