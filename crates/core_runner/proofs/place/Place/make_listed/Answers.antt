use Rattle.std.proofs.Common.{sym}
use Rattle.core_runner.proofs.PlaceLemmas.{listed-more, listed-last}
use Rattle.core_runner.proofs.place.Place.make_listed.Goals as goal

pub returns-in-Some : goal.returns-in-Some
returns-in-Some c = λ nested event there. listed-more c.args.board.now nested c.args.self.now.made c.args.self.now.draws c.args.self.now.left c.args.self.now.words event c.in-Some.field-0 there (sym c.in-Some.ensures.event) c.requires.driveable

pub returns-in-None : goal.returns-in-None
returns-in-None c = λ nested event there. listed-last c.args.board.now nested c.args.self.now.made c.args.self.now.draws c.args.self.now.left c.args.self.now.words event there (sym c.in-None.ensures.event) c.requires.driveable
