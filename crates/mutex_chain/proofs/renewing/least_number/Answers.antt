use Rattle.std.proofs.Common.{◌∙◌, ap}
use Rattle.std.specs.Prelude.{fold, min}
use Rattle.std.specs.List.{filter_map}
use Rattle.rt_plain.specs.kernel.Ownership.{owned_in}
use Rattle.mutex_chain.specs.Lines.{first_number}
use Rattle.mutex_chain.proofs.FirstsLemmas.{least_is}
use Rattle.mutex_chain.proofs.renewing.least_number.Goals as goal

pub returns-clause-least : goal.returns-clause-least
returns-clause-least g c =
    let o = c.args.owners.now in
    let ns = c.args.curs.now.numbers.items in
    least_is o ns c.args.thread c.least_first.result c.requires.sound c.requires.fits
    (c.least_first.ensures.least ∙ ap (λ u. fold min u (filter_map (first_number o ns) (owned_in o c.args.thread))) c.urgency-own.ensures.urgency)
