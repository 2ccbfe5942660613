use Rattle.std.proofs.Common.{rules, None, replicate, refl}
use Rattle.std.proofs.lemmas.Grind.{common_steps}
use Rattle.timer_skip.specs.declared.rows.Rows.{Rows}
use Rattle.timer_skip.proofs.Changes.{none_linked}
use Rattle.timer_skip.proofs.rows.Rows.new.Goals as goal

pub returns-clause-line : goal.returns-clause-line
returns-clause-line g c =
    let r : Rows g.row.L = record { nodes = c.in_ok-nodes.nodes; heads = replicate g.row.L None; places = c.in_ok-places.places; tick = c.args.now; draws = c.seed_from_u64.result } in
    (none_linked r c.args.count c.requires c.ranges.now.fits refl c.in_ok-nodes.ensures.empty c.in_ok-nodes.ensures.capacity (search (rules, common_steps))).line

pub returns-clause-linked : goal.returns-clause-linked
returns-clause-linked g c =
    let r : Rows g.row.L = record { nodes = c.in_ok-nodes.nodes; heads = replicate g.row.L None; places = c.in_ok-places.places; tick = c.args.now; draws = c.seed_from_u64.result } in
    (none_linked r c.args.count c.requires c.ranges.now.fits refl c.in_ok-nodes.ensures.empty c.in_ok-nodes.ensures.capacity (search (rules, common_steps))).linked
