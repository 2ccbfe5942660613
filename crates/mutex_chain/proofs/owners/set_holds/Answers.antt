use Rattle.std.proofs.Common.{rules, arith, ◌≡◌, ◌<◌, ap, ◌∙◌, length}
use Rattle.std.specs.Prelude.{slice_set}
use Rattle.std.proofs.lemmas.Grind.{common_steps}
use Rattle.std.proofs.lemmas.List.Edits.{map_over_more}
use Rattle.mutex_chain.specs.Owners.{with_hold}
use Rattle.mutex_chain.proofs.owners.set_holds.Goals as goal

pub loop-i-preserved : goal.loop-i-preserved
loop-i-preserved c =
    let within : c.loop-i.i < length c.args.rows.now.items = search rules in
    let long : length (slice_set c.loop-i.rows.items c.loop-i.i c.with_hold-row.result) ≡ length c.args.rows.now.items = grind (arith, common_steps) in (
      ap (λ r. slice_set c.loop-i.rows.items c.loop-i.i r) c.with_hold-row.ensures
          ∙ map_over_more (with_hold c.args.mutex c.args.hold) c.args.rows.now.items c.loop-i.rows.items c.loop-i.i c.index.result.now within c.loop-i.invariant.0 c.index.ensures,
      long,
      c.loop-i.invariant.2,
    )
