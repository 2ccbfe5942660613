use Rattle.std.proofs.Common.{rules, arith, ◌≡◌, ◌<◌, ap, ◌∙◌, length}
use Rattle.std.specs.Prelude.{slice_set}
use Rattle.std.proofs.lemmas.Grind.{common_steps}
use Rattle.std.proofs.lemmas.List.Edits.{map_over_more}
use Rattle.mutex_chain.specs.Noting.{settled_note}
use Rattle.mutex_chain.proofs.changes.renew_notes.Goals as goal

pub loop-i-preserved : goal.loop-i-preserved
loop-i-preserved c =
    let within : c.loop-i.i < length c.args.notes.now.items = search rules in
    let long : length (slice_set c.loop-i.notes.items c.loop-i.i c.settled-note.result) ≡ length c.args.notes.now.items = grind (arith, common_steps) in (
      ap (λ r. slice_set c.loop-i.notes.items c.loop-i.i r) c.settled-note.ensures
          ∙ map_over_more (settled_note c.args.owners.now c.args.numbers.now) c.args.notes.now.items c.loop-i.notes.items c.loop-i.i c.index.result.now within c.loop-i.invariant.0 c.index.ensures,
      long,
      c.loop-i.invariant.2,
    )
