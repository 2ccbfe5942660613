use Rattle.std.proofs.Common.{arith, ◌≡◌, ◌<◌, ◌∙◌, ap, length, inr}
use Rattle.std.specs.Prelude.{slice_index, slice_set}
use Rattle.std.proofs.lemmas.Grind.{get_or_default_zero}
use Rattle.mutex_chain.specs.Costs.{one_wait}
use Rattle.mutex_chain.proofs.NoteLemmas.{notes_room, notes_step}
use Rattle.mutex_chain.proofs.EndingLemmas.{least_cur, waiters_small}
use Rattle.mutex_chain.proofs.lone.renew_lone.Goals as goal

pub index-old-requires : goal.index-old-requires
index-old-requires g c = omega (arith, c.requires.thread, c.requires.places, c.thread.view_is)

pub least_number-number-requires-clause-fits : goal.least_number-number-requires-clause-fits
least_number-number-requires-clause-fits g c = inr (waiters_small c.args.owners.now c.args.curs.now.numbers.items c.args.thread c.requires.sound c.requires.right)

pub note-requires : goal.note-requires
note-requires g c =
    let olds = c.requires.notes.olds in
    let among : c.args.thread < length c.requires.notes.olds = omega (arith, c.requires.thread, c.requires.notes.places) in
    omega (arith, notes_room olds c.args.curs.now.numbers.items c.args.out.now.changes c.args.thread c.index-old.result.now c.requires.notes.are among, c.requires.notes.places, c.requires.room)

pub returns-clause-numbers : goal.returns-clause-numbers
returns-clause-numbers g c =
    c.counted_set.ensures.numbers
    ∙ ap (slice_set c.args.curs.now.numbers.items c.args.thread)
    (least_cur c.args.owners.now c.args.curs.now.numbers.items c.args.thread c.least_number-number.result c.requires.sound c.requires.thread c.requires.idle c.requires.right c.least_number-number.ensures.least)

pub returns-clause-notes : goal.returns-clause-notes
returns-clause-notes g c = λ olds a.
    let place : c.thread.inside.0 < length c.args.curs.now.numbers.items = omega (arith, c.requires.thread, c.requires.places, c.thread.view_is) in
    let read : c.index-old.result.now ≡ slice_index c.args.curs.now.numbers.items c.args.thread =
    c.index-old.ensures ∙ get_or_default_zero c.args.curs.now.numbers.items c.thread.inside.0 c.index-old.result.now place ∙ ap (slice_index c.args.curs.now.numbers.items) c.thread.view_is in
    let among : c.args.thread < length olds = omega (arith, c.requires.thread, c.requires.places, a.places) in
    rw (c.counted_set.ensures.numbers, c.note.ensures, read) (notes_step olds c.args.curs.now.numbers.items c.args.out.now.changes c.args.thread c.least_number-number.result a among)

pub returns-clause-cost : goal.returns-clause-cost
returns-clause-cost g c = omega (arith, c.tick.ensures, c.least_number-number.ensures.count, c.counted_set.ensures.count, ap one_wait c.requires.idle)
