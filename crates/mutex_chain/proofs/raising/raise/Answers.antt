use Rattle.std.proofs.Common.{ℕ, List, arith, ◌≡◌, ◌+◌, ◌*◌, ◌<◌, ◌≤◌, ◌∙◌, sym, ap, refl, length, get_or, Some, None, true}
use Rattle.std.specs.Prelude.{slice_index, slice_set}
use Rattle.std.specs.List.{sum_by}
use Rattle.std.proofs.lemmas.List.Sums.{sum_by-set}
use Rattle.std.proofs.lemmas.Grind.{get_or_default_zero}
use Rattle.std.proofs.lemmas.Option.{none-some}
use Rattle.mutex_chain.specs.Raising.{IsRaising, LeadsTo}
use Rattle.mutex_chain.specs.Noting.{AreNotes, with_note}
use Rattle.mutex_chain.specs.Lines.{lines_of}
use Rattle.mutex_chain.proofs.ChainLemmas.{LeadsBy, leads, leads_some, leads_next, leads_start, urgent_left, fewer_left, left_weight}
use Rattle.rt_plain.specs.kernel.Ownership.{awaited_in}
use Rattle.mutex_chain.proofs.CostLemmas.{wait_low}
use Rattle.mutex_chain.proofs.NoteLemmas.{notes_room, notes_step}
use Rattle.mutex_chain.proofs.RaiseLemmas.{raised_all, raised_stop, raised_step}
use Rattle.mutex_chain.proofs.raising.raise.Goals as goal

pub loop-at-init : goal.loop-at-init
loop-at-init g c = (
  c.requires.raising,
  refl,
  (λ olds a. a),
  (λ none. (none, refl)),
  (λ u h to. (leads_start c.args.owners.now u c.args.from h (λ t e. (c.requires.raising.low t e).0) to, omega arith)),
  c.requires.lines,
)

pub index-old-requires : goal.index-old-requires
index-old-requires g c = omega (arith, (c.loop-at.invariant.0.low c.in-Some.thread c.in-Some.is).0, c.loop-at.invariant.0.places, c.thread.view_is)

pub set-requires-clause-thread : goal.set-requires-clause-thread
set-requires-clause-thread g c = (c.loop-at.invariant.0.low c.in-Some.thread c.in-Some.is).0

pub counted_blocker-at-requires : goal.counted_blocker-at-requires
counted_blocker-at-requires g c = (c.loop-at.invariant.0.low c.in-Some.thread c.in-Some.is).0

pub note-requires : goal.note-requires
note-requires g c =
    let inside : c.in-Some.thread < length c.args.owners.now.members = (c.loop-at.invariant.0.low c.in-Some.thread c.in-Some.is).0 in
    let olds = c.requires.notes.olds in
    let notes : AreNotes c.requires.notes.olds c.loop-at.curs.numbers.items c.loop-at.out.changes = c.loop-at.invariant.2 c.requires.notes.olds c.requires.notes.are in
    let among : c.in-Some.thread < length c.requires.notes.olds = omega (arith, inside, c.requires.notes.places) in
    omega (arith, notes_room olds c.loop-at.curs.numbers.items c.loop-at.out.changes c.in-Some.thread c.index-old.result.now notes among, c.requires.notes.places, c.loop-at.invariant.1, c.requires.room)

pub loop-at-smaller : goal.loop-at-smaller
loop-at-smaller g c =
    let inside : c.in-Some.thread < length c.args.owners.now.members = (c.loop-at.invariant.0.low c.in-Some.thread c.in-Some.is).0 in
    let place : c.thread.inside.0 < length c.loop-at.curs.numbers.items = omega (arith, inside, c.loop-at.invariant.0.places, c.thread.view_is) in
    let read : c.index-old.result.now ≡ get_or c.loop-at.curs.numbers.items c.thread.inside.0 0 =
    c.index-old.ensures ∙ get_or_default_zero c.loop-at.curs.numbers.items c.thread.inside.0 c.index-old.result.now place in
    let sums : sum_by (λ x. x) (slice_set c.loop-at.curs.numbers.items c.in-Some.thread c.args.number) + get_or c.loop-at.curs.numbers.items c.in-Some.thread 0 ≡ sum_by (λ x. x) c.loop-at.curs.numbers.items + c.args.number =
    sum_by-set (λ x. x) c.loop-at.curs.numbers.items c.in-Some.thread c.args.number 0 (omega (arith, place, c.thread.view_is)) in
    let at : get_or c.loop-at.curs.numbers.items c.thread.inside.0 0 ≡ get_or c.loop-at.curs.numbers.items c.in-Some.thread 0 = ap (λ i. get_or c.loop-at.curs.numbers.items i 0) c.thread.view_is in
    rw c.set.ensures.numbers (omega (arith, read, at, sums, c.if-old-number.false))

pub loop-at-preserved : goal.loop-at-preserved
loop-at-preserved g c =
    let o = c.args.owners.now in
    let ns = c.loop-at.curs.numbers.items in
    let x = c.in-Some.thread in
    let n = c.args.number in
    let raising : IsRaising c.args.owners.now c.loop-at.curs.numbers.items (Some c.in-Some.thread) c.args.number = rw (← c.in-Some.is) c.loop-at.invariant.0 in
    let inside : c.in-Some.thread < length c.args.owners.now.members = (raising.low x refl).0 in
    let at : c.in-Some.thread < length c.loop-at.curs.numbers.items = omega (arith, inside, raising.places) in
    let place : c.thread.inside.0 < length c.loop-at.curs.numbers.items = omega (arith, at, c.thread.view_is) in
    let read : c.index-old.result.now ≡ slice_index c.loop-at.curs.numbers.items c.in-Some.thread =
    c.index-old.ensures ∙ get_or_default_zero c.loop-at.curs.numbers.items c.thread.inside.0 c.index-old.result.now place ∙ ap (slice_index c.loop-at.curs.numbers.items) c.thread.view_is in
    let above : c.args.number < slice_index c.loop-at.curs.numbers.items c.in-Some.thread = omega (arith, read, c.if-old-number.false) in
    let stepped : IsRaising c.args.owners.now (slice_set c.loop-at.curs.numbers.items c.in-Some.thread c.args.number) c.counted_blocker-at.result c.args.number =
    rw c.counted_blocker-at.ensures.owner (raised_step o ns x n c.requires.sound raising above) in
    let noted : (olds : List ℕ) → AreNotes olds c.args.curs.now.numbers.items c.args.out.now.changes
    → AreNotes olds (slice_set c.loop-at.curs.numbers.items c.in-Some.thread c.args.number) (with_note c.in-Some.thread c.index-old.result.now c.loop-at.out.changes) =
    λ olds a.
    let notes : AreNotes olds c.loop-at.curs.numbers.items c.loop-at.out.changes = c.loop-at.invariant.2 olds a in
    let among : c.in-Some.thread < length olds = omega (arith, at, notes.places) in
    rw read (notes_step olds ns c.loop-at.out.changes x n notes among) in
    let begun : (c.args.from ≡ None) → (c.counted_blocker-at.result ≡ None) × (c.counted_blocker-at.new.steps ≡ c.args.steps.now) =
    λ none. absurd (none-some x (sym (c.loop-at.invariant.3 none).0 ∙ c.in-Some.is)) in
    let counted : (u : ℕ) → u < length c.args.owners.now.members → LeadsTo c.args.owners.now u c.args.from → LeadsBy c.args.owners.now u c.counted_blocker-at.result
    × (c.counted_blocker-at.new.steps + 4 * urgent_left c.args.owners.now u (slice_set c.loop-at.curs.numbers.items c.in-Some.thread c.args.number) c.args.number
    ≤ c.args.steps.now + 4 * urgent_left c.args.owners.now u c.args.curs.now.numbers.items c.args.number) =
    λ u h to.
    let so_far = c.loop-at.invariant.4 u h to in
    let lead : leads c.args.owners.now u c.in-Some.thread ≡ true = leads_some o u c.loop-at.at x c.in-Some.is so_far.0 in
    let fewer : urgent_left c.args.owners.now u (slice_set c.loop-at.curs.numbers.items c.in-Some.thread c.args.number) c.args.number < urgent_left c.args.owners.now u c.loop-at.curs.numbers.items c.args.number =
    fewer_left o u ns x n lead above inside raising.places in
    (rw c.counted_blocker-at.ensures.owner (leads_next o u x c.requires.sound lead), omega (arith, so_far.1, fewer, c.tick.ensures, c.tick-in-Some.ensures, c.counted_blocker-at.ensures.count, wait_low (awaited_in c.args.owners.now c.in-Some.thread))) in
    let lined : c.set.new.self.lines.items ≡ lines_of c.args.owners.now (slice_set c.loop-at.curs.numbers.items c.in-Some.thread c.args.number) =
    c.set.ensures.lines ∙ ap (lines_of c.args.owners.now) c.set.ensures.numbers in
    rw (c.note.ensures, c.set.ensures.numbers) (stepped, c.loop-at.invariant.1, noted, begun, counted, lined)

pub returns-then-old-number-clause-curs : goal.returns-then-old-number-clause-curs
returns-then-old-number-clause-curs g c =
    let raising : IsRaising c.args.owners.now c.loop-at.curs.numbers.items (Some c.in-Some.thread) c.args.number = rw (← c.in-Some.is) c.loop-at.invariant.0 in
    let place : c.thread.inside.0 < length c.loop-at.curs.numbers.items = omega (arith, (raising.low c.in-Some.thread refl).0, raising.places, c.thread.view_is) in
    let read : c.index-old.result.now ≡ slice_index c.loop-at.curs.numbers.items c.in-Some.thread =
    c.index-old.ensures ∙ get_or_default_zero c.loop-at.curs.numbers.items c.thread.inside.0 c.index-old.result.now place ∙ ap (slice_index c.loop-at.curs.numbers.items) c.thread.view_is in
    raised_all c.args.owners.now c.loop-at.curs.numbers.items c.args.number
    (raised_stop c.args.owners.now c.loop-at.curs.numbers.items c.in-Some.thread c.args.number raising (omega (arith, read, c.if-old-number.true)))

pub returns-in_default-clause-curs : goal.returns-in_default-clause-curs
returns-in_default-clause-curs g c = raised_all c.args.owners.now c.loop-at.curs.numbers.items c.args.number (rw (← c.in_default.is) c.loop-at.invariant.0)

pub returns-then-old-number-clause-nobody : goal.returns-then-old-number-clause-nobody
returns-then-old-number-clause-nobody g c = λ none. absurd (none-some c.in-Some.thread (sym (c.loop-at.invariant.3 none).0 ∙ c.in-Some.is))

pub returns-in_default-clause-nobody : goal.returns-in_default-clause-nobody
returns-in_default-clause-nobody g c = λ none. (c.loop-at.invariant.3 none).1

pub returns-then-old-number-clause-cost : goal.returns-then-old-number-clause-cost
returns-then-old-number-clause-cost g c = λ touched u among h to.
    omega (arith, (c.loop-at.invariant.4 u h to).1, c.tick.ensures, left_weight c.args.owners.now touched u c.args.curs.now.numbers.items c.args.number c.requires.sound among h)

pub returns-in_default-clause-cost : goal.returns-in_default-clause-cost
returns-in_default-clause-cost g c = λ touched u among h to.
    omega (arith, (c.loop-at.invariant.4 u h to).1, left_weight c.args.owners.now touched u c.args.curs.now.numbers.items c.args.number c.requires.sound among h)
