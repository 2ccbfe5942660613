use Rattle.std.proofs.Common.{ℕ, List, arith, ◌≡◌, ◌≢◌, ◌+◌, ◌<◌, ◌≤◌, ◌∙◌, sym, ap, refl, length, Some, None, true}
use Rattle.std.specs.Prelude.{slice_index, slice_set}
use Rattle.std.proofs.lemmas.Grind.{get_or_default_zero}
use Rattle.std.proofs.lemmas.Option.{none-some}
use Rattle.mutex_chain.specs.Renewing.{IsMarking}
use Rattle.mutex_chain.specs.Raising.{LeadsTo}
use Rattle.mutex_chain.specs.Costs.{step_cost, walk_sum, chain_sum}
use Rattle.mutex_chain.proofs.ChainLemmas.{LeadsBy, leads, leads_some, leads_next, leads_start}
use Rattle.mutex_chain.proofs.CostLemmas.{ahead_at, unmarked_sum, unmarked_chain, unmarked_less, walk_push}
use Rattle.mutex_chain.specs.Noting.{AreNotes, with_note}
use Rattle.mutex_chain.specs.Lines.{lines_of}
use Rattle.mutex_chain.proofs.NoteLemmas.{notes_room, notes_step}
use Rattle.mutex_chain.proofs.RenewLemmas.{marking_begins, marking_step, marking_ends, marking_rest, fewer_fresh}
use Rattle.mutex_chain.proofs.renewing.mark_chain.Goals as goal

pub loop-at-init : goal.loop-at-init
loop-at-init g c = (
  marking_begins c.args.owners.now c.args.curs.now.numbers.items c.args.from.now c.requires.aside,
  refl,
  (λ olds a. a),
  c.requires.lines,
  refl,
  (λ none. (refl, none, refl)),
  omega arith,
  (λ f u h to. (
    leads_start c.args.owners.now u c.args.from.now h c.requires.aside.within to,
    omega (arith, unmarked_chain f c.args.owners.now u c.args.curs.now.numbers.items h),
  )),
)

pub index-old-requires : goal.index-old-requires
index-old-requires g c = omega (arith, (c.loop-at.invariant.0.next c.in-Some.thread c.in-Some.is).0, c.loop-at.invariant.0.places, c.thread.view_is)

pub counted_set-requires-clause-thread : goal.counted_set-requires-clause-thread
counted_set-requires-clause-thread g c = (c.loop-at.invariant.0.next c.in-Some.thread c.in-Some.is).0

pub counted_blocker-at-requires : goal.counted_blocker-at-requires
counted_blocker-at-requires g c = (c.loop-at.invariant.0.next c.in-Some.thread c.in-Some.is).0

pub overflow_add-count : goal.overflow_add-count
overflow_add-count g c =
    let place : c.thread.inside.0 < length c.loop-at.curs.numbers.items = omega (arith, (c.loop-at.invariant.0.next c.in-Some.thread c.in-Some.is).0, c.loop-at.invariant.0.places, c.thread.view_is) in
    let read : c.index-old.result.now ≡ slice_index c.loop-at.curs.numbers.items c.thread.inside.0 = c.index-old.ensures ∙ get_or_default_zero c.loop-at.curs.numbers.items c.thread.inside.0 c.index-old.result.now place in
    omega (arith, fewer_fresh c.loop-at.curs.numbers.items c.thread.inside.0 place (λ e. c.if-old-eq-MARK.false (read ∙ e)), c.loop-at.invariant.0.room, c.requires.sound.few_threads)

pub loop-at-smaller : goal.loop-at-smaller
loop-at-smaller g c =
    let place : c.thread.inside.0 < length c.loop-at.curs.numbers.items = omega (arith, (c.loop-at.invariant.0.next c.in-Some.thread c.in-Some.is).0, c.loop-at.invariant.0.places, c.thread.view_is) in
    let read : c.index-old.result.now ≡ slice_index c.loop-at.curs.numbers.items c.thread.inside.0 = c.index-old.ensures ∙ get_or_default_zero c.loop-at.curs.numbers.items c.thread.inside.0 c.index-old.result.now place in
    rw (c.counted_set.ensures.numbers, ← c.thread.view_is) (omega (arith, fewer_fresh c.loop-at.curs.numbers.items c.thread.inside.0 place (λ e. c.if-old-eq-MARK.false (read ∙ e))))

pub loop-at-preserved : goal.loop-at-preserved
loop-at-preserved g c =
    let m : IsMarking c.args.owners.now c.args.curs.now.numbers.items c.loop-at.curs.numbers.items c.args.from.now c.loop-at.count (Some c.in-Some.thread) = rw (← c.in-Some.is) c.loop-at.invariant.0 in
    let place : c.thread.inside.0 < length c.loop-at.curs.numbers.items = omega (arith, (m.next c.in-Some.thread refl).0, m.places, c.thread.view_is) in
    let read : c.index-old.result.now ≡ slice_index c.loop-at.curs.numbers.items c.in-Some.thread =
    c.index-old.ensures ∙ get_or_default_zero c.loop-at.curs.numbers.items c.thread.inside.0 c.index-old.result.now place ∙ ap (slice_index c.loop-at.curs.numbers.items) c.thread.view_is in
    let noted : (olds : List ℕ) → AreNotes olds c.args.curs.now.numbers.items c.args.out.now.changes
    → AreNotes olds (slice_set c.loop-at.curs.numbers.items c.in-Some.thread 257) (with_note c.in-Some.thread c.index-old.result.now c.loop-at.out.changes) =
    λ olds a.
    let notes : AreNotes olds c.loop-at.curs.numbers.items c.loop-at.out.changes = c.loop-at.invariant.2 olds a in
    let among : c.in-Some.thread < length olds = omega (arith, place, c.thread.view_is, notes.places) in
    rw read (notes_step olds c.loop-at.curs.numbers.items c.loop-at.out.changes c.in-Some.thread 257 notes among) in
    let lined : c.counted_set.new.self.lines.items ≡ lines_of c.args.owners.now (slice_set c.loop-at.curs.numbers.items c.in-Some.thread 257) =
    c.counted_set.ensures.lines ∙ ap (lines_of c.args.owners.now) c.counted_set.ensures.numbers in
    let o = c.args.owners.now in
    let x = c.in-Some.thread in
    let ahead : ahead_at c.args.owners.now c.loop-at.count c.args.from.now ≡ Some c.in-Some.thread = sym c.loop-at.invariant.4 ∙ c.in-Some.is in
    let unmarked : slice_index c.loop-at.curs.numbers.items c.in-Some.thread ≢ 257 = λ e. c.if-old-eq-MARK.false (read ∙ e) in
    let further : c.counted_blocker-at.result ≡ ahead_at c.args.owners.now (c.loop-at.count + 1) c.args.from.now =
    c.counted_blocker-at.ensures.owner ∙ sym (walk_push (step_cost o) o c.loop-at.count c.args.from.now x ahead).1 in
    let begun : (c.args.from.now ≡ None) → (c.loop-at.count + 1 ≡ 0) × (c.counted_blocker-at.result ≡ None) × (c.counted_blocker-at.new.steps ≡ c.args.steps.now) =
    λ none. absurd (none-some x (sym (c.loop-at.invariant.5 none).1 ∙ c.in-Some.is)) in
    let counted : c.counted_blocker-at.new.steps ≡ c.args.steps.now + walk_sum (step_cost c.args.owners.now) c.args.owners.now (c.loop-at.count + 1) c.args.from.now =
    omega (arith, c.loop-at.invariant.6, (walk_push (step_cost o) o c.loop-at.count c.args.from.now x ahead).0, c.tick.ensures, c.counted_set.ensures.count, c.counted_blocker-at.ensures.count) in
    let once : (f : ℕ → ℕ) (u : ℕ) → u < length c.args.owners.now.members → LeadsTo c.args.owners.now u c.args.from.now → LeadsBy c.args.owners.now u c.counted_blocker-at.result
    × (walk_sum f c.args.owners.now (c.loop-at.count + 1) c.args.from.now + unmarked_sum f c.args.owners.now u (slice_set c.loop-at.curs.numbers.items c.in-Some.thread 257) ≤ chain_sum f c.args.owners.now u) =
    λ f u h to.
    let so_far = c.loop-at.invariant.7 f u h to in
    let lead : leads c.args.owners.now u c.in-Some.thread ≡ true = leads_some o u c.loop-at.at x c.in-Some.is so_far.0 in (
      rw c.counted_blocker-at.ensures.owner (leads_next o u x c.requires.sound lead),
      omega (arith, so_far.1, (walk_push f o c.loop-at.count c.args.from.now x ahead).0, unmarked_less f o u c.loop-at.curs.numbers.items x lead unmarked (m.next x refl).0 m.places),
    ) in
    let marking : IsMarking c.args.owners.now c.args.curs.now.numbers.items (slice_set c.loop-at.curs.numbers.items c.in-Some.thread 257) c.args.from.now (c.loop-at.count + 1) c.counted_blocker-at.result =
    rw c.counted_blocker-at.ensures.owner (marking_step c.args.owners.now c.args.curs.now.numbers.items c.loop-at.curs.numbers.items c.args.from.now c.loop-at.count c.in-Some.thread c.requires.sound m unmarked) in
    rw (c.note.ensures, c.counted_set.ensures.numbers) (
      marking,
      c.loop-at.invariant.1,
      noted,
      lined,
      further,
      begun,
      counted,
      once,
    )

pub returns-then-old-eq-MARK-clause-renewing : goal.returns-then-old-eq-MARK-clause-renewing
returns-then-old-eq-MARK-clause-renewing g c =
    let m : IsMarking c.args.owners.now c.args.curs.now.numbers.items c.loop-at.curs.numbers.items c.args.from.now c.loop-at.count (Some c.in-Some.thread) = rw (← c.in-Some.is) c.loop-at.invariant.0 in
    let place : c.thread.inside.0 < length c.loop-at.curs.numbers.items = omega (arith, (m.next c.in-Some.thread refl).0, m.places, c.thread.view_is) in
    let read : c.index-old.result.now ≡ slice_index c.loop-at.curs.numbers.items c.in-Some.thread =
    c.index-old.ensures ∙ get_or_default_zero c.loop-at.curs.numbers.items c.thread.inside.0 c.index-old.result.now place ∙ ap (slice_index c.loop-at.curs.numbers.items) c.thread.view_is in
    marking_ends c.args.owners.now c.args.curs.now.numbers.items c.loop-at.curs.numbers.items c.args.from.now c.loop-at.count (Some c.in-Some.thread) c.requires.sound c.requires.aside m
    (λ t e. let same : c.in-Some.thread ≡ t = cc in sym (ap (slice_index c.loop-at.curs.numbers.items) same) ∙ sym read ∙ c.if-old-eq-MARK.true)

pub returns-in_default-clause-renewing : goal.returns-in_default-clause-renewing
returns-in_default-clause-renewing g c =
    marking_ends c.args.owners.now c.args.curs.now.numbers.items c.loop-at.curs.numbers.items c.args.from.now c.loop-at.count c.loop-at.at c.requires.sound c.requires.aside c.loop-at.invariant.0
    (λ t e. absurd (none-some t (sym c.in_default.is ∙ e)))

pub returns-then-old-eq-MARK-clause-rest : goal.returns-then-old-eq-MARK-clause-rest
returns-then-old-eq-MARK-clause-rest g c =
    let m : IsMarking c.args.owners.now c.args.curs.now.numbers.items c.loop-at.curs.numbers.items c.args.from.now c.loop-at.count (Some c.in-Some.thread) = rw (← c.in-Some.is) c.loop-at.invariant.0 in
    let place : c.thread.inside.0 < length c.loop-at.curs.numbers.items = omega (arith, (m.next c.in-Some.thread refl).0, m.places, c.thread.view_is) in
    let read : c.index-old.result.now ≡ slice_index c.loop-at.curs.numbers.items c.in-Some.thread =
    c.index-old.ensures ∙ get_or_default_zero c.loop-at.curs.numbers.items c.thread.inside.0 c.index-old.result.now place ∙ ap (slice_index c.loop-at.curs.numbers.items) c.thread.view_is in
    marking_rest c.args.owners.now c.args.curs.now.numbers.items c.loop-at.curs.numbers.items c.args.from.now c.loop-at.count (Some c.in-Some.thread) c.requires.aside m
    (λ t e. let same : c.in-Some.thread ≡ t = cc in sym (ap (slice_index c.loop-at.curs.numbers.items) same) ∙ sym read ∙ c.if-old-eq-MARK.true)

pub returns-in_default-clause-rest : goal.returns-in_default-clause-rest
returns-in_default-clause-rest g c =
    marking_rest c.args.owners.now c.args.curs.now.numbers.items c.loop-at.curs.numbers.items c.args.from.now c.loop-at.count c.loop-at.at c.requires.aside c.loop-at.invariant.0
    (λ t e. absurd (none-some t (sym c.in_default.is ∙ e)))

pub note-requires : goal.note-requires
note-requires g c =
    let inside : c.in-Some.thread < length c.args.owners.now.members = (c.loop-at.invariant.0.next c.in-Some.thread c.in-Some.is).0 in
    let olds = c.requires.notes.olds in
    let notes : AreNotes c.requires.notes.olds c.loop-at.curs.numbers.items c.loop-at.out.changes = c.loop-at.invariant.2 c.requires.notes.olds c.requires.notes.are in
    let among : c.in-Some.thread < length c.requires.notes.olds = omega (arith, inside, c.requires.notes.places) in
    omega (arith, notes_room olds c.loop-at.curs.numbers.items c.loop-at.out.changes c.in-Some.thread c.index-old.result.now notes among, c.requires.notes.places, c.loop-at.invariant.1, c.requires.room)

pub returns-then-old-eq-MARK-clause-nobody : goal.returns-then-old-eq-MARK-clause-nobody
returns-then-old-eq-MARK-clause-nobody g c = λ none. absurd (none-some c.in-Some.thread (sym (c.loop-at.invariant.5 none).1 ∙ c.in-Some.is))

pub returns-in_default-clause-nobody : goal.returns-in_default-clause-nobody
returns-in_default-clause-nobody g c = λ none. ((c.loop-at.invariant.5 none).0, (c.loop-at.invariant.5 none).2)

pub returns-then-old-eq-MARK-clause-cost : goal.returns-then-old-eq-MARK-clause-cost
returns-then-old-eq-MARK-clause-cost g c = omega (arith, c.loop-at.invariant.6, c.tick.ensures)

pub returns-in_default-clause-cost : goal.returns-in_default-clause-cost
returns-in_default-clause-cost g c = omega (arith, c.loop-at.invariant.6)

pub returns-then-old-eq-MARK-clause-once : goal.returns-then-old-eq-MARK-clause-once
returns-then-old-eq-MARK-clause-once g c = λ f u h to. omega (arith, (c.loop-at.invariant.7 f u h to).1)

pub returns-in_default-clause-once : goal.returns-in_default-clause-once
returns-in_default-clause-once g c = λ f u h to. omega (arith, (c.loop-at.invariant.7 f u h to).1)
