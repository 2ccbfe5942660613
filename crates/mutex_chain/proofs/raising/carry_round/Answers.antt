use Rattle.std.proofs.Common.{ℕ, arith, ◌≡◌, ◌+◌, ◌<◌, ◌≤◌, ◌∙◌, sym, ap, refl, length, get_or, Some, None, true}
use Rattle.std.specs.Prelude.{slice_index, slice_set}
use Rattle.std.specs.List.{sum_by}
use Rattle.std.proofs.lemmas.List.Sums.{sum_by-set}
use Rattle.std.proofs.lemmas.Grind.{get_or_default_zero}
use Rattle.std.proofs.lemmas.Option.{none-some}
use Rattle.mutex_chain.specs.Raising.{IsRaising, LeadsTo}
use Rattle.mutex_chain.specs.Costs.{chain_sum, step_cost}
use Rattle.mutex_chain.specs.Lines.{lines_of}
use Rattle.mutex_chain.proofs.ChainLemmas.{LeadsBy, leads, leads_some, leads_next, leads_start}
use Rattle.mutex_chain.proofs.CostLemmas.{urgent_chain, urgent_less, urgent_sum}
use Rattle.mutex_chain.proofs.RaiseLemmas.{raised_all, raised_stop, raised_step}
use Rattle.mutex_chain.proofs.raising.carry_round.Goals as goal

pub index-old-requires : goal.index-old-requires
index-old-requires g c = omega (arith, (c.loop-at.invariant.0.low c.in-Some.thread c.in-Some.is).0, c.loop-at.invariant.0.places, c.thread.view_is)

pub counted_set-requires-clause-thread : goal.counted_set-requires-clause-thread
counted_set-requires-clause-thread g c = (c.loop-at.invariant.0.low c.in-Some.thread c.in-Some.is).0

pub loop-at-init : goal.loop-at-init
loop-at-init g c = (
  c.requires.raising,
  c.requires.lines,
  (λ none. (none, refl)),
  (λ u h to. (
    leads_start c.args.owners.now u c.args.from h (λ t e. (c.requires.raising.low t e).0) to,
    omega (arith, urgent_chain (step_cost c.args.owners.now) c.args.owners.now u c.args.curs.now.numbers.items c.args.number h),
  )),
)

pub counted_blocker-at-requires : goal.counted_blocker-at-requires
counted_blocker-at-requires g c = (c.loop-at.invariant.0.low c.in-Some.thread c.in-Some.is).0

pub loop-at-smaller : goal.loop-at-smaller
loop-at-smaller g c =
    let inside : c.in-Some.thread < length c.args.owners.now.members = (c.loop-at.invariant.0.low c.in-Some.thread c.in-Some.is).0 in
    let place : c.thread.inside.0 < length c.loop-at.curs.numbers.items = omega (arith, inside, c.loop-at.invariant.0.places, c.thread.view_is) in
    let read : c.index-old.result.now ≡ get_or c.loop-at.curs.numbers.items c.thread.inside.0 0 =
    c.index-old.ensures ∙ get_or_default_zero c.loop-at.curs.numbers.items c.thread.inside.0 c.index-old.result.now place in
    let sums : sum_by (λ x. x) (slice_set c.loop-at.curs.numbers.items c.in-Some.thread c.args.number) + get_or c.loop-at.curs.numbers.items c.in-Some.thread 0 ≡ sum_by (λ x. x) c.loop-at.curs.numbers.items + c.args.number =
    sum_by-set (λ x. x) c.loop-at.curs.numbers.items c.in-Some.thread c.args.number 0 (omega (arith, place, c.thread.view_is)) in
    let at : get_or c.loop-at.curs.numbers.items c.thread.inside.0 0 ≡ get_or c.loop-at.curs.numbers.items c.in-Some.thread 0 = ap (λ i. get_or c.loop-at.curs.numbers.items i 0) c.thread.view_is in
    rw c.counted_set.ensures.numbers (omega (arith, read, at, sums, c.if-old-number.false))

pub loop-at-preserved : goal.loop-at-preserved
loop-at-preserved g c =
    let o = c.args.owners.now in
    let ns = c.loop-at.curs.numbers.items in
    let x = c.in-Some.thread in
    let raising : IsRaising c.args.owners.now c.loop-at.curs.numbers.items (Some c.in-Some.thread) c.args.number = rw (← c.in-Some.is) c.loop-at.invariant.0 in
    let place : c.thread.inside.0 < length c.loop-at.curs.numbers.items = omega (arith, (raising.low x refl).0, raising.places, c.thread.view_is) in
    let read : c.index-old.result.now ≡ slice_index c.loop-at.curs.numbers.items c.in-Some.thread =
    c.index-old.ensures ∙ get_or_default_zero c.loop-at.curs.numbers.items c.thread.inside.0 c.index-old.result.now place ∙ ap (slice_index c.loop-at.curs.numbers.items) c.thread.view_is in
    let above : c.args.number < slice_index c.loop-at.curs.numbers.items c.in-Some.thread = omega (arith, read, c.if-old-number.false) in
    let lined : c.counted_set.new.self.lines.items ≡ lines_of c.args.owners.now (slice_set c.loop-at.curs.numbers.items c.in-Some.thread c.args.number) =
    c.counted_set.ensures.lines ∙ ap (lines_of c.args.owners.now) c.counted_set.ensures.numbers in
    let inside : c.in-Some.thread < length c.args.owners.now.members = (raising.low x refl).0 in
    let stepped : IsRaising c.args.owners.now (slice_set c.loop-at.curs.numbers.items c.in-Some.thread c.args.number) c.counted_blocker-at.result c.args.number =
    rw c.counted_blocker-at.ensures.owner (raised_step o ns x c.args.number c.requires.sound raising above) in
    let begun : (c.args.from ≡ None) → (c.counted_blocker-at.result ≡ None) × (c.counted_blocker-at.new.steps ≡ c.args.steps.now) =
    λ none. absurd (none-some x (sym (c.loop-at.invariant.2 none).0 ∙ c.in-Some.is)) in
    let counted : (u : ℕ) → u < length c.args.owners.now.members → LeadsTo c.args.owners.now u c.args.from → LeadsBy c.args.owners.now u c.counted_blocker-at.result
    × (c.counted_blocker-at.new.steps + urgent_sum (step_cost c.args.owners.now) c.args.owners.now u (slice_set c.loop-at.curs.numbers.items c.in-Some.thread c.args.number) c.args.number
    ≤ c.args.steps.now + chain_sum (step_cost c.args.owners.now) c.args.owners.now u) =
    λ u h to.
    let so_far = c.loop-at.invariant.3 u h to in
    let lead : leads c.args.owners.now u c.in-Some.thread ≡ true = leads_some o u c.loop-at.at x c.in-Some.is so_far.0 in (
      rw c.counted_blocker-at.ensures.owner (leads_next o u x c.requires.sound lead),
      omega (arith, so_far.1, urgent_less (step_cost c.args.owners.now) c.args.owners.now u c.loop-at.curs.numbers.items c.in-Some.thread c.args.number lead above inside raising.places, c.tick.ensures, c.counted_set.ensures.count, c.counted_blocker-at.ensures.count),
    ) in
    rw c.counted_set.ensures.numbers (stepped, lined, begun, counted)

pub returns-then-old-number-clause-curs : goal.returns-then-old-number-clause-curs
returns-then-old-number-clause-curs g c =
    let raising : IsRaising c.args.owners.now c.loop-at.curs.numbers.items (Some c.in-Some.thread) c.args.number = rw (← c.in-Some.is) c.loop-at.invariant.0 in
    let place : c.thread.inside.0 < length c.loop-at.curs.numbers.items = omega (arith, (raising.low c.in-Some.thread refl).0, raising.places, c.thread.view_is) in
    let read : c.index-old.result.now ≡ slice_index c.loop-at.curs.numbers.items c.in-Some.thread =
    c.index-old.ensures ∙ get_or_default_zero c.loop-at.curs.numbers.items c.thread.inside.0 c.index-old.result.now place ∙ ap (slice_index c.loop-at.curs.numbers.items) c.thread.view_is in
    raised_all c.args.owners.now c.loop-at.curs.numbers.items c.args.number
    (raised_stop c.args.owners.now c.loop-at.curs.numbers.items c.in-Some.thread c.args.number raising (omega (arith, read, c.if-old-number.true)))

pub returns-in_default-clause-curs : goal.returns-in_default-clause-curs
returns-in_default-clause-curs g c = raised_all c.args.owners.now c.loop-at.curs.numbers.items c.args.number (rw (← c.in_default.is) c.loop-at.invariant.0)

pub returns-then-old-number-clause-nobody : goal.returns-then-old-number-clause-nobody
returns-then-old-number-clause-nobody g c = λ none. absurd (none-some c.in-Some.thread (sym (c.loop-at.invariant.2 none).0 ∙ c.in-Some.is))

pub returns-in_default-clause-nobody : goal.returns-in_default-clause-nobody
returns-in_default-clause-nobody g c = λ none. (c.loop-at.invariant.2 none).1

pub returns-then-old-number-clause-cost : goal.returns-then-old-number-clause-cost
returns-then-old-number-clause-cost g c = λ u h to. omega (arith, (c.loop-at.invariant.3 u h to).1, c.tick.ensures)

pub returns-in_default-clause-cost : goal.returns-in_default-clause-cost
returns-in_default-clause-cost g c = λ u h to. omega (arith, (c.loop-at.invariant.3 u h to).1)
