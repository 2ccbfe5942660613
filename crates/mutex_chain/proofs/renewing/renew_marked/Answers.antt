use Rattle.std.proofs.Common.{ℕ, arith, ◌≡◌, ◌+◌, ◌-◌, ◌<◌, ◌∙◌, sym, ap, refl, length, inl, inr, Some, None}
use Rattle.std.specs.Prelude.{slice_set}
use Rattle.std.proofs.lemmas.Option.{none-some}
use Rattle.mutex_chain.specs.Raising.{LeadsTo}
use Rattle.mutex_chain.specs.Costs.{renew_cost, walk_sum}
use Rattle.mutex_chain.specs.Renewing.{IsLeast, IsRenewing}
use Rattle.mutex_chain.specs.Lines.{lines_of}
use Rattle.mutex_chain.proofs.ChainLemmas.{LeadsBy, leads_some, leads_next, leads_start, leads_back}
use Rattle.mutex_chain.proofs.CostLemmas.{walk_step}
use Rattle.mutex_chain.proofs.FirstsLemmas.{least_fits}
use Rattle.mutex_chain.proofs.RenewLemmas.{renewing_on, renewing_ends}
use Rattle.mutex_chain.proofs.renewing.renew_marked.Goals as goal
use Rattle.mutex_chain.proofs.renewing.renew_marked.Goals.{else-loop-left-test, then-loop-left-test+in_default}

pub least_number-number-requires-clause-thread : goal.least_number-number-requires-clause-thread
least_number-number-requires-clause-thread g c = (c.loop-left.invariant.0.low c.in-Some.thread c.in-Some.is).0

pub least_number-number-requires-clause-fits : goal.least_number-number-requires-clause-fits
least_number-number-requires-clause-fits g c =
    let renewing : IsRenewing c.args.owners.now c.loop-left.curs.numbers.items c.loop-left.left (Some c.in-Some.thread) c.loop-left.number = rw (← c.in-Some.is) c.loop-left.invariant.0 in
    least_fits c.args.owners.now c.loop-left.curs.numbers.items c.loop-left.left c.in-Some.thread c.loop-left.number c.requires.sound renewing

pub counted_set-requires-clause-thread : goal.counted_set-requires-clause-thread
counted_set-requires-clause-thread g c = (c.loop-left.invariant.0.low c.in-Some.thread c.in-Some.is).0

pub loop-left-init : goal.loop-left-init
loop-left-init g c = (
  c.requires.renewing,
  c.requires.lines,
  (λ none. (none, refl)),
  omega arith,
  (λ u h to. leads_start c.args.owners.now u c.args.from.now h (λ t e. (c.requires.renewing.low t e).0) to),
)

pub counted_blocker-at-requires : goal.counted_blocker-at-requires
counted_blocker-at-requires g c = (c.loop-left.invariant.0.low c.in-Some.thread c.in-Some.is).0

pub loop-left-preserved : goal.loop-left-preserved
loop-left-preserved g c =
    let renewing : IsRenewing c.args.owners.now c.loop-left.curs.numbers.items c.loop-left.left (Some c.in-Some.thread) c.loop-left.number = rw (← c.in-Some.is) c.loop-left.invariant.0 in
    let least : IsLeast c.args.owners.now c.loop-left.curs.numbers.items c.in-Some.thread c.least_number-number.result = c.least_number-number.ensures.least in
    let lined : c.counted_set.new.self.lines.items ≡ lines_of c.args.owners.now (slice_set c.loop-left.curs.numbers.items c.in-Some.thread c.least_number-number.result) =
    c.counted_set.ensures.lines ∙ ap (lines_of c.args.owners.now) c.counted_set.ensures.numbers in
    let o = c.args.owners.now in
    let x = c.in-Some.thread in
    let more : 0 < c.loop-left.left = omega (arith, c.loop-left-test.true) in
    let left : IsRenewing c.args.owners.now (slice_set c.loop-left.curs.numbers.items c.in-Some.thread c.least_number-number.result) (c.loop-left.left - 1) c.counted_blocker-at.result c.least_number-number.result =
    rw c.counted_blocker-at.ensures.owner (renewing_on o c.loop-left.curs.numbers.items c.loop-left.left x c.loop-left.number c.least_number-number.result c.requires.sound more renewing least) in
    let begun : (c.args.from.now ≡ None) → (c.counted_blocker-at.result ≡ None) × (c.counted_blocker-at.new.steps ≡ c.args.steps.now) =
    λ none. absurd (none-some x (sym (c.loop-left.invariant.2 none).0 ∙ c.in-Some.is)) in
    let before : c.loop-left.steps + walk_sum (renew_cost c.args.owners.now) c.args.owners.now c.loop-left.left (Some c.in-Some.thread) ≡ c.args.steps.now + walk_sum (renew_cost c.args.owners.now) c.args.owners.now c.args.count c.args.from.now =
    rw (← c.in-Some.is) c.loop-left.invariant.3 in
    let counted : c.counted_blocker-at.new.steps + walk_sum (renew_cost c.args.owners.now) c.args.owners.now (c.loop-left.left - 1) c.counted_blocker-at.result ≡ c.args.steps.now + walk_sum (renew_cost c.args.owners.now) c.args.owners.now c.args.count c.args.from.now =
    rw c.counted_blocker-at.ensures.owner (omega (arith, before, walk_step (renew_cost o) o c.loop-left.left x more, c.least_number-number.ensures.count, c.counted_set.ensures.count, c.counted_blocker-at.ensures.count)) in
    let led : (u : ℕ) → u < length c.args.owners.now.members → LeadsTo c.args.owners.now u c.args.from.now → LeadsBy c.args.owners.now u c.counted_blocker-at.result =
    λ u h to. rw c.counted_blocker-at.ensures.owner (leads_next o u x c.requires.sound (leads_some o u c.loop-left.at x c.in-Some.is (c.loop-left.invariant.4 u h to))) in
    rw c.counted_set.ensures.numbers (left, lined, begun, counted, led)

pub carry_round-requires-clause-raising : goal.carry_round-requires-clause-raising
carry_round-requires-clause-raising g c =
    renewing_ends c.args.owners.now c.loop-left.curs.numbers.items c.loop-left.left c.loop-left.at c.loop-left.number c.loop-left.invariant.0
    (elim c.loop-left-test.branch [
      | else-loop-left-test w ↦ inl (omega (arith, w.loop-left-test.false))
      | then-loop-left-test+in_default w ↦ inr w.in_default.is
    ])

pub returns-clause-nobody : goal.returns-clause-nobody
returns-clause-nobody g c = λ none. c.carry_round.ensures.nobody (c.loop-left.invariant.2 none).0 ∙ (c.loop-left.invariant.2 none).1

pub returns-clause-cost : goal.returns-clause-cost
returns-clause-cost g c = λ u h to.
    let led : LeadsTo c.args.owners.now u c.loop-left.at = leads_back c.args.owners.now u c.loop-left.at h (λ t e. (c.loop-left.invariant.0.low t e).0) (c.loop-left.invariant.4 u h to) in
    omega (arith, c.carry_round.ensures.cost u h led, c.loop-left.invariant.3)
