use Rattle.std.proofs.Common.{arith, ◌≡◌, ◌<◌, ◌∙◌, sym, ap, inl, inr, ⊎_elim, length}
use Rattle.std.specs.Prelude.{slice_index}
use Rattle.rt_plain.specs.kernel.Ownership.{cur_in}
use Rattle.mutex_chain.specs.Noting.{AreNotes}
use Rattle.mutex_chain.specs.Costs.{step_cost, renew_cost}
use Rattle.mutex_chain.proofs.CostLemmas.{walks_weight}
use Rattle.mutex_chain.proofs.CurLemmas.{cur_at}
use Rattle.mutex_chain.proofs.NoteLemmas.{notes_same}
use Rattle.mutex_chain.proofs.renewing.renew_chain.Goals as goal

pub mark_chain-count-requires-clause-notes : goal.mark_chain-count-requires-clause-notes
mark_chain-count-requires-clause-notes g c = record { olds = c.requires.notes.olds; places = c.requires.notes.places; are = c.requires.notes.are }

pub returns-clause-notes : goal.returns-clause-notes
returns-clause-notes g c = λ olds small a.
    let marked : AreNotes olds c.mark_chain-count.new.curs.numbers.items c.mark_chain-count.new.out.changes = c.mark_chain-count.ensures.notes olds a in
    let long : length c.mark_chain-count.new.curs.numbers.items ≡ length c.args.owners.now.members = c.mark_chain-count.ensures.renewing.places in
    notes_same olds c.mark_chain-count.new.curs.numbers.items c.renew_marked.new.curs.numbers.items c.mark_chain-count.new.out.changes marked small (c.renew_marked.ensures.places ∙ sym long)
    (λ t h.
    let within : t < length c.args.owners.now.members = omega (arith, marked.places, long) in
    let now : slice_index c.renew_marked.new.curs.numbers.items t ≡ cur_in c.args.owners.now t = ap (λ ns. slice_index ns t) c.renew_marked.ensures.curs ∙ cur_at c.args.owners.now t within in
    ⊎_elim inl (λ e. inr (e ∙ sym now)) (c.mark_chain-count.ensures.rest t within))

pub returns-clause-nobody : goal.returns-clause-nobody
returns-clause-nobody g c = λ none. c.renew_marked.ensures.nobody none ∙ (c.mark_chain-count.ensures.nobody none).1

pub returns-clause-cost : goal.returns-clause-cost
returns-clause-cost g c = λ u h to.
    let o = c.args.owners.now in
    omega (
      arith,
      c.mark_chain-count.ensures.cost,
      c.mark_chain-count.ensures.once (step_cost o) u h to,
      c.mark_chain-count.ensures.once (renew_cost o) u h to,
      c.renew_marked.ensures.cost u h to,
      walks_weight o u,
    )
