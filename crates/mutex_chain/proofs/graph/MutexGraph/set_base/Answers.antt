use Rattle.std.proofs.Common.{arith, ◌≡◌, ◌<◌, ◌≤◌, ◌∙◌, ap, length, true, [], ◌∷◌}
use Rattle.std.specs.Option.{option_map}
use Rattle.std.proofs.Math.ListN.{length-set}
use Rattle.rt_plain.specs.kernel.Ownership.{Ownership, base_edit, base_of, member_at, with_base}
use Rattle.mutex_chain.specs.Owners.{has_thread}
use Rattle.mutex_chain.proofs.BoundLemmas.{here_bound}
use Rattle.mutex_chain.proofs.ChainLemmas.{leads_here}
use Rattle.mutex_chain.proofs.ChangeLemmas.{thread_within}
use Rattle.mutex_chain.proofs.EditLemmas.{aside_by, differs_base}
use Rattle.mutex_chain.proofs.LawLemmas.{itself}
use Rattle.mutex_chain.proofs.OwnedLemmas.{owned_base}
use Rattle.mutex_chain.proofs.StrongLemmas.{base_raises}
use Rattle.mutex_chain.proofs.StoredLemmas.{lines_member, based_wait}
use Rattle.mutex_chain.proofs.graph.MutexGraph.set_base.Goals as goal

pub strengthen-requires-clause-lines : goal.strengthen-requires-clause-lines
strengthen-requires-clause-lines g c =
    let o = c.self.inside.owners in
    let there : has_thread c.self.inside.owners c.args.thread ≡ true = rw c.self.view_is c.requires.there in
    rw c.set_base.ensures
    (c.self.invariant.lines
    ∙ lines_member o c.self.inside.curs.numbers.items c.args.thread (option_map (with_base c.args.base) (member_at o c.args.thread)) (thread_within o c.args.thread there) (based_wait c.args.base (member_at o c.args.thread)))

pub renew-requires-clause-lines : goal.renew-requires-clause-lines
renew-requires-clause-lines g c =
    let o = c.self.inside.owners in
    let there : has_thread c.self.inside.owners c.args.thread ≡ true = rw c.self.view_is c.requires.there in
    rw c.set_base.ensures
    (c.self.invariant.lines
    ∙ lines_member o c.self.inside.curs.numbers.items c.args.thread (option_map (with_base c.args.base) (member_at o c.args.thread)) (thread_within o c.args.thread there) (based_wait c.args.base (member_at o c.args.thread)))

pub strengthen-requires-clause-raising : goal.strengthen-requires-clause-raising
strengthen-requires-clause-raising g c =
    let o = c.self.inside.owners in
    let there : has_thread c.self.inside.owners c.args.thread ≡ true = rw c.self.view_is c.requires.there in
    let less : c.args.base ≤ base_of (member_at c.self.inside.owners c.args.thread) = omega (arith, c.if-number-old.false, c.base.view_is, c.base_of-old.ensures) in
    rw c.base.view_is (base_raises o c.set_base.new.self c.self.inside.curs.numbers.items c.args.thread c.args.base c.self.invariant.sound c.know_sound.ensures c.self.invariant.curs c.set_base.ensures there less)

pub returns-clause-cost : goal.returns-clause-cost
returns-clause-cost g c =
    let there : has_thread c.self.inside.owners c.args.thread ≡ true = rw c.self.view_is c.requires.there in
    let size : length c.set_base.new.self.members ≡ length c.self.inside.owners.members =
    ap (λ (q : Ownership). length q.members) c.set_base.ensures ∙ length-set c.self.inside.owners.members c.args.thread (option_map (with_base c.args.base) (member_at c.self.inside.owners c.args.thread)) in
    let inside : c.args.thread < length c.set_base.new.self.members = omega (arith, thread_within c.self.inside.owners c.args.thread there) in
    let cost = c.strengthen.ensures.cost (c.args.thread ∷ []) c.args.thread (itself c.args.thread) inside (leads_here c.set_base.new.self c.args.thread inside) in
    omega (arith, cost, c.tick.ensures)

pub renew-requires-clause-aside : goal.renew-requires-clause-aside
renew-requires-clause-aside g c =
    let o = c.self.inside.owners in
    let there : has_thread c.self.inside.owners c.args.thread ≡ true = rw c.self.view_is c.requires.there in
    aside_by o c.set_base.new.self (base_edit c.args.thread c.args.base o) c.self.inside.curs.numbers.items _ c.self.invariant.sound c.know_sound.ensures c.self.invariant.curs c.set_base.ensures
    (differs_base o c.args.thread c.args.base (thread_within o c.args.thread there))

pub invariant_of-self-2 : goal.invariant_of-self-2
invariant_of-self-2 g c = record {
  sound = c.know_sound.ensures;
  owned = rw c.set_base.ensures (owned_base c.self.inside.owners c.args.thread c.args.base c.self.invariant.owned);
  curs = c.strengthen.ensures.curs;
  places = c.strengthen.ensures.places;
  lines = c.strengthen.ensures.lines;
}

pub returns-then-number-old-clause-cost : goal.returns-then-number-old-clause-cost
returns-then-number-old-clause-cost g c =
    let there : has_thread c.self.inside.owners c.args.thread ≡ true = rw c.self.view_is c.requires.there in
    let size : length c.set_base.new.self.members ≡ length c.self.inside.owners.members =
    ap (λ (q : Ownership). length q.members) c.set_base.ensures ∙ length-set c.self.inside.owners.members c.args.thread (option_map (with_base c.args.base) (member_at c.self.inside.owners c.args.thread)) in
    let inside : c.args.thread < length c.set_base.new.self.members = omega (arith, thread_within c.self.inside.owners c.args.thread there, size) in
    omega (arith, here_bound c.args.self.now c.set_base.new.self c.args.thread c.tick.new.self c.renew.new.steps c.know_sound.ensures inside c.renew.ensures.cost, c.tick.ensures)
