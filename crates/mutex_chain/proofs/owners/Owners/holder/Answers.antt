use Rattle.std.proofs.Common.{arith, ◌≡◌, ◌<◌, ◌≤◌, length, None, sym, ◌∙◌}
use Rattle.std.proofs.lemmas.List.{get_or_read}
use Rattle.mutex_chain.proofs.HolderLemmas.{owner_among, no_owner, owner_has}
use Rattle.mutex_chain.proofs.owners.Owners.holder.Goals as goal

pub returns-then-place-len-clause-owner : goal.returns-then-place-len-clause-owner
returns-then-place-len-clause-owner c =
    let past : length c.self.inside.ceilings.items ≤ c.mutex.inside.0 = omega (arith, c.if-place-len.true, c.len.ensures, c.self.invariant.1.1.places) in
    rw (← c.self.view_is, ← c.mutex.view_is) (sym (no_owner (length c.self.inside.ceilings.items) c.mutex.inside.0 c.self.inside.taken.items c.self.invariant.1.0.mutexes past))

pub returns-clause-within : goal.returns-clause-within
returns-clause-within c =
    let place : c.mutex.inside.0 < length c.self.inside.holders.items = omega (arith, c.if-place-len.false, c.len.ensures) in
    let in_table : c.mutex.inside.0 < length c.self.inside.ceilings.items = omega (arith, c.self.invariant.1.1.places) in
    let owner : c.index.result.now ≡ owner_among c.self.inside.taken.items c.mutex.inside.0 =
    get_or_read c.self.inside.holders.items _ _ place c.index.ensures None ∙ c.self.invariant.1.1.owner c.mutex.inside.0 in_table in
    rw (owner, ← c.self.view_is) (owner_has (length c.self.inside.members.items) c.mutex.inside.0 c.self.inside.taken.items c.self.invariant.1.0.owners)
