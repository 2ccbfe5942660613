use Rattle.std.proofs.Common.{arith, ◌≡◌, ◌<◌, ◌≤◌, ◌∙◌, sym, ap, length, Some}
use Rattle.rt_plain.specs.kernel.Ownership.{Ownership, first_in, leave_edit, pass_edit_to, with_mutex_free}
use Rattle.rt_plain.specs.kernel.Weight.{weight_of}
use Rattle.mutex_chain.specs.Costs.{chain_sum}
use Rattle.mutex_chain.proofs.BoundLemmas.{free_bound}
use Rattle.mutex_chain.proofs.ChainLemmas.{leads_here}
use Rattle.mutex_chain.specs.Renewing.{DiffersAt}
use Rattle.mutex_chain.proofs.NoteLemmas.{small_on}
use Rattle.mutex_chain.proofs.EditLemmas.{aside_by, differs_free, got_aside, passed_free}
use Rattle.mutex_chain.proofs.StoredLemmas.{lines_by}
use Rattle.mutex_chain.proofs.ends.hand_on.Goals as goal

pub renew_chain-requires-clause-lines : goal.renew_chain-requires-clause-lines
renew_chain-requires-clause-lines g c =
    c.requires.lines
    ∙ lines_by c.args.owners.now c.free.new.self c.args.curs.now.numbers.items (ap (λ (q : Ownership). q.members) c.free.ensures) (ap (λ (q : Ownership). length q.ceilings) c.free.ensures)

pub renew_chain-requires-in-Some-clause-lines : goal.renew_chain-requires-in-Some-clause-lines
renew_chain-requires-in-Some-clause-lines g c =
    c.leave.ensures.lines
    ∙ lines_by (leave_edit c.in-Some.waiter c.free.new.self) c.pass.new.self c.leave.new.self.numbers.items (ap (λ (q : Ownership). q.members) c.pass.ensures.edit) (ap (λ (q : Ownership). length q.ceilings) c.pass.ensures.edit)

pub renew_chain-requires-clause-aside : goal.renew_chain-requires-clause-aside
renew_chain-requires-clause-aside g c =
    let o = c.args.owners.now in
    let differs : DiffersAt c.args.owners.now (with_mutex_free c.args.mutex c.args.owners.now) (Some c.args.thread) = rw c.requires.owner at (differs_free o c.args.mutex c.know_sound.ensures) in
    aside_by o c.free.new.self (with_mutex_free c.args.mutex o) c.args.curs.now.numbers.items (Some c.args.thread) c.know_sound.ensures c.know_sound-2.ensures c.requires.curs c.free.ensures differs

pub renew_chain-requires-in-Some-clause-aside : goal.renew_chain-requires-in-Some-clause-aside
renew_chain-requires-in-Some-clause-aside g c =
    let first : first_in c.args.owners.now c.args.mutex ≡ Some c.in-Some.waiter = sym c.requires.first ∙ c.in-Some.is in
    got_aside c.args.owners.now c.free.new.self c.pass.new.self c.leave.new.self.numbers.items c.args.mutex c.in-Some.waiter c.know_sound-2.ensures c.know_sound-in-Some.ensures (c.leave.ensures.numbers ∙ c.renew_chain.ensures.curs) c.free.ensures c.pass.ensures.edit first

pub returns-in-Some-clause-owners : goal.returns-in-Some-clause-owners
returns-in-Some-clause-owners g c =
    c.pass.ensures.edit ∙ ap (pass_edit_to c.args.mutex (Some c.in-Some.waiter)) c.free.ensures ∙ passed_free c.args.owners.now c.args.mutex c.in-Some.waiter
    ∙ sym (ap (λ r. pass_edit_to c.args.mutex r c.args.owners.now) c.in-Some.is)

pub renew_chain-requires-clause-notes : goal.renew_chain-requires-clause-notes
renew_chain-requires-clause-notes g c =
    let size : length c.free.new.self.members ≡ length c.args.owners.now.members = ap (λ (q : Ownership). length q.members) c.free.ensures in
    rw size c.requires.notes

pub renew_chain-requires-in-Some-clause-notes : goal.renew_chain-requires-in-Some-clause-notes
renew_chain-requires-in-Some-clause-notes g c =
    let size : length c.pass.new.self.members ≡ length c.args.owners.now.members = c.pass.ensures.threads ∙ ap (λ (q : Ownership). length q.members) c.free.ensures in
    rw c.leave.ensures.numbers (small_on _ _ _ _ _ _ size c.requires.notes c.renew_chain.ensures.notes)

pub returns-in-Some-clause-notes : goal.returns-in-Some-clause-notes
returns-in-Some-clause-notes g c = λ olds small a. c.renew_chain-in-Some.ensures.notes olds small (rw c.leave.ensures.numbers (c.renew_chain.ensures.notes olds small a))

pub returns-in-Some-clause-cost : goal.returns-in-Some-clause-cost
returns-in-Some-clause-cost g c = λ inside.
    let size : length c.free.new.self.members ≡ length c.args.owners.now.members = ap (λ (q : Ownership). length q.members) c.free.ensures in
    let long : length c.pass.new.self.members ≡ length c.args.owners.now.members = c.pass.ensures.threads ∙ size in
    let within : c.in-Some.waiter < length c.args.owners.now.members = rw c.in-Some.is at c.requires.within in
    let there : c.args.thread < length c.free.new.self.members = omega (arith, size, inside) in
    let here : c.in-Some.waiter < length c.pass.new.self.members = omega (arith, long, within) in
    let first = c.renew_chain.ensures.cost c.args.thread there (leads_here c.free.new.self c.args.thread there) in
    let second = c.renew_chain-in-Some.ensures.cost c.in-Some.waiter here (leads_here c.pass.new.self c.in-Some.waiter here) in
    let less : chain_sum (weight_of c.free.new.self) c.free.new.self c.args.thread ≤ chain_sum (weight_of c.args.owners.now) c.args.owners.now c.args.thread =
    rw c.free.ensures (free_bound c.args.owners.now c.args.mutex c.args.thread c.know_sound.ensures inside) in
    rw c.in-Some.is (omega (arith, first, second, less, c.tick.ensures, c.tick-in-Some.ensures, c.tick-in-Some-2.ensures))

pub returns-in_default-clause-cost : goal.returns-in_default-clause-cost
returns-in_default-clause-cost g c = λ inside.
    let size : length c.free.new.self.members ≡ length c.args.owners.now.members = ap (λ (q : Ownership). length q.members) c.free.ensures in
    let there : c.args.thread < length c.free.new.self.members = omega (arith, size, inside) in
    let first = c.renew_chain.ensures.cost c.args.thread there (leads_here c.free.new.self c.args.thread there) in
    let less : chain_sum (weight_of c.free.new.self) c.free.new.self c.args.thread ≤ chain_sum (weight_of c.args.owners.now) c.args.owners.now c.args.thread =
    rw c.free.ensures (free_bound c.args.owners.now c.args.mutex c.args.thread c.know_sound.ensures inside) in
    omega (arith, first, less, c.tick.ensures)
