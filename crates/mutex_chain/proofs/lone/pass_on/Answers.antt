use Rattle.std.proofs.Common.{◌≡◌, ◌∙◌, sym, ap, length, Some}
use Rattle.rt_plain.specs.kernel.Ownership.{Ownership, cur_in, leave_edit, first_in, pass_edit_to}
use Rattle.std.specs.Prelude.{slice_set}
use Rattle.mutex_chain.proofs.StoredLemmas.{lines_by}
use Rattle.mutex_chain.proofs.EndingLemmas.{free_but, pass_but, pass_waiters}
use Rattle.mutex_chain.proofs.lone.pass_on.Goals as goal

pub returns-in_default-clause-but : goal.returns-in_default-clause-but
returns-in_default-clause-but g c =
    rw c.free.ensures (free_but c.args.owners.now c.args.thread c.args.mutex c.args.curs.now.numbers.items c.requires.sound c.requires.gone c.requires.thread c.requires.owner (sym c.in_default.is ∙ c.requires.first) c.requires.but)

pub returns-in_default-clause-lines : goal.returns-in_default-clause-lines
returns-in_default-clause-lines g c =
    c.requires.lines
    ∙ lines_by c.args.owners.now c.free.new.self c.args.curs.now.numbers.items (ap (λ (q : Ownership). q.members) c.free.ensures) (ap (λ (q : Ownership). length q.ceilings) c.free.ensures)

pub renew_lone-requires-clause-lines : goal.renew_lone-requires-clause-lines
renew_lone-requires-clause-lines g c =
    c.leave.ensures.lines
    ∙ lines_by (leave_edit c.in-Some.waiter c.args.owners.now) c.pass.new.self c.leave.new.self.numbers.items (ap (λ (q : Ownership). q.members) c.pass.ensures.edit) (ap (λ (q : Ownership). length q.ceilings) c.pass.ensures.edit)

pub renew_lone-requires-clause-right : goal.renew_lone-requires-clause-right
renew_lone-requires-clause-right g c =
    let first : Some c.in-Some.waiter ≡ first_in c.args.owners.now c.args.mutex = sym c.in-Some.is ∙ c.requires.first in
    rw (c.leave.ensures.numbers, c.pass.ensures.edit)
    (pass_waiters c.args.owners.now c.args.thread c.args.mutex c.in-Some.waiter c.args.curs.now.numbers.items c.requires.sound c.requires.gone c.requires.thread c.requires.owner first c.requires.but)

pub returns-clause-but : goal.returns-clause-but
returns-clause-but g c =
    let first : Some c.in-Some.waiter ≡ first_in c.args.owners.now c.args.mutex = sym c.in-Some.is ∙ c.requires.first in
    let numbers : c.renew_lone.new.curs.numbers.items ≡ slice_set c.args.curs.now.numbers.items c.in-Some.waiter (cur_in (pass_edit_to c.args.mutex (Some c.in-Some.waiter) c.args.owners.now) c.in-Some.waiter) =
    c.renew_lone.ensures.numbers ∙ ap (λ ns. slice_set ns c.in-Some.waiter (cur_in c.pass.new.self c.in-Some.waiter)) c.leave.ensures.numbers
    ∙ ap (λ q. slice_set c.args.curs.now.numbers.items c.in-Some.waiter (cur_in q c.in-Some.waiter)) c.pass.ensures.edit in
    rw (numbers, c.pass.ensures.edit) (pass_but c.args.owners.now c.args.thread c.args.mutex c.in-Some.waiter c.args.curs.now.numbers.items c.requires.sound c.requires.gone c.requires.thread c.requires.owner first c.requires.but)
