use Rattle.std.proofs.Common.{arith, ◌≡◌, ◌+◌, ◌<◌, ◌≤◌, ◌∙◌, sym, ap, refl, length, []}
use Rattle.rt_plain.specs.kernel.Ownership.{owned_in, pass_edit_to}
use Rattle.mutex_chain.specs.Ending.{pass_cost}
use Rattle.mutex_chain.proofs.NoteLemmas.{small_on}
use Rattle.mutex_chain.proofs.EditLemmas.{first_owner}
use Rattle.mutex_chain.proofs.PassLemmas.{begins, head_none, room_for_pass, passes_on, fewer_owned}
use Rattle.mutex_chain.proofs.EndingLemmas.{but_all, but_lines, but_waiters, gone_idle, giving_begins, giving_step}
use Rattle.mutex_chain.proofs.ends.give_back.Goals as goal

pub first-first-requires-clause-lines : goal.first-first-requires-clause-lines
first-first-requires-clause-lines g c =
    let inside : c.args.thread < length c.loop-mutex.owners.members = omega (arith, c.requires.thread, c.loop-mutex.invariant.0.size) in
    c.loop-mutex.invariant.5
    ∙ but_lines c.loop-mutex.owners c.loop-mutex.curs.numbers.items c.args.thread inside (gone_idle c.loop-mutex.owners c.args.thread c.loop-mutex.invariant.0.gone) c.loop-mutex.invariant.1

pub push-requires : goal.push-requires
push-requires g c = rw c.first-first.ensures.first (room_for_pass c.args.thread c.args.owners.now c.args.passes.now c.loop-mutex.owners c.loop-mutex.curs.numbers.items c.loop-mutex.passes c.in-Some.mutex c.loop-mutex.invariant.0 c.requires.room)

pub pass_on-requires-clause-thread : goal.pass_on-requires-clause-thread
pass_on-requires-clause-thread g c = omega (arith, c.requires.thread, c.loop-mutex.invariant.0.size)

pub pass_on-requires-clause-owner : goal.pass_on-requires-clause-owner
pass_on-requires-clause-owner g c = first_owner c.loop-mutex.owners c.args.thread c.in-Some.mutex c.loop-mutex.invariant.2 (sym c.in-Some.ensures.mutex)

pub pass_on-requires-clause-room : goal.pass_on-requires-clause-room
pass_on-requires-clause-room g c = omega (arith, c.loop-mutex.invariant.0.size, c.loop-mutex.invariant.3, c.requires.changes)

pub pass_on-requires-clause-notes : goal.pass_on-requires-clause-notes
pass_on-requires-clause-notes g c = small_on _ _ _ _ _ _ c.loop-mutex.invariant.0.size c.requires.notes (λ olds small a. c.loop-mutex.invariant.4 olds a)

pub loop-mutex-smaller : goal.loop-mutex-smaller
loop-mutex-smaller g c =
    rw c.pass_on.ensures.owners (fewer_owned c.loop-mutex.owners c.args.thread c.in-Some.mutex c.first-first.result c.loop-mutex.invariant.2 c.loop-mutex.invariant.0.gone c.first-first.ensures.first (sym c.in-Some.ensures.mutex))

pub loop-mutex-preserved : goal.loop-mutex-preserved
loop-mutex-preserved g c =
    let long : length c.pass_on.new.curs.numbers.items ≡ length c.loop-mutex.owners.members = c.pass_on.ensures.but.places ∙ c.pass_on.ensures.places in
    let owner = first_owner c.loop-mutex.owners c.args.thread c.in-Some.mutex c.loop-mutex.invariant.2 (sym c.in-Some.ensures.mutex) in
    let edit : c.pass_on.new.owners ≡ pass_edit_to c.in-Some.mutex c.first-first.result c.loop-mutex.owners = c.pass_on.ensures.owners in
    let cost : c.pass_on.new.steps ≤ c.tick-in-Some.new.self + pass_cost (pass_edit_to c.in-Some.mutex c.first-first.result c.loop-mutex.owners) c.first-first.result = rw edit at c.pass_on.ensures.cost in
    let more : c.pass_on.new.steps ≤ c.loop-mutex.steps + (2 + pass_cost (pass_edit_to c.in-Some.mutex c.first-first.result c.loop-mutex.owners) c.first-first.result) =
    omega (arith, cost, c.tick.ensures, c.tick-in-Some.ensures) in (
      rw (c.pass_on.ensures.owners, c.push.ensures)
          (passes_on c.args.thread c.args.owners.now c.args.passes.now c.loop-mutex.owners c.loop-mutex.curs.numbers.items c.pass_on.new.curs.numbers.items c.loop-mutex.passes c.in-Some.mutex c.first-first.result c.loop-mutex.invariant.0
          c.loop-mutex.invariant.2 c.first-first.ensures.first (sym c.in-Some.ensures.mutex) long),
      c.pass_on.ensures.but,
      c.pass_on.ensures.sound,
      c.pass_on.ensures.room ∙ c.loop-mutex.invariant.3,
      (λ olds a. c.pass_on.ensures.notes olds (c.loop-mutex.invariant.4 olds a)),
      c.pass_on.ensures.lines,
      rw (c.pass_on.ensures.owners, c.push.ensures)
          (giving_step c.args.thread c.in-Some.mutex c.args.owners.now c.loop-mutex.owners c.first-first.result c.loop-mutex.passes c.args.steps.now c.loop-mutex.steps c.pass_on.new.steps c.loop-mutex.invariant.2 c.loop-mutex.invariant.0.gone
          (sym c.in-Some.ensures.mutex) owner c.first-first.ensures.first c.loop-mutex.invariant.6 more),
    )

pub loop-mutex-init : goal.loop-mutex-init
loop-mutex-init g c = (
  rw c.clear.ensures (begins c.args.thread c.args.owners.now c.args.curs.now.numbers.items c.args.passes.now c.requires.gone c.requires.but.places),
  c.requires.but,
  c.requires.sound,
  refl,
  (λ olds a. a),
  c.requires.lines,
  rw c.clear.ensures (giving_begins c.args.thread c.args.owners.now c.args.steps.now),
)

pub renew_lone-requires-clause-thread : goal.renew_lone-requires-clause-thread
renew_lone-requires-clause-thread g c = omega (arith, c.requires.thread, c.loop-mutex.invariant.0.size)

pub renew_lone-requires-clause-idle : goal.renew_lone-requires-clause-idle
renew_lone-requires-clause-idle g c = gone_idle c.loop-mutex.owners c.args.thread c.loop-mutex.invariant.0.gone

pub renew_lone-requires-clause-places : goal.renew_lone-requires-clause-places
renew_lone-requires-clause-places g c = c.loop-mutex.invariant.1.places

pub renew_lone-requires-clause-right : goal.renew_lone-requires-clause-right
renew_lone-requires-clause-right g c = but_waiters c.loop-mutex.owners c.loop-mutex.curs.numbers.items c.args.thread (gone_idle c.loop-mutex.owners c.args.thread c.loop-mutex.invariant.0.gone) c.loop-mutex.invariant.1

pub renew_lone-requires-clause-room : goal.renew_lone-requires-clause-room
renew_lone-requires-clause-room g c = omega (arith, c.loop-mutex.invariant.0.size, c.loop-mutex.invariant.3, c.requires.changes)

pub renew_lone-requires-clause-notes : goal.renew_lone-requires-clause-notes
renew_lone-requires-clause-notes g c = small_on _ _ _ _ _ _ c.loop-mutex.invariant.0.size c.requires.notes (λ olds small a. c.loop-mutex.invariant.4 olds a)

pub returns-clause-curs : goal.returns-clause-curs
returns-clause-curs g c =
    let inside : c.args.thread < length c.loop-mutex.owners.members = omega (arith, c.requires.thread, c.loop-mutex.invariant.0.size) in
    c.renew_lone.ensures.numbers ∙ but_all c.loop-mutex.owners c.loop-mutex.curs.numbers.items c.args.thread inside c.loop-mutex.invariant.1

pub returns-clause-notes : goal.returns-clause-notes
returns-clause-notes g c = λ olds a. c.renew_lone.ensures.notes olds (c.loop-mutex.invariant.4 olds a)

pub returns-clause-room : goal.returns-clause-room
returns-clause-room g c = c.renew_lone.ensures.room ∙ c.loop-mutex.invariant.3

pub returns-clause-cost : goal.returns-clause-cost
returns-clause-cost g c =
    let none : owned_in c.loop-mutex.owners c.args.thread ≡ [] = head_none (owned_in c.loop-mutex.owners c.args.thread) (sym c.first_owned.ensures.mutex ∙ c.in_default.is) in
    omega (arith, c.loop-mutex.invariant.6.count, c.renew_lone.ensures.cost, ap length none)
