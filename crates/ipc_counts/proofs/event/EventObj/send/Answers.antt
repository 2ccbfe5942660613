use Rattle.std.proofs.Common.{arith, ◌≡◌, ◌≤◌, ◌<◌, ◌⊎◌, inl, inr, length, sym, ap, ◌∙◌, get_or, None}
use Rattle.std.specs.Prelude.{bit_or}
use Rattle.susp_list.specs.Rows.{line}
use Rattle.ipc_counts.specs.Flags.{Flagged}
use Rattle.ipc_counts.proofs.SendLemmas.{start, there, want_there, room, keep, wake, over, finished, rows_len}
use Rattle.ipc_counts.proofs.event.EventObj.send.Goals as goal
use Rattle.ipc_counts.proofs.event.EventObj.send.Goals.{then-is_satisfied, else-is_satisfied, else-loop-test, then-loop-test+in_default}

pub loop-init : goal.loop-init
loop-init c = rw (← c.self.view_is) (start _ _ _ _ _ c.first-next.ensures.first c.first-next.ensures.held c.clear.ensures)

pub after-next-requires : goal.after-next-requires
after-next-requires c = there _ _ _ _ _ _ _ _ _ _ c.in-Some.is c.loop.invariant

pub index-requires : goal.index-requires
index-requires c =
    let same : length c.args.self.now.wants ≡ length c.args.self.now.waiters.rows = rw (← c.self.view_is) c.self.invariant in
    omega (arith, c.thread.view_is, want_there _ _ _ _ _ _ _ _ _ _ c.in-Some.is same c.loop.invariant)

pub push-requires : goal.push-requires
push-requires c =
    let more : c.loop.counter < length (line c.args.self.now.waiters) = rw (← c.self.view_is) (omega (arith, c.loop-test.true, c.len-end.ensures.len)) in
    let within : length (line c.args.self.now.waiters) ≤ length c.args.self.now.waiters.rows = rw (← c.self.view_is) (omega (arith, c.len-end.ensures.within, c.len-end.ensures.len)) in
    room _ _ _ _ _ _ _ _ _ more within c.requires c.loop.invariant

pub leave-requires : goal.leave-requires
leave-requires c = there _ _ _ _ _ _ _ _ _ _ c.in-Some.is c.loop.invariant

pub loop-preserved : goal.loop-preserved
loop-preserved c =
    let same : length c.args.self.now.wants ≡ length c.args.self.now.waiters.rows = rw (← c.self.view_is) c.self.invariant in
    let inside : c.in-Some.thread < length c.loop.self-inside.wants.items = want_there _ _ _ _ _ _ _ _ _ _ c.in-Some.is same c.loop.invariant in
    let read : c.index.result.now ≡ get_or c.loop.self-inside.wants.items c.in-Some.thread c.index.result.now = rw c.thread.view_is at c.index.ensures in
    elim c.if-is_satisfied.branch [
      | then-is_satisfied w ↦
          rw (w.woken-is, w.left-is, w.self-inside-is, w.flags_after-left.ensures)
          (wake _ _ _ _ _ _ _ _ _ _ c.index.result.now c.after-next.result c.in-Some.is inside read c.loop.invariant c.after-next.ensures.behind
          (sym c.is_satisfied.ensures ∙ w.if-is_satisfied.true) c.after-next.ensures.held c.after-next.ensures.other _ w.leave.ensures.row w.leave.ensures.line _ w.push.ensures)
      | else-is_satisfied w ↦
          rw (w.woken-is, w.left-is, w.self-inside-is)
          (keep _ _ _ _ _ _ _ _ _ _ c.index.result.now c.after-next.result c.in-Some.is inside read c.loop.invariant c.after-next.ensures.behind
          (sym c.is_satisfied.ensures ∙ w.if-is_satisfied.false) c.after-next.ensures.held)
    ]

pub invariant_of-self : goal.invariant_of-self
invariant_of-self c =
    let same : length c.args.self.now.wants ≡ length c.args.self.now.waiters.rows = rw (← c.self.view_is) c.self.invariant in
    ap length c.loop.invariant.wants_is ∙ same ∙ sym (rows_len _ _ _ _ _ _ _ _ _ c.loop.invariant)

pub returns-clause-state : goal.returns-clause-state
returns-clause-state c =
    let all : (c.loop.next ≡ None) ⊎ (length (line c.args.self.now.waiters) ≤ c.loop.counter) = rw (← c.self.view_is) (elim c.loop-test.branch [
      | else-loop-test w ↦ inr (omega (arith, w.loop-test.false, c.len-end.ensures.len))
      | then-loop-test+in_default w ↦ inl w.in_default.is
    ]) in
    let flags : bit_or c.self.inside.flags c.args.mask ≡ bit_or c.args.self.now.flags c.args.mask = ap (λ (e : Flagged). bit_or e.flags c.args.mask) c.self.view_is in
    (finished _ _ _ _ _ _ _ _ _ c.args.mask flags c.loop.invariant (over _ _ _ _ _ _ _ _ _ all c.loop.invariant)).0

pub returns-clause-woken : goal.returns-clause-woken
returns-clause-woken c =
    let all : (c.loop.next ≡ None) ⊎ (length (line c.args.self.now.waiters) ≤ c.loop.counter) = rw (← c.self.view_is) (elim c.loop-test.branch [
      | else-loop-test w ↦ inr (omega (arith, w.loop-test.false, c.len-end.ensures.len))
      | then-loop-test+in_default w ↦ inl w.in_default.is
    ]) in
    let flags : bit_or c.self.inside.flags c.args.mask ≡ bit_or c.args.self.now.flags c.args.mask = ap (λ (e : Flagged). bit_or e.flags c.args.mask) c.self.view_is in
    (finished _ _ _ _ _ _ _ _ _ c.args.mask flags c.loop.invariant (over _ _ _ _ _ _ _ _ _ all c.loop.invariant)).1

pub returns-clause-room : goal.returns-clause-room
returns-clause-room c = rows_len _ _ _ _ _ _ _ _ _ c.loop.invariant
