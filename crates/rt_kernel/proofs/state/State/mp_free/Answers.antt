use Rattle.std.proofs.Common.{◌≡◌, ap, ◌∙◌}
use Rattle.rt_base.specs.declared.codes.WaitOrder.{WaitOrder}
use Rattle.rt_plain.specs.kernel.PoolCalls.{mp_free}
use Rattle.rt_plain.specs.kernel.Waiting.{first_waiter, takes_block}
use Rattle.mutex_tables.specs.MutexTabled.{plain_state}
use Rattle.rt_kernel.specs.Caller.{plain_by}
use Rattle.rt_kernel.specs.declared.caller.Caller.{Caller}
use Rattle.rt_kernel.specs.View.{state_of}
use Rattle.rt_kernel.proofs.DoesLemmas.{does_by}
use Rattle.rt_kernel.proofs.PoolCallLemmas.{free-passed}
use Rattle.rt_kernel.proofs.state.State.mp_free.Goals as goal

pub returns-in-Passed : goal.returns-in-Passed
returns-in-Passed c =
    let s = state_of c.args.self.now in
    let hand = c.hand_block.ensures in
    let first = c.first_for_block-first.ensures.first ∙ ap (λ (order : WaitOrder). first_waiter (plain_state c.args.self.now.tables) order (takes_block c.args.name.now)) c.order.ensures in
    does_by
    (ap (λ (by : Caller). mp_free c.args.name.now s (plain_by s by)) c.in-Thread.is
    ∙ free-passed c.args.self.now c.give_back.new.self c.args.name.now c.in-Some.o c.in-Thread.t c.in-Thread.field-1 c.in-Passed.waiter c.in-Passed.place c.first_for_block-first.result c.in-Some.ensures first c.in-Passed.ensures)
    (record { state = hand.state; lines = hand.lines; answer = hand.answer; limits = hand.limits; threads = hand.threads; numbers = hand.numbers; few = hand.few; out_room = hand.out_room })
