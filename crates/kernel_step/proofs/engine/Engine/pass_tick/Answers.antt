use Rattle.std.proofs.Common.{◌≡◌, ◌+◌, ◌*◌, ap, ◌∙◌, arith, length, length-append}
use Rattle.std.proofs.Math.Nat.{mul-le-mul_left}
use Rattle.pm_core.specs.Clock.{Clock}
use Rattle.rt_plain.specs.PlainBoard.{PlainBoard}
use Rattle.rt_plain.specs.kernel.Due.{due}
use Rattle.rt_plain.specs.kernel.State.{State}
use Rattle.rt_plain.specs.kernel.Ticks.{deliveries, next_tick_state}
use Rattle.kernel_step.specs.Fired.{rows_now, row_cost}
use Rattle.kernel_step.proofs.RestLemmas.{on-time}
use Rattle.kernel_step.proofs.TickLemmas.{tick_passes, tick-numbers, passed-moment, fires_fit, still-ahead}
use Rattle.kernel_step.proofs.engine.Engine.pass_tick.Goals as goal

pub returns-clause-state : goal.returns-clause-state
returns-clause-state g c =
    (tick_passes c.args.self.now _ _ _ _ _ _ c.args.out.now.items _ _ _ c.begin_tick.ensures.board c.begin_tick.ensures.state c.fire_due.ensures.board c.fire_due.ensures.state c.deliver.ensures.board c.deliver.ensures.state c.drain.ensures.board c.drain.ensures.state
    c.fire_due.ensures.lines c.deliver.ensures.lines c.drain.ensures.lines c.know_kernel-4.ensures.alone c.halt_at_end-self.ensures).0

pub returns-clause-lines : goal.returns-clause-lines
returns-clause-lines g c =
    (tick_passes c.args.self.now _ _ _ _ c.advance.new.self _ c.args.out.now.items _ _ _ c.begin_tick.ensures.board c.begin_tick.ensures.state c.fire_due.ensures.board c.fire_due.ensures.state c.deliver.ensures.board c.deliver.ensures.state c.drain.ensures.board c.drain.ensures.state
    c.fire_due.ensures.lines c.deliver.ensures.lines c.drain.ensures.lines c.know_kernel-4.ensures.alone c.halt_at_end-self.ensures).1

pub returns-clause-moment : goal.returns-clause-moment
returns-clause-moment g c = passed-moment c.args.self.now.kernel.state c.begin_tick.new.self.state c.fire_due.new.kernel.state c.deliver.new.kernel.state c.drain.new.self.state c.begin_tick.ensures.state c.fire_due.ensures.moment c.deliver.ensures.state c.drain.ensures.state

pub returns-clause-clock : goal.returns-clause-clock
returns-clause-clock g c =
    on-time c.args.self.now.clock c.advance.new.self c.args.self.now.kernel.board c.drain.new.self.board c.args.self.now.kernel.state c.drain.new.self.state 1 c.requires.clock c.advance.ensures
    (c.drain.ensures.board ∙ c.deliver.ensures.board ∙ c.fire_due.ensures.board ∙ c.begin_tick.ensures.board)
    (passed-moment c.args.self.now.kernel.state c.begin_tick.new.self.state c.fire_due.new.kernel.state c.deliver.new.kernel.state c.drain.new.self.state c.begin_tick.ensures.state c.fire_due.ensures.moment c.deliver.ensures.state c.drain.ensures.state)

pub advance-requires : goal.advance-requires
advance-requires g c = omega (arith, ap (λ (k : Clock). k.moment) c.requires.clock, c.requires.moment)

pub fire_due-requires-clause-lines : goal.fire_due-requires-clause-lines
fire_due-requires-clause-lines g c =
    let b : PlainBoard = c.begin_tick.new.self.board in
    omega (
      arith,
      mul-le-mul_left {m = length (due c.begin_tick.new.self.state)} {n = length b.threads + length b.timers} (2 + length b.threads) c.know_kernel-2.ensures.due,
      ap (λ (x : PlainBoard). (2 + length x.threads) * (length x.threads + length x.timers)) c.begin_tick.ensures.board,
      c.requires.room,
    )

pub fire_due-requires-clause-number : goal.fire_due-requires-clause-number
fire_due-requires-clause-number g c =
    omega (
      arith,
      ap (λ (s : State). s.numbers) c.begin_tick.ensures.state ∙ tick-numbers c.args.self.now.kernel.state,
      c.know_kernel-2.ensures.due,
      ap (λ (x : PlainBoard). length x.threads + length x.timers) c.begin_tick.ensures.board,
      c.requires.number,
    )

pub deliver-requires-clause-ahead : goal.deliver-requires-clause-ahead
deliver-requires-clause-ahead g c = still-ahead c.args.self.now.kernel.state c.begin_tick.new.self.state c.fire_due.new.kernel.state c.begin_tick.ensures.state c.fire_due.ensures.moment c.fire_due.ensures.arrivals c.requires.ahead

pub deliver-requires-clause-lines : goal.deliver-requires-clause-lines
deliver-requires-clause-lines g c =
    omega (
      arith,
      fires_fit c.args.self.now.kernel.board c.args.self.now.kernel.state c.begin_tick.new.self c.fire_due.new.kernel c.args.out.now.items c.fire_due.new.out.items c.args.out.now.room c.begin_tick.ensures.board c.begin_tick.ensures.state c.fire_due.ensures.state c.fire_due.ensures.lines c.requires.fits,
      c.fire_due.ensures.out_room,
    )

pub drain-requires : goal.drain-requires
drain-requires g c =
    omega (
      arith,
      fires_fit c.args.self.now.kernel.board c.args.self.now.kernel.state c.begin_tick.new.self c.fire_due.new.kernel c.args.out.now.items c.fire_due.new.out.items c.args.out.now.room c.begin_tick.ensures.board c.begin_tick.ensures.state c.fire_due.ensures.state c.fire_due.ensures.lines c.requires.fits,
      ap length c.deliver.ensures.lines,
      length-append c.fire_due.new.out.items (deliveries c.fire_due.new.kernel.state).lines,
      c.know_kernel-3.ensures.devices,
      c.deliver.ensures.out_room ∙ c.fire_due.ensures.out_room,
    )

pub returns-clause-count : goal.returns-clause-count
returns-clause-count g c =
    omega (
      arith,
      c.fire_due.ensures.count,
      c.deliver.ensures.count,
      ap (λ (s : State). rows_now c.begin_tick.new.self.board s * row_cost c.begin_tick.new.self.board) c.begin_tick.ensures.state,
      ap (λ (b : PlainBoard). rows_now b (next_tick_state c.args.self.now.kernel.state) * row_cost b) c.begin_tick.ensures.board,
    )
