use Rattle.std.proofs.Common.{◌≡◌, ◌+◌, ◌*◌, ◌-◌, ◌<◌, ◌≤◌, ◌++◌, ◌∷◌, [], All, List, length, length-append, map, reverse, arith, refl, sym, ap, ◌∙◌, subst}
use Rattle.rt_plain.specs.declared.line.Line.{Line}
use Rattle.rt_plain.specs.PlainBoard.{PlainBoard}
use Rattle.rt_plain.specs.kernel.Effects.{Effect}
use Rattle.rt_plain.specs.kernel.Shown.{shown}
use Rattle.rt_plain.specs.kernel.Sleeps.{powered_devices}
use Rattle.rt_plain.specs.kernel.State.{State, Device, Arriving, Alarm, ArmedRow}
use Rattle.rt_plain.specs.kernel.Ticks.{tick_effect}
use Rattle.kernel_step.specs.Fired.{tick_rows, row_cost}
use Rattle.kernel_step.proofs.BuiltLemmas.{room-enough}
use Rattle.kernel_step.proofs.RestLemmas.{clear, undue, powered-few, later_of, before-length, shown-before, shown-length, sleep-done, sleep-fits}
use Rattle.kernel_step.proofs.StepLemmas.{state-moment}
use Rattle.kernel_step.proofs.engine.Engine.sleep.Goals as goal

pub push-requires : goal.push-requires
push-requires g c = omega (arith, ap length c.requires.empty, (room-enough c.args.self.now.kernel.board c.requires.going.built).rows, c.requires.room)

pub power_down-requires : goal.power_down-requires
power_down-requires g c = omega (arith, ap length c.requires.empty, ap length c.push.ensures.items, length-append c.args.out.now.items (Line.Sleep c.args.mode c.args.ticks ∷ []), c.know_kernel.ensures.devices, (room-enough c.args.self.now.kernel.board c.requires.going.built).rows, c.requires.room, c.push.ensures.room)

pub skip-requires-clause-moment : goal.skip-requires-clause-moment
skip-requires-clause-moment g c = omega (arith, (clear c.args.self.now.kernel.board c.args.self.now.kernel.state (c.args.ticks - 1) (omega (arith, c.requires.ticks, c.requires.some)) c.requires.going.rows c.requires.going.ahead c.requires.going.early).early, c.requires.going.built.kernel.until)

pub skip-requires-clause-ahead : goal.skip-requires-clause-ahead
skip-requires-clause-ahead g c = (clear c.args.self.now.kernel.board c.args.self.now.kernel.state (c.args.ticks - 1) (omega (arith, c.requires.ticks, c.requires.some)) c.requires.going.rows c.requires.going.ahead c.requires.going.early).rows

pub power_up-requires : goal.power_up-requires
power_up-requires g c =
    let count = shown-length c.args.self.now.kernel.state c.skip.new.self.kernel.state c.push.new.self.items c.power_down.new.out.items (c.power_down.new.out.items ++ map (λ (p : Device). Line.Resume p.name) (reverse (powered_devices c.skip.new.self.kernel.state))) (Line.Sleep c.args.mode c.args.ticks) (c.args.ticks - 1) c.skip.ensures.state (c.push.ensures.items ∙ ap (λ (ls : List Line). ls ++ Line.Sleep c.args.mode c.args.ticks ∷ []) c.requires.empty) c.power_down.ensures.lines refl in
    omega (arith, count.0, powered-few c.args.self.now.kernel.state, c.know_kernel.ensures.devices, ap (λ (u : State). length u.devices) c.skip.ensures.state, (room-enough c.args.self.now.kernel.board c.requires.going.built).rows, c.requires.room, c.power_down.ensures.out_room ∙ c.push.ensures.room)

pub push-requires-2 : goal.push-requires-2
push-requires-2 g c =
    let count = shown-length c.args.self.now.kernel.state c.skip.new.self.kernel.state c.push.new.self.items c.power_down.new.out.items c.power_up.new.out.items (Line.Sleep c.args.mode c.args.ticks) (c.args.ticks - 1) c.skip.ensures.state (c.push.ensures.items ∙ ap (λ (ls : List Line). ls ++ Line.Sleep c.args.mode c.args.ticks ∷ []) c.requires.empty) c.power_down.ensures.lines c.power_up.ensures.lines in
    omega (arith, count.1, powered-few c.args.self.now.kernel.state, c.know_kernel.ensures.devices, (room-enough c.args.self.now.kernel.board c.requires.going.built).rows, c.requires.room, c.power_up.ensures.out_room ∙ c.power_down.ensures.out_room ∙ c.push.ensures.room)

pub pass_tick-requires-clause-live : goal.pass_tick-requires-clause-live
pass_tick-requires-clause-live g c = c.skip.ensures.halt ∙ c.requires.going.live

pub pass_tick-requires-clause-none : goal.pass_tick-requires-clause-none
pass_tick-requires-clause-none g c = undue c.skip.new.self.kernel.state (subst (λ (u : State). All (λ (row : ArmedRow Alarm). u.moment < row.due) u.armed) (sym c.skip.ensures.state) (clear c.args.self.now.kernel.board c.args.self.now.kernel.state (c.args.ticks - 1) (omega (arith, c.requires.ticks, c.requires.some)) c.requires.going.rows c.requires.going.ahead c.requires.going.early).rows)

pub pass_tick-requires-clause-ahead : goal.pass_tick-requires-clause-ahead
pass_tick-requires-clause-ahead g c = subst (λ (u : State). All (λ (a : Arriving). u.moment < a.moment) u.arrivals) (sym c.skip.ensures.state) (clear c.args.self.now.kernel.board c.args.self.now.kernel.state (c.args.ticks - 1) (omega (arith, c.requires.ticks, c.requires.some)) c.requires.going.rows c.requires.going.ahead c.requires.going.early).arrivals

pub pass_tick-requires-clause-moment : goal.pass_tick-requires-clause-moment
pass_tick-requires-clause-moment g c = omega (arith, ap (λ (u : State). u.moment) c.skip.ensures.state, (clear c.args.self.now.kernel.board c.args.self.now.kernel.state (c.args.ticks - 1) (omega (arith, c.requires.ticks, c.requires.some)) c.requires.going.rows c.requires.going.ahead c.requires.going.early).early, c.requires.going.built.kernel.until)

pub pass_tick-requires-clause-number : goal.pass_tick-requires-clause-number
pass_tick-requires-clause-number g c =
    omega (arith, ap (λ (u : State). u.numbers) c.skip.ensures.state, ap (λ (b : PlainBoard). length b.threads + length b.timers) c.skip.ensures.board, c.requires.going.built.kernel.few, c.requires.going.built.kernel.few_timers, c.requires.going.number)

pub pass_tick-requires-clause-room : goal.pass_tick-requires-clause-room
pass_tick-requires-clause-room g c =
    let count = shown-length c.args.self.now.kernel.state c.skip.new.self.kernel.state c.push.new.self.items c.power_down.new.out.items c.power_up.new.out.items (Line.Sleep c.args.mode c.args.ticks) (c.args.ticks - 1) c.skip.ensures.state (c.push.ensures.items ∙ ap (λ (ls : List Line). ls ++ Line.Sleep c.args.mode c.args.ticks ∷ []) c.requires.empty) c.power_down.ensures.lines c.power_up.ensures.lines in
    omega (
      arith,
      ap length c.push-2.ensures.items,
      length-append c.power_up.new.out.items (Line.Tick c.next_tick-tick.result ∷ []),
      count.1,
      powered-few c.args.self.now.kernel.state,
      c.know_kernel.ensures.devices,
      ap (λ (b : PlainBoard). (2 + length b.threads) * (length b.threads + length b.timers)) c.skip.ensures.board,
      (room-enough c.args.self.now.kernel.board c.requires.going.built).rows,
      c.requires.room,
      c.push-2.ensures.room ∙ c.power_up.ensures.out_room ∙ c.power_down.ensures.out_room ∙ c.push.ensures.room,
    )

pub pass_tick-requires-clause-fits : goal.pass_tick-requires-clause-fits
pass_tick-requires-clause-fits g c =
    let count = shown-length c.args.self.now.kernel.state c.skip.new.self.kernel.state c.push.new.self.items c.power_down.new.out.items c.power_up.new.out.items (Line.Sleep c.args.mode c.args.ticks) (c.args.ticks - 1) c.skip.ensures.state (c.push.ensures.items ∙ ap (λ (ls : List Line). ls ++ Line.Sleep c.args.mode c.args.ticks ∷ []) c.requires.empty) c.power_down.ensures.lines c.power_up.ensures.lines in
    omega (
      arith,
      ap length c.push-2.ensures.items,
      length-append c.power_up.new.out.items (Line.Tick c.next_tick-tick.result ∷ []),
      count.1,
      sleep-fits c.args.self.now.kernel.board c.args.self.now.kernel.state (later_of c.args.self.now.kernel.state (c.args.ticks - 1)) c.args.mode c.args.ticks c.args.out.now.room (c.sleeps_skip_their_ticks.ensures c.args.self.now.kernel.board (c.args.ticks - 1) c.args.self.now.kernel.state c.requires.idle c.requires.silent (omega (arith, c.requires.ticks, c.requires.some))) c.requires.mode c.requires.fits,
      ap (λ (u : State). length (tick_effect c.skip.new.self.kernel.board u).lines) c.skip.ensures.state,
      ap (λ (b : PlainBoard). length (tick_effect b (later_of c.args.self.now.kernel.state (c.args.ticks - 1))).lines) c.skip.ensures.board,
      c.push-2.ensures.room ∙ c.power_up.ensures.out_room ∙ c.power_down.ensures.out_room ∙ c.push.ensures.room,
    )

pub returns-clause-did : goal.returns-clause-did
returns-clause-did g c =
    let b : PlainBoard = c.args.self.now.kernel.board in
    let mid : State = later_of c.args.self.now.kernel.state (c.args.ticks - 1) in
    let same : tick_effect c.skip.new.self.kernel.board c.skip.new.self.kernel.state ≡ tick_effect b mid = ap (λ (x : PlainBoard). tick_effect x c.skip.new.self.kernel.state) c.skip.ensures.board ∙ ap (tick_effect b) c.skip.ensures.state in
    let now : c.skip.new.self.kernel.state.moment ≡ mid.moment = ap (λ (u : State). u.moment) c.skip.ensures.state in
    sleep-done b c.args.self.now.kernel.state mid _ c.args.mode c.args.ticks c.next_tick-tick.result c.push-2.new.self.items c.pass_tick.new.out.items (c.sleeps_skip_their_ticks.ensures c.args.self.now.kernel.board (c.args.ticks - 1) c.args.self.now.kernel.state c.requires.idle c.requires.silent (omega (arith, c.requires.ticks, c.requires.some))) c.requires.mode
    (shown-before c.args.self.now.kernel.state c.skip.new.self.kernel.state c.args.mode c.args.ticks c.next_tick-tick.result (c.args.ticks - 1) c.args.out.now.items c.push.new.self.items c.power_down.new.out.items c.power_up.new.out.items c.push-2.new.self.items c.skip.ensures.state c.requires.empty c.push.ensures.items c.power_down.ensures.lines c.power_up.ensures.lines c.push-2.ensures.items)
    (c.next_tick-tick.ensures ∙ ap (λ (x : PlainBoard). shown x (c.skip.new.self.kernel.state.moment + 1)) c.skip.ensures.board ∙ ap (λ n. shown b (n + 1)) now)
    (c.pass_tick.ensures.state ∙ ap (λ (e : Effect). e.state) same)
    (state-moment c.pass_tick.new.self ∙ c.pass_tick.ensures.moment ∙ ap (λ n. n + 1) now)
    (c.pass_tick.ensures.lines ∙ ap (λ (e : Effect). c.push-2.new.self.items ++ e.lines) same)

pub returns-clause-count : goal.returns-clause-count
returns-clause-count g c core =
    omega (
      arith,
      c.pass_tick.ensures.count,
      ap (λ (u : State). tick_rows c.skip.new.self.kernel.board u * row_cost c.skip.new.self.kernel.board) c.skip.ensures.state,
      ap (λ (b : PlainBoard). tick_rows b (later_of c.args.self.now.kernel.state (c.args.ticks - 1)) * row_cost b) c.skip.ensures.board,
      ap (λ n. tick_rows c.args.self.now.kernel.board (later_of c.args.self.now.kernel.state (n - 1)) * row_cost c.args.self.now.kernel.board) c.requires.ticks,
    )
