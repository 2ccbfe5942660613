use Rattle.std.proofs.Common.{◌++◌, ◌∙◌, ap, arith, length, length-append, refl}
use Rattle.rt_plain.specs.kernel.DeviceCalls.{arrival_effect_at, find_device}
use Rattle.rt_plain.specs.kernel.State.{State, Arriving}
use Rattle.rt_plain.specs.kernel.Ticks.{deliveries}
use Rattle.kernel_step.proofs.DeliverLemmas.{delivering-begun, delivering-more}
use Rattle.kernel_step.proofs.engine.deliver.Goals as goal

pub loop-arrival-init : goal.loop-arrival-init
loop-arrival-init g c = (delivering-begun _ _ c.requires.ahead, refl, refl)

pub take_arrival-requires : goal.take_arrival-requires
take_arrival-requires g c = c.loop-arrival.invariant.0.ahead

-- what is shown so far, and what is left to arrive, have room
pub arrive-requires : goal.arrive-requires
arrive-requires g c =
    let on = c.loop-arrival.invariant.0 in
    omega (
      arith,
      ap length on.shown,
      length-append c.loop-arrival.out.items (deliveries c.loop-arrival.kernel.state).lines,
      length-append c.args.out.now.items (deliveries c.args.kernel.now.state).lines,
      c.requires.lines,
      c.loop-arrival.invariant.1,
    )

pub loop-arrival-preserved : goal.loop-arrival-preserved
loop-arrival-preserved g c =
    let mid : State = c.take_arrival.new.self.state in
    let state = c.arrive.ensures.state ∙ ap (λ (x : Arriving). (arrival_effect_at (find_device mid x.device) x.text mid).state) c.arrival.view_is in
    let lines = c.arrive.ensures.lines ∙ ap (λ (x : Arriving). c.loop-arrival.out.items ++ (arrival_effect_at (find_device mid x.device) x.text mid).lines) c.arrival.view_is in
    (delivering-more _ _ _ _ _ _ _ c.in-Some.arrival c.deliveries_go_one_by_one.ensures.some c.loop-arrival.invariant.0 c.in-Some.ensures.taken c.in-Some.ensures.board c.arrive.ensures.board state lines, c.arrive.ensures.out_room ∙ c.loop-arrival.invariant.1, c.arrive.ensures.count ∙ c.loop-arrival.invariant.2)
