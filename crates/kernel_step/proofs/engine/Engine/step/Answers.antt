use Rattle.std.proofs.Common.{◌≡◌, ◌+◌, ◌*◌, ◌≤◌, arith, refl, sym, ap, ◌∙◌, subst}
use Rattle.rt_base.specs.declared.codes.Event.{Event}
use Rattle.rt_plain.specs.kernel.Sleeps.{Did as Happened}
use Rattle.rt_plain.specs.kernel.State.{State}
use Rattle.rt_plain.specs.kernel.Steps.{happens}
use Rattle.kernel_step.specs.declared.engine.Engine.{Engine}
use Rattle.kernel_step.specs.Did.{FitsIn, Gives, idle_did}
use Rattle.kernel_step.specs.Engine.{state_of, IsGoing}
use Rattle.kernel_step.specs.Fired.{event_rows, row_cost}
use Rattle.kernel_step.proofs.BuiltLemmas.{room-enough}
use Rattle.kernel_step.proofs.RestLemmas.{on-time-still, same-engine, gives-by}
use Rattle.kernel_step.proofs.StepLemmas.{here, gives-here}
use Rattle.kernel_step.proofs.engine.Engine.step.Goals as goal

pub thread_step-requires-clause-room : goal.thread_step-requires-clause-room
thread_step-requires-clause-room g c = omega (arith, (room-enough c.args.self.now.kernel.board c.requires.going.built).statement, c.requires.room)

pub thread_step-requires-clause-number : goal.thread_step-requires-clause-number
thread_step-requires-clause-number g c = omega (arith, c.requires.going.number)

pub returns-in-Some-clause-gives : goal.returns-in-Some-clause-gives
returns-in-Some-clause-gives g c = gives-here _ _ _ _ _ _ _ _ (here c.args.self.now c.requires.going.live c.know_kernel.ensures.alone.halt) (here _ c.requires.going.live c.know_kernel-in-Some.ensures.alone.halt) c.in-Some.ensures.gives

pub returns-in-Some-clause-clock : goal.returns-in-Some-clause-clock
returns-in-Some-clause-clock g c = on-time-still c.args.self.now.clock c.args.self.now.kernel.board c.thread_step.new.kernel.board c.args.self.now.kernel.state c.thread_step.new.kernel.state c.requires.going.clock c.in-Some.ensures.board c.in-Some.ensures.moment

pub returns-in-Some-clause-count : goal.returns-in-Some-clause-count
returns-in-Some-clause-count g c idle = omega (arith, c.in-Some.ensures.cost idle)

pub at_rest-requires-clause-going : goal.at_rest-requires-clause-going
at_rest-requires-clause-going g c = subst IsGoing (sym (same-engine c.args.self.now c.thread_step.new.kernel c.in-None.ensures.board (c.in-None.ensures.still refl).0)) c.requires.going

pub at_rest-requires-clause-fits : goal.at_rest-requires-clause-fits
at_rest-requires-clause-fits g c =
    subst (λ n. FitsIn (idle_did c.thread_step.new.kernel.board c.thread_step.new.kernel.state c.args.core) n) (sym c.in-None.ensures.out_room)
    (subst (λ (k : Engine). FitsIn (idle_did k.kernel.board k.kernel.state c.args.core) c.args.out.now.room) (sym (same-engine c.args.self.now c.thread_step.new.kernel c.in-None.ensures.board (c.in-None.ensures.still refl).0)) (subst (λ (h : Happened). FitsIn h c.args.out.now.room) (ap (λ (s : State). happens c.args.self.now.kernel.board s (Event.Step c.args.core)) (here c.args.self.now c.requires.going.live c.know_kernel.ensures.alone.halt) ∙ c.in-None.ensures.rests refl) c.requires.fits))

pub at_rest-requires-clause-empty : goal.at_rest-requires-clause-empty
at_rest-requires-clause-empty g c = (c.in-None.ensures.still refl).1

pub returns-in-None-clause-gives : goal.returns-in-None-clause-gives
returns-in-None-clause-gives g c =
    gives-by _ _ _ _ _ _ _ (ap (λ (s : State). happens c.args.self.now.kernel.board s (Event.Step c.args.core)) (here c.args.self.now c.requires.going.live c.know_kernel.ensures.alone.halt) ∙ c.in-None.ensures.rests refl) (ap state_of (sym (same-engine c.args.self.now c.thread_step.new.kernel c.in-None.ensures.board (c.in-None.ensures.still refl).0)))
    (subst (λ (k : Engine). Gives (idle_did k.kernel.board k.kernel.state c.args.core) c.at_rest.result (state_of (record c.args.self.now { kernel = c.thread_step.new.kernel })) (state_of c.at_rest.new.self) c.at_rest.new.out.items) (same-engine c.args.self.now c.thread_step.new.kernel c.in-None.ensures.board (c.in-None.ensures.still refl).0) c.at_rest.ensures.gives)

pub returns-in-None-clause-count : goal.returns-in-None-clause-count
returns-in-None-clause-count g c idle =
    omega (arith, c.in-None.ensures.cost idle, c.at_rest.ensures.count, ap (λ (k : Engine). event_rows k.kernel.board k.kernel.state (Event.Step c.args.core) * row_cost k.kernel.board) (same-engine c.args.self.now c.thread_step.new.kernel c.in-None.ensures.board (c.in-None.ensures.still refl).0))
