use Rattle.std.proofs.Common.{◌≡◌, ◌+◌, ◌<◌, ◌^◌, All, None, Some, true, ap, subst, sym, ◌∙◌, rules}
use Rattle.rt_plain.specs.PlainBoard.{PlainBoard}
use Rattle.rt_plain.specs.kernel.State.{Arriving, ArmedRow, Alarm}
use Rattle.rt_plain.specs.runs.Runs.{IsReached, after, is_event_of, room}
use Rattle.kernel_step.specs.Built.{IsBuilt}
use Rattle.kernel_step.specs.Engine.{state_of}
use Rattle.kernel_step.specs.MachineSeen.{MachineSeen}
use Rattle.kernel_step.specs.IsMachine.{course_of}
use Rattle.kernel_step.proofs.StepLemmas.{engine-halt}
use Rattle.kernel_step.proofs.MachineLemmas.{after-halted, after-makes, after-same, after-halts, reached-after, going}
use Rattle.kernel_step.proofs.machine.Machine.event.Given.{Over}
use Rattle.kernel_step.proofs.machine.Machine.event.Goals as goal

pub returns-in-Some-clause-course : goal.returns-in-Some-clause-course
returns-in-Some-clause-course g c = rw (← c.self.view_is) (after-halted _ _ c.args.event c.in-Some.halt c.in-Some.is)

pub event-did-requires-clause-going : goal.event-did-requires-clause-going
event-did-requires-clause-going g c =
    let none : c.self.inside.halt ≡ None = search rules in
    let way = c.know_on_way.ensures in
    going c.self.inside.engine c.self.invariant.built (sym (engine-halt c.self.inside.engine) ∙ c.self.invariant.reached.live none) c.self.invariant.clock
    (subst (λ (v : MachineSeen). All (λ (row : ArmedRow Alarm). v.course.state.moment < row.due) v.course.state.armed) (sym c.self.view_is) way.rows)
    (subst (λ (v : MachineSeen). All (λ (a : Arriving). v.course.state.moment < a.moment) v.course.state.arrivals) (sym c.self.view_is) way.ahead)
    (subst (λ (v : MachineSeen). v.course.state.moment < v.board.until) (sym c.self.view_is) way.early)
    (subst (λ (v : MachineSeen). v.course.state.numbers + 1026 < 2 ^ 64) (sym c.self.view_is) way.number)

-- an entry, as the plain machine makes it
entered : (g : Over) (c : goal.After-self-1 g) → record { state = state_of c.event-did.new.self; journal = c.push.new.self.entries; halt = c.halt-self-inside.result } ≡ after c.self.inside.engine.kernel.board (course_of c.self.inside) c.args.event
entered g c =
    let none : c.self.inside.halt ≡ None = search rules in
    rw (c.push.ensures.entries, c.halt-self-inside.ensures)
    (after-makes c.self.inside.engine.kernel.board (course_of c.self.inside) c.args.event _ _ _ none c.in-Entry.ensures.gives (search rules))

halted : (g : Over) (c : goal.After-self-in-Halted-1 g) → record { state = state_of c.event-did.new.self; journal = c.self.inside.journal.entries; halt = Some c.in-Halted.halt } ≡ after c.self.inside.engine.kernel.board (course_of c.self.inside) c.args.event
halted g c =
    let none : c.self.inside.halt ≡ None = search rules in
    rw c.in-Halted.ensures.gives.1
    (after-halts c.self.inside.engine.kernel.board (course_of c.self.inside) c.args.event _ none c.in-Halted.ensures.gives.0)

same : (g : Over) (c : goal.In-Same g) → record { state = state_of c.event-did.new.self; journal = c.self.inside.journal.entries; halt = c.self.inside.halt } ≡ after c.self.inside.engine.kernel.board (course_of c.self.inside) c.args.event
same g c =
    let none : c.self.inside.halt ≡ None = search rules in
    rw c.in-Same.ensures.gives.1
    (after-same c.self.inside.engine.kernel.board (course_of c.self.inside) c.args.event none c.in-Same.ensures.gives.0)

pub invariant_of-self : goal.invariant_of-self
invariant_of-self g c =
    let none : c.self.inside.halt ≡ None = search rules in
    let core : is_event_of c.self.inside.engine.kernel.board c.args.event ≡ true = subst (λ (v : MachineSeen). is_event_of v.board c.args.event ≡ true) (sym c.self.view_is) c.requires.core in
    record {
      reached = subst (λ (b : PlainBoard). IsReached b (record { state = state_of c.event-did.new.self; journal = c.push.new.self.entries; halt = c.halt-self-inside.result })) (sym c.event-did.ensures.board) (reached-after _ (course_of c.self.inside) _ c.args.event core none c.self.invariant.reached (entered g c));
      built = subst IsBuilt (sym c.event-did.ensures.board) c.self.invariant.built;
      clock = c.event-did.ensures.clock;
      empty = c.push.ensures.empty;
      room = c.push.ensures.room ∙ c.event-did.ensures.out_room ∙ c.self.invariant.room ∙ sym (ap (λ (b : PlainBoard). room b + 16) c.event-did.ensures.board);
    }

pub invariant_of-self-in-Same : goal.invariant_of-self-in-Same
invariant_of-self-in-Same g c =
    let none : c.self.inside.halt ≡ None = search rules in
    let core : is_event_of c.self.inside.engine.kernel.board c.args.event ≡ true = subst (λ (v : MachineSeen). is_event_of v.board c.args.event ≡ true) (sym c.self.view_is) c.requires.core in
    record {
      reached = subst (λ (b : PlainBoard). IsReached b (record { state = state_of c.event-did.new.self; journal = c.self.inside.journal.entries; halt = c.self.inside.halt })) (sym c.event-did.ensures.board) (reached-after _ (course_of c.self.inside) _ c.args.event core none c.self.invariant.reached (same g c));
      built = subst IsBuilt (sym c.event-did.ensures.board) c.self.invariant.built;
      clock = c.event-did.ensures.clock;
      empty = c.in-Same.ensures.gives.2;
      room = c.event-did.ensures.out_room ∙ c.self.invariant.room ∙ sym (ap (λ (b : PlainBoard). room b + 16) c.event-did.ensures.board);
    }

pub invariant_of-self-in-Halted : goal.invariant_of-self-in-Halted
invariant_of-self-in-Halted g c =
    let none : c.self.inside.halt ≡ None = search rules in
    let core : is_event_of c.self.inside.engine.kernel.board c.args.event ≡ true = subst (λ (v : MachineSeen). is_event_of v.board c.args.event ≡ true) (sym c.self.view_is) c.requires.core in
    record {
      reached = subst (λ (b : PlainBoard). IsReached b (record { state = state_of c.event-did.new.self; journal = c.self.inside.journal.entries; halt = Some c.in-Halted.halt })) (sym c.event-did.ensures.board) (reached-after _ (course_of c.self.inside) _ c.args.event core none c.self.invariant.reached (halted g c));
      built = subst IsBuilt (sym c.event-did.ensures.board) c.self.invariant.built;
      clock = c.event-did.ensures.clock;
      empty = c.in-Halted.ensures.gives.2;
      room = c.event-did.ensures.out_room ∙ c.self.invariant.room ∙ sym (ap (λ (b : PlainBoard). room b + 16) c.event-did.ensures.board);
    }

pub returns-in-Entry-clause-course : goal.returns-in-Entry-clause-course
returns-in-Entry-clause-course g c = rw (← c.self.view_is) (entered g c)

pub returns-in-Same-clause-course : goal.returns-in-Same-clause-course
returns-in-Same-clause-course g c = rw (← c.self.view_is) (same g c)

pub returns-in-Halted-clause-course : goal.returns-in-Halted-clause-course
returns-in-Halted-clause-course g c = rw (← c.self.view_is) (halted g c)
