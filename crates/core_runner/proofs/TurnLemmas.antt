-- One event of a schedule.
use Rattle.std.proofs.Common.{◌≡◌, Bool, Option, None, refl, sym, ap, ◌∙◌, subst, is_some}
use Rattle.rt_base.specs.declared.codes.Event.{Event}
use Rattle.rt_base.specs.declared.codes.Halt.{Halt}
use Rattle.rt_plain.specs.PlainBoard.{PlainBoard}
use Rattle.rt_plain.specs.kernel.State.{State}
use Rattle.rt_plain.specs.kernel.Sleeps.{Did, Made, Same, Halted}
use Rattle.rt_plain.specs.kernel.Steps.{happens}
use Rattle.rt_plain.specs.runs.Runs.{Course, after, course_after, course_unless}
use Rattle.rt_plain.specs.runs.Schedules.{Place as PlainPlace, Driven, moved, is_sleep_of, state_after, place_after}
use Rattle.core_runner.specs.declared.place.Coming.{Coming}
use Rattle.core_runner.specs.declared.place.Place.{Place}
use Rattle.core_runner.specs.Places.{plain_place, stands}
use Rattle.core_runner.specs.Moves.{with_coming, IsMove}

pub after-live : (b : PlainBoard) (c : Course) (e : Event) → c.halt ≡ None → after b c e ≡ course_after b c e (happens b c.state e)
unfolding after
after-live b c e live = subst (λ (o : Option Halt). course_unless o c (course_after b c e (happens b c.state e)) ≡ course_after b c e (happens b c.state e)) (sym live) refl

state-course : (b : PlainBoard) (c : Course) (e : Event) (d : Did) → state_after c.state d ≡ (course_after b c e d).state
state-course b c e (Made s lines) = refl
state-course b c e Same = refl
state-course b c e (Halted h) = refl

driven-is : (p q : PlainPlace) (c d : Course) → p ≡ q → c ≡ d → ◌≡◌ {A = Driven} (record { place = p; course = c }) (record { place = q; course = d })
driven-is p q c d places courses = rw (places, courses) refl

-- the event that the schedule makes, and where it leaves the machine and the place
pub turn : (b : PlainBoard) (c new : Course) (old mid last : Place) (event : Event) (coming : Coming) (nested slept : Bool)
    → c.halt ≡ None → nested ≡ is_some c.state.nest → IsMove b nested old mid event coming → new ≡ after b c event → slept ≡ is_sleep_of (happens b c.state event)
    → plain_place b last ≡ with_coming b new.state coming slept (plain_place b mid)
    → moved b b.schedule (stands b c old) ≡ stands b new last
unfolding moved
turn b c new old mid last event coming nested slept live nest move is sleeps settled =
    let did = happens b c.state event in
    let made : new ≡ course_after b c event did = is ∙ after-live b c event live in
    let state : state_after c.state did ≡ new.state = state-course b c event did ∙ ap (λ (d : Course). d.state) (sym made) in
    ap by_event (move.event_is c.state (sym nest))
    ∙ driven-is _ _ _ _
    (move.place_is c.state (state_after c.state did) (is_sleep_of did) (sym nest)
    ∙ ap (λ (s : State). with_coming b s coming (is_sleep_of did) (plain_place b mid)) state
    ∙ ap (λ (t : Bool). with_coming b new.state coming t (plain_place b mid)) (sym sleeps)
    ∙ sym settled)
    (sym made)
  where
    by_event : Event → Driven
    by_event e = record {
      place = place_after b b.schedule (plain_place b old) c.state (state_after c.state (happens b c.state e)) (is_sleep_of (happens b c.state e)) (plain_place b old).listed;
      course = course_after b c e (happens b c.state e);
    }
