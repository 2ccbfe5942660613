use Rattle.std.proofs.Common.{◌≡◌, List, ℕ, Option, Some, None, map, sym, ap, ◌∙◌, subst, MatchOption}
use Rattle.rt_plain.specs.kernel.Opening.{new_timer}
use Rattle.rt_plain.specs.kernel.State.{Timer}
use Rattle.kernel_timers.specs.Alarmed.{AlarmsSeen}
use Rattle.std.specs.List.{position_from}
use Rattle.std.specs.Str.{bytes_eq}
use Rattle.rt_plain.specs.declared.board.TimerDef.{TimerDef}
use Rattle.kernel_timers.specs.Alarmed.{found_timer, IsTimer}
use Rattle.kernel_timers.proofs.TimerLemmas.{found-at, found-none, position-map}
use Rattle.kernel_timers.proofs.alarms.Alarms.find.Goals as goal

seen : (name bytes : List ℕ) (items rows : List TimerDef) (timers : List Timer) (o : Option ℕ) → bytes ≡ name → items ≡ rows → map new_timer rows ≡ timers → o ≡ position_from (λ (t : TimerDef). bytes_eq t.name bytes) 0 items → position_from (λ (t : Timer). bytes_eq t.name name) 0 timers ≡ o
seen name bytes items rows timers o same all view is =
    sym (is ∙ sym (position-map new_timer (λ (t : Timer). bytes_eq t.name bytes) 0 items) ∙ ap (λ (l : List TimerDef). position_from (λ (t : Timer). bytes_eq t.name bytes) 0 (map new_timer l)) all ∙ ap (position_from (λ (t : Timer). bytes_eq t.name bytes) 0) view ∙ ap (λ (n : List ℕ). position_from (λ (t : Timer). bytes_eq t.name n) 0 timers) same)

pub returns-in_err-place : goal.returns-in_err-place
returns-in_err-place c =
    let timers = c.args.self.now.timers in
    let name = c.args.name.now in
    subst (λ (o : Option ℕ). MatchOption o (found_timer timers name ≡ None) (IsTimer timers name)) (sym c.from_residual.ensures)
    (found-none timers name 0 (seen name c.bytes.result.now c.deref.result.now c.self.inside.timers.items timers None c.bytes.ensures.bytes c.deref.ensures.value (ap (λ (s : AlarmsSeen). s.timers) c.self.view_is) (sym c.in_err-place.was ∙ c.position.ensures.found)))

pub returns : goal.returns
returns c =
    let timers = c.args.self.now.timers in
    let name = c.args.name.now in
    found-at timers name c.in_ok-place.place (seen name c.bytes.result.now c.deref.result.now c.self.inside.timers.items timers (Some c.in_ok-place.place) c.bytes.ensures.bytes c.deref.ensures.value (ap (λ (s : AlarmsSeen). s.timers) c.self.view_is) (sym c.in_ok-place.was ∙ c.position.ensures.found))
