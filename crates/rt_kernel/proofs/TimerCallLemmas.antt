-- What the calls on timers do, by the timer of a name.
use Rattle.std.proofs.Common.{◌≡◌, ℕ, List, [], ◌∷◌, Option, Some, Bool, true, false, not, ◌||◌, cond, refl, sym, ap, ◌∙◌, is_some}
use Rattle.std.specs.Prelude.{if◌then◌else◌}
use Rattle.std.specs.List.{find, list_any}
use Rattle.std.specs.Option.{option_map}
use Rattle.std.specs.Str.{bytes_eq}
use Rattle.rt_base.specs.declared.codes.Code.{Code}
use Rattle.rt_plain.specs.kernel.State.{State, Timer, Alarm, OfTimer, ArmedRow}
use Rattle.rt_plain.specs.kernel.Effects.{is_alarm, due_of, without_alarm}
use Rattle.rt_plain.specs.kernel.Works.{has_work, unwork_effect}
use Rattle.rt_plain.specs.kernel.Outcome.{refusal, success, silent_success, found_outcome}
use Rattle.rt_plain.specs.kernel.TimerCalls.{find_timer, timer_stop}
use Rattle.kernel_timers.specs.Alarmed.{AlarmsSeen, IsTimer, timer_at, is_armed, without}
use Rattle.rt_kernel.specs.declared.state.State.{State as KernelState}
use Rattle.rt_kernel.specs.View.{state_of}

-- whether there is a row, by when it is due
armed-due : (alarm : Alarm) (rows : List (ArmedRow Alarm)) → is_some (option_map (λ (r : ArmedRow Alarm). r.due) (find (λ (r : ArmedRow Alarm). is_alarm alarm r.alarm) rows)) ≡ is_armed alarm rows
armed-due alarm [] = refl
armed-due alarm (row ∷ rows) = by_test (is_alarm alarm row.alarm) (armed-due alarm rows) where
  by_test : (c : Bool) → is_some (option_map (λ (r : ArmedRow Alarm). r.due) (find (λ (r : ArmedRow Alarm). is_alarm alarm r.alarm) rows)) ≡ is_armed alarm rows → is_some (option_map (λ (r : ArmedRow Alarm). r.due) (cond c (Some row) (find (λ (r : ArmedRow Alarm). is_alarm alarm r.alarm) rows))) ≡ c || is_armed alarm rows
  by_test true rest = refl
  by_test false rest = rest

-- where there is none, none is taken away
pub none-dropped : (alarm : Alarm) (rows : List (ArmedRow Alarm)) → is_armed alarm rows ≡ false → without alarm rows ≡ rows
none-dropped alarm [] none = refl
none-dropped alarm (row ∷ rows) none = by_test (is_alarm alarm row.alarm) none (none-dropped alarm rows) where
  by_test : (c : Bool) → c || is_armed alarm rows ≡ false → (is_armed alarm rows ≡ false → without alarm rows ≡ rows) → cond (not c) (row ∷ without alarm rows) (without alarm rows) ≡ row ∷ rows
  by_test true none rest = cc
  by_test false none rest = ap (λ (rs : List (ArmedRow Alarm)). row ∷ rs) (rest none)

-- a stop, where there are no works
pub stops : (s : State) (name : List ℕ) (timer : Timer) → s.works ≡ [] → find_timer s name ≡ Some timer → timer_stop name s ≡ (if is_armed (OfTimer name) s.armed then silent_success (without_alarm s (OfTimer name)) else refusal s Code.Error)
stops s name timer none is =
    ap (λ (o : Option Timer). found_outcome o (refusal s Code.Inval) (λ t. if has_work s name then success (unwork_effect name s) else if is_some (due_of s (OfTimer name)) then silent_success (without_alarm s (OfTimer name)) else refusal s Code.Error)) is
    ∙ ap (λ (works : List (List ℕ)). if list_any (λ (o : List ℕ). bytes_eq o name) works then success (unwork_effect name s) else if is_some (due_of s (OfTimer name)) then silent_success (without_alarm s (OfTimer name)) else refusal s Code.Error) none
    ∙ ap (λ (c : Bool). if c then silent_success (without_alarm s (OfTimer name)) else refusal s Code.Error) (armed-due (OfTimer name) s.armed)

-- a stop of a timer that isn't armed
pub stop_refused : (k : KernelState) (new : AlarmsSeen) (name : List ℕ) (o : ℕ) → IsTimer k.armed.timers name o → is_armed (OfTimer (timer_at k.armed.timers o).name) k.armed.rows ≡ false → new ≡ record (k.armed) { rows = without (OfTimer (timer_at k.armed.timers o).name) k.armed.rows }
    → (new ≡ k.armed) × (timer_stop name (state_of k) ≡ refusal (state_of k) Code.Error)
stop_refused k new name o is none rows = (
  rows ∙ ap (λ (rs : List (ArmedRow Alarm)). record (k.armed) { rows = rs }) (none-dropped (OfTimer (timer_at k.armed.timers o).name) k.armed.rows none),
  stops (state_of k) name (timer_at k.armed.timers o) refl is.found ∙ ap (λ (c : Bool). if c then silent_success (without_alarm (state_of k) (OfTimer name)) else refusal (state_of k) Code.Error) (ap (λ (n : List ℕ). is_armed (OfTimer n) k.armed.rows) (sym is.named) ∙ none),
)

-- and of one that is
pub stop_done : (k : KernelState) (new : AlarmsSeen) (name : List ℕ) (o : ℕ) → IsTimer k.armed.timers name o → is_armed (OfTimer (timer_at k.armed.timers o).name) k.armed.rows ≡ true → new ≡ record (k.armed) { rows = without (OfTimer (timer_at k.armed.timers o).name) k.armed.rows }
    → timer_stop name (state_of k) ≡ silent_success (state_of (record k { armed = new }))
stop_done k new name o is armed rows =
    stops (state_of k) name (timer_at k.armed.timers o) refl is.found
    ∙ ap (λ (c : Bool). if c then silent_success (without_alarm (state_of k) (OfTimer name)) else refusal (state_of k) Code.Error) (ap (λ (n : List ℕ). is_armed (OfTimer n) k.armed.rows) (sym is.named) ∙ armed)
    ∙ ap (λ (n : List ℕ). silent_success (without_alarm (state_of k) (OfTimer n))) (sym is.named)
    ∙ ap (λ (a : AlarmsSeen). silent_success (state_of (record k { armed = a }))) (sym rows)
