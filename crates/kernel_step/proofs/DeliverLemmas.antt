-- What arrives at a moment is delivered, one arrival after the other.
use Rattle.std.proofs.Common.{◌≡◌, ℕ, ◌+◌, ◌<◌, ◌≤◌, arith, length, length-append, filter, not, List, [], ◌∷◌, ◌++◌, Option, Some, None, Bool, true, false, refl, sym, ap, ◌∙◌, subst}
use Rattle.std.specs.Prelude.{All, if◌then◌else◌, ◌==◌}
use Rattle.std.proofs.lemmas.List.{append-nil, append_assoc}
use Rattle.std.proofs.lemmas.List.Elements.{recursion_from_All, All-from_recursion}
use Rattle.rt_base.specs.declared.codes.Code.{Code}
use Rattle.rt_plain.specs.declared.line.Line.{Line}
use Rattle.rt_plain.specs.kernel.State.{State, Sem, Device, Arriving}
use Rattle.rt_plain.specs.kernel.Effects.{Effect, no_effect, and_then, each_effect, effect_for, retry_wake_effect}
use Rattle.rt_plain.specs.kernel.Outcome.{Outcome, refusal, silent_success, found_outcome}
use Rattle.rt_plain.specs.kernel.Waiting.{first_waiter, takes_sem}
use Rattle.rt_plain.specs.kernel.SemCalls.{find_sem, with_sem, sem_raise_outcome, sem_release_outcome}
use Rattle.rt_plain.specs.kernel.DeviceCalls.{find_device, with_device, console_waiter, indication_effect, notice_effect, arrival_effect, arrival_effect_at, ring_after, lost_count}
use Rattle.rt_plain.specs.kernel.Ticks.{arrivals_now, deliveries}
use Rattle.kernel_devices.specs.Deviced.{arrivals_at}
use Rattle.rt_kernel.specs.Notice.{TakesArrival}
use Rattle.rt_kernel.specs.PlainKernel.{PlainKernel}
use Rattle.kernel_step.specs.IsDelivering.{IsDelivering}

-- the moment and what is left to arrive stay
abbrev Stays : State → Effect → Type 0
Stays s e = (e.state.moment ≡ s.moment) × (e.state.arrivals ≡ s.arrivals)

woken-stays : (s : State) (o : Option ℕ) → Stays s (effect_for retry_wake_effect o s)
woken-stays s None = (refl, refl)
woken-stays s (Some t) = (refl, refl)

raised-stays : (s : State) (sem : Sem) → Stays s (sem_raise_outcome sem s).effect
raised-stays s sem = by_test (sem.value == 65535) where
  by_test : (c : Bool) → Stays s (if c then refusal s Code.Full else silent_success (with_sem s (record sem { value = sem.value + 1 }))).effect
  by_test true = (refl, refl)
  by_test false = (refl, refl)

released-stays : (s : State) (sem : Sem) (o : Option ℕ) → Stays s (sem_release_outcome sem o s).effect
released-stays s sem None = raised-stays s sem
released-stays s sem (Some t) = (refl, refl)

indicated-stays : (s : State) (o : Option (List ℕ)) → Stays s (indication_effect o s)
indicated-stays s None = (refl, refl)
indicated-stays s (Some name) = by_found (find_sem s name) where
  by_found : (o : Option Sem) → Stays s (found_outcome o (refusal s Code.Inval) (λ sem. sem_release_outcome sem (first_waiter s sem.order (takes_sem name)) s)).effect
  by_found None = (refl, refl)
  by_found (Some sem) = released-stays s sem (first_waiter s sem.order (takes_sem name))

noticed-stays : (s : State) (device : Device) → Stays s (notice_effect device s)
noticed-stays s device = by_test device.console where
  by_test : (c : Bool) → Stays s (if c then effect_for retry_wake_effect (console_waiter s) s else indication_effect device.ind s)
  by_test true = woken-stays s (console_waiter s)
  by_test false = indicated-stays s device.ind

pub arrived-stays : (s : State) (o : Option Device) (text : List ℕ) → Stays s (arrival_effect_at o text s)
arrived-stays s None text = (refl, refl)
arrived-stays s (Some device) text = noticed-stays (with_device s (record device { rx = ring_after device text })) device

each-stays : (arrivals : List Arriving) (s : State) → (each_effect arrival_effect arrivals s).state.moment ≡ s.moment
each-stays [] s = refl
each-stays (a ∷ arrivals) s = each-stays arrivals (arrival_effect a s).state ∙ (arrived-stays s (find_device s a.device) a.text).0

pub delivered-moment : (s : State) → (deliveries s).state.moment ≡ s.moment
delivered-moment s = each-stays (arrivals_now s) (record s { arrivals = filter (λ (a : Arriving). not (a.moment == s.moment)) s.arrivals })

-- before the first arrival
pub delivering-begun : (k : PlainKernel) (lines : List Line) → All (λ (a : Arriving). k.state.moment ≤ a.moment) k.state.arrivals → IsDelivering k k lines lines
delivering-begun k lines ahead = record { board = refl; state = refl; shown = refl; ahead = ahead }

-- the law on deliveries
abbrev pub GoesOn : Type 0
GoesOn = (s : State) (a : Arriving) (rest : List Arriving) → s.arrivals ≡ a ∷ rest → a.moment ≡ s.moment → deliveries s ≡ and_then (arrival_effect a (record s { arrivals = rest })) deliveries

-- what arrives first, and then the rest
delivers : (s mid : State) (a : Arriving) → GoesOn → TakesArrival s mid (Some a) → deliveries s ≡ and_then (arrival_effect a mid) deliveries
delivers s mid a law took =
    law s a mid.arrivals (ap (λ (u : State). u.arrivals) took.1) took.0
    ∙ ap (λ (u : State). and_then (arrival_effect a (record u { arrivals = mid.arrivals })) deliveries) took.1

-- the lines of an arrival that comes now, and of those behind it
pub delivering-fits : (s mid : State) (a : Arriving) (lines room : ℕ) → GoesOn → TakesArrival s mid (Some a) → lines + length (deliveries s).lines + 2 ≤ room → lines + 2 ≤ room
delivering-fits s mid a lines room law took fits = omega (arith, fits)

-- one arrival more
pub delivering-more : (old now mid new : PlainKernel) (old_lines lines new_lines : List Line) (a : Arriving) → GoesOn →
    IsDelivering old now old_lines lines → TakesArrival now.state mid.state (Some a) → mid.board ≡ now.board → new.board ≡ mid.board →
    new.state ≡ (arrival_effect_at (find_device mid.state a.device) a.text mid.state).state → new_lines ≡ lines ++ (arrival_effect_at (find_device mid.state a.device) a.text mid.state).lines →
    IsDelivering old new old_lines new_lines
delivering-more old now mid new old_lines lines new_lines a law on took board new_board state shown =
    let e : Effect = arrival_effect_at (find_device mid.state a.device) a.text mid.state in
    let all : deliveries now.state ≡ and_then e deliveries = delivers now.state mid.state a law took in
    let stays : Stays mid.state e = arrived-stays mid.state (find_device mid.state a.device) a.text in
    let left : new.state.arrivals ≡ mid.state.arrivals = ap (λ (u : State). u.arrivals) state ∙ stays.1 in
    let moment : new.state.moment ≡ now.state.moment = ap (λ (u : State). u.moment) state ∙ stays.0 ∙ sym (ap (λ (u : State). u.moment) took.1) in
    let ahead : All (λ (x : Arriving). now.state.moment ≤ x.moment) (a ∷ mid.state.arrivals) = subst (All (λ (x : Arriving). now.state.moment ≤ x.moment)) (ap (λ (u : State). u.arrivals) took.1) on.ahead in record {
      board = new_board ∙ board ∙ on.board;
      state = ap (λ (u : State). (deliveries u).state) state ∙ sym (ap (λ (x : Effect). x.state) all) ∙ on.state;
      shown =
          ap (λ (ls : List Line). ls ++ (deliveries new.state).lines) shown
          ∙ ap (λ (u : State). (lines ++ e.lines) ++ (deliveries u).lines) state
          ∙ append_assoc lines e.lines (deliveries e.state).lines
          ∙ sym (ap (λ (x : Effect). lines ++ x.lines) all)
          ∙ on.shown;
      ahead = subst (λ (n : ℕ). All (λ (x : Arriving). n ≤ x.moment) new.state.arrivals) (sym moment) (subst (All (λ (x : Arriving). now.state.moment ≤ x.moment)) (sym left) (All-from_recursion (λ (x : Arriving). now.state.moment ≤ x.moment) mid.state.arrivals (recursion_from_All (λ (x : Arriving). now.state.moment ≤ x.moment) (a ∷ mid.state.arrivals) ahead).1));
    }

-- fewer are left
pub fewer-left : (s mid new : State) (a : Arriving) → TakesArrival s mid (Some a) → new ≡ (arrival_effect_at (find_device mid a.device) a.text mid).state → length new.arrivals < length s.arrivals
fewer-left s mid new a took state = omega (arith, ap length (ap (λ (u : State). u.arrivals) state ∙ (arrived-stays mid (find_device mid a.device) a.text).1), ap length (ap (λ (u : State). u.arrivals) took.1))

-- behind the last one
pub delivering-done : (old now mid : PlainKernel) (old_lines lines : List Line) → ((s : State) → arrivals_at s.moment s.arrivals ≡ [] → deliveries s ≡ no_effect s) →
    IsDelivering old now old_lines lines → TakesArrival now.state mid.state None →
    (mid.state ≡ (deliveries old.state).state) × (lines ≡ old_lines ++ (deliveries old.state).lines)
delivering-done old now mid old_lines lines law on took =
    let none : deliveries now.state ≡ no_effect now.state = law now.state took.0 in (
      took.1 ∙ sym (ap (λ (e : Effect). e.state) none) ∙ on.state,
      sym (append-nil lines) ∙ sym (ap (λ (e : Effect). lines ++ e.lines) none) ∙ on.shown,
    )
