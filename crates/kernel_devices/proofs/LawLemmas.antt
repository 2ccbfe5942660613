-- What the plain state shows of devices and arrivals, by the calls of this crate.
use Rattle.std.proofs.Common.{ℕ, zero, suc, ◌≡◌, ◌≢◌, ◌+◌, ◌<◌, ◌≤◌, List, [], ◌∷◌, ◌++◌, length, map, filter, reverse, take, drop, set, Bool, true, false, not, cond, Option, Some, None, refl, sym, ap, ◌∙◌, subst, arith}
use Rattle.std.specs.Prelude.{◌==◌, nat_lt}
use Rattle.std.specs.List.{AllPairs, flat_map}
use Rattle.std.proofs.Math.Seq.{take-suc}
use Rattle.std.proofs.lemmas.Bool.{ltb-false}
use Rattle.std.proofs.lemmas.Bool.Decides.{nat_tests}
use Rattle.std.proofs.lemmas.List.{reverse-append, take_all, drop_all}
use Rattle.rt_base.specs.declared.codes.Code.{Code}
use Rattle.rt_plain.specs.declared.line.Line.{Line}
use Rattle.rt_plain.specs.kernel.State.{State, Sem, Device, Arriving}
use Rattle.rt_plain.specs.kernel.Effects.{Effect, no_effect, line_effect, and_then, each_effect, retry_wake_effect, effect_for}
use Rattle.rt_plain.specs.kernel.Outcome.{Outcome, refusal, silent_success, found_outcome}
use Rattle.rt_plain.specs.kernel.Waiting.{first_waiter, takes_sem}
use Rattle.rt_plain.specs.kernel.SemCalls.{find_sem, with_sem, sem_raise_outcome, sem_release_outcome}
use Rattle.rt_plain.specs.kernel.DeviceCalls.{find_device, with_device, is_sending, sent, console_waiter, indication_effect, notice_effect, arrival_effect, arrival_effect_at, ring_after, lost_count}
use Rattle.rt_plain.specs.kernel.Ticks.{deliveries, transmissions}
use Rattle.kernel_devices.specs.Acts.{device_after_sending, sent_lines}
use Rattle.kernel_devices.specs.Deviced.{arrivals_at, names_of, no_device, device_at, put_device}
use Rattle.kernel_devices.proofs.DeviceLemmas.{put-is, set-same}
use Rattle.kernel_devices.proofs.DrainLemmas.{mixed, mixed-at, mixed-length, mixed-none, mixed-step}

-- what an arrival does leaves the moment and the arrivals alone, and doesn't depend on them

abbrev aside : ℕ → List Arriving → State → State
aside moment arrivals s = record s { moment = moment; arrivals = arrivals }

abbrev aside-effect : ℕ → List Arriving → Effect → Effect
aside-effect moment arrivals e = record { state = aside moment arrivals e.state; lines = e.lines }

woken-aside : (moment : ℕ) (arrivals : List Arriving) (s : State) (o : Option ℕ) → effect_for retry_wake_effect o (aside moment arrivals s) ≡ aside-effect moment arrivals (effect_for retry_wake_effect o s)
woken-aside moment arrivals s None = refl
woken-aside moment arrivals s (Some t) = refl

raised-aside : (moment : ℕ) (arrivals : List Arriving) (s : State) (sem : Sem) → (sem_raise_outcome sem (aside moment arrivals s)).effect ≡ aside-effect moment arrivals (sem_raise_outcome sem s).effect
raised-aside moment arrivals s sem = by_test (sem.value == 65535)
  where
    raised : State → Outcome
    raised u = silent_success (with_sem u (record sem { value = sem.value + 1 }))

    by_test : (c : Bool) → (cond c (refusal (aside moment arrivals s) Code.Full) (raised (aside moment arrivals s))).effect ≡ aside-effect moment arrivals (cond c (refusal s Code.Full) (raised s)).effect
    by_test true = refl
    by_test false = refl

released-aside : (moment : ℕ) (arrivals : List Arriving) (s : State) (sem : Sem) (o : Option ℕ) → (sem_release_outcome sem o (aside moment arrivals s)).effect ≡ aside-effect moment arrivals (sem_release_outcome sem o s).effect
released-aside moment arrivals s sem None = raised-aside moment arrivals s sem
released-aside moment arrivals s sem (Some t) = refl

found-aside : (moment : ℕ) (arrivals : List Arriving) (s : State) (name : List ℕ) (o : Option Sem) →
    (found_outcome o (refusal (aside moment arrivals s) Code.Inval) (λ sem. sem_release_outcome sem (first_waiter s sem.order (takes_sem name)) (aside moment arrivals s))).effect
    ≡ aside-effect moment arrivals (found_outcome o (refusal s Code.Inval) (λ sem. sem_release_outcome sem (first_waiter s sem.order (takes_sem name)) s)).effect
found-aside moment arrivals s name None = refl
found-aside moment arrivals s name (Some sem) = released-aside moment arrivals s sem (first_waiter s sem.order (takes_sem name))

indicated-aside : (moment : ℕ) (arrivals : List Arriving) (s : State) (o : Option (List ℕ)) → indication_effect o (aside moment arrivals s) ≡ aside-effect moment arrivals (indication_effect o s)
indicated-aside moment arrivals s None = refl
indicated-aside moment arrivals s (Some name) = found-aside moment arrivals s name (find_sem s name)

noticed-aside : (moment : ℕ) (arrivals : List Arriving) (s : State) (device : Device) → notice_effect device (aside moment arrivals s) ≡ aside-effect moment arrivals (notice_effect device s)
noticed-aside moment arrivals s device = by_test device.console
  where
    by_test : (c : Bool) → cond c (effect_for retry_wake_effect (console_waiter s) (aside moment arrivals s)) (indication_effect device.ind (aside moment arrivals s)) ≡ aside-effect moment arrivals (cond c (effect_for retry_wake_effect (console_waiter s) s) (indication_effect device.ind s))
    by_test true = woken-aside moment arrivals s (console_waiter s)
    by_test false = indicated-aside moment arrivals s device.ind

at-aside : (moment : ℕ) (arrivals : List Arriving) (s : State) (text : List ℕ) (o : Option Device) → arrival_effect_at o text (aside moment arrivals s) ≡ aside-effect moment arrivals (arrival_effect_at o text s)
at-aside moment arrivals s text None = refl
at-aside moment arrivals s text (Some device) =
    let shown = Line.Rx device.name text (lost_count device text) in
    ap (λ (e : Effect). (let f : Effect = record { state = e.state; lines = (shown ∷ []) ++ e.lines } in f)) (noticed-aside moment arrivals (with_device s (record device { rx = ring_after device text })) device)

arrived-aside : (moment : ℕ) (arrivals : List Arriving) (s : State) (a : Arriving) → arrival_effect a (aside moment arrivals s) ≡ aside-effect moment arrivals (arrival_effect a s)
arrived-aside moment arrivals s a = at-aside moment arrivals s a.text (find_device s a.device)

keeps-moment : (s : State) (a : Arriving) → (arrival_effect a s).state.moment ≡ s.moment
keeps-moment s a = ap (λ (e : Effect). e.state.moment) (arrived-aside s.moment s.arrivals s a)

keeps-arrivals : (s : State) (a : Arriving) → (arrival_effect a s).state.arrivals ≡ s.arrivals
keeps-arrivals s a = ap (λ (e : Effect). e.state.arrivals) (arrived-aside s.moment s.arrivals s a)

-- deliveries go one by one

abbrev later : ℕ → List Arriving → List Arriving
later moment arrivals = filter (λ a. not (a.moment == moment)) arrivals

none-later : (moment : ℕ) (arrivals : List Arriving) → arrivals_at moment arrivals ≡ [] → later moment arrivals ≡ arrivals
none-later moment [] none = refl
none-later moment (a ∷ bs) none = by_test (a.moment == moment) none (none-later moment bs)
  where
    by_test : (c : Bool) → cond c (a ∷ arrivals_at moment bs) (arrivals_at moment bs) ≡ [] → (arrivals_at moment bs ≡ [] → later moment bs ≡ bs) → cond (not c) (a ∷ later moment bs) (later moment bs) ≡ a ∷ bs
    by_test true e rest = cc
    by_test false e rest = ap (λ (l : List Arriving). a ∷ l) (rest e)

pub deliveries-none : (s : State) → arrivals_at s.moment s.arrivals ≡ [] → deliveries s ≡ no_effect s
deliveries-none s none =
    ap (λ (l : List Arriving). each_effect arrival_effect l (record s { arrivals = later s.moment s.arrivals })) none
    ∙ ap (λ (l : List Arriving). no_effect (record s { arrivals = l })) (none-later s.moment s.arrivals none)

same-test : (a b : ℕ) → a ≡ b → (a == b) ≡ true
same-test a b same = grind (arith, nat_tests)

pub deliveries-some : (s : State) (a : Arriving) (rest : List Arriving) → s.arrivals ≡ a ∷ rest → a.moment ≡ s.moment → deliveries s ≡ and_then (arrival_effect a (record s { arrivals = rest })) deliveries
deliveries-some s a rest is now =
    let m = s.moment in
    let last = later s.moment rest in
    let e = arrival_effect a (record s { arrivals = rest }) in
    let moment : e.state.moment ≡ m = keeps-moment (record s { arrivals = rest }) a in
    let left : e.state.arrivals ≡ rest = keeps-arrivals (record s { arrivals = rest }) a in
    let others : deliveries e.state ≡ each_effect arrival_effect (arrivals_at m rest) (aside m last e.state) =
    ap (λ (l : List Arriving). each_effect arrival_effect (arrivals_at e.state.moment l) (record e.state { arrivals = later e.state.moment l })) left
    ∙ ap (λ (n : ℕ). each_effect arrival_effect (arrivals_at n rest) (record e.state { arrivals = later n rest })) moment
    ∙ ap (λ (n : ℕ). each_effect arrival_effect (arrivals_at m rest) (aside n last e.state)) moment in
    ap (λ (l : List Arriving). each_effect arrival_effect (arrivals_at m l) (record s { arrivals = later m l })) is
    ∙ ap (λ (c : Bool). each_effect arrival_effect (cond c (a ∷ arrivals_at m rest) (arrivals_at m rest)) (record s { arrivals = cond (not c) (a ∷ last) last })) (same-test a.moment m now)
    ∙ ap (joined (arrivals_at m rest)) (arrived-aside m last (record s { arrivals = rest }) a)
    ∙ ap (λ (f : Effect). (let g : Effect = record { state = f.state; lines = e.lines ++ f.lines } in g)) (sym others)
  where
    joined : List Arriving → Effect → Effect
    joined l x = let f = each_effect arrival_effect l x.state in record { state = f.state; lines = x.lines ++ f.lines }

-- the devices send one by one, the one registered first before the others

gone : (rate : ℕ) (tx : List ℕ) → nat_lt 0 (length tx) ≡ false → drop rate tx ≡ tx
gone rate [] none = drop_all rate [] (omega arith)
gone rate (byte ∷ bytes) some = let none : length (byte ∷ bytes) ≤ 0 = ltb-false 0 (length (byte ∷ bytes)) some in absurd (omega (arith, none))

quiet : (d : Device) → is_sending d ≡ false → device_after_sending d ≡ d
quiet d none = ap (λ (tx : List ℕ). (let e : Device = record d { tx = tx } in e)) (gone d.rate d.tx none)

mixed-names : (place : ℕ) (devices : List Device) → names_of (mixed place devices) ≡ names_of devices
mixed-names zero [] = refl
mixed-names zero (d ∷ ds) = ap (λ (l : List (List ℕ)). d.name ∷ l) (mixed-names zero ds)
mixed-names (suc place) [] = refl
mixed-names (suc place) (d ∷ ds) = ap (λ (l : List (List ℕ)). d.name ∷ l) (mixed-names place ds)

abbrev AreApart : List Device → Type 0
AreApart devices = AllPairs (λ one other. one ≢ other) (names_of devices)

put-mixed : (place : ℕ) (devices : List Device) → AreApart devices → place < length devices → put_device (mixed (suc place) devices) (device_after_sending (device_at devices place)) ≡ mixed place devices
put-mixed place devices apart there =
    let at : device_at (mixed (suc place) devices) place ≡ device_at devices place = mixed-at place devices there in
    let still : AreApart (mixed (suc place) devices) = subst (λ (ns : List (List ℕ)). AllPairs (λ one other. one ≢ other) ns) (sym (mixed-names (suc place) devices)) apart in
    sym (put-is (mixed (suc place) devices) place (device_after_sending (device_at devices place)) still (omega (arith, there, mixed-length (suc place) devices)) (sym (ap (λ (d : Device). d.name) at)))
    ∙ ap (λ (d : Device). set (mixed (suc place) devices) place (device_after_sending d)) (sym at)
    ∙ mixed-step place devices there

quiet-mixed : (place : ℕ) (devices : List Device) → place < length devices → is_sending (device_at devices place) ≡ false → mixed (suc place) devices ≡ mixed place devices
quiet-mixed place devices there none =
    let at : device_at (mixed (suc place) devices) place ≡ device_at devices place = mixed-at place devices there in
    sym (set-same (mixed (suc place) devices) place)
    ∙ ap (set (mixed (suc place) devices) place) (at ∙ sym (quiet (device_at devices place) none) ∙ ap device_after_sending (sym at))
    ∙ mixed-step place devices there

sent-step : (place : ℕ) (devices : List Device) (s : State) → AreApart devices → place < length devices → sent (device_at devices place) (record s { devices = mixed (suc place) devices }) ≡ record { state = record s { devices = mixed place devices }; lines = sent_lines (device_at devices place) }
sent-step place devices s apart there = by_test (is_sending x) refl
  where
    x : Device
    x = device_at devices place

    before : State
    before = record s { devices = mixed (suc place) devices }

    shown : List Line
    shown = Line.Tx x.name (take x.rate x.tx) ∷ []

    by_test : (c : Bool) → is_sending x ≡ c → cond c (line_effect (with_device before (device_after_sending x)) (Line.Tx x.name (take x.rate x.tx))) (no_effect before) ≡ record { state = record s { devices = mixed place devices }; lines = cond c shown [] }
    by_test true is = ap (λ (l : List Device). (let e : Effect = record { state = record s { devices = l }; lines = shown } in e)) (put-mixed place devices apart there)
    by_test false is = ap (λ (l : List Device). (let e : Effect = record { state = record s { devices = l }; lines = [] } in e)) (quiet-mixed place devices there is)

sent-each : (place : ℕ) (devices : List Device) (s : State) → AreApart devices → place ≤ length devices → each_effect sent (reverse (take place devices)) (record s { devices = mixed place devices }) ≡ record { state = record s { devices = map device_after_sending devices }; lines = flat_map sent_lines (reverse (take place devices)) }
sent-each zero devices s apart within = refl
sent-each (suc place) devices s apart within =
    let there : place < length devices = omega (arith, within) in
    let rest = sent-each place devices s apart (omega (arith, within)) in
    let all : reverse (take (suc place) devices) ≡ device_at devices place ∷ reverse (take place devices) =
    ap (reverse {A = Device}) (take-suc devices place no_device there) ∙ reverse-append (take place devices) (device_at devices place ∷ []) in
    let P : List Device → Type 0 = λ l. each_effect sent l (record s { devices = mixed (suc place) devices }) ≡ record { state = record s { devices = map device_after_sending devices }; lines = flat_map sent_lines l } in
    subst P (sym all) (
    ap (joined (reverse (take place devices))) (sent-step place devices s apart there)
    ∙ ap (λ (f : Effect). (let g : Effect = record { state = f.state; lines = sent_lines (device_at devices place) ++ f.lines } in g)) rest
    )
  where
    joined : List Device → Effect → Effect
    joined l x = let f = each_effect sent l x.state in record { state = f.state; lines = x.lines ++ f.lines }

pub transmissions-are : (s : State) → AreApart s.devices → transmissions s ≡ record { state = record s { devices = map device_after_sending s.devices }; lines = flat_map sent_lines (reverse s.devices) }
transmissions-are s apart =
    let ds = s.devices in
    let P : List Device → Type 0 = λ l. each_effect sent (reverse l) (record s { devices = mixed (length ds) ds }) ≡ record { state = record s { devices = map device_after_sending ds }; lines = flat_map sent_lines (reverse l) } in
    ap (λ (l : List Device). each_effect sent (reverse ds) (record s { devices = l })) (sym (mixed-none ds))
    ∙ subst P (take_all (length ds) ds (omega arith)) (sent-each (length ds) ds s apart (omega arith))
