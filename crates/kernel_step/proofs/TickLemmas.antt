-- What a tick does: rows fire, what arrives is delivered, and devices send.
use Rattle.std.proofs.Common.{◌≡◌, ℕ, ◌+◌, ◌<◌, ◌≤◌, arith, length, length-append, take, drop, List, [], ◌∷◌, ◌++◌, Option, Some, None, Bool, true, false, refl, sym, ap, ◌∙◌, subst}
use Rattle.std.specs.Prelude.{if◌then◌else◌, ◌==◌, is_some}
use Rattle.std.specs.List.{fold}
use Rattle.std.specs.Prelude.{All}
use Rattle.std.proofs.lemmas.List.Elements.{All-weaker}
use Rattle.std.proofs.lemmas.List.{append-nil, append_assoc}
use Rattle.rt_base.specs.declared.codes.Event.{Event}
use Rattle.rt_base.specs.declared.codes.Halt.{Halt}
use Rattle.rt_plain.specs.declared.line.Line.{Line}
use Rattle.rt_plain.specs.PlainBoard.{PlainBoard}
use Rattle.rt_plain.specs.kernel.State.{State, Arriving, Device}
use Rattle.rt_plain.specs.kernel.Effects.{Effect, and_then, each_effect, line_effect, no_effect}
use Rattle.rt_plain.specs.kernel.Ticks.{with_slice_used, next_tick_state, alarms_effect, deliveries, transmissions, with_until_halt, tick_effect}
use Rattle.rt_plain.specs.kernel.DeviceCalls.{is_sending, registered_devices, sent, with_device}
use Rattle.rt_plain.specs.kernel.Sleeps.{Made, Same}
use Rattle.rt_plain.specs.kernel.Steps.{happens, unhalted_tick_did, did_of_effect}
use Rattle.rt_kernel.specs.PlainKernel.{IsAlone, PlainKernel}
use Rattle.pm_core.specs.Clock.{Clock}
use Rattle.kernel_step.specs.declared.engine.Engine.{Engine}
use Rattle.kernel_step.specs.Did.{FitsIn}
use Rattle.kernel_step.specs.Engine.{state_of}
use Rattle.kernel_step.proofs.DeliverLemmas.{delivered-moment}
use Rattle.kernel_step.proofs.StepLemmas.{here}

-- what fires, what arrives, and what is sent
abbrev pub passed : PlainBoard → State → Effect
passed b s = and_then (and_then (alarms_effect b (next_tick_state s)) deliveries) transmissions

-- the lines of such a tick
pub tick_lines : (k : Engine) (room : ℕ) → k.halt ≡ None → IsAlone k.kernel.state → false ≡ is_some k.kernel.state.nest → FitsIn (happens k.kernel.board (state_of k) Event.Tick) room → length (tick_effect k.kernel.board k.kernel.state).lines + 16 ≤ room
unfolding happens
tick_lines k room live alone free fits = fits (tick_effect k.kernel.board k.kernel.state).state (tick_effect k.kernel.board k.kernel.state).lines (
    ap (λ (x : State). happens k.kernel.board x Event.Tick) (here k live alone.halt)
    ∙ ap (λ (h : Option Halt). unhalted_tick_did k.kernel.board k.kernel.state h) alone.halt
    ∙ ap (λ (c : Bool). if c then Same else did_of_effect (tick_effect k.kernel.board k.kernel.state)) (sym free))

-- no tick passes while a core holds the lock over all cores
pub tick_waits : (k : Engine) → k.halt ≡ None → IsAlone k.kernel.state → true ≡ is_some k.kernel.state.nest → happens k.kernel.board (state_of k) Event.Tick ≡ Same
unfolding happens
tick_waits k live alone held =
    ap (λ (x : State). happens k.kernel.board x Event.Tick) (here k live alone.halt)
    ∙ ap (λ (h : Option Halt). unhalted_tick_did k.kernel.board k.kernel.state h) alone.halt
    ∙ ap (λ (c : Bool). if c then Same else did_of_effect (tick_effect k.kernel.board k.kernel.state)) (sym held)

-- the halt at the last moment
pub until_is : (b : PlainBoard) (a : State) (h : Option Halt) → a.halt ≡ None → h ≡ (if a.moment == b.until then Some Halt.Until else None) → with_until_halt b a ≡ record a { halt = h }
until_is b a h live is = by_test (a.moment == b.until) is where
  by_test : (c : Bool) → h ≡ (if c then Some Halt.Until else None) → (if c then record a { halt = Some Halt.Until } else a) ≡ record a { halt = h }
  by_test true is = ap (λ (o : Option Halt). record a { halt = o }) (sym is)
  by_test false is = ap (λ (o : Option Halt). record a { halt = o }) (live ∙ sym is)

-- a tick, by its parts, behind lines that are shown already
pub tick_passes : (k : Engine) (begun fired delivered drained : PlainKernel) (clock : Clock) (halt : Option Halt) (old_lines one two lines : List Line) →
    begun.board ≡ k.kernel.board → begun.state ≡ next_tick_state k.kernel.state →
    fired.board ≡ begun.board → fired.state ≡ (alarms_effect begun.board begun.state).state →
    delivered.board ≡ fired.board → delivered.state ≡ (deliveries fired.state).state →
    drained.board ≡ delivered.board → drained.state ≡ (transmissions delivered.state).state →
    one ≡ old_lines ++ (alarms_effect begun.board begun.state).lines → two ≡ one ++ (deliveries fired.state).lines → lines ≡ two ++ (transmissions delivered.state).lines →
    IsAlone drained.state → halt ≡ (if drained.state.moment == drained.board.until then Some Halt.Until else None) →
    (state_of (record { kernel = drained; clock = clock; halt = halt }) ≡ (tick_effect k.kernel.board k.kernel.state).state) × (lines ≡ old_lines ++ (tick_effect k.kernel.board k.kernel.state).lines)
unfolding state_of
tick_passes k begun fired delivered drained clock halt old_lines one two lines begun_board begun_state fired_board fired_state delivered_board delivered_state drained_board drained_state first second third after halts =
    let b : PlainBoard = k.kernel.board in
    let s : State = k.kernel.state in
    let a : Effect = alarms_effect b (next_tick_state s) in
    let d : Effect = deliveries a.state in
    let t : Effect = transmissions d.state in
    let same : alarms_effect begun.board begun.state ≡ a = ap (λ (x : PlainBoard). alarms_effect x begun.state) begun_board ∙ ap (λ (x : State). alarms_effect b x) begun_state in
    let fired_is : fired.state ≡ a.state = fired_state ∙ ap (λ (e : Effect). e.state) same in
    let delivered_is : delivered.state ≡ d.state = delivered_state ∙ ap (λ (u : State). (deliveries u).state) fired_is in
    let drained_is : drained.state ≡ (passed b s).state = drained_state ∙ ap (λ (u : State). (transmissions u).state) delivered_is in
    let one_is : one ≡ old_lines ++ a.lines = first ∙ ap (λ (e : Effect). old_lines ++ e.lines) same in
    let two_is : two ≡ (old_lines ++ a.lines) ++ d.lines = second ∙ ap (λ (ls : List Line). ls ++ (deliveries fired.state).lines) one_is ∙ ap (λ (u : State). (old_lines ++ a.lines) ++ (deliveries u).lines) fired_is in
    let lines_is : lines ≡ ((old_lines ++ a.lines) ++ d.lines) ++ t.lines = third ∙ ap (λ (ls : List Line). ls ++ (transmissions delivered.state).lines) two_is ∙ ap (λ (u : State). ((old_lines ++ a.lines) ++ d.lines) ++ (transmissions u).lines) delivered_is in
    let board : drained.board ≡ b = drained_board ∙ delivered_board ∙ fired_board ∙ begun_board in (
      sym (until_is b drained.state halt after.halt (halts ∙ ap (λ (x : PlainBoard). if drained.state.moment == x.until then Some Halt.Until else None) board)) ∙ ap (with_until_halt b) drained_is,
      lines_is ∙ joined old_lines a.lines d.lines t.lines,
    )
  where
    joined : (w x y z : List Line) → ((w ++ x) ++ y) ++ z ≡ w ++ (((x ++ y) ++ z) ++ [])
    joined w x y z = ap (λ (ls : List Line). ls ++ z) (append_assoc w x y) ∙ append_assoc w (x ++ y) z ∙ ap (λ (ls : List Line). w ++ ls) (sym (append-nil ((x ++ y) ++ z)))

-- a tick of the machine makes an entry with that
pub tick_made : (k new : Engine) (old_lines lines : List Line) → k.halt ≡ None → IsAlone k.kernel.state → false ≡ is_some k.kernel.state.nest → old_lines ≡ []
    → state_of new ≡ (tick_effect k.kernel.board k.kernel.state).state → lines ≡ old_lines ++ (tick_effect k.kernel.board k.kernel.state).lines → happens k.kernel.board (state_of k) Event.Tick ≡ Made (state_of new) lines
unfolding happens
tick_made k new old_lines lines live alone free empty state shown =
    let e : Effect = tick_effect k.kernel.board k.kernel.state in
    ap (λ (x : State). happens k.kernel.board x Event.Tick) (here k live alone.halt)
    ∙ ap (λ (h : Option Halt). unhalted_tick_did k.kernel.board k.kernel.state h) alone.halt
    ∙ ap (λ (c : Bool). if c then Same else did_of_effect e) (sym free)
    ∙ ap (λ (u : State). Made u e.lines) (sym state)
    ∙ ap (λ (ls : List Line). Made (state_of new) ls) (sym (shown ∙ ap (λ (ls : List Line). ls ++ e.lines) empty))

-- what is shown so far leaves room for what comes
rest_fits : (b : PlainBoard) (s : State) (shown room : ℕ) → shown + length (tick_effect b s).lines + 16 ≤ room → let a = alarms_effect b (next_tick_state s) in shown + length a.lines + length (deliveries a.state).lines + 16 ≤ room
rest_fits b s shown room fits =
    let a : Effect = alarms_effect b (next_tick_state s) in
    let d : Effect = deliveries a.state in
    omega (arith, fits, length-append ((a.lines ++ d.lines) ++ (transmissions d.state).lines) [], length-append (a.lines ++ d.lines) (transmissions d.state).lines, length-append a.lines d.lines)

-- the begin of a tick takes no number
slices-numbers : (rs : List (Option ℕ)) (s : State) → (fold with_slice_used s rs).numbers ≡ s.numbers
slices-numbers [] s = refl
slices-numbers (None ∷ rs) s = slices-numbers rs s
slices-numbers (Some t ∷ rs) s = slices-numbers rs (with_slice_used s (Some t))

pub tick-numbers : (s : State) → (next_tick_state s).numbers ≡ s.numbers
tick-numbers s = slices-numbers s.running (record s { moment = s.moment + 1 })

-- nor does it change what is left to arrive
slices-arrivals : (rs : List (Option ℕ)) (s : State) → (fold with_slice_used s rs).arrivals ≡ s.arrivals
slices-arrivals [] s = refl
slices-arrivals (None ∷ rs) s = slices-arrivals rs s
slices-arrivals (Some t ∷ rs) s = slices-arrivals rs (with_slice_used s (Some t))

slices-moment : (rs : List (Option ℕ)) (s : State) → (fold with_slice_used s rs).moment ≡ s.moment
slices-moment [] s = refl
slices-moment (None ∷ rs) s = slices-moment rs s
slices-moment (Some t ∷ rs) s = slices-moment rs (with_slice_used s (Some t))

tick-moment : (s : State) → (next_tick_state s).moment ≡ s.moment + 1
tick-moment s = slices-moment s.running (record s { moment = s.moment + 1 })

sends-moment : (ds : List Device) (s : State) → (each_effect sent ds s).state.moment ≡ s.moment
sends-moment [] s = refl
sends-moment (d ∷ ds) s = sends-moment ds (sent d s).state ∙ by_test (is_sending d) where
  by_test : (c : Bool) → (if c then line_effect (with_device s (record d { tx = drop d.rate d.tx })) (Line.Tx d.name (take d.rate d.tx)) else no_effect s).state.moment ≡ s.moment
  by_test true = refl
  by_test false = refl

sent-moment : (s : State) → (transmissions s).state.moment ≡ s.moment
sent-moment s = sends-moment (registered_devices s) s

-- the moment behind a tick
pub passed-moment : (s begun fired delivered drained : State) → begun ≡ next_tick_state s → fired.moment ≡ begun.moment → delivered ≡ (deliveries fired).state → drained ≡ (transmissions delivered).state → drained.moment ≡ s.moment + 1
passed-moment s begun fired delivered drained begins fires delivers drains =
    ap (λ (u : State). u.moment) drains
    ∙ sent-moment delivered
    ∙ ap (λ (u : State). u.moment) delivers
    ∙ delivered-moment fired
    ∙ fires
    ∙ ap (λ (u : State). u.moment) begins
    ∙ tick-moment s

-- what comes after the moment comes no earlier than the next one
pub still-ahead : (s begun fired : State) → begun ≡ next_tick_state s → fired.moment ≡ begun.moment → fired.arrivals ≡ begun.arrivals → All (λ (a : Arriving). s.moment < a.moment) s.arrivals → All (λ (a : Arriving). fired.moment ≤ a.moment) fired.arrivals
still-ahead s begun fired is moment arrivals ahead =
    let later : State = record s { moment = s.moment + 1 } in
    let now : fired.moment ≡ s.moment + 1 = moment ∙ ap (λ (u : State). u.moment) is ∙ slices-moment s.running later in
    let left : fired.arrivals ≡ s.arrivals = arrivals ∙ ap (λ (u : State). u.arrivals) is ∙ slices-arrivals s.running later in
    subst (λ (n : ℕ). All (λ (a : Arriving). n ≤ a.moment) fired.arrivals) (sym now) (subst (All (λ (a : Arriving). s.moment + 1 ≤ a.moment)) (sym left)
    (All-weaker (λ (a : Arriving). s.moment < a.moment) (λ (a : Arriving). s.moment + 1 ≤ a.moment) (λ a less. omega (arith, less)) s.arrivals ahead))

-- what fires and what arrives in a tick has room, and 16 lines more
pub fires_fit : (b : PlainBoard) (s : State) (begun fired : PlainKernel) (old_lines one : List Line) (room : ℕ) → begun.board ≡ b → begun.state ≡ next_tick_state s → fired.state ≡ (alarms_effect begun.board begun.state).state
    → one ≡ old_lines ++ (alarms_effect begun.board begun.state).lines → length old_lines + length (tick_effect b s).lines + 16 ≤ room → length one + length (deliveries fired.state).lines + 16 ≤ room
fires_fit b s begun fired old_lines one room board is state shown fits =
    let a : Effect = alarms_effect b (next_tick_state s) in
    let same : alarms_effect begun.board begun.state ≡ a = ap (λ (x : PlainBoard). alarms_effect x begun.state) board ∙ ap (λ (x : State). alarms_effect b x) is in
    let one_is : one ≡ old_lines ++ a.lines = shown ∙ ap (λ (e : Effect). old_lines ++ e.lines) same in
    omega (arith, ap length one_is, length-append old_lines a.lines, ap (λ (u : State). length (deliveries u).lines) (state ∙ ap (λ (e : Effect). e.state) same), rest_fits b s (length old_lines) room fits)
