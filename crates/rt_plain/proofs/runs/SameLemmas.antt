-- A run is determined by its events.
use Rattle.std.proofs.Common.{◌≡◌, ◌∷◌, [], ◌++◌, ℕ, List, Some, Bool, refl, sym, ap, ◌∙◌, subst}
use Rattle.rt_base.specs.declared.codes.Halt.{Halt}
use Rattle.rt_base.specs.declared.codes.Event.{Event}
use Rattle.rt_plain.specs.declared.entry.Entry.{Entry}
use Rattle.rt_plain.specs.declared.line.Line.{Line}
use Rattle.rt_plain.specs.PlainBoard.{PlainBoard}
use Rattle.rt_plain.specs.kernel.State.{State}
use Rattle.rt_plain.specs.kernel.Sleeps.{Made}
use Rattle.rt_plain.specs.kernel.Steps.{happens}
use Rattle.rt_plain.specs.kernel.Opening.{open_state}
use Rattle.rt_plain.specs.kernel.Shown.{shown}
use Rattle.rt_plain.specs.runs.Runs.{IsMade, IsRun, IsRunIn, IsCompleteIn, entry_tick, events_of, halt_of}
use Rattle.rt_plain.specs.runs.Schedules.{IsScheduled}

-- a run within limits is a run
pub IsRunIn-run : (over : List Entry → Bool) (b : PlainBoard) (done : List Entry) (old new : State) (journal : List Entry) → IsRunIn over b done old journal new → IsRun b old journal new
IsRunIn-run over b done old new [] run = run
IsRunIn-run over b done old new (e ∷ journal) run = (run.0, run.2, IsRunIn-run over b (done ++ e ∷ []) run.0 new journal run.3)

made-state : (s u : State) (ls ms : List Line) → Made s ls ≡ Made u ms → s ≡ u
made-state s u ls ms is = cc

made-lines : (s u : State) (ls ms : List Line) → Made s ls ≡ Made u ms → ls ≡ ms
made-lines s u ls ms is = cc

same-made : (b : PlainBoard) (old s u : State) (e f : Entry) → e.event ≡ f.event → IsMade b old e s → IsMade b old f u → Made s e.lines ≡ Made u f.lines
same-made b old s u e f event made other = sym made.1 ∙ ap (happens b old) event ∙ other.1

-- one event leaves one state and makes one entry
entry-same : (b : PlainBoard) (old s u : State) (e f : Entry) → e.event ≡ f.event → IsMade b old e s → IsMade b old f u → (e ≡ f) × (s ≡ u)
entry-same b old s u e f event made other =
    let both : Made s e.lines ≡ Made u f.lines = same-made b old s u e f event made other in
    let state : s ≡ u = made-state s u e.lines f.lines both in
    let lines : e.lines ≡ f.lines = made-lines s u e.lines f.lines both in
    let ticks : entry_tick b e.event old s ≡ entry_tick b f.event old u = subst (λ (x : Event). entry_tick b e.event old s ≡ entry_tick b x old u) event (ap (entry_tick b e.event old) state) in
    let tick : e.tick ≡ f.tick = made.2 ∙ ticks ∙ sym other.2 in
    (λ i. record { event = event i; tick = tick i; lines = lines i }, state)

head-same : (e f : Event) (es fs : List Event) → e ∷ es ≡ f ∷ fs → e ≡ f
head-same e f es fs is = cc

tail-same : (e f : Event) (es fs : List Event) → e ∷ es ≡ f ∷ fs → es ≡ fs
tail-same e f es fs is = cc

-- two runs with the same events have the same entries, and leave the same state
pub run-same : (b : PlainBoard) (old new other : State) (journal entries : List Entry) → events_of journal ≡ events_of entries → IsRun b old journal new → IsRun b old entries other → (journal ≡ entries) × (new ≡ other)
run-same b old new other [] [] same run also = (refl, run ∙ sym also)
run-same b old new other [] (f ∷ entries) same run also = absurd cc
run-same b old new other (e ∷ journal) [] same run also = absurd cc
run-same b old new other (e ∷ journal) (f ∷ entries) same run also =
    let one : (e ≡ f) × (run.0 ≡ also.0) = entry-same b old run.0 also.0 e f (head-same e.event f.event _ _ same) run.1 also.1 in
    let from : IsRun b run.0 entries other = subst (λ (s : State). IsRun b s entries other) (sym one.1) also.2 in
    let more : (journal ≡ entries) × (new ≡ other) = run-same b run.0 new other journal entries (tail-same e.event f.event _ _ same) run.2 from in
    (λ i. one.0 i ∷ more.0 i, more.1)

some-same : (h k : Halt) → Some h ≡ Some k → h ≡ k
some-same h k is = cc

-- two complete runs with the same events are the same, and end alike
pub complete-same : (over within : List Entry → Bool) (b : PlainBoard) (journal entries : List Entry) (h k : Halt) (t u : ℕ) → events_of journal ≡ events_of entries → IsCompleteIn over b journal h t → IsCompleteIn within b entries k u → (journal ≡ entries) × (h ≡ k) × (t ≡ u)
complete-same over within b journal entries h k t u same one other =
    let runs : (journal ≡ entries) × (one.state ≡ other.state) = run-same b (open_state b) one.state other.state journal entries same
    (IsRunIn-run over b [] (open_state b) one.state journal one.within.is_run) (IsRunIn-run within b [] (open_state b) other.state entries other.within.is_run) in
    (runs.0, some-same h k (sym one.halted ∙ ap (halt_of b) runs.1 ∙ other.halted), sym one.at ∙ ap (λ (s : State). shown b s.moment) runs.1 ∙ other.at)

-- a board has one run by its schedule
pub scheduled-same : (over : List Entry → Bool) (b : PlainBoard) (journal entries : List Entry) (h k : Halt) (t u : ℕ) → IsScheduled over b journal h t → IsScheduled over b entries k u → (journal ≡ entries) × (h ≡ k) × (t ≡ u)
scheduled-same over b journal entries h k t u one other = (sym one.made ∙ other.made, some-same h k (sym one.halted ∙ other.halted), sym one.at ∙ other.at)
