-- The run of a board with sleeps and its run by single ticks behave the same.
use Rattle.std.proofs.Common.{◌≡◌, ◌⊎◌, inl, inr, ◌+◌, ◌-◌, ◌≤◌, ◌<◌, ◌∷◌, [], ◌++◌, ℕ, zero, suc, List, Option, Some, None, Bool, true, false, ◌&&◌, ◌||◌, is_some, eqb, refl, sym, ap, ◌∙◌, subst, arith, if◌then◌else◌, map, filter, option_map, slice_index_or, add-zero, leb-true}
use Rattle.std.specs.List.{list_any, range_with_len}
use Rattle.rt_base.specs.declared.codes.Event.{Event}
use Rattle.rt_base.specs.declared.codes.Halt.{Halt}
use Rattle.rt_plain.specs.declared.board.Schedule.{Schedule}
use Rattle.rt_plain.specs.declared.entry.Entry.{Entry}
use Rattle.rt_plain.specs.declared.line.Line.{Line}
use Rattle.rt_plain.specs.PlainBoard.{PlainBoard}
use Rattle.rt_plain.specs.kernel.State.{State, Nest, running_on, is_nest_of_other}
use Rattle.rt_plain.specs.kernel.Effects.{Effect, no_effect}
use Rattle.rt_plain.specs.kernel.DeviceCalls.{is_busy}
use Rattle.rt_plain.specs.kernel.PowerCalls.{sleep_mode}
use Rattle.rt_plain.specs.kernel.Pick.{is_free_for, first_best, ReadyRow, ready_row, pick}
use Rattle.rt_plain.specs.kernel.Ticks.{tick_effect}
use Rattle.rt_plain.specs.kernel.Sleeps.{Did, Made, Same, Halted, is_empty, nothing_comes, final_halt, stops_ticks, sleep_length, sleep_effect, sleep_did, ticks, powered_devices, may_sleep, rest_did}
use Rattle.rt_plain.specs.kernel.Steps.{happens, is_all_idle, unhalted_step_did, core_did, free_core_did}
use Rattle.rt_plain.specs.kernel.Shown.{shown}
use Rattle.rt_plain.specs.kernel.Opening.{open_state}
use Rattle.rt_plain.specs.runs.Runs.{Course, IsRun, entry_tick, opened}
use Rattle.rt_plain.specs.runs.Schedules.{Place, Driven, IsDriveable, round_count, rounds, closing_event, turn_event, is_sleep, place_after_closing, place_after_turn, place_unless_slept, place_after, moved, moved_by, is_stopped, turns, most_turns, driven, listed_place, words_of, words_of_seed, listed_of, begun, scheduled_course}
use Rattle.rt_plain.specs.kernel.Sound.{IsProper}
use Rattle.rt_plain.specs.runs.Tickless.{with_tickless, firings_of, deeds_of, SameBehaviour}
use Rattle.rt_plain.specs.text.Texts.{console_of}
use Rattle.rt_plain.specs.text.Canon.{IsValid}
use Rattle.rand_pcg.specs.Lcg.{Lcg}
use Rattle.rt_plain.proofs.TestLemmas.{and-left, and-right, none-some}
use Rattle.rt_plain.proofs.kernel.SkipLemmas.{IsFreeFor, free-tick, free-later, free-sleep, none-running, skipped-ticks}
use Rattle.rt_plain.proofs.kernel.AwakeLemmas.{awake, IsSleep, IsSleepStep, event-agrees, tick-other}
use Rattle.rt_plain.proofs.runs.DeedLemmas.{tick-told}
use Rattle.rt_plain.proofs.runs.AlikeLemmas.{AreAlike, alike-both, alike-tick, alike-sleep, powered_lines}
use Rattle.rt_plain.proofs.runs.SameLemmas.{IsRunIn-run}
use Rattle.rt_plain.proofs.runs.CompleteLemmas.{IsDriven, moved-driven, begun-driven}
use Rattle.rt_plain.proofs.runs.FuelLemmas.{IsHeldRunning, tick-made, moved-is}
use Rattle.rt_plain.proofs.kernel.SoundLemmas.{reached-held}
use Rattle.rt_plain.proofs.runs.RunnableLemmas.{valid_proper, valid_driveable}

-- a machine in a period of rounds
abbrev at : List ℕ → Lcg → State → List Entry → Option Halt → Driven
at left words s journal halt = record { place = record { listed = []; draws = 0; left = left; words = words }; course = record { state = s; journal = journal; halt = halt } }

-- the turns that are left of its round after an event
abbrev left_in_turn : PlainBoard → Option Nest → State → List ℕ → List ℕ
left_in_turn b nest new (core ∷ cores) = cores
left_in_turn b None new [] = rounds b (round_count new.run_mode)
left_in_turn b (Some nest) new [] = range_with_len 1 (b.cores - 1)

abbrev left_after : PlainBoard → State → State → List ℕ → Bool → List ℕ
left_after b old new left true = rounds b (round_count new.run_mode)
left_after b old new left false = left_in_turn b old.nest new left

-- an event at a place in a round
abbrev next_at : PlainBoard → List ℕ → Lcg → State → List Entry → Event → Did → Driven
next_at b left words s journal event (Made new lines) = at (left_after b s new left (is_sleep lines)) words new (journal ++ record { event = event; tick = entry_tick b event s new; lines = lines } ∷ []) new.halt
next_at b left words s journal event Same = at (left_after b s s left false) words s journal None
next_at b left words s journal event (Halted halt) = at (left_after b s s left false) words s journal (Some halt)

-- the place alone
abbrev round_place : List ℕ → Lcg → Place
round_place left words = record { listed = []; draws = 0; left = left; words = words }

closing-place : (b : PlainBoard) (new : State) (words : Lcg) (o : Option Nest) → place_after_closing b Schedule.Round (round_place [] words) new o ≡ round_place (left_in_turn b o new []) words
closing-place b new words None = refl
closing-place b new words (Some nest) = refl

turn-place : (b : PlainBoard) (old new : State) (words : Lcg) (left : List ℕ) → place_after_turn b Schedule.Round (round_place left words) old new left ≡ round_place (left_in_turn b old.nest new left) words
turn-place b old new words [] = closing-place b new words old.nest
turn-place b old new words (core ∷ cores) = refl

slept-place : (b : PlainBoard) (old new : State) (words : Lcg) (left : List ℕ) (slept : Bool) → place_after b Schedule.Round (round_place left words) old new slept [] ≡ round_place (left_after b old new left slept) words
slept-place b old new words left true = ap (λ (place : Place). place_unless_slept b Schedule.Round place new true) (turn-place b old new words left)
slept-place b old new words left false = turn-place b old new words left

did-at : (b : PlainBoard) (left : List ℕ) (words : Lcg) (s : State) (journal : List Entry) (event : Event) (did : Did) → moved_by b Schedule.Round (at left words s journal None) event did ≡ next_at b left words s journal event did
did-at b left words s journal event (Made new lines) = λ i. record { place = slept-place b s new words left (is_sleep lines) i; course = (next_at b left words s journal event (Made new lines)).course }
did-at b left words s journal event Same = λ i. record { place = slept-place b s s words left false i; course = (next_at b left words s journal event Same).course }
did-at b left words s journal event (Halted halt) = λ i. record { place = slept-place b s s words left false i; course = (next_at b left words s journal event (Halted halt)).course }

-- one event of a machine in a round
moved-at : (b : PlainBoard) (left : List ℕ) (words : Lcg) (s : State) (journal : List Entry) (event : Event) (did : Did) → turn_event s left ≡ event → happens b s event ≡ did → moved b Schedule.Round (at left words s journal None) ≡ next_at b left words s journal event did
moved-at b left words s journal event did is does =
    moved-is b Schedule.Round (at left words s journal None) did (ap (happens b s) is ∙ does) ∙ ap (λ (e : Event). moved_by b Schedule.Round (at left words s journal None) e did) is ∙ did-at b left words s journal event did

-- the same places without sleeps
rounds-other : (b : PlainBoard) (n : ℕ) → rounds (awake b) n ≡ rounds b n
rounds-other b zero = refl
rounds-other b (suc n) = ap (λ cores. range_with_len 0 b.cores ++ cores) (rounds-other b n)

turn-other : (b : PlainBoard) (o : Option Nest) (new : State) (left : List ℕ) → left_in_turn (awake b) o new left ≡ left_in_turn b o new left
turn-other b o new (core ∷ cores) = refl
turn-other b None new [] = rounds-other b (round_count new.run_mode)
turn-other b (Some nest) new [] = refl

left-other : (b : PlainBoard) (old new : State) (left : List ℕ) (slept : Bool) → left_after (awake b) old new left slept ≡ left_after b old new left slept
left-other b old new left true = rounds-other b (round_count new.run_mode)
left-other b old new left false = turn-other b old.nest new left

entry-other : (b : PlainBoard) (event : Event) (old new : State) → entry_tick (awake b) event old new ≡ entry_tick b event old new
entry-other b (Event.Step core) old new = refl
entry-other b Event.Tick old new = refl

next-other : (b : PlainBoard) (left : List ℕ) (words : Lcg) (s : State) (journal : List Entry) (event : Event) (did : Did) → next_at (awake b) left words s journal event did ≡ next_at b left words s journal event did
next-other b left words s journal event (Made new lines) = λ i. at (left-other b s new left (is_sleep lines) i) words new (journal ++ record { event = event; tick = entry-other b event s new i; lines = lines } ∷ []) new.halt
next-other b left words s journal event Same = ap (λ cores. at cores words s journal None) (left-other b s s left false)
next-other b left words s journal event (Halted halt) = ap (λ cores. at cores words s journal (Some halt)) (left-other b s s left false)

-- so many events lead a machine to where it stands
abbrev ReachesIn : PlainBoard → ℕ → Driven → Course → Type 0
ReachesIn b zero d c = c ≡ d.course
ReachesIn b (suc n) d c = (d.course.halt ≡ None) × ReachesIn b n (moved b Schedule.Round d) c

abbrev Reaches : PlainBoard → Driven → Course → Type 0
Reaches b d c = (n : ℕ) × ReachesIn b n d c

-- a machine that goes on makes its next event
reaches-next : (b : PlainBoard) (d : Driven) (c : Course) (h : Halt) → c.halt ≡ Some h → d.course.halt ≡ None → Reaches b d c → Reaches b (moved b Schedule.Round d) c
reaches-next b d c h ends on (zero, is) = absurd (none-some h c.halt (ap (λ (x : Course). x.halt) is ∙ on) ends)
reaches-next b d c h ends on (suc n, go) = (n, go.1)

reaches-at : (b : PlainBoard) (left : List ℕ) (words : Lcg) (s : State) (journal : List Entry) (event : Event) (did : Did) (c : Course) (h : Halt) → c.halt ≡ Some h → turn_event s left ≡ event → happens b s event ≡ did
    → Reaches b (at left words s journal None) c → Reaches b (next_at b left words s journal event did) c
reaches-at b left words s journal event did c h ends is does reaches = subst (λ (d : Driven). Reaches b d c) (moved-at b left words s journal event did is does) (reaches-next b (at left words s journal None) c h ends refl reaches)

-- where nobody runs and none is ready, and where no mode and no quiet ends the run
record IsResting (b : PlainBoard) (s : State) : Type 0 where
  live : s.halt ≡ None
  free : s.nest ≡ None
  idle : is_all_idle s ≡ true
  silent : is_busy s ≡ false
  goes_on : final_halt (sleep_mode b s) ≡ None
  waits : nothing_comes s ≡ false

-- it is so later too
resting-later : (b : PlainBoard) (s : State) (moment : ℕ) → IsResting b s → IsResting b (record s { moment = moment })
resting-later b s moment rests = record { live = rests.live; free = rests.free; idle = rests.idle; silent = rests.silent; goes_on = rests.goes_on; waits = rests.waits }

runs-none : (running : List (Option ℕ)) (core : ℕ) → list_any is_some running ≡ false → slice_index_or running core None ≡ None
runs-none [] core none = refl
runs-none (None ∷ running) zero none = refl
runs-none (None ∷ running) (suc core) none = runs-none running core none
runs-none (Some t ∷ running) core none = absurd cc

empty-is : (xs : List ℕ) → is_empty xs ≡ true → xs ≡ []
empty-is [] is = refl
empty-is (x ∷ xs) is = absurd cc

picks-none : (s : State) (core : ℕ) → is_all_idle s ≡ true → pick s core ≡ None
picks-none s core idle = ap (λ (ready : List ℕ). option_map (λ (row : ReadyRow). row.thread) (first_best (filter (λ (row : ReadyRow). is_free_for core row.core) (map (ready_row s) ready)))) (empty-is s.ready (and-left (is_empty s.ready) _ idle))

-- a step there changes nothing without sleeps
if-same : (c : Bool) (did : Did) → did ≡ Same → (if c then did else Same) ≡ Same
if-same true did is = is
if-same false did is = refl

rest-same : (b : PlainBoard) (s : State) → IsResting b s → rest_did (awake b) s ≡ Same
rest-same b s rests = rw (rests.silent, rests.goes_on, rests.waits) refl

step-same : (b : PlainBoard) (s : State) (core : ℕ) → IsResting b s → happens (awake b) s (Event.Step core) ≡ Same
unfolding happens
step-same b s core rests =
    ap (unhalted_step_did (awake b) s core) rests.live
    ∙ ap (λ (o : Option Nest). if is_nest_of_other core o then Same else core_did (awake b) s core (running_on s core)) rests.free
    ∙ ap (core_did (awake b) s core) (runs-none s.running core (none-running s rests.idle))
    ∙ ap (free_core_did (awake b) s core) (picks-none s core rests.idle)
    ∙ if-same (eqb core 0 && is_all_idle s) (rest_did (awake b) s) (rest-same b s rests)

-- so the rest of a period leads to its tick
reaches-tick : (b : PlainBoard) (left : List ℕ) (words : Lcg) (s : State) (journal : List Entry) (c : Course) (h : Halt) → c.halt ≡ Some h → IsResting b s → Reaches (awake b) (at left words s journal None) c → Reaches (awake b) (at [] words s journal None) c
reaches-tick b [] words s journal c h ends rests reaches = reaches
reaches-tick b (core ∷ cores) words s journal c h ends rests reaches =
    reaches-tick b cores words s journal c h ends rests (reaches-at (awake b) (core ∷ cores) words s journal (Event.Step core) Same c h ends refl (step-same b s core rests) reaches)

closing-left : (b : PlainBoard) (s new : State) (slept : Bool) → s.nest ≡ None → left_after b s new [] slept ≡ rounds b (round_count new.run_mode)
closing-left b s new true free = refl
closing-left b s new false free = rw free refl

-- and a tick begins the next period
reaches-period : (b : PlainBoard) (left : List ℕ) (words : Lcg) (s : State) (journal : List Entry) (c : Course) (h : Halt) (e : Effect) → c.halt ≡ Some h → IsResting b s → tick_effect b s ≡ e → Reaches (awake b) (at left words s journal None) c
    → Reaches (awake b) (at (rounds b (round_count e.state.run_mode)) words e.state (journal ++ record { event = Event.Tick; tick = shown b e.state.moment; lines = e.lines } ∷ []) e.state.halt) c
reaches-period b left words s journal c h e ends rests is reaches =
    subst (λ cores. Reaches (awake b) (at cores words e.state (journal ++ record { event = Event.Tick; tick = shown b e.state.moment; lines = e.lines } ∷ []) e.state.halt) c) same
    (reaches-at (awake b) [] words s journal Event.Tick (Made e.state e.lines) c h ends (ap closing_event rests.free) ticks_so (reaches-tick b left words s journal c h ends rests reaches)) where
      ticks_so : happens (awake b) s Event.Tick ≡ Made e.state e.lines
      ticks_so = tick-made (awake b) s rests.live rests.free ∙ ap (λ (f : Effect). Made f.state f.lines) (tick-other false b s ∙ is)

      same : left_after (awake b) s e.state [] (is_sleep e.lines) ≡ rounds b (round_count e.state.run_mode)
      same = closing-left (awake b) s e.state (is_sleep e.lines) rests.free ∙ rounds-other b (round_count e.state.run_mode)

-- periods at which nothing is to happen
record Skipped (b : PlainBoard) (words : Lcg) (s : State) (lag : ℕ) (journal : List Entry) (c : Course) : Type 0 where
  left : List ℕ
  entries : List Entry
  alike : AreAlike lag journal entries
  reaches : Reaches (awake b) (at left words s entries None) c

skips : (b : PlainBoard) (n lag : ℕ) (left : List ℕ) (words : Lcg) (s : State) (journal entries : List Entry) (c : Course) (h : Halt) → c.halt ≡ Some h → IsResting b s → IsFreeFor b s n → AreAlike lag journal entries → Reaches (awake b) (at left words s entries None) c
    → Skipped b words (record s { moment = s.moment + n }) (lag + n) journal c
skips b zero lag left words s journal entries c h ends rests free alike reaches = record {
  left = left;
  entries = entries;
  alike = subst (λ (m : ℕ). AreAlike m journal entries) (sym (add-zero lag)) alike;
  reaches = subst (λ (m : ℕ). Reaches (awake b) (at left words (record s { moment = m }) entries None) c) (sym (add-zero s.moment)) reaches;
}
skips b (suc n) lag left words s journal entries c h ends rests free alike reaches =
    let later : State = record s { moment = s.moment + 1 } in
    let grown : List Entry = entries ++ record { event = Event.Tick; tick = shown b later.moment; lines = [] } ∷ [] in
    let cores : List ℕ = rounds b (round_count later.run_mode) in
    let next : Reaches (awake b) (at cores words later grown later.halt) c = reaches-period b left words s entries c h (no_effect later) ends rests (free-tick b n s (none-running s rests.idle) rests.silent free) reaches in
    let on : Reaches (awake b) (at cores words later grown None) c = subst (λ (o : Option Halt). Reaches (awake b) (at cores words later grown o) c) rests.live next in
    let more : Skipped b words (record later { moment = s.moment + 1 + n }) (lag + 1 + n) journal c = skips b n (lag + 1) cores words later journal grown c h ends (resting-later b s (s.moment + 1) rests) (free-later b n s free) (alike-tick lag (shown b later.moment) journal entries alike) on in
    let count : lag + 1 + n ≡ lag + suc n = omega arith in
    let total : s.moment + 1 + n ≡ s.moment + suc n = omega arith in
    record {
      left = more.left;
      entries = more.entries;
      alike = subst (λ (m : ℕ). AreAlike m journal more.entries) count more.alike;
      reaches = subst (λ (m : ℕ). Reaches (awake b) (at more.left words (record s { moment = m }) more.entries None) c) total more.reaches;
    }

-- a sleep rests: nobody holds the lock over all cores where nobody runs
resting-sleep : (b : PlainBoard) (s : State) → IsHeldRunning b s → s.halt ≡ None → IsSleep b s → IsResting b s
resting-sleep b s held live sleep = record { live = live; free = by_nest s.nest refl; idle = sleep.idle; silent = sleep.silent; goes_on = sleep.goes_on; waits = sleep.waits } where
  by_nest : (o : Option Nest) → s.nest ≡ o → s.nest ≡ None
  by_nest None is = is
  by_nest (Some n) is = absurd (none-some (held n is).1 (running_on s n.core) (runs-none s.running n.core (none-running s sleep.idle)) (held n is).2)

sleep-long : (b : PlainBoard) (s : State) → 1 ≤ b.thresh → may_sleep b s ≡ true → 1 ≤ sleep_length b s
sleep-long b s thresh may = omega (arith, thresh, leb-true b.thresh (sleep_length b s) (and-right (stops_ticks (sleep_mode b s)) _ (and-right b.tickless _ may)))

-- what a sleep leaves and shows, by its last tick
abbrev slept : PlainBoard → State → ℕ → Effect → Did
slept b s d last = Made last.state (Line.Sleep (sleep_mode b s) d ∷ (powered_lines (powered_devices s) ++ Line.Tick (shown b last.state.moment) ∷ last.lines))

sleep-slept : (b : PlainBoard) (s : State) (d n : ℕ) → d - 1 ≡ n → ticks b n s ≡ no_effect (record s { moment = s.moment + n }) → sleep_did b d s ≡ slept b s d (tick_effect b (record s { moment = s.moment + n }))
sleep-slept b s d n is skipped = ap (λ (rest : Effect). let last = tick_effect b rest.state in Made last.state (Line.Sleep (sleep_mode b s) d ∷ (sleep_effect b s rest last).lines)) (ap (λ m. ticks b m s) is ∙ skipped)

-- no limit stops this run
abbrev never : List Entry → Bool
never journal = false

module _ (b : PlainBoard) (some_core : 1 ≤ b.cores) (thresh : 1 ≤ b.thresh) (held : (journal : List Entry) (s : State) → IsRun b (open_state b) journal s → IsHeldRunning b s) where
  -- what is to be shown of a run with n events left, beside the one by single ticks
  abbrev AllAlike : ℕ → Type 0
  AllAlike n = (left : List ℕ) (words : Lcg) (s : State) (journal entries : List Entry) (o : Option Halt) (c e : Course) (h k : Halt) → c.halt ≡ Some h → e.halt ≡ Some k → IsDriven never b (at left words s journal o) → AreAlike 0 journal entries
      → ReachesIn b n (at left words s journal o) c → Reaches (awake b) (at left words s entries o) e → SameBehaviour c e

  -- both runs have halted
  ended-alike : (left : List ℕ) (words : Lcg) (s : State) (journal entries : List Entry) (o : Option Halt) (c e : Course) (h : Halt) → c.halt ≡ Some h → AreAlike 0 journal entries → c ≡ record { state = s; journal = journal; halt = o } → Reaches (awake b) (at left words s entries o) e → SameBehaviour c e
  ended-alike left words s journal entries o c e h ends alike is (suc n, go) = absurd (none-some h c.halt (ap (λ (x : Course). x.halt) is ∙ go.0) ends)
  ended-alike left words s journal entries o c e h ends alike is (zero, also) = record {
    console = ap (λ (x : Course). console_of x.journal) is ∙ alike.console ∙ sym (ap (λ (x : Course). console_of x.journal) also);
    firings = ap (λ (x : Course). firings_of x.journal) is ∙ alike.firings ∙ sym (ap (λ (x : Course). firings_of x.journal) also);
    deeds = ap (λ (x : Course). deeds_of x.journal) is ∙ alike.deeds ∙ sym (ap (λ (x : Course). deeds_of x.journal) also);
    halt = ap (λ (x : Course). x.halt) is ∙ sym (ap (λ (x : Course). x.halt) also);
    moment = ap (λ (x : Course). x.state.moment) is ∙ sym (ap (λ (x : Course). x.state.moment) also);
  }

  -- both runs do the same
  same-alike : (n : ℕ) (did : Did) (left : List ℕ) (words : Lcg) (s : State) (journal entries : List Entry) (event : Event) (c e : Course) (h k : Halt) → AllAlike n → c.halt ≡ Some h → e.halt ≡ Some k → IsDriven never b (next_at b left words s journal event did)
      → AreAlike 0 journal entries → ReachesIn b n (next_at b left words s journal event did) c → Reaches (awake b) (next_at b left words s entries event did) e → SameBehaviour c e
  same-alike n (Made new lines) left words s journal entries event c e h k all ends also kept alike go reaches =
      all (left_after b s new left (is_sleep lines)) words new _ _ new.halt c e h k ends also kept (alike-both journal entries (record { event = event; tick = entry_tick b event s new; lines = lines }) alike) go reaches
  same-alike n Same left words s journal entries event c e h k all ends also kept alike go reaches = all (left_after b s s left false) words s journal entries None c e h k ends also kept alike go reaches
  same-alike n (Halted halt) left words s journal entries event c e h k all ends also kept alike go reaches = all (left_after b s s left false) words s journal entries (Some halt) c e h k ends also kept alike go reaches

  -- the run with sleeps sleeps, and the other one makes as many ticks
  sleep-alike : (n : ℕ) (left : List ℕ) (words : Lcg) (s : State) (journal entries : List Entry) (c e : Course) (h k : Halt) → AllAlike n → c.halt ≡ Some h → e.halt ≡ Some k → IsDriven never b (at left words s journal None) → AreAlike 0 journal entries
      → IsSleepStep b s (turn_event s left) → ReachesIn b n (moved b Schedule.Round (at left words s journal None)) c → Reaches (awake b) (at left words s entries None) e → SameBehaviour c e
  sleep-alike n left words s journal entries c e h k all ends also kept alike sleeps go reaches =
      let d : ℕ = sleep_length b s in
      let rest : ℕ = d - 1 in
      let long : 1 ≤ d = sleep-long b s thresh sleeps.sleep.may in
      let rests : IsResting b s = resting-sleep b s (held journal s (IsRunIn-run never b [] (open_state b) s journal kept.going.run)) (kept.going.live refl) sleeps.sleep in
      let short : rest < d = omega (arith, long) in
      let before : State = record s { moment = s.moment + rest } in
      let last : Effect = tick_effect b before in
      let count : d ≡ 0 + rest + 1 = omega (arith, long) in
      let does : happens b s (Event.Step sleeps.core) ≡ slept b s (0 + rest + 1) last =
      ap (happens b s) (sym sleeps.steps) ∙ sleeps.did ∙ sleep-slept b s d rest refl (skipped-ticks b rest s sleeps.sleep.idle sleeps.sleep.silent short) ∙ ap (λ m. slept b s m last) count in
      let moves : moved b Schedule.Round (at left words s journal None) ≡ next_at b left words s journal (Event.Step sleeps.core) (slept b s (0 + rest + 1) last) = moved-at b left words s journal (Event.Step sleeps.core) (slept b s (0 + rest + 1) last) sleeps.steps does in
      let skipped : Skipped b words before (0 + rest) journal e = skips b rest 0 left words s journal entries e k also rests (free-sleep b rest s short) alike reaches in
      all (rounds b (round_count last.state.run_mode)) words last.state _ _ last.state.halt c e h k ends also (subst (IsDriven never b) moves (moved-driven never b Schedule.Round (at left words s journal None) some_core refl kept))
      (alike-sleep (0 + rest) sleeps.core (shown b s.moment) (shown b last.state.moment) (shown b last.state.moment) (sleep_mode b s) (powered_devices s) last.lines journal skipped.entries (tick-told b before) skipped.alike)
      (subst (λ (m : Driven). ReachesIn b n m c) moves go) (reaches-period b skipped.left words before skipped.entries e k last also (resting-later b s (s.moment + rest) rests) refl skipped.reaches)

  -- one event of the run with sleeps
  event-alike : (n : ℕ) (left : List ℕ) (words : Lcg) (s : State) (journal entries : List Entry) (c e : Course) (h k : Halt) → AllAlike n → c.halt ≡ Some h → e.halt ≡ Some k → IsDriven never b (at left words s journal None) → AreAlike 0 journal entries
      → ReachesIn b n (moved b Schedule.Round (at left words s journal None)) c → Reaches (awake b) (at left words s entries None) e → (happens (awake b) s (turn_event s left) ≡ happens b s (turn_event s left)) ⊎ IsSleepStep b s (turn_event s left) → SameBehaviour c e
  event-alike n left words s journal entries c e h k all ends also kept alike go reaches (inr sleeps) = sleep-alike n left words s journal entries c e h k all ends also kept alike sleeps go reaches
  event-alike n left words s journal entries c e h k all ends also kept alike go reaches (inl same) =
      let event : Event = turn_event s left in
      let did : Did = happens b s event in
      let moves : moved b Schedule.Round (at left words s journal None) ≡ next_at b left words s journal event did = moved-at b left words s journal event did refl refl in
      same-alike n did left words s journal entries event c e h k all ends also (subst (IsDriven never b) moves (moved-driven never b Schedule.Round (at left words s journal None) some_core refl kept)) alike (subst (λ (m : Driven). ReachesIn b n m c) moves go)
      (subst (λ (m : Driven). Reaches (awake b) m e) (next-other b left words s entries event did) (reaches-at (awake b) left words s entries event did e k also refl same reaches))

  all-alike : (n : ℕ) → AllAlike n
  all-alike zero left words s journal entries o c e h k ends also kept alike is reaches = ended-alike left words s journal entries o c e h ends alike is reaches
  all-alike (suc n) left words s journal entries (Some halt) c e h k ends also kept alike go reaches = absurd (none-some halt (Some halt) go.0 refl)
  all-alike (suc n) left words s journal entries None c e h k ends also kept alike go reaches = event-alike n left words s journal entries c e h k (all-alike n) ends also kept alike go.1 reaches (event-agrees b s (turn_event s left))

-- the turns of a run lead to where it stops
going-on : (o : Option Halt) (over : Bool) → is_some o || over ≡ false → o ≡ None
going-on None over is = refl
going-on (Some halt) over is = absurd cc

turns-reach : (over : List Entry → Bool) (b : PlainBoard) (n : ℕ) (stopped : Bool) (d : Driven) → is_stopped over d.course ≡ stopped → Reaches b d (turns over b Schedule.Round n stopped d).course
turns-reach over b zero stopped d is = (0, refl)
turns-reach over b (suc n) true d is = (0, refl)
turns-reach over b (suc n) false d is =
    let m : Driven = moved b Schedule.Round d in
    let more : Reaches b m (turns over b Schedule.Round n (is_stopped over m.course) m).course = turns-reach over b n (is_stopped over m.course) m refl in
    (suc more.0, (going-on d.course.halt (over d.course.journal) is, more.1))

-- where a board with the rounds schedule begins
abbrev round_begun : PlainBoard → Driven
round_begun b = at (rounds b (round_count (open_state b).run_mode)) (words_of_seed 0) (open_state b) [] None

begun-at : (b : PlainBoard) → b.schedule ≡ Schedule.Round → begun b ≡ round_begun b
begun-at b is = λ i. record { place = listed_place b (is i) (listed_of (is i)) (open_state b) (words_of (is i)); course = opened b }

course-reached : (over : List Entry → Bool) (b : PlainBoard) → b.schedule ≡ Schedule.Round → Reaches b (round_begun b) (scheduled_course over b)
unfolding driven
course-reached over b is =
    subst (λ (d : Driven). Reaches b d (scheduled_course over b)) (begun-at b is)
    (subst (λ (schedule : Schedule). Reaches b (begun b) (turns over b schedule (most_turns b (begun b).place.listed) (is_stopped over (begun b).course) (begun b)).course) (sym is)
    (turns-reach over b (most_turns b (begun b).place.listed) (is_stopped over (begun b).course) (begun b) refl))

open-other : (b : PlainBoard) → open_state (awake b) ≡ open_state b
unfolding open_state
open-other b = refl

begun-other : (b : PlainBoard) → round_begun (awake b) ≡ round_begun b
begun-other b = ap (λ (s : State). at (rounds (awake b) (round_count s.run_mode)) (words_of_seed 0) s [] None) (open-other b) ∙ ap (λ cores. at cores (words_of_seed 0) (open_state b) [] None) (rounds-other b (round_count (open_state b).run_mode))

-- both runs of a board with the rounds schedule behave the same where they halt
runs-alike : (b : PlainBoard) → IsProper b → IsDriveable b → b.schedule ≡ Schedule.Round → (over within : List Entry → Bool) (h k : Halt) → (scheduled_course over b).halt ≡ Some h → (scheduled_course within (awake b)).halt ≡ Some k → SameBehaviour (scheduled_course over b) (scheduled_course within (awake b))
runs-alike b proper driveable round over within h k ends also =
    let reached : Reaches b (round_begun b) (scheduled_course over b) = course-reached over b round in
    all-alike b driveable.some_core proper.thresh (reached-held b proper) reached.0 (rounds b (round_count (open_state b).run_mode)) (words_of_seed 0) (open_state b) [] [] None (scheduled_course over b) (scheduled_course within (awake b)) h k ends also
    (subst (IsDriven never b) (begun-at b round) (begun-driven never b driveable)) (record { console = refl; firings = refl; deeds = refl; spans = omega arith }) reached.1
    (subst (λ (d : Driven). Reaches (awake b) d (scheduled_course within (awake b))) (begun-other b) (course-reached within (awake b) round))

-- what the laws of runs ask of a board asks nothing of its sleeps
proper-other : (t : Bool) (b : PlainBoard) → IsProper b → IsProper (with_tickless t b)
proper-other t b proper = record { scripts = proper.scripts; timers = proper.timers; names = proper.names; thresh = proper.thresh; until = proper.until }

driveable-other : (t : Bool) (b : PlainBoard) → IsDriveable b → IsDriveable (with_tickless t b)
driveable-other t b driveable = record { some_core = driveable.some_core; listed = driveable.listed }

-- sleeping changes nothing but the entries
pub sleeping-alike : (over within : List Entry → Bool) (b : PlainBoard) (h k : Halt) → IsValid b → b.schedule ≡ Schedule.Round → (scheduled_course over (with_tickless true b)).halt ≡ Some h → (scheduled_course within (with_tickless false b)).halt ≡ Some k
    → SameBehaviour (scheduled_course over (with_tickless true b)) (scheduled_course within (with_tickless false b))
sleeping-alike over within b h k valid round ends also = runs-alike (with_tickless true b) (proper-other true b (valid_proper b valid)) (driveable-other true b (valid_driveable b valid)) round over within h k ends also
