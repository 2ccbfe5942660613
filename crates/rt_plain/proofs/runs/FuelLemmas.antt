-- A schedule's run stops: each period and each further round makes an entry.
use Rattle.std.proofs.Common.{◌≡◌, ◌≢◌, ◌⊎◌, inl, inr, ◌+◌, ◌-◌, ◌*◌, ◌≤◌, ◌<◌, ◌∷◌, [], ◌++◌, ℕ, zero, suc, List, Option, Some, None, Bool, true, false, not, ◌&&◌, is_some, ◌||◌, length, eqb, refl, sym, ap, ◌∙◌, subst, arith, if◌then◌else◌, suc-mul, mul-le-mul_right, add-one, length-append, eqb-true, eq-eqb, ne_eqb}
use Rattle.std.specs.List.{range_with_len}
use Rattle.std.proofs.lemmas.Bool.{eqb-false}
use Rattle.std.proofs.lemmas.List.FromFn.{length-range_with_len}
use Rattle.rt_base.specs.declared.codes.Event.{Event}
use Rattle.rt_base.specs.declared.codes.Halt.{Halt}
use Rattle.rt_base.specs.declared.codes.RunMode.{RunMode}
use Rattle.rt_plain.specs.declared.board.Schedule.{Schedule}
use Rattle.rt_plain.specs.declared.entry.Entry.{Entry}
use Rattle.rt_plain.specs.declared.line.Line.{Line}
use Rattle.rt_plain.specs.PlainBoard.{PlainBoard}
use Rattle.rt_plain.specs.kernel.State.{State, Nest, is_among, is_nest_of_other, running_on}
use Rattle.rt_plain.specs.kernel.Pick.{pick}
use Rattle.rt_plain.specs.kernel.Sleeps.{Did, Made, Same, Halted}
use Rattle.rt_plain.specs.kernel.Ticks.{tick_effect}
use Rattle.rt_plain.specs.kernel.Steps.{happens, busy_core_did, core_did, is_preemptible, takes_from}
use Rattle.rt_plain.specs.kernel.Opening.{open_state}
use Rattle.rt_plain.specs.runs.Runs.{IsRun, IsRunIn, Course, entry_tick}
use Rattle.rt_plain.specs.runs.Schedules.{Place, Driven, IsDriveable, round_count, rounds, period_place, listed_place, closing_event, is_sleep_of, place_after_closing, place_after_turn, place_in_period, place_unless_slept, place_after, event_of, moved, moved_by, is_stopped, turns, longest_period, most_turns, driven, words_of, listed_of, begun, scheduled_course, rounds_begun}
use Rattle.rand_pcg.specs.Lcg.{Lcg}
use Rattle.rt_plain.proofs.runs.SameLemmas.{IsRunIn-run}
use Rattle.rt_plain.proofs.runs.CompleteLemmas.{IsGoing, IsDriven, moved-driven, begun-driven, rounds-driven}

-- a core that holds the lock over all cores is one of the board, and runs a thread
abbrev pub IsHeldRunning : PlainBoard → State → Type 0
IsHeldRunning b s = (n : Nest) → s.nest ≡ Some n → (n.core < b.cores) × (r : ℕ) × (running_on s n.core ≡ Some r)

-- a tick is made where the machine hasn't halted and nobody holds the lock over all cores
pub tick-made : (b : PlainBoard) (s : State) → s.halt ≡ None → s.nest ≡ None → happens b s Event.Tick ≡ Made (tick_effect b s).state (tick_effect b s).lines
unfolding happens
tick-made b s live free = rw (live, free) refl

-- a core that runs a thread makes an entry
if-made : (c : Bool) (s u : State) (ls ms : List Line) → (if c then Made s ls else Made u ms) ≡ Same → ⊥
if-made true s u ls ms is = cc
if-made false s u ls ms is = cc

busy-made : (b : PlainBoard) (s : State) (core r : ℕ) (p : Option ℕ) → busy_core_did b s core r p ≡ Same → ⊥
busy-made b s core r None is = cc
busy-made b s core r (Some p) is = if-made (is_preemptible s core r && takes_from s p r) _ _ _ _ is

self-other : (core : ℕ) (n : Nest) → n.core ≡ core → is_nest_of_other core (Some n) ≡ false
self-other core n is = rw is (ap not (eq-eqb core core refl))

held-did : (b : PlainBoard) (s : State) (core : ℕ) (n : Nest) (r : Option ℕ) → s.halt ≡ None → s.nest ≡ Some n → n.core ≡ core → running_on s core ≡ r → happens b s (Event.Step core) ≡ core_did b s core r
unfolding happens
held-did b s core n r live held is runs = rw (live, held, self-other core n is, runs) refl

held-made : (b : PlainBoard) (s : State) (n : Nest) (r : ℕ) → s.halt ≡ None → s.nest ≡ Some n → running_on s n.core ≡ Some r → happens b s (Event.Step n.core) ≡ Same → ⊥
held-made b s n r live held runs is = busy-made b s n.core r (pick s n.core) (sym (held-did b s n.core n (Some r) live held refl runs) ∙ is)

other-number : (n : Nest) (core : ℕ) → (n.core ≡ core → ⊥) → is_nest_of_other core (Some n) ≡ true
other-number n core apart = ap not (ne_eqb n.core core apart)

other-waits : (b : PlainBoard) (s : State) (n : Nest) (core : ℕ) → s.halt ≡ None → s.nest ≡ Some n → (n.core ≡ core → ⊥) → happens b s (Event.Step core) ≡ Same
unfolding happens
other-waits b s n core live held apart = rw (live, held, other-number n core apart) refl

-- how many events a place still has before it comes to its end, with those of the period that follows listed ones
unfoldable pub listed_extra : PlainBoard → List Event → ℕ
listed_extra b [] = 0
listed_extra b (event ∷ events) = 8 * b.cores + length (event ∷ events)

pub record IsShort (b : PlainBoard) (place : Place) (size : ℕ) : Type 0 where
  pub short : place.draws + length place.left ≤ 8 * b.cores
  pub sized : listed_extra b place.listed + (place.draws + length place.left) ≤ size

rounds-length : (b : PlainBoard) (n : ℕ) → length (rounds b n) ≡ n * b.cores
rounds-length b zero = omega arith
rounds-length b (suc n) = omega (arith, length-append (range_with_len 0 b.cores) (rounds b n), length-range_with_len 0 b.cores, rounds-length b n, suc-mul n b.cores)

most-rounds : (mode : RunMode) (cores : ℕ) → round_count mode * cores ≤ 8 * cores
most-rounds RunMode.High cores = omega arith
most-rounds RunMode.Normal cores = omega arith
most-rounds RunMode.Medium cores = omega arith
most-rounds RunMode.Low cores = omega arith

in_rounds : (b : PlainBoard) (s : State) → length (rounds b (round_count s.run_mode)) ≤ 8 * b.cores
in_rounds b s = omega (arith, rounds-length b (round_count s.run_mode), most-rounds s.run_mode b.cores)

period-short : (b : PlainBoard) (schedule : Schedule) (s : State) (words : Lcg) → IsShort b (period_place b schedule s words) (8 * b.cores)
unfolding listed_extra
period-short b (Schedule.Seed seed) s words = record { short = omega (arith, most-rounds s.run_mode b.cores); sized = omega (arith, most-rounds s.run_mode b.cores) }
period-short b Schedule.Round s words = record { short = omega (arith, in_rounds b s); sized = omega (arith, in_rounds b s) }
period-short b (Schedule.Order events) s words = record { short = omega (arith, in_rounds b s); sized = omega (arith, in_rounds b s) }

short-more : (b : PlainBoard) (place : Place) (size more : ℕ) → size ≤ more → IsShort b place size → IsShort b place more
short-more b place size more le is = record { short = is.short; sized = omega (arith, is.sized, le) }

listed-short : (b : PlainBoard) (schedule : Schedule) (events : List Event) (s : State) (words : Lcg) → IsShort b (listed_place b schedule events s words) (8 * b.cores + length events)
unfolding listed_extra
listed-short b schedule [] s words = short-more b (period_place b schedule s words) (8 * b.cores) (8 * b.cores + 0) (omega arith) (period-short b schedule s words)
listed-short b schedule (event ∷ events) s words = record { short = omega arith; sized = omega arith }

-- an entry puts a place at most a period further
closing-short : (b : PlainBoard) (schedule : Schedule) (place : Place) (new : State) (nest : Option Nest) → place.draws ≡ 0 → IsShort b (place_after_closing b schedule place new nest) (listed_extra b place.listed + 8 * b.cores)
closing-short b schedule place new None drawn = short-more b (period_place b schedule new place.words) (8 * b.cores) (listed_extra b place.listed + 8 * b.cores) (omega arith) (period-short b schedule new place.words)
closing-short b schedule place new (Some nest) drawn = record {
  short = omega (arith, drawn, length-range_with_len 1 (b.cores - 1));
  sized = omega (arith, drawn, length-range_with_len 1 (b.cores - 1));
}

turn-short : (b : PlainBoard) (schedule : Schedule) (place : Place) (old new : State) (left : List ℕ) → place.draws ≡ 0 → length left ≤ 8 * b.cores → IsShort b (place_after_turn b schedule place old new left) (listed_extra b place.listed + 8 * b.cores)
turn-short b schedule place old new [] drawn short = closing-short b schedule place new old.nest drawn
turn-short b schedule place old new (core ∷ cores) drawn short = record { short = omega (arith, drawn, short); sized = omega (arith, drawn, short) }

in_period-short : (b : PlainBoard) (schedule : Schedule) (place : Place) (old new : State) (draws : ℕ) → place.draws ≡ draws → draws + length place.left ≤ 8 * b.cores → IsShort b (place_in_period b schedule place old new draws) (listed_extra b place.listed + 8 * b.cores)
in_period-short b schedule place old new zero is short = turn-short b schedule place old new place.left is (omega (arith, short))
in_period-short b schedule place old new (suc n) is short = record { short = omega (arith, short); sized = omega (arith, short) }

slept-short : (b : PlainBoard) (schedule : Schedule) (place : Place) (new : State) (slept : Bool) (size : ℕ) → IsShort b place (size + 8 * b.cores) → IsShort b (place_unless_slept b schedule place new slept) (size + 8 * b.cores)
slept-short b schedule place new true size is = short-more b (period_place b schedule new place.words) (8 * b.cores) (size + 8 * b.cores) (omega arith) (period-short b schedule new place.words)
slept-short b schedule place new false size is = is

made-short : (b : PlainBoard) (schedule : Schedule) (place : Place) (old new : State) (slept : Bool) (listed : List Event) → place.listed ≡ listed → place.draws + length place.left ≤ 8 * b.cores → IsShort b (place_after b schedule place old new slept listed) (listed_extra b place.listed + 8 * b.cores)
unfolding listed_extra
made-short b schedule place old new slept [] is short = slept-short b schedule (place_in_period b schedule place old new place.draws) new slept (listed_extra b place.listed) (in_period-short b schedule place old new place.draws refl short)
made-short b schedule place old new slept (event ∷ events) is short = rw is (short-more b (listed_place b schedule events new place.words) (8 * b.cores + length events) (8 * b.cores + length (event ∷ events) + 8 * b.cores) (omega arith) (listed-short b schedule events new place.words))

-- so many turns are enough for the run to stop
abbrev pub Stops : (List Entry → Bool) → PlainBoard → Schedule → ℕ → Driven → Type 0
Stops over b schedule n d = is_stopped over (turns over b schedule n (is_stopped over d.course) d).course ≡ true

stays : (over : List Entry → Bool) (b : PlainBoard) (s : Schedule) (n : ℕ) (c : Bool) (d : Driven) → c ≡ true → turns over b s n c d ≡ d
stays over b s zero c d is = refl
stays over b s (suc n) c d is = rw is refl

stops-now : (over : List Entry → Bool) (b : PlainBoard) (s : Schedule) (n : ℕ) (d : Driven) → is_stopped over d.course ≡ true → Stops over b s n d
stops-now over b s n d is = subst (λ (m : Driven). is_stopped over m.course ≡ true) (sym (stays over b s n (is_stopped over d.course) d is)) is

stops-turn : (over : List Entry → Bool) (b : PlainBoard) (s : Schedule) (n : ℕ) (d : Driven) → is_stopped over d.course ≡ false → Stops over b s n (moved b s d) → Stops over b s (suc n) d
stops-turn over b s n d is stops = subst (λ c. is_stopped over (turns over b s (suc n) c d).course ≡ true) (sym is) stops

pub moved-is : (b : PlainBoard) (schedule : Schedule) (d : Driven) (did : Did) → happens b d.course.state (event_of b d) ≡ did → moved b schedule d ≡ moved_by b schedule d (event_of b d) did
unfolding moved
moved-is b schedule d did is = ap (moved_by b schedule d (event_of b d)) is

pub range-among : (a n k : ℕ) → a ≤ k → k < a + n → is_among (range_with_len a n) k ≡ true
range-among a zero k low high = absurd (omega (arith, low, high))
range-among a (suc n) k low high = by_test (eqb a k) refl (λ later. range-among (a + 1) n k later (omega (arith, high))) where
  by_test : (c : Bool) → eqb a k ≡ c → (a + 1 ≤ k → is_among (range_with_len (a + 1) n) k ≡ true) → c || is_among (range_with_len (a + 1) n) k ≡ true
  by_test true is more = refl
  by_test false is more = let apart : a ≢ k = eqb-false a k is in more (omega (arith, apart, low))

-- the core that holds the lock over all cores steps before the round ends
pub record IsPromised (b : PlainBoard) (d : Driven) (e n : ℕ) : Type 0 where
  pub nest : Nest
  pub held : d.course.state.nest ≡ Some nest
  pub listed : d.place.listed ≡ []
  pub drawn : d.place.draws ≡ 0
  pub soon : is_among d.place.left nest.core ≡ true
  pub short : length d.place.left ≤ 8 * b.cores
  pub enough : e * longest_period b + length d.place.left ≤ n + b.cores + 1

-- the turns suffice for e more entries
pub record IsSteady (b : PlainBoard) (d : Driven) (e n : ℕ) : Type 0 where
  pub size : ℕ
  pub short : IsShort b d.place size
  pub enough : e * longest_period b + size ≤ n

-- of the last events of a run: the limit is met at the board's number of entries, and a core that holds the lock over all cores runs a thread
pub record IsLimited (over : List Entry → Bool) (b : PlainBoard) : Type 0 where
  pub some_core : 1 ≤ b.cores
  pub full : (journal : List Entry) → length journal ≡ b.entries → over journal ≡ true
  pub held : (journal : List Entry) (s : State) → IsRun b (open_state b) journal s → IsHeldRunning b s

module _ (over : List Entry → Bool) (b : PlainBoard) (schedule : Schedule) (limited : IsLimited over b) where
  -- what is to be shown of n turns
  abbrev pub AllStop : ℕ → Type 0
  AllStop n = (d : Driven) (e : ℕ) → IsDriven over b d → length d.course.journal + e ≡ b.entries → IsSteady b d e n ⊎ IsPromised b d e n → Stops over b schedule n d

  -- a turn that makes an entry
  made-stops : (n e : ℕ) (d : Driven) (s : State) (lines : List Line) → AllStop n → IsDriven over b (moved b schedule d) → happens b d.course.state (event_of b d) ≡ Made s lines → d.place.draws + length d.place.left ≤ 8 * b.cores
      → length d.course.journal + suc e ≡ b.entries → e * longest_period b + (listed_extra b d.place.listed + 8 * b.cores) ≤ n → Stops over b schedule n (moved b schedule d)
  made-stops n e d s lines stop driven is short count enough = subst (Stops over b schedule n) (sym same) (stop (moved_by b schedule d (event_of b d) (Made s lines)) e (subst (IsDriven over b) same driven) more (inl (record {
    size = listed_extra b d.place.listed + 8 * b.cores;
    short = made-short b schedule d.place d.course.state s (is_sleep_of (Made s lines)) d.place.listed refl short;
    enough = enough;
  }))) where
    same : moved b schedule d ≡ moved_by b schedule d (event_of b d) (Made s lines)
    same = moved-is b schedule d (Made s lines) is

    more : length (moved_by b schedule d (event_of b d) (Made s lines)).course.journal + e ≡ b.entries
    more = omega (arith, count, length-append d.course.journal (record { event = event_of b d; tick = entry_tick b (event_of b d) d.course.state s; lines = lines } ∷ []))

  -- a turn that finds the machine halted
  halted-stops : (n : ℕ) (d : Driven) (h : Halt) → happens b d.course.state (event_of b d) ≡ Halted h → Stops over b schedule n (moved b schedule d)
  halted-stops n d h is = stops-now over b schedule n (moved b schedule d) (subst (λ (m : Driven). is_stopped over m.course ≡ true) (sym (moved-is b schedule d (Halted h) is)) refl)

  -- a turn that changes nothing: the place alone moves
  same-stops : (n e : ℕ) (d : Driven) → AllStop n → IsDriven over b (moved b schedule d) → happens b d.course.state (event_of b d) ≡ Same → length d.course.journal + e ≡ b.entries
      → IsSteady b (moved_by b schedule d (event_of b d) Same) e n ⊎ IsPromised b (moved_by b schedule d (event_of b d) Same) e n → Stops over b schedule n (moved b schedule d)
  same-stops n e d stop driven is count need = subst (Stops over b schedule n) (sym same) (stop (moved_by b schedule d (event_of b d) Same) e (subst (IsDriven over b) same driven) count need) where
    same : moved b schedule d ≡ moved_by b schedule d (event_of b d) Same
    same = moved-is b schedule d Same is

  -- a turn by what it does
  turn-stops : (n e : ℕ) (d : Driven) (did : Did) → AllStop n → IsDriven over b (moved b schedule d) → happens b d.course.state (event_of b d) ≡ did → d.place.draws + length d.place.left ≤ 8 * b.cores
      → length d.course.journal + suc e ≡ b.entries → e * longest_period b + (listed_extra b d.place.listed + 8 * b.cores) ≤ n
      → (happens b d.course.state (event_of b d) ≡ Same → IsSteady b (moved_by b schedule d (event_of b d) Same) (suc e) n ⊎ IsPromised b (moved_by b schedule d (event_of b d) Same) (suc e) n) → Stops over b schedule n (moved b schedule d)
  turn-stops n e d (Made s lines) stop driven is short count enough same = made-stops n e d s lines stop driven is short count enough
  turn-stops n e d Same stop driven is short count enough same = same-stops n (suc e) d stop driven is count (same is)
  turn-stops n e d (Halted h) stop driven is short count enough same = halted-stops n d h is

  -- the parts of a machine that a schedule drives
  abbrev at : List Event → ℕ → List ℕ → Lcg → Course → Driven
  at listed draws left words c = record { place = record { listed = listed; draws = draws; left = left; words = words }; course = c }

  -- a step of the core that holds the lock over all cores changes something
  held-steps : (c : Course) (nest : Nest) (core : ℕ) → IsGoing over b c → c.state.halt ≡ None → c.state.nest ≡ Some nest → nest.core ≡ core → happens b c.state (Event.Step core) ≡ Same → ⊥
  held-steps c nest core going live held is same =
      let runs : (nest.core < b.cores) × (r : ℕ) × (running_on c.state nest.core ≡ Some r) = limited.held c.journal c.state (IsRunIn-run over b [] (open_state b) c.state c.journal going.run) nest held in
      held-made b c.state nest runs.1 live held runs.2 (subst (λ x. happens b c.state (Event.Step x) ≡ Same) (sym is) same)

  -- a step in a round under the lock over all cores
  promised-same : (n e core : ℕ) (cores : List ℕ) (words : Lcg) (c : Course) → IsGoing over b c → c.state.halt ≡ None → IsPromised b (at [] 0 (core ∷ cores) words c) e (suc n) → happens b c.state (Event.Step core) ≡ Same → IsPromised b (at [] 0 cores words c) e n
  promised-same n e core cores words c going live promised same = by_core (eqb core promised.nest.core) refl promised.soon where
    by_core : (t : Bool) → eqb core promised.nest.core ≡ t → t || is_among cores promised.nest.core ≡ true → IsPromised b (at [] 0 cores words c) e n
    by_core true is soon = absurd (held-steps c promised.nest core going live promised.held (sym (eqb-true core promised.nest.core is)) same)
    by_core false is soon = record { nest = promised.nest; held = promised.held; listed = refl; drawn = refl; soon = soon; short = omega (arith, promised.short); enough = omega (arith, promised.enough) }

  -- at the end of a period
  closing-stops : (n e size : ℕ) (words : Lcg) (c : Course) (o : Option Nest) → AllStop n → IsDriven over b (at [] 0 [] words c) → IsDriven over b (moved b schedule (at [] 0 [] words c)) → c.state.halt ≡ None → c.state.nest ≡ o
      → length c.journal + suc e ≡ b.entries → suc e * longest_period b + size ≤ suc n → Stops over b schedule n (moved b schedule (at [] 0 [] words c))
  unfolding listed_extra
  closing-stops n e size words c None stop going next live free count enough =
      made-stops n e (at [] 0 [] words c) (tick_effect b c.state).state (tick_effect b c.state).lines stop next (ap (λ o. happens b c.state (closing_event o)) free ∙ tick-made b c.state live free) (omega arith) count
      (omega (arith, enough, suc-mul e (longest_period b)))
  closing-stops n e size words c (Some nest) stop going next live held count enough =
      turn-stops n e (at [] 0 [] words c) (happens b c.state (closing_event c.state.nest)) stop next refl (omega arith) count (omega (arith, enough, suc-mul e (longest_period b))) (λ same. inr (promised (step same))) where
        step : happens b c.state (closing_event c.state.nest) ≡ Same → happens b c.state (Event.Step 0) ≡ Same
        step same = subst (λ o. happens b c.state (closing_event o) ≡ Same) held same

        promised : happens b c.state (Event.Step 0) ≡ Same → IsPromised b (moved_by b schedule (at [] 0 [] words c) (closing_event c.state.nest) Same) (suc e) n
        promised same =
            let runs : (nest.core < b.cores) × (r : ℕ) × (running_on c.state nest.core ≡ Some r) = limited.held c.journal c.state (IsRunIn-run over b [] (open_state b) c.state c.journal going.going.run) nest held in
            let apart : nest.core ≢ 0 = λ is. held-steps c nest 0 going.going live held is same in
            subst (λ o. IsPromised b (record { place = place_after_closing b schedule (at [] 0 [] words c).place c.state o; course = c }) (suc e) n) (sym held) (record {
              nest = nest;
              held = held;
              listed = refl;
              drawn = refl;
              soon = range-among 1 (b.cores - 1) nest.core (omega (arith, apart)) (omega (arith, runs.0));
              short = omega (arith, length-range_with_len 1 (b.cores - 1));
              enough = omega (arith, enough, limited.some_core, length-range_with_len 1 (b.cores - 1));
            })

  -- a turn of a run that goes on
  steady-stops : (n e : ℕ) (listed : List Event) (draws : ℕ) (left : List ℕ) (words : Lcg) (c : Course) → AllStop n → IsDriven over b (at listed draws left words c) → IsDriven over b (moved b schedule (at listed draws left words c)) → c.state.halt ≡ None
      → length c.journal + suc e ≡ b.entries → IsSteady b (at listed draws left words c) (suc e) (suc n) → Stops over b schedule n (moved b schedule (at listed draws left words c))
  unfolding listed_extra
  steady-stops n e (event ∷ events) draws left words c stop going next live count steady =
      turn-stops n e (at (event ∷ events) draws left words c) (happens b c.state event) stop next refl steady.short.short count (omega (arith, steady.enough, steady.short.sized, suc-mul e (longest_period b)))
      (λ same. inl (record { size = 8 * b.cores + length events; short = listed-short b schedule events c.state words; enough = omega (arith, steady.enough, steady.short.sized) }))
  steady-stops n e [] (suc draws) left words c stop going next live count steady =
      turn-stops n e (at [] (suc draws) left words c) (happens b c.state (event_of b (at [] (suc draws) left words c))) stop next refl steady.short.short count (omega (arith, steady.enough, steady.short.sized, suc-mul e (longest_period b)))
      (λ same. inl (record { size = draws + length left; short = record { short = omega (arith, steady.short.short); sized = omega arith }; enough = omega (arith, steady.enough, steady.short.sized) }))
  steady-stops n e [] zero (core ∷ cores) words c stop going next live count steady =
      turn-stops n e (at [] 0 (core ∷ cores) words c) (happens b c.state (Event.Step core)) stop next refl steady.short.short count (omega (arith, steady.enough, steady.short.sized, suc-mul e (longest_period b)))
      (λ same. inl (record { size = length cores; short = record { short = omega (arith, steady.short.short); sized = omega arith }; enough = omega (arith, steady.enough, steady.short.sized) }))
  steady-stops n e [] zero [] words c stop going next live count steady = closing-stops n e steady.size words c c.state.nest stop going next live refl count steady.enough

  promised-stops : (n e : ℕ) (left : List ℕ) (words : Lcg) (c : Course) → AllStop n → IsDriven over b (at [] 0 left words c) → IsDriven over b (moved b schedule (at [] 0 left words c)) → c.state.halt ≡ None
      → length c.journal + suc e ≡ b.entries → IsPromised b (at [] 0 left words c) (suc e) (suc n) → Stops over b schedule n (moved b schedule (at [] 0 left words c))
  unfolding listed_extra
  promised-stops n e [] words c stop going next live count promised = absurd (none promised.soon) where
    none : false ≡ true → ⊥
    none same = cc
  promised-stops n e (core ∷ cores) words c stop going next live count promised =
      turn-stops n e (at [] 0 (core ∷ cores) words c) (happens b c.state (Event.Step core)) stop next refl (omega (arith, promised.short)) count (omega (arith, promised.enough, suc-mul e (longest_period b)))
      (λ same. inr (promised-same n (suc e) core cores words c going.going live promised same))

  need-stops : (n e : ℕ) (listed : List Event) (draws : ℕ) (left : List ℕ) (words : Lcg) (c : Course) → AllStop n → IsDriven over b (at listed draws left words c) → IsDriven over b (moved b schedule (at listed draws left words c)) → c.state.halt ≡ None
      → length c.journal + suc e ≡ b.entries → IsSteady b (at listed draws left words c) (suc e) (suc n) ⊎ IsPromised b (at listed draws left words c) (suc e) (suc n) → Stops over b schedule n (moved b schedule (at listed draws left words c))
  need-stops n e listed draws left words c stop going next live count (inl steady) = steady-stops n e listed draws left words c stop going next live count steady
  need-stops n e [] zero left words c stop going next live count (inr promised) = promised-stops n e left words c stop going next live count promised
  need-stops n e [] (suc draws) left words c stop going next live count (inr promised) = absurd (none draws promised.drawn) where
    none : (k : ℕ) → suc k ≡ 0 → ⊥
    none k is = omega arith
  need-stops n e (event ∷ events) draws left words c stop going next live count (inr promised) = absurd (none promised.listed) where
    none : event ∷ events ≡ [] → ⊥
    none is = cc

  need-some : (n e : ℕ) (d : Driven) → IsSteady b d (suc e) n ⊎ IsPromised b d (suc e) n → 1 ≤ n
  need-some n e d (inl steady) = omega (arith, steady.enough, suc-mul e (longest_period b))
  need-some n e d (inr promised) = omega (arith, promised.enough, suc-mul e (longest_period b), limited.some_core)

  unstopped : (c : Course) → is_stopped over c ≡ false → (c.halt ≡ None) × (over c.journal ≡ false)
  unstopped c is = by_halt c.halt (over c.journal) is where
    by_halt : (o : Option Halt) (l : Bool) → is_some o || l ≡ false → (o ≡ None) × (l ≡ false)
    by_halt None l is = (refl, is)
    by_halt (Some h) l is = absurd cc

  full-over : (journal : List Entry) → length journal + 0 ≡ b.entries → over journal ≡ false → ⊥
  full-over journal count free = clash (limited.full journal (omega (arith, count))) free where
    clash : over journal ≡ true → over journal ≡ false → ⊥
    clash is free = cc

  -- a turn of a run that hasn't stopped
  going-stops : (n e : ℕ) (d : Driven) → AllStop n → is_stopped over d.course ≡ false → IsDriven over b d → length d.course.journal + e ≡ b.entries → IsSteady b d e (suc n) ⊎ IsPromised b d e (suc n) → Stops over b schedule n (moved b schedule d)
  going-stops n zero d stop is going count need = absurd (full-over d.course.journal count (unstopped d.course is).1)
  going-stops n (suc e) d stop is going count need =
      need-stops n e d.place.listed d.place.draws d.place.left d.place.words d.course stop going (moved-driven over b schedule d limited.some_core (unstopped d.course is).1 going) (going.going.live (unstopped d.course is).0) count need

  none-stops : (e : ℕ) (d : Driven) → is_stopped over d.course ≡ false → length d.course.journal + e ≡ b.entries → IsSteady b d e 0 ⊎ IsPromised b d e 0 → ⊥
  none-stops zero d is count need = full-over d.course.journal count (unstopped d.course is).1
  none-stops (suc e) d is count need = not-one (need-some 0 e d need) where
    not-one : 1 ≤ 0 → ⊥
    not-one le = omega arith

  pub all-stop : (n : ℕ) → AllStop n
  all-stop zero d e going count need = by_test (is_stopped over d.course) refl where
    by_test : (t : Bool) → is_stopped over d.course ≡ t → Stops over b schedule 0 d
    by_test true is = is
    by_test false is = absurd (none-stops e d is count need)
  all-stop (suc n) d e going count need = by_test (all-stop n) (is_stopped over d.course) refl where
    by_test : AllStop n → (t : Bool) → is_stopped over d.course ≡ t → Stops over b schedule (suc n) d
    by_test stop true is = stops-now over b schedule (suc n) d is
    by_test stop false is = stops-turn over b schedule n d is (going-stops n e d stop is going count need)

  -- the fuel of a run suffices, from a place that is short
  pub driven-stops : (d : Driven) → IsDriven over b d → length d.course.journal ≤ b.entries → d.place.draws + length d.place.left ≤ 8 * b.cores → IsSteady b d (b.entries - length d.course.journal) (most_turns b d.place.listed) → is_stopped over (driven over b schedule d).course ≡ true
  unfolding driven
  driven-stops d going few short steady = all-stop (most_turns b d.place.listed) d (b.entries - length d.course.journal) going (omega (arith, few)) (inl steady)

fewer-turns : (entries done period : ℕ) → (entries - done) * period + period ≤ (entries + 1) * period
fewer-turns entries done period = omega (arith, add-one entries, suc-mul entries period, mul-le-mul_right {m = entries - done} {n = entries} period (omega arith))

stopped-ends : (over : List Entry → Bool) (c : Course) → is_stopped over c ≡ true → c.halt ≡ None → over c.journal ≡ true
stopped-ends over c is live = subst (λ o. is_some {T = Halt} o || over c.journal ≡ true) live is

listed-steady : (b : PlainBoard) (schedule : Schedule) (events : List Event) (s : State) (words : Lcg) (c : Course) (e : ℕ) → e * longest_period b + longest_period b ≤ (b.entries + 1) * longest_period b
    → IsSteady b (record { place = listed_place b schedule events s words; course = c }) e (most_turns b (listed_place b schedule events s words).listed)
listed-steady b schedule [] s words c e fits = record { size = 8 * b.cores; short = period-short b schedule s words; enough = omega (arith, fits) }
listed-steady b schedule (event ∷ events) s words c e fits = record { size = 8 * b.cores + length (event ∷ events); short = listed-short b schedule (event ∷ events) s words; enough = omega (arith, fits) }

-- the run by the board's schedule stops: it has halted, or its journal is over
pub scheduled-stops : (over : List Entry → Bool) (b : PlainBoard) → IsLimited over b → IsDriveable b → (scheduled_course over b).halt ≡ None → over (scheduled_course over b).journal ≡ true
scheduled-stops over b limited driveable = stopped-ends over (scheduled_course over b) (driven-stops over b b.schedule limited (begun b) (begun-driven over b driveable) (omega arith) steady.short.short steady) where
  steady : IsSteady b (begun b) (b.entries - 0) (most_turns b (begun b).place.listed)
  steady = listed-steady b b.schedule (listed_of b.schedule) (open_state b) (words_of b.schedule) (begun b).course (b.entries - 0) (fewer-turns b.entries 0 (longest_period b))

-- a run within limits has no more entries than the board allows
run-few : (over : List Entry → Bool) (b : PlainBoard) (done journal : List Entry) (old new : State) → IsLimited over b → length done ≤ b.entries → IsRunIn over b done old journal new → length done + length journal ≤ b.entries
run-few over b done [] old new limited few run = omega (arith, few)
run-few over b done (e ∷ journal) old new limited few run = omega (arith, length-append done (e ∷ []), run-few over b (done ++ e ∷ []) journal run.0 new limited more run.3) where
  apart : length done ≢ b.entries
  apart is = clash (limited.full done is) run.1 where
    clash : over done ≡ true → over done ≡ false → ⊥
    clash is free = cc

  more : length (done ++ e ∷ []) ≤ b.entries
  more = omega (arith, few, apart, length-append done (e ∷ []))

-- the run that goes on by rounds from where a journal led stops too
pub rounds-stop : (over : List Entry → Bool) (b : PlainBoard) (journal : List Entry) (s : State) → IsLimited over b → IsRunIn over b [] (open_state b) journal s
    → (driven over b Schedule.Round (rounds_begun b s journal)).course.halt ≡ None → over (driven over b Schedule.Round (rounds_begun b s journal)).course.journal ≡ true
rounds-stop over b journal s limited run = stopped-ends over (driven over b Schedule.Round (rounds_begun b s journal)).course (driven-stops over b Schedule.Round limited (rounds_begun b s journal) (rounds-driven over b journal s run) (omega (arith, run-few over b [] journal (open_state b) s limited (omega arith) run)) steady.short.short steady) where
  steady : IsSteady b (rounds_begun b s journal) (b.entries - length journal) (most_turns b [])
  steady = listed-steady b Schedule.Round [] s (rounds_begun b s journal).place.words (rounds_begun b s journal).course (b.entries - length journal) (fewer-turns b.entries (length journal) (longest_period b))
