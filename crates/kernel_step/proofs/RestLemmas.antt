-- The sleep rule, by its parts.
use Rattle.std.proofs.Common.{◌≡◌, ℕ, suc, ◌+◌, ◌*◌, ◌-◌, ◌<◌, ◌≤◌, ◌&&◌, ◌||◌, not, arith, eqb, cond, filter, length, length-append, All, List, [], ◌∷◌, ◌++◌, map, reverse, Option, Some, None, IfSome, Bool, true, false, refl, sym, ap, ◌∙◌, subst, eq-eqb}
use Rattle.std.specs.Prelude.{if◌then◌else◌, nat_le, ◌==◌}
use Rattle.std.specs.List.{AllByRecursion}
use Rattle.std.proofs.lemmas.List.{append-nil, append_assoc, length-map, length-reverse}
use Rattle.std.proofs.lemmas.List.Elements.{All-from_recursion, All-map, recursion_from_All}
use Rattle.rt_base.specs.declared.codes.Halt.{Halt}
use Rattle.rt_base.specs.declared.codes.Sleep.{Sleep}
use Rattle.kernel_devices.specs.Deviced.{next_moment}
use Rattle.pm_core.specs.Clock.{Clock, sleep_ticks}
use Rattle.pm_core.specs.Moments.{IsLeastAhead, long_enough}
use Rattle.rt_plain.specs.declared.line.Line.{Line}
use Rattle.rt_plain.specs.PlainBoard.{PlainBoard}
use Rattle.rt_plain.specs.kernel.DeviceCalls.{is_busy, registered_devices}
use Rattle.rt_plain.specs.kernel.Due.{due, by_number}
use Rattle.rt_plain.specs.kernel.Effects.{Effect, no_effect}
use Rattle.rt_plain.specs.kernel.Opening.{open_state}
use Rattle.rt_plain.specs.kernel.PowerCalls.{sleep_mode}
use Rattle.rt_plain.specs.kernel.Shown.{shown}
use Rattle.rt_plain.specs.kernel.Sleeps.{Did, Made, Same, Halted, sleep_did, sleep_effect, sleep_length, rest_did, halting_rest_did, awake_rest_did, final_halt, stops_ticks, nothing_comes, moments_of, powered_devices, ticks}
use Rattle.rt_plain.specs.kernel.Sound.{IsProper}
use Rattle.rt_plain.specs.kernel.State.{State, Device, Arriving, Alarm, ArmedRow, is_among}
use Rattle.rt_plain.specs.kernel.Steps.{is_all_idle}
use Rattle.rt_plain.specs.kernel.Ticks.{tick_effect}
use Rattle.rt_plain.proofs.kernel.OpenLemmas.{opened-kept}
use Rattle.rt_plain.proofs.kernel.SkipLemmas.{IsFreeFor, free-sleep}
use Rattle.rt_kernel.specs.PlainKernel.{PlainKernel}
use Rattle.kernel_step.specs.declared.did.Did.{Did as Answer}
use Rattle.kernel_step.specs.declared.engine.Engine.{Engine}
use Rattle.kernel_step.specs.Did.{FitsIn, Gives, idle_did}
use Rattle.kernel_step.specs.Engine.{clock_of}

-- the clock goes on with the moment
pub on-time : (k new : Clock) (b d : PlainBoard) (s t : State) (n : ℕ) → k ≡ clock_of b s → new ≡ record k { moment = k.moment + n } → d ≡ b → t.moment ≡ s.moment + n → new ≡ clock_of d t
on-time k new b d s t n on is board moment =
    is
    ∙ ap (λ (c : Clock). (let r : Clock = record c { moment = c.moment + n } in r)) on
    ∙ ap (λ (m : ℕ). (let r : Clock = record { h = b.lp_h; q = b.lp_q; moment = m } in r)) (sym moment)
    ∙ ap (λ (x : PlainBoard). clock_of x t) (sym board)

-- it stays where the moment does
pub on-time-still : (k : Clock) (b d : PlainBoard) (s t : State) → k ≡ clock_of b s → d ≡ b → t.moment ≡ s.moment → k ≡ clock_of d t
on-time-still k b d s t on board moment =
    on
    ∙ ap (λ (m : ℕ). (let r : Clock = record { h = b.lp_h; q = b.lp_q; moment = m } in r)) (sym moment)
    ∙ ap (λ (x : PlainBoard). clock_of x t) (sym board)

-- it begins at moment 0
pub opened-on-time : (b d : PlainBoard) (s : State) (k : Clock) → IsProper d → k ≡ record { h = b.lp_h; q = b.lp_q; moment = 0 } → d ≡ b → s ≡ open_state b → k ≡ clock_of d s
opened-on-time b d s k proper is board state = on-time-still k b d (record s { moment = 0 }) s is board (ap (λ (u : State). u.moment) state ∙ (opened-kept b (subst IsProper board proper)).moment_is)

-- a kernel is its board and its state
same-kernel : (a b : PlainKernel) → a.board ≡ b.board → a.state ≡ b.state → a ≡ b
same-kernel a b board state = ap (λ (x : PlainBoard). (let r : PlainKernel = record { board = x; state = a.state } in r)) board ∙ ap (λ (s : State). (let r : PlainKernel = record { board = b.board; state = s } in r)) state

pub same-engine : (k : Engine) (kernel : PlainKernel) → kernel.board ≡ k.kernel.board → kernel.state ≡ k.kernel.state → record k { kernel = kernel } ≡ k
same-engine k kernel board state = ap (λ (x : PlainKernel). (let r : Engine = record k { kernel = x } in r)) (same-kernel kernel k.kernel board state)

-- an event that is the same from the same state
pub gives-by : (one other : Did) (d : Answer) (s t new : State) (lines : List Line) → other ≡ one → t ≡ s → Gives one d s new lines → Gives other d t new lines
gives-by one other d s t new lines same state gives = subst (λ (h : Did). Gives h d t new lines) (sym same) (subst (λ (x : State). Gives one d x new lines) (sym state) gives)

pub some-holds : {A : Type 0} (o : Option A) (x : A) (P : A → Type 0) → o ≡ Some x → IfSome o P → P x
some-holds o x P is holds = subst (λ (a : Option _). IfSome a P) is holds

-- the first core, where nobody runs
pub idle-rests : (b : PlainBoard) (s : State) (core : ℕ) → core ≡ 0 → true ≡ is_all_idle s → idle_did b s core ≡ rest_did b s
idle-rests b s core first idle =
    ap (λ n. idle_did b s n) first
    ∙ ap (λ (c : Bool). if c then rest_did b s else Same) (sym idle)

-- a busy device keeps the machine awake
pub rest-busy : (b : PlainBoard) (s : State) → true ≡ is_busy s → rest_did b s ≡ Same
rest-busy b s busy = ap (λ (c : Bool). if c then Same else halting_rest_did b (final_halt (sleep_mode b s)) s) (sym busy)

-- what a machine does whose devices are silent
abbrev silent_did : PlainBoard → State → Option Halt → Did
silent_did b s halt = halting_rest_did b halt s

rest-silent : (b : PlainBoard) (s : State) (mode : Sleep) (halt : Option Halt) → false ≡ is_busy s → mode ≡ sleep_mode b s → halt ≡ final_halt mode → rest_did b s ≡ silent_did b s halt
rest-silent b s mode halt silent is ends =
    ap (λ (c : Bool). if c then Same else halting_rest_did b (final_halt (sleep_mode b s)) s) (sym silent)
    ∙ ap (λ (m : Sleep). silent_did b s (final_halt m)) (sym is)
    ∙ ap (silent_did b s) (sym ends)

-- a final mode halts it
pub rest-halts : (b : PlainBoard) (s : State) (mode : Sleep) (halt : Halt) → false ≡ is_busy s → mode ≡ sleep_mode b s → Some halt ≡ final_halt mode → rest_did b s ≡ Halted halt
rest-halts b s mode halt silent is ends = rest-silent b s mode (Some halt) silent is ends

-- and so does quiet
pub rest-quiet : (b : PlainBoard) (s : State) (mode : Sleep) → false ≡ is_busy s → mode ≡ sleep_mode b s → None ≡ final_halt mode → true ≡ nothing_comes s → rest_did b s ≡ Halted Halt.Quiet
rest-quiet b s mode silent is ends quiet = rest-silent b s mode None silent is ends ∙ ap (λ (c : Bool). if c then Halted Halt.Quiet else awake_rest_did b s) (sym quiet)

-- the length of a sleep in a mode
abbrev pub length_in : PlainBoard → State → Sleep → Option ℕ
length_in b s mode = if b.tickless && (stops_ticks mode && nat_le b.thresh (sleep_length b s)) then Some (sleep_length b s) else None

-- else it sleeps, or waits
rest-awake : (b : PlainBoard) (s : State) (mode : Sleep) → false ≡ is_busy s → mode ≡ sleep_mode b s → None ≡ final_halt mode → false ≡ nothing_comes s → rest_did b s ≡ (if b.tickless && (stops_ticks mode && nat_le b.thresh (sleep_length b s)) then sleep_did b (sleep_length b s) s else Same)
rest-awake b s mode silent is ends more =
    rest-silent b s mode None silent is ends
    ∙ ap (λ (c : Bool). if c then Halted Halt.Quiet else awake_rest_did b s) (sym more)
    ∙ ap (λ (m : Sleep). if b.tickless && (stops_ticks m && nat_le b.thresh (sleep_length b s)) then sleep_did b (sleep_length b s) s else Same) (sym is)

-- what a sleep of so many ticks needs
pub record Sleeps (b : PlainBoard) (s : State) (d : ℕ) : Type 0 where
  pub length_is : d ≡ sleep_length b s
  pub long : b.thresh ≤ d
  pub did : rest_did b s ≡ sleep_did b d s

pub rest-sleeps : (b : PlainBoard) (s : State) (mode : Sleep) (d : ℕ) → false ≡ is_busy s → mode ≡ sleep_mode b s → None ≡ final_halt mode → false ≡ nothing_comes s → Some d ≡ length_in b s mode → Sleeps b s d
rest-sleeps b s mode d silent is ends more slept = by_tickless b.tickless (stops_ticks mode) (nat_le b.thresh (sleep_length b s)) refl slept (rest-awake b s mode silent is ends more) where
  by_tickless : (t m l : Bool) → nat_le b.thresh (sleep_length b s) ≡ l → Some d ≡ (if t && (m && l) then Some (sleep_length b s) else None) → rest_did b s ≡ (if t && (m && l) then sleep_did b (sleep_length b s) s else Same) → Sleeps b s d
  by_tickless true true true long some did = let same : d ≡ sleep_length b s = cc in record { length_is = same; long = grind (arith, long, same); did = did ∙ ap (λ n. sleep_did b n s) (sym same) }
  by_tickless true true false long some did = absurd cc
  by_tickless true false l long some did = absurd cc
  by_tickless false m l long some did = absurd cc

pub rest-waits : (b : PlainBoard) (s : State) (mode : Sleep) → false ≡ is_busy s → mode ≡ sleep_mode b s → None ≡ final_halt mode → false ≡ nothing_comes s → None ≡ length_in b s mode → rest_did b s ≡ Same
rest-waits b s mode silent is ends more awake = by_test (b.tickless && (stops_ticks mode && nat_le b.thresh (sleep_length b s))) awake (rest-awake b s mode silent is ends more) where
  by_test : (c : Bool) → None ≡ (if c then Some (sleep_length b s) else None) → rest_did b s ≡ (if c then sleep_did b (sleep_length b s) s else Same) → rest_did b s ≡ Same
  by_test true none did = absurd cc
  by_test false none did = did

-- none of the moments is among those that a sleep skips
free-of : (ms : List ℕ) (moment n : ℕ) → AllByRecursion (λ m. moment < m) ms → ((k : ℕ) → 1 ≤ k → k ≤ n → is_among ms (moment + k) ≡ false) → AllByRecursion (λ m. moment + n < m) ms
free-of [] moment n ahead free = tt
free-of (m ∷ ms) moment n ahead free = (later, free-of ms moment n ahead.1 (λ k low high. (parts (eqb m (moment + k)) (is_among ms (moment + k)) (free k low high)).1)) where
  parts : (c d : Bool) → c || d ≡ false → (c ≡ false) × (d ≡ false)
  parts false false e = (refl, refl)
  parts true d e = absurd cc
  parts false true e = absurd cc

  by_place : (c : Bool) → nat_le m (moment + n) ≡ c → moment + n < m
  by_place false e = grind (arith, e)
  by_place true e =
      let within : m ≤ moment + n = grind (arith, e) in
      let start : moment < m = ahead.0 in
      absurd (clash (eq-eqb m (moment + (m - moment)) (omega (arith, start))) ((parts (eqb m (moment + (m - moment))) (is_among ms (moment + (m - moment))) (free (m - moment) (omega (arith, start)) (omega (arith, within)))).0))
    where
      clash : {c : Bool} → c ≡ true → c ≡ false → ⊥
      clash one other = cc

  later : moment + n < m
  later = by_place (nat_le m (moment + n)) refl

mapped : {A : Type 0} (key : A → ℕ) (bound : ℕ) (xs : List A) → AllByRecursion (λ x. bound < key x) xs → AllByRecursion (λ m. bound < m) (map key xs)
mapped key bound [] all = tt
mapped key bound (x ∷ xs) all = (all.0, mapped key bound xs all.1)

unmapped : {A : Type 0} (key : A → ℕ) (bound : ℕ) (xs : List A) → AllByRecursion (λ m. bound < m) (map key xs) → AllByRecursion (λ x. bound < key x) xs
unmapped key bound [] all = tt
unmapped key bound (x ∷ xs) all = (all.0, unmapped key bound xs all.1)

joined : (bound : ℕ) (xs ys : List ℕ) → AllByRecursion (λ m. bound < m) xs → AllByRecursion (λ m. bound < m) ys → AllByRecursion (λ m. bound < m) (xs ++ ys)
joined bound [] ys one other = other
joined bound (x ∷ xs) ys one other = (one.0, joined bound xs ys one.1 other)

parted : (bound : ℕ) (xs ys : List ℕ) → AllByRecursion (λ m. bound < m) (xs ++ ys) → AllByRecursion (λ m. bound < m) xs × AllByRecursion (λ m. bound < m) ys
parted bound [] ys all = (tt, all)
parted bound (x ∷ xs) ys all = let rest = parted bound xs ys all.1 in ((all.0, rest.0), rest.1)

-- what a sleep skips is before all that comes
pub record IsClear (b : PlainBoard) (s : State) (n : ℕ) : Type 0 where
  pub rows : All (λ (row : ArmedRow Alarm). s.moment + n < row.due) s.armed
  pub arrivals : All (λ (a : Arriving). s.moment + n < a.moment) s.arrivals
  pub early : s.moment + n < b.until

pub clear : (b : PlainBoard) (s : State) (n : ℕ) → n < sleep_length b s → All (λ (row : ArmedRow Alarm). s.moment < row.due) s.armed → All (λ (a : Arriving). s.moment < a.moment) s.arrivals → s.moment < b.until → IsClear b s n
clear b s n short rows arrivals early =
    let due_of : ArmedRow Alarm → ℕ = λ row. row.due in
    let comes : Arriving → ℕ = λ a. a.moment in
    let ahead : AllByRecursion (λ m. s.moment < m) (moments_of b s) =
    joined s.moment (map due_of s.armed ++ map comes s.arrivals) (b.until ∷ [])
    (joined s.moment (map due_of s.armed) (map comes s.arrivals) (mapped due_of s.moment s.armed (recursion_from_All (λ (row : ArmedRow Alarm). s.moment < row.due) s.armed rows)) (mapped comes s.moment s.arrivals (recursion_from_All (λ (a : Arriving). s.moment < a.moment) s.arrivals arrivals)))
    (early, tt) in
    let all : AllByRecursion (λ m. s.moment + n < m) (moments_of b s) = free-of (moments_of b s) s.moment n ahead (free-sleep b n s short) in
    let last = parted (s.moment + n) (map due_of s.armed ++ map comes s.arrivals) (b.until ∷ []) all in
    let both = parted (s.moment + n) (map due_of s.armed) (map comes s.arrivals) last.0 in
    record {
      rows = All-from_recursion (λ (row : ArmedRow Alarm). s.moment + n < row.due) s.armed (unmapped due_of (s.moment + n) s.armed both.0);
      arrivals = All-from_recursion (λ (a : Arriving). s.moment + n < a.moment) s.arrivals (unmapped comes (s.moment + n) s.arrivals both.1);
      early = last.1.0;
    }

-- few devices are suspended
filter-few : {A : Type 0} (p : A → Bool) (xs : List A) → length (filter p xs) ≤ length xs
filter-few p [] = omega arith
filter-few {A} p (x ∷ xs) = by_test (p x) (filter-few p xs) where
  by_test : (c : Bool) → length (filter p xs) ≤ length xs → length (cond c (x ∷ filter p xs) (filter p xs)) ≤ suc (length xs)
  by_test true le = omega (arith, le)
  by_test false le = omega (arith, le)

pub powered-few : (s : State) → length (powered_devices s) ≤ length s.devices
powered-few s = omega (arith, filter-few (λ (d : Device). d.pm) (registered_devices s), length-reverse s.devices)

-- where all rows are ahead, none is due
none-at : (moment : ℕ) (rows : List (ArmedRow Alarm)) → AllByRecursion (λ (row : ArmedRow Alarm). moment < row.due) rows → filter (λ (row : ArmedRow Alarm). row.due == moment) rows ≡ []
none-at moment [] ahead = refl
none-at moment (row ∷ rows) ahead = by_test (row.due == moment) refl (none-at moment rows ahead.1) where
  by_test : (c : Bool) → (row.due == moment) ≡ c → filter (λ (r : ArmedRow Alarm). r.due == moment) rows ≡ [] → cond c (row ∷ filter (λ (r : ArmedRow Alarm). r.due == moment) rows) (filter (λ (r : ArmedRow Alarm). r.due == moment) rows) ≡ []
  by_test true same none = let start : moment < row.due = ahead.0 in absurd (grind (arith, same, start))
  by_test false apart none = none

pub undue : (s : State) → All (λ (row : ArmedRow Alarm). s.moment < row.due) s.armed → due s ≡ []
undue s ahead = ap by_number (none-at s.moment s.armed (recursion_from_All (λ (row : ArmedRow Alarm). s.moment < row.due) s.armed ahead))

-- the lines before the last tick of a sleep
abbrev pub before_tick : State → Sleep → ℕ → ℕ → List Line
before_tick s mode d tick = (((Line.Sleep mode d ∷ []) ++ map (λ (p : Device). Line.Suspend p.name) (powered_devices s)) ++ map (λ (p : Device). Line.Resume p.name) (reverse (powered_devices s))) ++ Line.Tick tick ∷ []

abbrev pub later_of : State → ℕ → State
later_of s n = record s { moment = s.moment + n }

pub shown-before : (s mid : State) (mode : Sleep) (d tick n : ℕ) (zero_lines one two three four : List Line) → mid ≡ later_of s n → zero_lines ≡ [] → one ≡ zero_lines ++ Line.Sleep mode d ∷ [] → two ≡ one ++ map (λ (p : Device). Line.Suspend p.name) (powered_devices s)
    → three ≡ two ++ map (λ (p : Device). Line.Resume p.name) (reverse (powered_devices mid)) → four ≡ three ++ Line.Tick tick ∷ [] → four ≡ before_tick s mode d tick
shown-before s mid mode d tick n zero_lines one two three four is empty first second third fourth =
    let ups : List Line = map (λ (p : Device). Line.Resume p.name) (reverse (powered_devices s)) in
    let downs : List Line = map (λ (p : Device). Line.Suspend p.name) (powered_devices s) in
    let one_is : one ≡ Line.Sleep mode d ∷ [] = first ∙ ap (λ (ls : List Line). ls ++ Line.Sleep mode d ∷ []) empty in
    let two_is : two ≡ (Line.Sleep mode d ∷ []) ++ downs = second ∙ ap (λ (ls : List Line). ls ++ downs) one_is in
    let three_is : three ≡ ((Line.Sleep mode d ∷ []) ++ downs) ++ ups = third ∙ ap (λ (u : State). two ++ map (λ (p : Device). Line.Resume p.name) (reverse (powered_devices u))) is ∙ ap (λ (ls : List Line). ls ++ ups) two_is in
    fourth ∙ ap (λ (ls : List Line). ls ++ Line.Tick tick ∷ []) three_is

-- how many they are
pub before-length : (s : State) (mode : Sleep) (d tick : ℕ) → length (before_tick s mode d tick) ≡ 2 + length (powered_devices s) + length (powered_devices s)
before-length s mode d tick =
    let ps : List Device = powered_devices s in
    let downs : List Line = map (λ (p : Device). Line.Suspend p.name) ps in
    let ups : List Line = map (λ (p : Device). Line.Resume p.name) (reverse ps) in
    omega (
      arith,
      length-append (((Line.Sleep mode d ∷ []) ++ downs) ++ ups) (Line.Tick tick ∷ []),
      length-append ((Line.Sleep mode d ∷ []) ++ downs) ups,
      length-append (Line.Sleep mode d ∷ []) downs,
      length-map ps (λ (p : Device). Line.Suspend p.name),
      length-map (reverse ps) (λ (p : Device). Line.Resume p.name),
      length-reverse ps,
    )

-- what a sleep makes, by the ticks that it skips
abbrev made_by : PlainBoard → State → Sleep → ℕ → Effect → Did
made_by b s mode d rest = let e = sleep_effect b s rest (tick_effect b rest.state) in Made e.state (Line.Sleep mode d ∷ e.lines)

pub sleep-made : (b : PlainBoard) (s mid : State) (mode : Sleep) (d : ℕ) → ticks b (d - 1) s ≡ no_effect mid → mode ≡ sleep_mode b s
    → sleep_did b d s ≡ Made (tick_effect b mid).state (before_tick s mode d (shown b (tick_effect b mid).state.moment) ++ (tick_effect b mid).lines)
sleep-made b s mid mode d skipped is =
    let last : Effect = tick_effect b mid in
    let downs : List Line = map (λ (p : Device). Line.Suspend p.name) (powered_devices s) in
    let ups : List Line = map (λ (p : Device). Line.Resume p.name) (reverse (powered_devices s)) in
    let tick : Line = Line.Tick (shown b last.state.moment) in
    let shaped : made_by b s mode d (no_effect mid) ≡ Made last.state (before_tick s mode d (shown b last.state.moment) ++ last.lines) = ap (λ (ls : List Line). Made last.state ls) (shape (Line.Sleep mode d) tick downs ups last.lines) in
    let moded : made_by b s (sleep_mode b s) d (no_effect mid) ≡ made_by b s mode d (no_effect mid) = ap (λ (m : Sleep). made_by b s m d (no_effect mid)) (sym is) in
    let from : sleep_did b d s ≡ made_by b s (sleep_mode b s) d (no_effect mid) = ap (made_by b s (sleep_mode b s) d) skipped in
    from ∙ moded ∙ shaped
  where
    shape : (first tick : Line) (downs ups last : List Line) → first ∷ (((downs ++ []) ++ ups) ++ tick ∷ last) ≡ ((((first ∷ []) ++ downs) ++ ups) ++ tick ∷ []) ++ last
    shape first tick downs ups last = ap (λ (ls : List Line). first ∷ ((ls ++ ups) ++ tick ∷ last)) (append-nil downs) ∙ sym (append_assoc (((first ∷ []) ++ downs) ++ ups) (tick ∷ []) last)

-- the same, as the code does it
pub sleep-done : (b : PlainBoard) (s mid new : State) (mode : Sleep) (d tick : ℕ) (shown_lines lines : List Line) → ticks b (d - 1) s ≡ no_effect mid → mode ≡ sleep_mode b s
    → shown_lines ≡ before_tick s mode d tick → tick ≡ shown b (mid.moment + 1) → new ≡ (tick_effect b mid).state → new.moment ≡ mid.moment + 1 → lines ≡ shown_lines ++ (tick_effect b mid).lines
    → sleep_did b d s ≡ Made new lines
sleep-done b s mid new mode d tick shown_lines lines skipped is before told state moment after =
    let last : State = (tick_effect b mid).state in
    let tick_is : shown b last.moment ≡ tick = ap (λ (u : State). shown b u.moment) (sym state) ∙ ap (shown b) moment ∙ sym told in
    sleep-made b s mid mode d skipped is
    ∙ ap (λ (n : ℕ). Made last (before_tick s mode d n ++ (tick_effect b mid).lines)) tick_is
    ∙ ap (λ (u : State). Made u (before_tick s mode d tick ++ (tick_effect b mid).lines)) (sym state)
    ∙ ap (Made new) (sym (after ∙ ap (λ (ls : List Line). ls ++ (tick_effect b mid).lines) before))

-- its lines have room
pub sleep-fits : (b : PlainBoard) (s mid : State) (mode : Sleep) (d room : ℕ) → ticks b (d - 1) s ≡ no_effect mid → mode ≡ sleep_mode b s → FitsIn (sleep_did b d s) room → 2 + length (powered_devices s) + length (powered_devices s) + length (tick_effect b mid).lines + 16 ≤ room
sleep-fits b s mid mode d room skipped is fits =
    let told : List Line = before_tick s mode d (shown b (tick_effect b mid).state.moment) in
    omega (arith, fits _ _ (sleep-made b s mid mode d skipped is), length-append told (tick_effect b mid).lines, before-length s mode d (shown b (tick_effect b mid).state.moment))

-- what is left until something arrives
pub arrival-left : (moment next : ℕ) (arrivals : List Arriving) → next_moment arrivals ≡ Some next → All (λ (a : Arriving). next ≤ a.moment) arrivals → moment ≤ next → IsLeastAhead moment (map (λ (a : Arriving). a.moment) arrivals) (Some (next - moment))
arrival-left moment next [] is least ahead = absurd cc
arrival-left moment next (a ∷ arrivals) is least ahead =
    let first : a.moment ≡ next = cc in
    let back : moment + (next - moment) ≡ next = omega (arith, ahead) in (
      (0, omega arith, first ∙ sym back),
      subst (λ n. All (λ m. n ≤ m) (map (λ (x : Arriving). x.moment) (a ∷ arrivals))) (sym back) (All-map (λ m. next ≤ m) (λ (x : Arriving). x.moment) (a ∷ arrivals) least),
    )

pub no-arrivals : (arrivals : List Arriving) → next_moment arrivals ≡ None → map (λ (a : Arriving). a.moment) arrivals ≡ []
no-arrivals [] is = refl
no-arrivals (a ∷ arrivals) is = absurd cc

pub arrival-ahead : (moment next : ℕ) (arrivals : List Arriving) → next_moment arrivals ≡ Some next → All (λ (a : Arriving). moment < a.moment) arrivals → moment < next
arrival-ahead moment next [] is ahead = absurd cc
arrival-ahead moment next (a ∷ arrivals) is ahead = let first : a.moment ≡ next = cc in omega (arith, first, (recursion_from_All (λ (x : Arriving). moment < x.moment) (a ∷ arrivals) ahead).0)

-- the length of a sleep by the clock of now
pub sleep-length : (b : PlainBoard) (s : State) (k : Clock) (until most thresh : ℕ) (due arrival result : Option ℕ) → k ≡ clock_of b s → s.moment + until ≡ b.until → most ≡ b.lpmax → thresh ≡ b.thresh
    → IsLeastAhead s.moment (map (λ (row : ArmedRow Alarm). row.due) s.armed) due → IsLeastAhead s.moment (map (λ (a : Arriving). a.moment) s.arrivals) arrival
    → ((dues arrivals : List ℕ) → IsLeastAhead k.moment dues due → IsLeastAhead k.moment arrivals arrival → result ≡ long_enough thresh (sleep_ticks k (dues ++ arrivals ++ (k.moment + until) ∷ []) most))
    → result ≡ (if nat_le b.thresh (sleep_length b s) then Some (sleep_length b s) else None)
sleep-length b s k until most thresh due arrival result on last most_is thresh_is least_due least_arrival says =
    let dues : List ℕ = map (λ (row : ArmedRow Alarm). row.due) s.armed in
    let comes : List ℕ = map (λ (a : Arriving). a.moment) s.arrivals in
    let now : k.moment ≡ s.moment = ap (λ (c : Clock). c.moment) on in
    let found : result ≡ long_enough thresh (sleep_ticks k (dues ++ comes ++ (k.moment + until) ∷ []) most) = says dues comes (subst (λ m. IsLeastAhead m dues due) (sym now) least_due) (subst (λ m. IsLeastAhead m comes arrival) (sym now) least_arrival) in
    let clocked : long_enough thresh (sleep_ticks k (dues ++ comes ++ (k.moment + until) ∷ []) most) ≡ long_enough thresh (sleep_ticks (clock_of b s) (dues ++ comes ++ (s.moment + until) ∷ []) most) = ap (λ (c : Clock). long_enough thresh (sleep_ticks c (dues ++ comes ++ (c.moment + until) ∷ []) most)) on in
    let ended : long_enough thresh (sleep_ticks (clock_of b s) (dues ++ comes ++ (s.moment + until) ∷ []) most) ≡ long_enough thresh (sleep_ticks (clock_of b s) (dues ++ comes ++ b.until ∷ []) most) = ap (λ n. long_enough thresh (sleep_ticks (clock_of b s) (dues ++ comes ++ n ∷ []) most)) last in
    let bounded : long_enough thresh (sleep_ticks (clock_of b s) (dues ++ comes ++ b.until ∷ []) most) ≡ long_enough thresh (sleep_length b s) = ap (λ n. long_enough thresh (sleep_ticks (clock_of b s) (dues ++ comes ++ b.until ∷ []) n)) most_is in
    let judged : long_enough thresh (sleep_length b s) ≡ long_enough b.thresh (sleep_length b s) = ap (λ n. long_enough n (sleep_length b s)) thresh_is in
    found ∙ clocked ∙ ended ∙ bounded ∙ judged

-- how many are shown before each step of a sleep
pub shown-length : (s mid : State) (one two three : List Line) (first : Line) (n : ℕ) → mid ≡ later_of s n → one ≡ [] ++ first ∷ [] → two ≡ one ++ map (λ (p : Device). Line.Suspend p.name) (powered_devices s)
    → three ≡ two ++ map (λ (p : Device). Line.Resume p.name) (reverse (powered_devices mid)) → (length two ≡ 1 + length (powered_devices s)) × (length three ≡ 1 + length (powered_devices s) + length (powered_devices s))
shown-length s mid one two three first n is shown downs ups =
    let ps : List Device = powered_devices s in
    let count_two : length two ≡ 1 + length ps = omega (arith, ap length downs, length-append one (map (λ (p : Device). Line.Suspend p.name) ps), ap length shown, length-map ps (λ (p : Device). Line.Suspend p.name)) in
    let all_ups : three ≡ two ++ map (λ (p : Device). Line.Resume p.name) (reverse ps) = ups ∙ ap (λ (u : State). two ++ map (λ (p : Device). Line.Resume p.name) (reverse (powered_devices u))) is in (
      count_two,
      omega (arith, count_two, ap length all_ups, length-append two (map (λ (p : Device). Line.Resume p.name) (reverse ps)), length-map (reverse ps) (λ (p : Device). Line.Resume p.name), length-reverse ps),
    )
