-- How many rows may be due, and what the timers of a kernel do.
use Rattle.std.proofs.Common.{◌≡◌, ℕ, zero, suc, ◌+◌, ◌<◌, ◌≤◌, ◌&&◌, ◌||◌, ◌++◌, ◌∷◌, [], List, Bool, true, false, not, IsTrue, length, length-append, map, eqb, get_or, slice_index_or, refl, sym, ap, ◌∙◌, subst, arith}
use Rattle.std.specs.List.{AllByRecursion, Contains, list_all, list_any, range_with_len}
use Rattle.std.specs.Str.{bytes_eq}
use Rattle.std.proofs.lemmas.List.{length-map}
use Rattle.std.proofs.lemmas.List.Elements.{All-contains, All-from_recursion}
use Rattle.std.proofs.lemmas.List.Folds.{list_any-append, list_any_at}
use Rattle.std.proofs.lemmas.List.FromFn.{length-range_with_len}
use Rattle.std.proofs.lemmas.Slice.Eq.{bytes_eq-Decides}
use Rattle.rt_plain.specs.declared.board.TimerDef.{TimerDef}
use Rattle.rt_plain.specs.PlainBoard.{PlainBoard}
use Rattle.rt_plain.specs.kernel.Due.{due}
use Rattle.rt_plain.specs.kernel.Effects.{is_alarm}
use Rattle.rt_plain.specs.kernel.Kept.{Frame, Kept, is_owned, stage_at, IsFineTimer, IsOwned, IsRowKept, IsWaited}
use Rattle.rt_plain.specs.kernel.State.{State, Timer, Alarm, OfThread, OfTimer, ArmedRow}
use Rattle.rt_plain.specs.kernel.TimerKinds.{is_soft, is_timer_action}
use Rattle.rt_plain.proofs.TestLemmas.{or-first, or-second}
use Rattle.rt_plain.proofs.kernel.Invariant.{waiting-open, is-there}
use Rattle.rt_plain.proofs.kernel.TallyLemmas.{all-both, tally-length}
use Rattle.rt_plain.proofs.kernel.TickCosts.{all-owned}
use Rattle.rt_plain.proofs.runs.FuelLemmas.{range-among}
use Rattle.kernel_timers.specs.Alarmed.{timer_at}
use Rattle.rt_kernel.specs.Actions.{MayAct}
use Rattle.rt_kernel.specs.Built.{IsBuilt, is_built_timer, is_built_action}
use Rattle.rt_kernel.specs.IsKernel.{frame_of}
use Rattle.rt_kernel.proofs.KeptLemmas.{due-tally}
use Rattle.rt_plain.specs.runs.Runs.{thread_count}

-- whose rows there may be: the threads', and those of the board's timers
abbrev owners : PlainBoard → State → List Alarm
owners b s = map (λ t. OfThread t) (range_with_len 0 (length s.threads)) ++ map (λ (def : TimerDef). OfTimer def.name) b.timers

any-map : {X Y : Type 0} (p : Y → Bool) (g : X → Y) (xs : List X) → list_any p (map g xs) ≡ list_any (λ x. p (g x)) xs
any-map p g [] = refl
any-map p g (x ∷ xs) = ap (λ c. p (g x) || c) (any-map p g xs)

-- a timer of the board is one of a name
def-named : (defs : List TimerDef) (def : TimerDef) (name : List ℕ) → Contains defs def → def.name ≡ name → list_any (λ (d : TimerDef). bytes_eq d.name name) defs ≡ true
def-named defs def name has same = list_any_at (λ (d : TimerDef). bytes_eq d.name name) defs has.0 def has.1 ((bytes_eq-Decides (get_or defs has.0 def).name name).1 (ap (λ (d : TimerDef). d.name) has.2 ∙ same))

-- each timer is one of the board
board-owned : (b : PlainBoard) (name : List ℕ) (timers : List Timer) → AllByRecursion (IsFineTimer b) timers → list_any (λ (timer : Timer). bytes_eq timer.name name) timers ≡ true → list_any (λ (def : TimerDef). bytes_eq def.name name) b.timers ≡ true
board-owned b name [] all some = cc
board-owned b name (timer ∷ timers) all some = by_test (bytes_eq timer.name name) refl some (board-owned b name timers all.1) where
  by_test : (c : Bool) → bytes_eq timer.name name ≡ c → c || list_any (λ (other : Timer). bytes_eq other.name name) timers ≡ true → (list_any (λ (other : Timer). bytes_eq other.name name) timers ≡ true → list_any (λ (def : TimerDef). bytes_eq def.name name) b.timers ≡ true) → list_any (λ (def : TimerDef). bytes_eq def.name name) b.timers ≡ true
  by_test true is some rest = def-named b.timers all.0.3.0 name all.0.3.1 (sym all.0.3.2 ∙ (bytes_eq-Decides timer.name name).0 is)
  by_test false is some rest = rest some

row-owner : (b : PlainBoard) (s : State) (alarm : Alarm) → AllByRecursion (IsFineTimer b) s.timers → IsWaited s.threads alarm → is_owned s.timers alarm ≡ true → list_any (λ a. is_alarm a alarm) (owners b s) ≡ true
row-owner b s (OfThread t) fine waiting owned =
    list_any-append (λ a. is_alarm a (OfThread t)) (map (λ u. OfThread u) (range_with_len 0 (length s.threads))) (map (λ (def : TimerDef). OfTimer def.name) b.timers)
    ∙ or-first _ _ (any-map (λ a. is_alarm a (OfThread t)) (λ u. OfThread u) (range_with_len 0 (length s.threads)) ∙ range-among 0 (length s.threads) t (omega arith) (omega (arith, is-there s.threads t (waiting-open (stage_at s.threads t) waiting))))
row-owner b s (OfTimer name) fine waiting owned =
    list_any-append (λ a. is_alarm a (OfTimer name)) (map (λ u. OfThread u) (range_with_len 0 (length s.threads))) (map (λ (def : TimerDef). OfTimer def.name) b.timers)
    ∙ or-second _ _ (any-map (λ a. is_alarm a (OfTimer name)) (λ (def : TimerDef). OfTimer def.name) b.timers ∙ board-owned b name s.timers fine owned)

armed-few : (f : Frame) (s : State) → Kept f s → length s.armed ≤ length s.threads + length f.board.timers
armed-few f s kept = omega (
  arith,
  all-owned (λ a (row : ArmedRow Alarm). is_alarm a row.alarm) (owners f.board s) s.armed (all-both (IsRowKept f.low s.threads) (IsOwned s.timers) (λ (row : ArmedRow Alarm). list_any (λ a. is_alarm a row.alarm) (owners f.board s) ≡ true) s.armed (λ row held owned. row-owner f.board s row.alarm kept.timers_fine held.1 owned) kept.rows kept.owned) (λ a. omega (arith, kept.single a)),
  length-append (map (λ t. OfThread t) (range_with_len 0 (length s.threads))) (map (λ (def : TimerDef). OfTimer def.name) f.board.timers),
  length-map (range_with_len 0 (length s.threads)) (λ t. OfThread t),
  length-map f.board.timers (λ (def : TimerDef). OfTimer def.name),
  length-range_with_len 0 (length s.threads),
)

-- no more rows are due than there are threads and timers of the board
pub due-few : (f : Frame) (s : State) → Kept f s → length (due s) ≤ length s.threads + length f.board.timers
due-few f s kept = omega (arith, due-tally s.moment s.armed, tally-length (λ (row : ArmedRow Alarm). eqb row.due s.moment) s.armed, armed-few f s kept)

-- there are as many threads as the board has
pub threads-few : (b : PlainBoard) (s : State) → IsBuilt b → Kept (frame_of b s) s → length s.threads ≡ length b.threads
threads-few b s built kept = let none : thread_count b ≡ length b.threads = rw (built.shell, built.soft) (omega arith) in omega (arith, kept.count, none)

timer-each : {X : Type 0} (P : X → Type 0) (xs : List X) (o : ℕ) (d : X) → AllByRecursion P xs → o < length xs → P (slice_index_or xs o d)
timer-each P [] o d all there = absurd (omega (arith, there))
timer-each P (x ∷ xs) zero d all there = all.0
timer-each P (x ∷ xs) (suc o) d all there = timer-each P xs o d all.1 (omega (arith, there))

both : (a b : Bool) → a && b ≡ true → (a ≡ true) × (b ≡ true)
both true true is = (refl, refl)
both true false is = absurd cc
both false b is = absurd cc

list_all-All : (p : TimerDef → Bool) (xs : List TimerDef) → list_all p xs ≡ true → AllByRecursion (λ (x : TimerDef). p x ≡ true) xs
list_all-All p [] all = tt
list_all-All p (x ∷ xs) all = let parts = both (p x) (list_all p xs) all in (parts.0, list_all-All p xs parts.1)

not-true : (c : Bool) → not c ≡ true → c ≡ false
not-true true is = absurd cc
not-true false is = refl

-- each timer of a built board does what it may
pub may_act : (b : PlainBoard) (f : Frame) (s : State) (o : ℕ) → IsBuilt b → f.board ≡ b → Kept f s → o < length s.timers → MayAct (timer_at s.timers o)
may_act b f s o built board kept there =
    let timer : Timer = timer_at s.timers o in
    let fine : IsFineTimer b timer = subst (λ (x : PlainBoard). IsFineTimer x timer) board (timer-each (IsFineTimer f.board) s.timers o _ kept.timers_fine there) in
    let def : TimerDef = fine.3.0 in
    let is = both _ _ (All-contains (λ (d : TimerDef). is_built_timer d ≡ true) b.timers def (All-from_recursion (λ (d : TimerDef). is_built_timer d ≡ true) b.timers (list_all-All is_built_timer b.timers built.timers)) fine.3.1) in
    let allowed : is_timer_action def.call ≡ true = All-contains (λ (d : TimerDef). IsTrue (is_timer_action d.call)) b.timers def built.actions fine.3.1 in
    record {
      hard = ap is_soft fine.3.3 ∙ not-true (is_soft def.kind) is.0;
      allowed = ap is_timer_action fine.3.4 ∙ allowed;
      built = ap is_built_action fine.3.4 ∙ is.1;
      timed = fine.2;
    }
