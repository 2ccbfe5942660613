-- The state in which a board opens holds what each event keeps.
use Rattle.std.proofs.Common.{◌≡◌, ◌≢◌, ◌⊎◌, inl, inr, ◌+◌, ◌≤◌, ◌<◌, ◌∷◌, [], ℕ, zero, suc, List, Option, Some, None, Bool, true, false, not, IsTrue, is_some, cond, length, eqb, refl, sym, ap, subst, arith, eq-eqb, eqb-true, ne_eqb, codes, slice_index_or, filter, map, reverse, replicate, if◌then◌else◌, length-append, AllPairs, ◌++◌, bytes_eq, ◌||◌, ◌∙◌, Contains}
use Rattle.std.specs.List.{AllByRecursion, range_with_len, fold, list_any}
use Rattle.std.proofs.lemmas.Bool.{eqb-false}
use Rattle.std.proofs.lemmas.List.{length-map, length-replicate}
use Rattle.std.proofs.lemmas.List.Elements.{recursion_from_All, All-contains_itself}
use Rattle.std.proofs.lemmas.Grind.{reverse_onto}
use Rattle.rt_plain.specs.declared.board.TimerDef.{TimerDef}
use Rattle.rt_plain.specs.declared.board.ThreadDef.{ThreadDef}
use Rattle.rt_plain.specs.PlainBoard.{PlainBoard}
use Rattle.rt_plain.specs.kernel.State.{State, Thread, Alarm, OfTimer, ArmedRow, no_thread, thread_at, thread_numbers, is_number, is_initial, Timer}
use Rattle.rt_plain.specs.kernel.Effects.{with_alarm, is_alarm}
use Rattle.rt_plain.specs.kernel.Opening.{new_timer, new_thread, new_script_thread, own_threads, new_threads, unstarted_state, with_auto_timer, open_state}
use Rattle.rt_plain.specs.runs.Runs.{thread_count}
use Rattle.rt_plain.specs.kernel.Sound.{is_active, is_timed_action, IsProper}
use Rattle.rt_plain.specs.kernel.Tally.{one_if, tally}
use Rattle.rt_plain.proofs.kernel.TallyLemmas.{le_or_lt, all-append, all-weaker, past-end, tally-last, all-both}
use Rattle.rt_plain.specs.kernel.Kept.{Kept, stage_at, places, standings, IsWaited, IsFineThread, IsFineTimer, IsRowKept, IsRowBounded, is_owned, IsOwned}
use Rattle.rt_plain.proofs.kernel.Invariant.{alone-more, bounded-more}
use Rattle.rt_plain.proofs.kernel.TickLemmas.{still}
use Rattle.std.proofs.lemmas.Slice.Eq.{bytes_eq-Decides}
use Rattle.std.proofs.lemmas.List.Folds.{list_any-append}
use Rattle.rt_plain.proofs.TestLemmas.{or-second}

-- timers that start by themselves arm a row each
abbrev IsTimerRow : List Timer → ArmedRow Alarm → Type 0
IsTimerRow timers row = (1 ≤ row.due) × ((threads : List Thread) → IsWaited threads row.alarm) × IsOwned timers row

-- they have names of their own
abbrev NamesApart : List TimerDef → Type 0
NamesApart [] = Unit {0}
NamesApart (def ∷ defs) = AllByRecursion (λ (other : TimerDef). def.name ≢ other.name) defs × NamesApart defs

names-apart : (defs : List TimerDef) → AllPairs (λ (one other : TimerDef). one.name ≢ other.name) defs → NamesApart defs
names-apart [] pairs = tt
names-apart (def ∷ defs) pairs = (recursion_from_All (λ (other : TimerDef). def.name ≢ other.name) defs (λ k d lt. pairs 0 (suc k) d (omega arith) (omega (arith, lt))), names-apart defs (λ i j d lt in_list. pairs (suc i) (suc j) d (omega (arith, lt)) (omega (arith, in_list))))

-- no row is that of a timer of these
abbrev IsFresh : List (ArmedRow Alarm) → List TimerDef → Type 0
IsFresh armed defs = AllByRecursion (λ (def : TimerDef). tally (λ (r : ArmedRow Alarm). is_alarm (OfTimer def.name) r.alarm) armed ≡ 0) defs

abbrev IsSingle : List (ArmedRow Alarm) → Type 0
IsSingle armed = (alarm : Alarm) → standings alarm [] armed ≤ 1

record IsArmedFrom (timers : List Timer) (s new : State) : Type 0 where
  armed : List (ArmedRow Alarm)
  numbers : ℕ
  state : new ≡ record s { armed = armed; numbers = numbers }
  rows : AllByRecursion (IsTimerRow timers) armed
  bounded : AllByRecursion (IsRowBounded 0 numbers) armed
  single : IsSingle armed

fresh-more : (armed : List (ArmedRow Alarm)) (row : ArmedRow Alarm) (def : TimerDef) (defs : List TimerDef) → row.alarm ≡ OfTimer def.name → AllByRecursion (λ (other : TimerDef). def.name ≢ other.name) defs → IsFresh armed defs → IsFresh (armed ++ row ∷ []) defs
fresh-more armed row def [] is apart fresh = tt
fresh-more armed row def (other ∷ others) is apart fresh = (omega (arith, fresh.0, tally-last (λ (r : ArmedRow Alarm). is_alarm (OfTimer other.name) r.alarm) armed row, off), fresh-more armed row def others is apart.1 fresh.1) where
  by_test : (c : Bool) → bytes_eq other.name def.name ≡ c → one_if c ≡ 0
  by_test true same = absurd (apart.0 (sym ((bytes_eq-Decides other.name def.name).0 same)))
  by_test false same = refl

  off : one_if (is_alarm (OfTimer other.name) row.alarm) ≡ 0
  off = ap (λ (a : Alarm). one_if (is_alarm (OfTimer other.name) a)) is ∙ by_test (bytes_eq other.name def.name) refl

-- what an automatic start needs of a timer of the board
abbrev IsStartable : List Timer → TimerDef → Type 0
IsStartable timers def = (1 ≤ def.time) × (def.time ≤ 2147483647) × (is_owned timers (OfTimer def.name) ≡ true)

auto-armed : (timers : List Timer) (s : State) (defs : List TimerDef) → AllByRecursion (IsStartable timers) defs → NamesApart defs → IsFresh s.armed defs → IsSingle s.armed → AllByRecursion (IsTimerRow timers) s.armed → AllByRecursion (IsRowBounded 0 s.numbers) s.armed → IsArmedFrom timers s (fold with_auto_timer s defs)
auto-armed timers s [] timed apart fresh single rows bounded = record { armed = s.armed; numbers = s.numbers; state = refl; rows = rows; bounded = bounded; single = single }
auto-armed timers s (def ∷ defs) timed apart fresh single rows bounded = by_start def.started (λ u free one all numbered. auto-armed timers u defs timed.1 apart.1 free one all numbered) where
  row : ArmedRow Alarm
  row = record { due = def.time; number = s.numbers; alarm = OfTimer def.name }

  new : State
  new = with_alarm s (OfTimer def.name) (Some def.time)

  numbered : AllByRecursion (IsRowBounded 0 (s.numbers + 1)) (s.armed ++ row ∷ [])
  numbered = all-append (IsRowBounded 0 (s.numbers + 1)) s.armed (row ∷ []) (bounded-more 0 s.numbers s.armed bounded) ((omega (arith, timed.0.1), omega arith), tt)

  by_start : (started : Bool) → ((u : State) → IsFresh u.armed defs → IsSingle u.armed → AllByRecursion (IsTimerRow timers) u.armed → AllByRecursion (IsRowBounded 0 u.numbers) u.armed → IsArmedFrom timers u (fold with_auto_timer u defs)) → IsArmedFrom timers s (fold with_auto_timer (if started then new else s) defs)
  by_start false more = more s fresh.1 single rows bounded
  by_start true more =
      let from : IsArmedFrom timers new (fold with_auto_timer new defs) = more new (fresh-more s.armed row def defs refl apart.0 fresh.1) (alone-more [] s.armed row (omega (arith, fresh.0)) single) (all-append (IsTimerRow timers) s.armed (row ∷ []) rows ((timed.0.0, λ threads. tt, timed.0.2), tt)) numbered in
      record { armed = from.armed; numbers = from.numbers; state = from.state; rows = from.rows; bounded = from.bounded; single = from.single }

-- a number counts once in a range, where it passes
range-below : (p : ℕ → Bool) (a n t : ℕ) → t < a → tally (λ u. eqb u t) (filter p (range_with_len a n)) ≡ 0
range-below p a zero t below = refl
range-below p a (suc n) t below = by_test (p a) (range-below p (a + 1) n t (omega (arith, below))) where
  by_test : (c : Bool) → tally (λ u. eqb u t) (filter p (range_with_len (a + 1) n)) ≡ 0 → tally (λ u. eqb u t) (cond c (a ∷ filter p (range_with_len (a + 1) n)) (filter p (range_with_len (a + 1) n))) ≡ 0
  by_test true none = omega (arith, none, ap one_if (ne_eqb a t (λ e. absurd (omega (arith, e, below)))))
  by_test false none = none

range-past : (p : ℕ → Bool) (a n t : ℕ) → a + n ≤ t → tally (λ u. eqb u t) (filter p (range_with_len a n)) ≡ 0
range-past p a zero t past = refl
range-past p a (suc n) t past = by_test (p a) (range-past p (a + 1) n t (omega (arith, past))) where
  by_test : (c : Bool) → tally (λ u. eqb u t) (filter p (range_with_len (a + 1) n)) ≡ 0 → tally (λ u. eqb u t) (cond c (a ∷ filter p (range_with_len (a + 1) n)) (filter p (range_with_len (a + 1) n))) ≡ 0
  by_test true none = omega (arith, none, ap one_if (ne_eqb a t (λ e. absurd (omega (arith, e, past)))))
  by_test false none = none

range-at : (p : ℕ → Bool) (a n t : ℕ) → a ≤ t → t < a + n → tally (λ u. eqb u t) (filter p (range_with_len a n)) ≡ one_if (p t)
range-at p a zero t low high = absurd (omega (arith, low, high))
range-at p a (suc n) t low high = by_place (eqb a t) refl (λ later. range-at p (a + 1) n t later (omega (arith, high))) where
  more : List ℕ
  more = filter p (range_with_len (a + 1) n)

  here : (c : Bool) → p t ≡ c → tally (λ u. eqb u t) (filter p (range_with_len (t + 1) n)) ≡ 0 → tally (λ u. eqb u t) (cond c (t ∷ filter p (range_with_len (t + 1) n)) (filter p (range_with_len (t + 1) n))) ≡ one_if c
  here true is none = omega (arith, none, ap one_if (eq-eqb t t refl))
  here false is none = none

  there : (c : Bool) → a ≢ t → tally (λ u. eqb u t) more ≡ one_if (p t) → tally (λ u. eqb u t) (cond c (a ∷ more) more) ≡ one_if (p t)
  there true apart same = omega (arith, same, ap one_if (ne_eqb a t apart))
  there false apart same = same

  by_place : (c : Bool) → eqb a t ≡ c → (a + 1 ≤ t → tally (λ u. eqb u t) more ≡ one_if (p t)) → tally (λ u. eqb u t) (cond (p a) (a ∷ more) more) ≡ one_if (p t)
  by_place true is step = subst (λ x. tally (λ u. eqb u t) (cond (p x) (x ∷ filter p (range_with_len (x + 1) n)) (filter p (range_with_len (x + 1) n))) ≡ one_if (p t)) (sym (eqb-true a t is)) (here (p t) refl (range-below p (t + 1) n t (omega arith)))
  by_place false is step = let apart : a ≢ t = eqb-false a t is in there (p a) apart (step (omega (arith, apart, low)))

none-run : (t n : ℕ) → tally (is_number t) (replicate n None) ≡ 0
none-run t zero = refl
none-run t (suc n) = omega (arith, none-run t n)

-- a new thread is active or initial
abbrev IsNewThread : PlainBoard → Thread → Type 0
IsNewThread b row = (is_active row.stage ≡ not (is_initial row.stage)) × IsFineThread b 0 row

made-new : (b : PlainBoard) (name : List ℕ) (base slice : ℕ) (core : Option ℕ) (started : Bool) → IsNewThread b (new_thread name base slice core started)
made-new b name base slice core true = (refl, (refl, tt, λ is. omega arith))
made-new b name base slice core false = (refl, (refl, tt, λ is. omega arith))

scripts-new : (b : PlainBoard) (defs : List ThreadDef) → AllByRecursion (IsNewThread b) (map new_script_thread defs)
scripts-new b [] = tt
scripts-new b (def ∷ defs) = (made-new b def.name def.prio def.slice def.core def.started, scripts-new b defs)

own-new : (b : PlainBoard) (name : List ℕ) (prio : Option ℕ) → AllByRecursion (IsNewThread b) (own_threads name prio)
own-new b name None = tt
own-new b name (Some prio) = (made-new b name prio 10 None true, tt)

own-length : (name : List ℕ) (prio : Option ℕ) → length (own_threads name prio) ≡ (if is_some prio then 1 else 0)
own-length name None = refl
own-length name (Some prio) = refl

new-count : (b : PlainBoard) → length (new_threads b) ≡ thread_count b
new-count b = omega (
  arith,
  length-append (own_threads (codes "tshell") b.shell ++ own_threads (codes "tsoft") b.soft) (map new_script_thread b.threads),
  length-append (own_threads (codes "tshell") b.shell) (own_threads (codes "tsoft") b.soft),
  own-length (codes "tshell") b.shell,
  own-length (codes "tsoft") b.soft,
  length-map b.threads new_script_thread,
)

pub all-reverse : {A : Type 0} (P : A → Type 0) (xs : List A) → AllByRecursion P xs → AllByRecursion P (reverse xs)
all-reverse P [] all = tt
all-reverse P (x ∷ xs) all = subst (AllByRecursion P) (sym (reverse_onto xs x [])) (all-append P (reverse xs) (x ∷ []) (all-reverse P xs all.1) (all.0, tt))

-- what the laws of runs need of a timer of the board
abbrev IsProperTimer : TimerDef → Type 0
IsProperTimer def = (1 ≤ def.time) × (def.time ≤ 2147483647) × IsTrue (is_timed_action def.call)

timers-new : (b : PlainBoard) (defs : List TimerDef) → AllByRecursion IsProperTimer defs → AllByRecursion (Contains b.timers) defs → AllByRecursion (IsFineTimer b) (map new_timer defs)
timers-new b [] all known = tt
timers-new b (def ∷ defs) all known = ((all.0.0, all.0.1, all.0.2, (def, known.0, refl, refl, refl)), timers-new b defs all.1 known.1)

none-due : (timers : List Timer) (armed : List (ArmedRow Alarm)) → AllByRecursion (IsTimerRow timers) armed → tally (λ (row : ArmedRow Alarm). eqb row.due 0) armed ≡ 0
none-due timers [] all = refl
none-due timers (row ∷ rows) all = omega (arith, none-due timers rows all.1, ap one_if (ne_eqb row.due 0 (λ e. absurd (omega (arith, e, all.0.0)))))

pub all-in : {A : Type 0} (P : A → Type 0) (xs : List A) (i : ℕ) (d : A) → i < length xs → AllByRecursion P xs → P (slice_index_or xs i d)
all-in P [] i d lt all = absurd (omega (arith, lt))
all-in P (x ∷ xs) zero d lt all = all.0
all-in P (x ∷ xs) (suc i) d lt all = all-in P xs i d (omega (arith, lt)) all.1

none-fresh : (defs : List TimerDef) → IsFresh [] defs
none-fresh [] = tt
none-fresh (def ∷ defs) = (refl, none-fresh defs)

any-reverse : {A : Type 0} (p : A → Bool) (xs : List A) → list_any p xs ≡ true → list_any p (reverse xs) ≡ true
any-reverse p [] is = is
any-reverse p (x ∷ xs) is = ap (list_any p) (reverse_onto xs x []) ∙ list_any-append p (reverse xs) (x ∷ []) ∙ by_test (p x) is (any-reverse p xs) where
  by_test : (c : Bool) → c || list_any p xs ≡ true → (list_any p xs ≡ true → list_any p (reverse xs) ≡ true) → list_any p (reverse xs) || (c || false) ≡ true
  by_test true found more = end (list_any p (reverse xs)) where
    end : (d : Bool) → d || true ≡ true
    end true = refl
    end false = refl
  by_test false found more = rw (more found) refl

defs-named : (defs : List TimerDef) → AllByRecursion (λ (def : TimerDef). list_any (λ (timer : Timer). bytes_eq timer.name def.name) (map new_timer defs) ≡ true) defs
defs-named [] = tt
defs-named (def ∷ defs) = (rw ((bytes_eq-Decides def.name def.name).1 refl) refl, all-weaker (λ (other : TimerDef). list_any (λ (timer : Timer). bytes_eq timer.name other.name) (map new_timer defs) ≡ true) (λ (other : TimerDef). list_any (λ (timer : Timer). bytes_eq timer.name other.name) (map new_timer (def ∷ defs)) ≡ true) defs (λ other is. or-second (bytes_eq def.name other.name) _ is) (defs-named defs))

defs-owned : (defs : List TimerDef) → AllByRecursion (λ (def : TimerDef). is_owned (reverse (map new_timer defs)) (OfTimer def.name) ≡ true) defs
defs-owned defs = all-weaker (λ (def : TimerDef). list_any (λ (timer : Timer). bytes_eq timer.name def.name) (map new_timer defs) ≡ true) (λ (def : TimerDef). is_owned (reverse (map new_timer defs)) (OfTimer def.name) ≡ true) defs (λ def is. any-reverse (λ (timer : Timer). bytes_eq timer.name def.name) (map new_timer defs) is) (defs-named defs)

-- what the opening holds
pub opened-kept : (b : PlainBoard) → IsProper b → Kept (still b 0) (open_state b)
unfolding open_state
opened-kept b proper = subst (λ (s : State). Kept (still b 0) (record s { ready = filter (λ t. not (is_initial (thread_at s t).stage)) (thread_numbers s) })) (sym from.state) kept where
  timers : AllByRecursion IsProperTimer b.timers
  timers = recursion_from_All IsProperTimer b.timers proper.timers

  all_timers : List Timer
  all_timers = (unstarted_state b).timers

  startable : AllByRecursion (IsStartable all_timers) b.timers
  startable = all-both IsProperTimer (λ (def : TimerDef). is_owned all_timers (OfTimer def.name) ≡ true) (IsStartable all_timers) b.timers (λ def is owner. (is.0, is.1, owner)) timers (defs-owned b.timers)

  from : IsArmedFrom all_timers (unstarted_state b) (fold with_auto_timer (unstarted_state b) b.timers)
  from = auto-armed all_timers (unstarted_state b) b.timers startable (names-apart b.timers proper.names) (none-fresh b.timers) (λ alarm. omega arith) tt tt

  threads : List Thread
  threads = new_threads b

  news : AllByRecursion (IsNewThread b) threads
  news = all-append (IsNewThread b) (own_threads (codes "tshell") b.shell ++ own_threads (codes "tsoft") b.soft) (map new_script_thread b.threads)
      (all-append (IsNewThread b) (own_threads (codes "tshell") b.shell) (own_threads (codes "tsoft") b.soft) (own-new b (codes "tshell") b.shell) (own-new b (codes "tsoft") b.soft)) (scripts-new b b.threads)

  starts : ℕ → Bool
  starts t = not (is_initial (stage_at threads t))

  placed : (t : ℕ) → places (filter starts (range_with_len 0 (length threads))) (replicate b.cores None) t ≡ one_if (is_active (stage_at threads t))
  placed t = by_place (le_or_lt (length threads) t) where
    by_place : (length threads ≤ t) ⊎ (t < length threads) → places (filter starts (range_with_len 0 (length threads))) (replicate b.cores None) t ≡ one_if (is_active (stage_at threads t))
    by_place (inl past) = omega (arith, range-past starts 0 (length threads) t (omega (arith, past)), none-run t b.cores, ap (λ (row : Thread). one_if (is_active row.stage)) (past-end threads t no_thread past))
    by_place (inr there) = omega (arith, range-at starts 0 (length threads) t (omega arith) (omega (arith, there)), none-run t b.cores, ap one_if is-new) where
      is-new : is_active (stage_at threads t) ≡ starts t
      is-new = (all-in (IsNewThread b) threads t no_thread there news).0

  kept : Kept (still b 0) (record (unstarted_state b) { armed = from.armed; numbers = from.numbers; ready = filter starts (range_with_len 0 (length threads)) })
  kept = record {
    moment_is = refl;
    live = λ some on. omega arith;
    ends = λ halt is. absurd cc;
    count = new-count b;
    cores = length-replicate b.cores None;
    placed = placed;
    rows = all-weaker (IsTimerRow all_timers) (IsRowKept 1 threads) from.armed (λ row is. (is.0, is.1 threads)) from.rows;
    bounded = from.bounded;
    due_few = omega (arith, none-due all_timers from.armed from.rows);
    single = from.single;
    owned = all-weaker (IsTimerRow all_timers) (IsOwned all_timers) from.armed (λ row is. is.2) from.rows;
    works_known = tt;
    fine = all-weaker (IsNewThread b) (IsFineThread b 0) threads (λ row is. is.1) news;
    nest_runs = λ n is. absurd cc;
    timers_fine = all-reverse (IsFineTimer b) (map new_timer b.timers) (timers-new b b.timers timers (recursion_from_All (Contains b.timers) b.timers (All-contains_itself b.timers)));
  }
