-- Who waits on an object, and that waking and ending threads keeps what holds.
use Rattle.std.proofs.Common.{◌≡◌, ◌≢◌, ◌+◌, ◌≤◌, ◌∷◌, [], ℕ, zero, suc, List, Option, Some, None, Bool, true, false, is_some, cond, option_map, length, refl, sym, ap, ◌∙◌, subst, arith, slice_set, map, if◌then◌else◌, filter_map}
use Rattle.std.specs.List.{AllByRecursion, range_with_len, find, cons_option}
use Rattle.rt_base.specs.declared.codes.Code.{Code}
use Rattle.rt_base.specs.declared.codes.WaitOrder.{WaitOrder}
use Rattle.rt_plain.specs.declared.stmt.Call.{Call}
use Rattle.rt_plain.specs.kernel.State.{State, Stage, Waiting, Thread, Alarm, OfThread, ArmedRow, no_thread, thread_at, thread_numbers, with_thread}
use Rattle.rt_plain.specs.kernel.Effects.{Effect, each_effect, wake_effect, retry_of, retry_wake_effect, effect_for, due_of, is_alarm}
use Rattle.rt_plain.specs.kernel.Waiting.{Waiter, stands_before, put_in_order, in_order, head_of, number_in, waiter_of, wait_rows, waiters, first_waiter, takes_mutex}
use Rattle.rt_plain.specs.kernel.Owners.{with_owner, pass_effect, give_back_effect, mutexes_of, close_effect}
use Rattle.rt_plain.specs.kernel.DeviceCalls.{waits_at_console, console_waiter}
use Rattle.rt_plain.specs.kernel.Works.{waits_for_work, work_waiter}
use Rattle.rt_plain.specs.kernel.Sound.{is_waiting}
use Rattle.rt_plain.proofs.kernel.TallyLemmas.{all-weaker, all-map, all-found, same-set, other-set}
use Rattle.rt_plain.specs.kernel.Kept.{Frame, Kept, stage_at, is_fine_stage, IsNear, IsFineRetry, IsRowBounded}
use Rattle.rt_plain.proofs.kernel.Invariant.{fine-at, thread-kept, waiting-open, waiting-inactive, active-kept, withdrawn-kept}
use Rattle.rt_plain.proofs.TestLemmas.{some-is}

-- a thread that waits wakes with a code
pub wake-kept : (f : Frame) (s : State) (code : Code) (t : ℕ) → is_waiting (thread_at s t).stage ≡ true → Kept f s → Kept f (wake_effect code t s).state
wake-kept f s code t waits kept = active-kept f coded t (waiting-inactive (thread_at coded t).stage still) (waiting-open (thread_at coded t).stage still) (thread-kept f s t (record (thread_at s t) { code = code }) refl (fine-at f s t kept) kept) where
  coded : State
  coded = with_thread s t (record (thread_at s t) { code = code })

  still : is_waiting (thread_at coded t).stage ≡ true
  still = ap is_waiting (same-set (λ (r : Thread). r.stage) s.threads t t (record (thread_at s t) { code = code }) no_thread refl) ∙ waits

-- an armed row is no further ahead than it may be
due-near : (f : Frame) (s : State) (alarm : Alarm) → Kept f s → IsNear f.now (due_of s alarm)
due-near f s alarm kept = by_found (find (λ (r : ArmedRow Alarm). is_alarm alarm r.alarm) s.armed) refl where
  by_found : (o : Option (ArmedRow Alarm)) → find (λ (r : ArmedRow Alarm). is_alarm alarm r.alarm) s.armed ≡ o → IsNear f.now (option_map (λ (r : ArmedRow Alarm). r.due) o)
  by_found None is d some = absurd cc
  by_found (Some row) is d some = subst (λ n. n ≤ f.now + 2147483647) (some-is row.due d some) (all-found (IsRowBounded f.now s.numbers) (λ (r : ArmedRow Alarm). is_alarm alarm r.alarm) s.armed row is kept.bounded).0

retry-fine : (now : ℕ) (stage : Stage) (due : Option ℕ) → is_fine_stage stage ≡ true → IsNear now due → IsFineRetry now (retry_of stage due)
retry-fine now (Waiting what number) due fine near = (fine, near)
retry-fine now _ due fine near = tt

-- a thread that waits wakes to make its call again
pub retry_wake-kept : (f : Frame) (s : State) (t : ℕ) → is_waiting (thread_at s t).stage ≡ true → Kept f s → Kept f (retry_wake_effect t s).state
retry_wake-kept f s t waits kept = active-kept f told t (waiting-inactive (thread_at told t).stage still) (waiting-open (thread_at told t).stage still) (thread-kept f s t row refl ((fine-at f s t kept).0, retry-fine f.now (thread_at s t).stage (due_of s (OfThread t)) (fine-at f s t kept).0 (due-near f s (OfThread t) kept), (fine-at f s t kept).2) kept) where
  row : Thread
  row = record (thread_at s t) { retry = retry_of (thread_at s t).stage (due_of s (OfThread t)) }

  told : State
  told = with_thread s t row

  still : is_waiting (thread_at told t).stage ≡ true
  still = ap is_waiting (same-set (λ (r : Thread). r.stage) s.threads t t row no_thread refl) ∙ waits

-- the others stay where they are
pub wake-others : (s : State) (code : Code) (t u : ℕ) → u ≢ t → stage_at (wake_effect code t s).state.threads u ≡ stage_at s.threads u
wake-others s code t u apart = ap (λ (r : Thread). r.stage) (other-set (slice_set s.threads t (record (thread_at s t) { code = code })) t u _ no_thread apart ∙ other-set s.threads t u (record (thread_at s t) { code = code }) no_thread apart)

-- a thread that waits in a call of a wait list
abbrev pub IsListed : (Call → Bool) → List Thread → ℕ → Type 0
IsListed in_list threads t = is_some (number_in in_list (stage_at threads t)) ≡ true

listed-waits : (in_list : Call → Bool) (stage : Stage) → is_some (number_in in_list stage) ≡ true → is_waiting stage ≡ true
listed-waits in_list (Waiting what number) is = refl
listed-waits in_list _ is = absurd cc

-- no two have the same key
abbrev pub AllApart : {A : Type 0} → (A → ℕ) → List A → Type 0
AllApart key [] = Unit {0}
AllApart key (x ∷ xs) = AllByRecursion (λ y. key y ≢ key x) xs × AllApart key xs

rows-listed : (s : State) (in_list : Call → Bool) (ts : List ℕ) → AllByRecursion (λ (w : Waiter). IsListed in_list s.threads w.thread) (filter_map (λ t. waiter_of s t (number_in in_list (thread_at s t).stage)) ts)
rows-listed s in_list [] = tt
rows-listed s in_list (t ∷ ts) = by_number (number_in in_list (thread_at s t).stage) refl (rows-listed s in_list ts) where
  more : List Waiter
  more = filter_map (λ t. waiter_of s t (number_in in_list (thread_at s t).stage)) ts

  by_number : (o : Option ℕ) → number_in in_list (thread_at s t).stage ≡ o → AllByRecursion (λ (w : Waiter). IsListed in_list s.threads w.thread) more → AllByRecursion (λ (w : Waiter). IsListed in_list s.threads w.thread) (cons_option (waiter_of s t o) more)
  by_number None is all = all
  by_number (Some number) is all = (ap is_some is, all)

rows-from : (s : State) (in_list : Call → Bool) (a n : ℕ) → AllByRecursion (λ (w : Waiter). a ≤ w.thread) (filter_map (λ t. waiter_of s t (number_in in_list (thread_at s t).stage)) (range_with_len a n))
rows-from s in_list a zero = tt
rows-from s in_list a (suc n) = by_number (number_in in_list (thread_at s a).stage) (all-weaker (λ (w : Waiter). a + 1 ≤ w.thread) (λ (w : Waiter). a ≤ w.thread) _ (λ w le. omega (arith, le)) (rows-from s in_list (a + 1) n)) where
  more : List Waiter
  more = filter_map (λ t. waiter_of s t (number_in in_list (thread_at s t).stage)) (range_with_len (a + 1) n)

  by_number : (o : Option ℕ) → AllByRecursion (λ (w : Waiter). a ≤ w.thread) more → AllByRecursion (λ (w : Waiter). a ≤ w.thread) (cons_option (waiter_of s a o) more)
  by_number None all = all
  by_number (Some number) all = (omega arith, all)

rows-apart : (s : State) (in_list : Call → Bool) (a n : ℕ) → AllApart (λ (w : Waiter). w.thread) (filter_map (λ t. waiter_of s t (number_in in_list (thread_at s t).stage)) (range_with_len a n))
rows-apart s in_list a zero = tt
rows-apart s in_list a (suc n) = by_number (number_in in_list (thread_at s a).stage) (all-weaker (λ (w : Waiter). a + 1 ≤ w.thread) (λ (w : Waiter). w.thread ≢ a) _ (λ w le. omega (arith, le)) (rows-from s in_list (a + 1) n)) (rows-apart s in_list (a + 1) n) where
  more : List Waiter
  more = filter_map (λ t. waiter_of s t (number_in in_list (thread_at s t).stage)) (range_with_len (a + 1) n)

  by_number : (o : Option ℕ) → AllByRecursion (λ (w : Waiter). w.thread ≢ a) more → AllApart (λ (w : Waiter). w.thread) more → AllApart (λ (w : Waiter). w.thread) (cons_option (waiter_of s a o) more)
  by_number None off all = all
  by_number (Some number) off all = (off, all)

-- putting in order keeps what holds of each waiter
put-all : (P : Waiter → Type 0) (order : WaitOrder) (a : Waiter) (ws : List Waiter) → P a → AllByRecursion P ws → AllByRecursion P (put_in_order order a ws)
put-all P order a [] here all = (here, tt)
put-all P order a (w ∷ ws) here all = by_test (stands_before order a w) (put-all P order a ws here all.1) where
  by_test : (c : Bool) → AllByRecursion P (put_in_order order a ws) → AllByRecursion P (if c then a ∷ w ∷ ws else w ∷ put_in_order order a ws)
  by_test true more = (here, all)
  by_test false more = (all.0, more)

order-all : (P : Waiter → Type 0) (order : WaitOrder) (ws : List Waiter) → AllByRecursion P ws → AllByRecursion P (in_order order ws)
order-all P order [] all = tt
order-all P order (w ∷ ws) all = put-all P order w (in_order order ws) all.0 (order-all P order ws all.1)

put-apart : (order : WaitOrder) (a : Waiter) (ws : List Waiter) → AllByRecursion (λ (w : Waiter). w.thread ≢ a.thread) ws → AllApart (λ (w : Waiter). w.thread) ws → AllApart (λ (w : Waiter). w.thread) (put_in_order order a ws)
put-apart order a [] off all = (tt, tt)
put-apart order a (w ∷ ws) off all = by_test (stands_before order a w) (put-apart order a ws off.1 all.1) where
  by_test : (c : Bool) → AllApart (λ (w : Waiter). w.thread) (put_in_order order a ws) → AllApart (λ (w : Waiter). w.thread) (if c then a ∷ w ∷ ws else w ∷ put_in_order order a ws)
  by_test true more = (off, all)
  by_test false more = (put-all (λ (v : Waiter). v.thread ≢ w.thread) order a ws (λ e. off.0 (sym e)) all.0, more)

order-apart : (order : WaitOrder) (ws : List Waiter) → AllApart (λ (w : Waiter). w.thread) ws → AllApart (λ (w : Waiter). w.thread) (in_order order ws)
order-apart order [] all = tt
order-apart order (w ∷ ws) all = put-apart order w (in_order order ws) (order-all (λ (v : Waiter). v.thread ≢ w.thread) order ws all.0) (order-apart order ws all.1)

pub apart-map : {A B : Type 0} (key : B → ℕ) (g : A → B) (xs : List A) → AllApart (λ x. key (g x)) xs → AllApart key (map g xs)
apart-map key g [] all = tt
apart-map key g (x ∷ xs) all = (all-map (λ y. key y ≢ key (g x)) g xs all.0, apart-map key g xs all.1)

-- all who wait in a list are listed, each once
pub waiters-listed : (s : State) (order : WaitOrder) (in_list : Call → Bool) → AllByRecursion (IsListed in_list s.threads) (waiters s order in_list)
waiters-listed s order in_list = all-map (IsListed in_list s.threads) (λ (w : Waiter). w.thread) (in_order order (wait_rows s in_list)) (order-all (λ (w : Waiter). IsListed in_list s.threads w.thread) order (wait_rows s in_list) (rows-listed s in_list (thread_numbers s)))

pub waiters-apart : (s : State) (order : WaitOrder) (in_list : Call → Bool) → AllApart (λ t. t) (waiters s order in_list)
waiters-apart s order in_list = apart-map (λ t. t) (λ (w : Waiter). w.thread) (in_order order (wait_rows s in_list)) (order-apart order (wait_rows s in_list) (rows-apart s in_list 0 (length s.threads)))

pub waiters-wait : (s : State) (order : WaitOrder) (in_list : Call → Bool) → AllByRecursion (λ t. is_waiting (stage_at s.threads t) ≡ true) (waiters s order in_list)
waiters-wait s order in_list = all-weaker (IsListed in_list s.threads) (λ t. is_waiting (stage_at s.threads t) ≡ true) (waiters s order in_list) (λ t listed. listed-waits in_list (stage_at s.threads t) listed) (waiters-listed s order in_list)

head-all : (P : ℕ → Type 0) (ts : List ℕ) (t : ℕ) → head_of ts ≡ Some t → AllByRecursion P ts → P t
head-all P [] t is all = absurd cc
head-all P (u ∷ us) t is all = subst P (some-is u t is) all.0

-- the first waiter waits
pub first-waits : (s : State) (order : WaitOrder) (in_list : Call → Bool) (t : ℕ) → first_waiter s order in_list ≡ Some t → is_waiting (thread_at s t).stage ≡ true
first-waits s order in_list t is = head-all (λ u. is_waiting (stage_at s.threads u) ≡ true) (waiters s order in_list) t is (waiters-wait s order in_list)

console-waits : (stage : Stage) → waits_at_console stage ≡ true → is_waiting stage ≡ true
console-waits (Waiting what number) is = refl
console-waits _ is = absurd cc

pub found-passes : {X : Type 0} (q : X → Bool) (xs : List X) (x : X) → find q xs ≡ Some x → q x ≡ true
found-passes q [] x is = absurd cc
found-passes q (y ∷ ys) x is = by_test (q y) refl is (found-passes q ys x) where
  by_test : (c : Bool) → q y ≡ c → cond c (Some y) (find q ys) ≡ Some x → (find q ys ≡ Some x → q x ≡ true) → q x ≡ true
  by_test true passes is more = subst (λ z. q z ≡ true) (some-is y x is) passes
  by_test false passes is more = more is

pub console-waiter-waits : (s : State) (t : ℕ) → console_waiter s ≡ Some t → is_waiting (thread_at s t).stage ≡ true
console-waiter-waits s t is = console-waits (thread_at s t).stage (found-passes (λ u. waits_at_console (thread_at s u).stage) (thread_numbers s) t is)

work-waits : (stage : Stage) → waits_for_work stage ≡ true → is_waiting stage ≡ true
work-waits (Waiting what number) is = refl
work-waits _ is = absurd cc

pub work-waiter-waits : (s : State) (t : ℕ) → work_waiter s ≡ Some t → is_waiting (thread_at s t).stage ≡ true
work-waiter-waits s t is = work-waits (thread_at s t).stage (found-passes (λ u. waits_for_work (thread_at s u).stage) (thread_numbers s) t is)

-- what is done with each of those who wait
pub each-wakes : (f : Frame) {A : Type 0} (key : A → ℕ) (act : A → State → Effect)
    → ((x : A) (s : State) → is_waiting (stage_at s.threads (key x)) ≡ true → Kept f s → Kept f (act x s).state)
    → ((x : A) (s : State) (u : ℕ) → u ≢ key x → stage_at (act x s).state.threads u ≡ stage_at s.threads u)
    → (xs : List A) (s : State) → AllByRecursion (λ x. is_waiting (stage_at s.threads (key x)) ≡ true) xs → AllApart key xs → Kept f s → Kept f (each_effect act xs s).state
each-wakes f key act keeps others [] s waits apart kept = kept
each-wakes f {A} key act keeps others (x ∷ xs) s waits apart kept = each-wakes f key act keeps others xs (act x s).state (still xs waits.1 apart.0) apart.1 (keeps x s waits.0 kept) where
  still : (ys : List A) → AllByRecursion (λ y. is_waiting (stage_at s.threads (key y)) ≡ true) ys → AllByRecursion (λ y. key y ≢ key x) ys → AllByRecursion (λ y. is_waiting (stage_at (act x s).state.threads (key y)) ≡ true) ys
  still [] all off = tt
  still (y ∷ ys) all off = (ap is_waiting (others x s (key y) off.0) ∙ all.0, still ys all.1 off.1)

-- what is done with each of some things
pub each-kept : (f : Frame) {A : Type 0} (act : A → State → Effect) → ((x : A) (s : State) → Kept f s → Kept f (act x s).state) → (xs : List A) (s : State) → Kept f s → Kept f (each_effect act xs s).state
each-kept f act keeps [] s kept = kept
each-kept f act keeps (x ∷ xs) s kept = each-kept f act keeps xs (act x s).state (keeps x s kept)

-- what is done with the first waiter of a list
pub for-kept : (f : Frame) (act : ℕ → State → Effect) (o : Option ℕ) (s : State) → ((t : ℕ) → o ≡ Some t → Kept f (act t s).state) → Kept f s → Kept f (effect_for act o s).state
for-kept f act None s keeps kept = kept
for-kept f act (Some t) s keeps kept = keeps t refl

pub pass-kept : (f : Frame) (s : State) (mutex : List ℕ) (o : Option ℕ) → ((t : ℕ) → o ≡ Some t → is_waiting (thread_at s t).stage ≡ true) → Kept f s → Kept f (pass_effect mutex o s).state
pass-kept f s mutex None waits kept = kept
pass-kept f s mutex (Some t) waits kept = wake-kept f (with_owner s mutex t) Code.Ok t (waits t refl) kept

-- a mutex is given back
pub give_back-kept : (f : Frame) (s : State) (mutex : List ℕ) → Kept f s → Kept f (give_back_effect mutex s).state
give_back-kept f s mutex kept = pass-kept f s mutex (first_waiter s WaitOrder.Prio (takes_mutex mutex)) (first-waits s WaitOrder.Prio (takes_mutex mutex)) kept

-- a thread ends
pub close-kept : (f : Frame) (s : State) (t : ℕ) → Kept f s → Kept f (close_effect t s).state
close-kept f s t kept = each-kept f give_back_effect (λ mutex u k. give_back-kept f u mutex k) (mutexes_of s t) _ (withdrawn-kept f s t kept)
