-- A valid board can be run: what the laws of runs ask of a board, each valid one has.
use Rattle.std.proofs.Common.{◌≡◌, ◌≢◌, ℕ, suc, ◌+◌, ◌-◌, ◌*◌, ◌^◌, ◌<◌, ◌≤◌, ◌&&◌, ◌||◌, Bool, true, false, eqb, leb, ltb, Option, Some, None, is_some, List, [], ◌∷◌, ◌++◌, length, map, refl, sym, subst, arith, append_assoc, IsTrue, All, AllPairs, Contains, IfSome, cond, bytes_eq, length-append}
use Rattle.std.specs.List.{AllByRecursion, list_any, list_all}
use Rattle.std.proofs.lemmas.List.{append-nil}
use Rattle.std.proofs.lemmas.List.Elements.{All-from_recursion}
use Rattle.std.proofs.lemmas.List.Quantifiers.{all_pairs_push}
use Rattle.std.proofs.lemmas.Slice.Eq.{bytes_eq-Decides}
use Rattle.std.proofs.lemmas.Nat.{mul-le}
use Rattle.std.proofs.lemmas.Bool.{leb-false, not-false, lt-ltb, le-leb, le-ltb, eq-eqb, ne_eqb}
use Rattle.rt_base.specs.declared.codes.Event.{Event}
use Rattle.rt_plain.specs.declared.board.DeviceDef.{DeviceDef}
use Rattle.rt_plain.specs.declared.board.TimerDef.{TimerDef}
use Rattle.rt_plain.specs.declared.board.ThreadDef.{ThreadDef}
use Rattle.rt_plain.specs.declared.board.Arrival.{Arrival}
use Rattle.rt_plain.specs.declared.board.Schedule.{Schedule}
use Rattle.rt_plain.specs.declared.kind.LineKind.{LineKind}
use Rattle.rt_plain.specs.declared.stmt.Call.{Call}
use Rattle.rt_plain.specs.declared.stmt.Stmt.{Stmt}
use Rattle.rt_plain.specs.PlainBoard.{PlainBoard}
use Rattle.rt_plain.specs.kernel.Opening.{arrival_moment}
use Rattle.rt_plain.specs.text.StatementTable.{FitsStatement}
use Rattle.rt_plain.specs.text.Tails.{FitsTimerCall}
use Rattle.rt_plain.specs.text.BoardText.{console_name, thread_limit, last_length, is_event_beyond, is_schedule_beyond}
use Rattle.rt_plain.specs.text.Canon.{IsValid}
use Rattle.rt_plain.specs.runs.Runs.{is_event_of, thread_count, room, is_over}
use Rattle.rt_plain.specs.runs.Schedules.{listed_of, IsDriveable}
use Rattle.rt_plain.specs.kernel.Sound.{is_timeout, is_timed, is_timed_action, IsProper, IsSized}
use Rattle.rt_plain.proofs.kernel.TallyLemmas.{all-weaker}
use Rattle.rt_plain.proofs.TestLemmas.{or-left, or-right}
use Rattle.rt_plain.proofs.text.ValidLemmas.{Grows, StatementComes, SemComes, EventComes, MutexComes, MailboxComes, QueueComes, PoolComes, DeviceComes, TimerComes, ThreadComes, ArriveComes, ObjectsGrow, valid_grows}

-- ---- lists that grew item by item

pub grows-each : {A : Type 0} (P : List A → A → Type 0) (Q : A → Type 0) → ((front : List A) (x : A) → P front x → Q x) → (front xs : List A) → Grows P front xs → AllByRecursion Q xs
grows-each P Q says front [] h = tt
grows-each P Q says front (x ∷ xs) h = (says front x h.0, grows-each P Q says (front ++ x ∷ []) xs h.1)

pub grows-few : {A : Type 0} (P : List A → A → Type 0) (n : ℕ) → ((front : List A) (x : A) → P front x → leb n (length front) ≡ false) → (front xs : List A) → length front ≤ n → Grows P front xs → length (front ++ xs) ≤ n
grows-few P n spare front [] le h = rw (append-nil front) le
grows-few P n spare front (x ∷ xs) le h =
    let lt = leb-false n (length front) (spare front x h.0) in
    subst (λ ys. length ys ≤ n) (append_assoc front (x ∷ []) xs) (grows-few P n spare (front ++ x ∷ []) xs (omega (arith, lt, length-append front (x ∷ []))) h.1)

pub grows-pairs : {A : Type 0} (P : List A → A → Type 0) (R : A → A → Type 0) → ((front : List A) (x : A) → P front x → All (λ o. R o x) front) → (front xs : List A) → AllPairs R front → Grows P front xs → AllPairs R (front ++ xs)
grows-pairs P R says front [] before h = subst (AllPairs R) (sym (append-nil front)) before
grows-pairs P R says front (x ∷ xs) before h = subst (AllPairs R) (append_assoc front (x ∷ []) xs) (grows-pairs P R says (front ++ x ∷ []) xs (all_pairs_push R front x before (λ k d lt. says front x h.0 k d lt)) h.1)

-- none passes a test
none-passing : {A : Type 0} (p : A → Bool) (xs : List A) → list_any p xs ≡ false → AllByRecursion (λ x. p x ≡ false) xs
none-passing p [] none = tt
none-passing p (x ∷ xs) none = (or-left (p x) (list_any p xs) none, none-passing p xs (or-right (p x) (list_any p xs) none))

-- ---- classes

-- at most so many, with names of their own
abbrev pub IsStock : {A : Type 0} → (A → List ℕ) → ℕ → List A → Type 0
IsStock name n xs = (length xs ≤ n) × AllPairs (λ one other. name one ≢ name other) xs

apart : (one other : List ℕ) → bytes_eq one other ≡ false → one ≢ other
apart one other is same = let there = (bytes_eq-Decides one other).1 same in absurd cc

stock_of : {A : Type 0} (P : List A → A → Type 0) (name : A → List ℕ) (n : ℕ) → ((front : List A) (x : A) → P front x → list_any (λ o. bytes_eq (name o) (name x)) front ≡ false) → ((front : List A) (x : A) → P front x → leb n (length front) ≡ false) → (xs : List A) → Grows P [] xs → IsStock name n xs
stock_of {A} P name n once spare xs h = (grows-few P n spare [] xs (omega arith) h, grows-pairs P (λ one other. name one ≢ name other) others [] xs (λ i j d less inside. absurd (omega (arith, less, inside))) h) where
  others : (front : List A) (x : A) → P front x → All (λ o. name o ≢ name x) front
  others front x p = All-from_recursion (λ o. name o ≢ name x) front (all-weaker (λ o. bytes_eq (name o) (name x) ≡ false) (λ o. name o ≢ name x) front (λ o is. apart (name o) (name x) is) (none-passing (λ o. bytes_eq (name o) (name x)) front (once front x p)))

-- each class of a valid board has room, and names of its own
pub record IsStocked (b : PlainBoard) : Type 0 where
  pub sems : IsStock (λ d. d.name) b.limits.sem b.sems
  pub events : IsStock (λ d. d.name) b.limits.event b.events
  pub mutexes : IsStock (λ d. d.name) b.limits.mutex b.mutexes
  pub mailboxes : IsStock (λ d. d.name) 64 b.mailboxes
  pub queues : IsStock (λ d. d.name) 64 b.queues
  pub pools : IsStock (λ d. d.name) 64 b.pools
  pub devices : IsStock (λ d. d.name) 15 b.devices
  pub timers : IsStock (λ d. d.name) 64 b.timers
  pub threads : IsStock (λ d. d.name) (thread_limit b) b.threads

stocked : (b : PlainBoard) → ObjectsGrow b → IsStocked b
stocked b h = record {
  sems = stock_of (SemComes b) (λ d. d.name) b.limits.sem (λ front x p. p.1) (λ front x p. p.2) b.sems (h LineKind.Sem);
  events = stock_of (EventComes b) (λ d. d.name) b.limits.event (λ front x p. p.1) (λ front x p. p.2) b.events (h LineKind.Event);
  mutexes = stock_of (MutexComes b) (λ d. d.name) b.limits.mutex (λ front x p. p.1) (λ front x p. p.2) b.mutexes (h LineKind.Mutex);
  mailboxes = stock_of (MailboxComes b) (λ d. d.name) 64 (λ front x p. p.1) (λ front x p. p.2) b.mailboxes (h LineKind.Mailbox);
  queues = stock_of (QueueComes b) (λ d. d.name) 64 (λ front x p. p.1) (λ front x p. p.2) b.queues (h LineKind.Queue);
  pools = stock_of (PoolComes b) (λ d. d.name) 64 (λ front x p. p.1) (λ front x p. p.2) b.pools (h LineKind.Pool);
  devices = stock_of (DeviceComes b) (λ d. d.name) 15 (λ front x p. or-right _ _ p.1) (λ front x p. p.2) b.devices (h LineKind.Device);
  timers = stock_of (TimerComes b) (λ d. d.name) 64 (λ front x p. p.1) (λ front x p. p.2) b.timers (h LineKind.Timer);
  threads = stock_of (ThreadComes b) (λ d. d.name) (thread_limit b) (λ front x p. or-right _ _ p.0.1) (λ front x p. p.0.2) b.threads (h LineKind.Thread);
}

pub valid_stocked : (b : PlainBoard) → IsValid b → IsStocked b
valid_stocked b is = stocked b (valid_grows b is).1

-- ---- times

-- a time of a tick at least, and of less than half of all that a tick can show
timed_number : (n : ℕ) → (1 ≤ n) × (n ≤ 2147483647) × (n < 2 ^ 32) → (ltb 0 n && leb n 2147483647) ≡ true
timed_number n h = rw (lt-ltb 0 n (omega (arith, h.0)), le-leb n 2147483647 h.1) refl

timed_wait : (timeout : Option ℕ) → IfSome timeout (λ n. n < 2 ^ 31) → is_timeout timeout ≡ true
timed_wait None h = refl
timed_wait (Some n) h = le-leb n 2147483647 (omega (arith, h))

-- a statement in its ranges has such times
timed : (levels : ℕ) (x : Stmt) → FitsStatement levels x → is_timed x ≡ true
timed levels (Stmt.Do (Call.Delay n)) h = timed_number n h.0
timed levels (Stmt.Do (Call.TimerSet name n)) h = timed_number n h.1.0
timed levels (Stmt.Do (Call.SemTake name timeout)) h = timed_wait timeout h.1.0
timed levels (Stmt.Do (Call.EventRecv name mask all clear timeout)) h = timed_wait timeout h.1.1.1.1.0
timed levels (Stmt.Do (Call.MutexTake name timeout)) h = timed_wait timeout h.1.0
timed levels (Stmt.Do (Call.MbSend name word timeout)) h = timed_wait timeout h.1.1.0
timed levels (Stmt.Do (Call.MbRecv name timeout)) h = timed_wait timeout h.1.0
timed levels (Stmt.Do (Call.MqSend name timeout message)) h = timed_wait timeout h.1.0
timed levels (Stmt.Do (Call.MqRecv name timeout)) h = timed_wait timeout h.1.0
timed levels (Stmt.Do (Call.MpAlloc name timeout)) h = timed_wait timeout h.1.0
timed levels (Stmt.Do _) h = refl
timed levels _ h = refl

timed_call : (levels : ℕ) (call : Option Stmt) → FitsTimerCall levels call → is_timed_action call ≡ true
timed_call levels None h = refl
timed_call levels (Some x) h = timed levels x h

timed_script : (script : List Stmt) → AllByRecursion (λ x. is_timed x ≡ true) script → list_all is_timed script ≡ true
timed_script [] h = refl
timed_script (x ∷ xs) h = rw (h.0, timed_script xs h.1) refl

abbrev IsTimedThread : ThreadDef → Type 0
IsTimedThread def = IsTrue (list_all is_timed def.script)

abbrev IsTimedTimer : TimerDef → Type 0
IsTimedTimer def = (1 ≤ def.time) × (def.time ≤ 2147483647) × IsTrue (is_timed_action def.call)

timed_thread : (b : PlainBoard) (front : List ThreadDef) (t : ThreadDef) → ThreadComes b front t → IsTimedThread t
timed_thread b front t h = timed_script t.script (grows-each (StatementComes b front t) (λ x. is_timed x ≡ true) (λ done x p. timed b.levels x p.0) [] t.script h.1)

timed_timer : (b : PlainBoard) (front : List TimerDef) (t : TimerDef) → TimerComes b front t → IsTimedTimer t
timed_timer b front t h = (h.0.1.1.0.0, h.0.1.1.0.1, timed_call b.levels t.call h.0.1.1.1.1)

pub valid_proper : (b : PlainBoard) → IsValid b → IsProper b
valid_proper b is =
    let settings = (valid_grows b is).0 in
    let grown = (valid_grows b is).1 in
    record {
      scripts = All-from_recursion IsTimedThread b.threads (grows-each (ThreadComes b) IsTimedThread (timed_thread b) [] b.threads (grown LineKind.Thread));
      timers = All-from_recursion IsTimedTimer b.timers (grows-each (TimerComes b) IsTimedTimer (timed_timer b) [] b.timers (grown LineKind.Timer));
      names = (stocked b grown).timers.1;
      thresh = (settings LineKind.Thresh).0.0;
      until = (settings LineKind.Until).0.0;
    }

-- the last moment is one that a tick can reach
pub valid_until : (b : PlainBoard) → IsValid b → b.until ≤ 1099511627775
valid_until b is = ((valid_grows b is).0 LineKind.Until).0.1

-- ---- scripts

pub last_of : (front : List ThreadDef) (t : ThreadDef) → last_length (front ++ t ∷ []) ≡ length t.script
last_of [] t = refl
last_of (u ∷ []) t = refl
last_of (u ∷ v ∷ us) t = last_of (v ∷ us) t

short_thread : (b : PlainBoard) (front : List ThreadDef) (t : ThreadDef) → ThreadComes b front t → length t.script ≤ 512
short_thread b front t h = grows-few (StatementComes b front t) 512 (λ done x p. subst (λ n. leb 512 n ≡ false) (last_of front (record t { script = done })) p.2) [] t.script (omega arith) h.1

-- no script is long
pub valid_scripts : (b : PlainBoard) → IsValid b → AllByRecursion (λ def. length def.script ≤ 512) b.threads
valid_scripts b is = grows-each (ThreadComes b) (λ def. length def.script ≤ 512) (short_thread b) [] b.threads ((valid_grows b is).1 LineKind.Thread)

-- ---- arrivals

-- a name that is the first one, or one of the others
named_of : (name first : List ℕ) (others : List (List ℕ)) (any : Bool) → (any ≡ true → Contains others name) → (bytes_eq first name || any) ≡ true → Contains (first ∷ others) name
named_of name first others any rest is = by_test (bytes_eq first name) refl is where
  by_test : (c : Bool) → bytes_eq first name ≡ c → (c || any) ≡ true → Contains (first ∷ others) name
  by_test true same is = (0, omega arith, (bytes_eq-Decides first name).0 same)
  by_test false same is = let there = rest is in (suc there.0, omega (arith, there.1), there.2)

named : (name : List ℕ) (devices : List DeviceDef) → list_any (λ o. bytes_eq o.name name) devices ≡ true → Contains (map (λ d. d.name) devices) name
named name [] is = absurd cc
named name (d ∷ ds) is = named_of name d.name (map (λ e. e.name) ds) (list_any (λ o. bytes_eq o.name name) ds) (named name ds) is

abbrev IsKnown : List DeviceDef → Arrival → Type 0
IsKnown devices a = Contains (console_name ∷ map (λ d. d.name) devices) a.device

known : (b : PlainBoard) (front : List Arrival) (a : Arrival) → ArriveComes b front a → IsKnown b.devices a
known b front a h = named_of a.device console_name (map (λ d. d.name) b.devices) (list_any (λ o. bytes_eq o.name a.device) b.devices) (named a.device b.devices) (not-false _ (or-right _ _ h.3))

abbrev IsOther : PlainBoard → Arrival → Arrival → Type 0
IsOther b one other = arrival_moment b one ≡ arrival_moment b other → one.device ≢ other.device

unlike : (b : PlainBoard) (one other : Arrival) → (eqb (arrival_moment b one) (arrival_moment b other) && bytes_eq one.device other.device) ≡ false → IsOther b one other
unlike b one other is now same = absurd cc (is, eq-eqb (arrival_moment b one) (arrival_moment b other) now, (bytes_eq-Decides one.device other.device).1 same)

once : (b : PlainBoard) (front : List Arrival) (a : Arrival) → ArriveComes b front a → All (λ o. IsOther b o a) front
once b front a h =
    let test = λ (o : Arrival). eqb (arrival_moment b o) (arrival_moment b a) && bytes_eq o.device a.device in
    All-from_recursion (λ o. IsOther b o a) front (all-weaker (λ o. test o ≡ false) (λ o. IsOther b o a) front (λ o is. unlike b o a is) (none-passing test front h.1))

pub valid_sized : (b : PlainBoard) → IsValid b → IsSized b
valid_sized b is =
    let limits = (valid_grows b is).0 LineKind.Limit in
    let grown = (valid_grows b is).1 in
    let stock = stocked b grown in
    record {
      sems = omega (arith, stock.sems.0, limits.0);
      events = omega (arith, stock.events.0, limits.1);
      mutexes = omega (arith, stock.mutexes.0, limits.2);
      mailboxes = omega (arith, stock.mailboxes.0);
      queues = omega (arith, stock.queues.0);
      sem_limit = omega (arith, limits.0);
      event_limit = omega (arith, limits.1);
      mutex_limit = omega (arith, limits.2);
      known = All-from_recursion (IsKnown b.devices) b.arrivals (grows-each (ArriveComes b) (IsKnown b.devices) (known b) [] b.arrivals (grown LineKind.Arrive));
      once = grows-pairs (ArriveComes b) (IsOther b) (once b) [] b.arrivals (λ i j d less inside. absurd (omega (arith, less, inside))) (grown LineKind.Arrive);
    }

-- ---- cores and limits

pub valid_cores : (b : PlainBoard) → IsValid b → (1 ≤ b.cores) × (b.cores ≤ 8)
valid_cores b is = let cores = (valid_grows b is).0 LineKind.Cores in (cores.0.0, cores.0.1)

event_of : (b : PlainBoard) (event : Event) → is_event_beyond b.cores event ≡ false → IsTrue (is_event_of b event)
event_of b (Event.Step core) is = lt-ltb core b.cores (leb-false b.cores core is)
event_of b Event.Tick is = refl

listed : (b : PlainBoard) (schedule : Schedule) → is_schedule_beyond b.cores schedule ≡ false → AllByRecursion (λ event. IsTrue (is_event_of b event)) (listed_of schedule)
listed b Schedule.Round is = tt
listed b (Schedule.Seed seed) is = tt
listed b (Schedule.Order events) is = all-weaker (λ event. is_event_beyond b.cores event ≡ false) (λ event. IsTrue (is_event_of b event)) events (event_of b) (none-passing (is_event_beyond b.cores) events is)

pub valid_driveable : (b : PlainBoard) → IsValid b → IsDriveable b
valid_driveable b is = record {
  some_core = (valid_cores b is).0;
  listed = All-from_recursion (λ event. IsTrue (is_event_of b event)) (listed_of b.schedule) (listed b b.schedule ((valid_grows b is).0 LineKind.Schedule).1);
}

-- the threads of the board, and those of its own
pub valid_threads : (b : PlainBoard) → IsValid b → thread_count b ≤ 256
valid_threads b is = by_own (is_some b.shell) (is_some b.soft) (valid_stocked b is).threads.0 where
  by_own : (shell soft : Bool) → length b.threads ≤ 256 - cond shell 1 0 - cond soft 1 0 → cond shell 1 0 + cond soft 1 0 + length b.threads ≤ 256
  by_own true true few = omega (arith, few)
  by_own true false few = omega (arith, few)
  by_own false true few = omega (arith, few)
  by_own false false few = omega (arith, few)

-- an event has room for its lines
few_lines : (threads timers devices : ℕ) → threads ≤ 256 → timers ≤ 64 → devices ≤ 15 → (threads + timers + 1) * (2 * threads + 4) + 5 * (1 + devices) + 300 ≤ 4000000
few_lines threads timers devices a c d =
    let product : (threads + timers + 1) * (2 * threads + 4) ≤ 321 * 516 = mul-le (threads + timers + 1) (2 * threads + 4) 321 516 (omega (arith, a, c)) (omega (arith, a)) in
    omega (arith, product, d)

pub valid_begins : (b : PlainBoard) → IsValid b → is_over b [] ≡ false
valid_begins b is =
    let entries = ((valid_grows b is).0 LineKind.Entries).0.0 in
    let stock = valid_stocked b is in
    let few = few_lines (thread_count b) (length b.timers) (length b.devices) (valid_threads b is) stock.timers.0 stock.devices.0 in
    rw (ne_eqb 0 b.entries (λ e. absurd (omega (arith, entries, e)))) (le-ltb 4000000 (0 + room b) (omega (arith, few)))
