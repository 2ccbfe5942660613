-- The board of each number is valid.
use Rattle.std.proofs.Common.{◌≡◌, ◌≢◌, ℕ, zero, suc, ◌+◌, ◌*◌, ◌%◌, ◌^◌, ◌<◌, ◌≤◌, Bool, true, false, eqb, leb, cond, Some, None, List, [], ◌∷◌, ◌++◌, length, drop, map, refl, sym, ap, ◌∙◌, subst, arith, append_assoc, IsTrue, All, bytes_eq, decimal, codes, length-append}
use Rattle.std.specs.List.{AllByRecursion, list_all, list_any, range_with_len, flat_map}
use Rattle.std.proofs.lemmas.Nat.{mod_below}
use Rattle.std.proofs.lemmas.Bool.{lt-leb, eqb-true, eqb-false}
use Rattle.std.proofs.lemmas.List.Elements.{All-from_recursion}
use Rattle.std.specs.Fmt.{digits}
use Rattle.std.proofs.lemmas.Fmt.{decimal_injective}
use Rattle.std.proofs.lemmas.Slice.Eq.{bytes_eq-Decides}
use Rattle.rand_pcg.specs.Lcg.{Lcg}
use Rattle.rand_pcg.specs.Pcg.{pcg32}
use Rattle.rt_base.specs.Grammar.{is_name}
use Rattle.rt_plain.specs.declared.board.ThreadDef.{ThreadDef}
use Rattle.rt_plain.specs.declared.board.SemDef.{SemDef}
use Rattle.rt_plain.specs.declared.board.TimerDef.{TimerDef}
use Rattle.rt_plain.specs.declared.board_line.BoardLine.{BoardLine}
use Rattle.rt_plain.specs.declared.kind.LineKind.{LineKind}
use Rattle.rt_plain.specs.declared.stmt.Call.{Call}
use Rattle.rt_plain.specs.declared.stmt.Stmt.{Stmt}
use Rattle.rt_plain.specs.PlainBoard.{PlainBoard}
use Rattle.rt_plain.specs.text.BoardText.{last_length}
use Rattle.rt_plain.specs.text.Canon.{IsValid, line_of_thread}
use Rattle.rt_plain.specs.text.LineTable.{FitsLine}
use Rattle.rt_plain.specs.runs.Schedules.{words_of_seed}
use Rattle.rt_plain.specs.runs.Generated.{Drawn, draw_below, draw_each, numbered, block_of, draw_block, draw_mutex_block, draw_sem_block, draw_release_block, draw_send_block, draw_receive_block, undrawn, script_with, draw_script, draw_thread, draw_sem, draw_timer, board_with, generated_board}
use Rattle.rt_plain.proofs.TestLemmas.{and-left, and-right}
use Rattle.rt_plain.proofs.runs.RunnableLemmas.{last_of}
use Rattle.rt_plain.proofs.text.ValidLemmas.{Grows, StatementComes, ThreadComes, SemComes, TimerComes, SettingsFit, ObjectsGrow, grown_is_valid}

-- ---- what was drawn

below : (k : ℕ) (g : Lcg) → 0 < k → (draw_below k g).value < k
below k g some = mod_below (pcg32 g).0 k some

-- in a range of 32 bits
in_range : (n low high : ℕ) → low ≤ n → n ≤ high → high < 4294967296 → (low ≤ n) × (n ≤ high) × (n < 2 ^ 32)
in_range n low high least most wide = (least, most, omega (arith, most, wide))

-- what holds of each draw holds of all that were drawn
each : {A : Type 0} (P : A → Type 0) (draw : ℕ → Lcg → Drawn A) → ((i : ℕ) (g : Lcg) → P (draw i g).value) → (is : List ℕ) (g : Lcg) → AllByRecursion P (draw_each draw is g).value
each P draw h [] g = tt
each P draw h (i ∷ is) g = (h i g, each P draw h is (draw i g).rest)

-- ---- names

-- what holds of all numbers below a bound
all_from : (p : ℕ → Bool) (a n : ℕ) → list_all p (range_with_len a n) ≡ true → (j : ℕ) → a ≤ j → j < a + n → p j ≡ true
all_from p a zero h j le lt = absurd (omega (arith, le, lt))
all_from p a (suc n) h j le lt = by_test (eqb a j) refl (λ above. all_from p (a + 1) n (and-right (p a) _ h) j above (omega (arith, lt))) where
  by_test : (same : Bool) → eqb a j ≡ same → (a + 1 ≤ j → p j ≡ true) → p j ≡ true
  by_test true same other = subst (λ i. p i ≡ true) (eqb-true a j same) (and-left (p a) _ h)
  by_test false apart other = other (let ne = eqb-false a j apart in omega (arith, ne, le))

named_below : (letter : List ℕ) → list_all (λ i. is_name (numbered letter i)) (range_with_len 0 16) ≡ true → (i : ℕ) → i < 16 → IsTrue (is_name (numbered letter i))
named_below letter h i lt = all_from (λ i. is_name (numbered letter i)) 0 16 h i (omega arith) lt

mutex_named : (i : ℕ) → i < 16 → IsTrue (is_name (numbered (codes "m") i))
unfolding digits
mutex_named i lt = named_below (codes "m") refl i lt

sem_named : (i : ℕ) → i < 16 → IsTrue (is_name (numbered (codes "s") i))
unfolding digits
sem_named i lt = named_below (codes "s") refl i lt

mailbox_named : (i : ℕ) → i < 16 → IsTrue (is_name (numbered (codes "b") i))
unfolding digits
mailbox_named i lt = named_below (codes "b") refl i lt

thread_named : (i : ℕ) → i < 16 → IsTrue (is_name (numbered (codes "w") i))
unfolding digits
thread_named i lt = named_below (codes "w") refl i lt

-- ---- scripts

abbrev FitsStatementLine : Stmt → Type 0
FitsStatementLine s = FitsLine 32 (BoardLine.Statement s)

record FitsBlock (statements : List Stmt) : Type 0 where
  few : length statements ≤ 3
  fits : AllByRecursion FitsStatementLine statements

waits : (w : ℕ) → w < 21 → w < 2 ^ 31
waits w lt = omega (arith, lt)

mutex_block_fits : (g : Lcg) → FitsBlock (draw_mutex_block g).value
mutex_block_fits g =
    let x = draw_below 4 g in
    let w = draw_below 20 x.rest in
    let named = mutex_named x.value (omega (arith, below 4 g (omega arith))) in
    record {
      few = omega arith;
      fits = ((named, (waits (1 + w.value) (omega (arith, below 20 x.rest (omega arith))), tt)), ((in_range (1 + (draw_below 5 w.rest).value) 1 2147483647 (omega arith) (omega (arith, below 5 w.rest (omega arith))) (omega arith), tt), ((named, tt), tt)));
    }

sem_block_fits : (g : Lcg) → FitsBlock (draw_sem_block g).value
sem_block_fits g =
    let x = draw_below 4 g in
    record {
      few = omega arith;
      fits = ((sem_named x.value (omega (arith, below 4 g (omega arith))), (waits (1 + (draw_below 20 x.rest).value) (omega (arith, below 20 x.rest (omega arith))), tt)), tt);
    }

release_block_fits : (g : Lcg) → FitsBlock (draw_release_block g).value
release_block_fits g = record { few = omega arith; fits = ((sem_named (draw_below 4 g).value (omega (arith, below 4 g (omega arith))), tt), tt) }

send_block_fits : (g : Lcg) → FitsBlock (draw_send_block g).value
send_block_fits g =
    let x = draw_below 2 g in
    let v = draw_below 1000 x.rest in
    record {
      few = omega arith;
      fits = ((mailbox_named x.value (omega (arith, below 2 g (omega arith))), (in_range v.value 0 4294967295 (omega arith) (omega (arith, below 1000 x.rest (omega arith))) (omega arith), (waits (draw_below 10 v.rest).value (omega (arith, below 10 v.rest (omega arith))), tt))), tt);
    }

receive_block_fits : (g : Lcg) → FitsBlock (draw_receive_block g).value
receive_block_fits g =
    let x = draw_below 2 g in
    record {
      few = omega arith;
      fits = ((mailbox_named x.value (omega (arith, below 2 g (omega arith))), (waits (draw_below 10 x.rest).value (omega (arith, below 10 x.rest (omega arith))), tt)), tt);
    }

print_block_fits : FitsBlock (Stmt.Print (codes ".") ∷ [])
print_block_fits = record { few = omega arith; fits = (((refl, recursion_from_dot), tt), tt) } where
  recursion_from_dot : All (λ b. b < 256) (codes ".")
  recursion_from_dot = All-from_recursion (λ b. b < 256) (codes ".") (omega arith, tt)

-- one of two blocks fits, where both do
one_fits : (test : Bool) (a b : Drawn (List Stmt)) → FitsBlock a.value → FitsBlock b.value → FitsBlock (cond test a b).value
one_fits true a b h k = h
one_fits false a b h k = k

block_fits : (i : ℕ) (g : Lcg) → FitsBlock (draw_block i g).value
block_fits i g =
    let kind = draw_below 6 g in
    one_fits (eqb kind.value 0) _ _ (mutex_block_fits kind.rest)
    (one_fits (eqb kind.value 1) _ _ (sem_block_fits kind.rest)
    (one_fits (eqb kind.value 2) _ _ (release_block_fits kind.rest)
    (one_fits (eqb kind.value 3) _ _ (send_block_fits kind.rest)
    (one_fits (eqb kind.value 4) _ (undrawn (Stmt.Print (codes ".") ∷ []) kind.rest) (receive_block_fits kind.rest) print_block_fits))))

-- all of two lists
both_fit : (xs ys : List Stmt) → AllByRecursion FitsStatementLine xs → AllByRecursion FitsStatementLine ys → AllByRecursion FitsStatementLine (xs ++ ys)
both_fit [] ys h k = k
both_fit (x ∷ xs) ys h k = (h.0, both_fit xs ys h.1 k)

blocks_fit : (blocks : List (List Stmt)) → AllByRecursion FitsBlock blocks → AllByRecursion FitsStatementLine (flat_map (λ block. block) blocks)
blocks_fit [] h = tt
blocks_fit (block ∷ blocks) h = both_fit block (flat_map (λ block. block) blocks) h.0.fits (blocks_fit blocks h.1)

blocks_few : (blocks : List (List Stmt)) → AllByRecursion FitsBlock blocks → length (flat_map (λ block. block) blocks) ≤ 3 * length blocks
blocks_few [] h = omega arith
blocks_few (block ∷ blocks) h = omega (arith, length-append block (flat_map (λ block. block) blocks), h.0.few, blocks_few blocks h.1)

record FitsScript (statements : List Stmt) : Type 0 where
  few : length statements ≤ 14
  fits : AllByRecursion FitsStatementLine statements

script_fits : (g : Lcg) → FitsScript (draw_script g).value
script_fits g =
    let blocks = draw_each draw_block (range_with_len 0 4) g in
    let d = draw_below 20 blocks.rest in
    let fit = each FitsBlock draw_block block_fits (range_with_len 0 4) g in
    let last = Stmt.Do (Call.Delay (1 + d.value)) ∷ Stmt.Goto 1 ∷ [] in
    record {
      few = omega (arith, length-append (flat_map (λ block. block) blocks.value) last, blocks_few blocks.value fit);
      fits = both_fit (flat_map (λ block. block) blocks.value) last (blocks_fit blocks.value fit) ((in_range (1 + d.value) 1 2147483647 (omega arith) (omega (arith, below 20 blocks.rest (omega arith))) (omega arith), tt), ((in_range 1 1 512 (omega arith) (omega arith) (omega arith), tt), tt));
    }

-- ---- threads

-- the rest of a script may come, statement by statement
statements_grow : (cores : ℕ) (sems : List SemDef) (timers : List TimerDef) (threads front : List ThreadDef) (t : ThreadDef) (done rest : List Stmt) → length done + length rest ≤ 512 → AllByRecursion FitsStatementLine rest → Grows (StatementComes (board_with cores sems timers threads) front t) done rest
statements_grow cores sems timers threads front t done [] few h = tt
statements_grow cores sems timers threads front t done (x ∷ rest) few h = (
  (h.0, refl, subst (λ n. leb 512 n ≡ false) (sym (last_of front (record t { script = done }))) (lt-leb 512 (length done) (omega (arith, few))), refl),
  statements_grow cores sems timers threads front t (done ++ x ∷ []) rest (omega (arith, few, length-append done (x ∷ []))) h.1,
)

-- a thread with the name of a number below this one
abbrev IsBefore : ℕ → ThreadDef → Type 0
IsBefore i t = (j : ℕ) × ((j < i) × (t.name ≡ numbered (codes "w") j))

-- the threads of the numbers below one
record AreFirst (i : ℕ) (front : List ThreadDef) : Type 0 where
  count : length front ≡ i
  names : AllByRecursion (IsBefore i) front

-- none of them has the name of the number
unlike : (i : ℕ) (front : List ThreadDef) → i < 16 → AllByRecursion (IsBefore i) front → list_any (λ (o : ThreadDef). bytes_eq o.name (numbered (codes "w") i)) front ≡ false
unlike i [] small h = refl
unlike i (t ∷ ts) small h = rw (differs h.0.0 h.0.1.0 h.0.1.1) (unlike i ts small h.1) where
  tails : {xs ys : List ℕ} → codes "w" ++ xs ≡ codes "w" ++ ys → xs ≡ ys
  tails e = ap (drop 1) e

  differs : (j : ℕ) → j < i → t.name ≡ numbered (codes "w") j → bytes_eq t.name (numbered (codes "w") i) ≡ false
  differs j less e = by_test (bytes_eq t.name (numbered (codes "w") i)) refl where
    by_test : (same : Bool) → bytes_eq t.name (numbered (codes "w") i) ≡ same → same ≡ false
    by_test false s = refl
    by_test true s = absurd (let n = decimal_injective j i (omega (arith, less, small)) (omega (arith, small)) (tails (sym e ∙ (bytes_eq-Decides t.name (numbered (codes "w") i)).0 s)) in omega (arith, less, n))

-- the same names, and that of the number
one_more : (i : ℕ) (front : List ThreadDef) (t : ThreadDef) → AreFirst i front → t.name ≡ numbered (codes "w") i → AreFirst (i + 1) (front ++ t ∷ [])
one_more i front t h e = record { count = omega (arith, length-append front (t ∷ []), h.count); names = named front h.names } where
  named : (ts : List ThreadDef) → AllByRecursion (IsBefore i) ts → AllByRecursion (IsBefore (i + 1)) (ts ++ t ∷ [])
  named [] h = ((i, (omega arith, e)), tt)
  named (u ∷ us) h = ((h.0.0, (omega (arith, h.0.1.0), h.0.1.1)), named us h.1)

-- a thread that is drawn may come behind those of the numbers before it
thread_comes : (cores : ℕ) (sems : List SemDef) (timers : List TimerDef) (threads front : List ThreadDef) (i : ℕ) (g : Lcg) → i < 16 → AreFirst i front → ThreadComes (board_with cores sems timers threads) front (draw_thread i g).value
thread_comes cores sems timers threads front i g small h =
    let base = draw_below 30 g in
    let slice = draw_below 10 base.rest in
    let script = draw_script slice.rest in
    let fit = script_fits slice.rest in (
      (
        (thread_named i small, (in_range base.value 0 30 (omega arith) (omega (arith, below 30 g (omega arith))) (omega arith), (in_range (1 + slice.value) 1 255 (omega arith) (omega (arith, below 10 base.rest (omega arith))) (omega arith), (tt, (tt, tt))))),
        unlike i front small h.names,
        lt-leb 256 (length front) (omega (arith, h.count, small)),
        refl,
      ),
      statements_grow cores sems timers threads front (draw_thread i g).value [] script.value (omega (arith, fit.few)) fit.fits,
    )

threads_grow : (cores : ℕ) (sems : List SemDef) (timers : List TimerDef) (threads front : List ThreadDef) (i n : ℕ) (g : Lcg) → i + n ≤ 16 → AreFirst i front → Grows (ThreadComes (board_with cores sems timers threads)) front (draw_each draw_thread (range_with_len i n) g).value
threads_grow cores sems timers threads front i zero g few h = tt
threads_grow cores sems timers threads front i (suc n) g few h =
    let t = draw_thread i g in (
      thread_comes cores sems timers threads front i g (omega (arith, few)) h,
      threads_grow cores sems timers threads (front ++ t.value ∷ []) (i + 1) n t.rest (omega (arith, few)) (one_more i front t.value h refl),
    )

-- ---- the board

settings_fit : (cores : ℕ) (sems : List SemDef) (timers : List TimerDef) (threads : List ThreadDef) → cores < 4 → SettingsFit (board_with cores sems timers threads)
settings_fit cores sems timers threads few LineKind.Cores = (in_range (1 + cores) 1 8 (omega arith) (omega (arith, few)) (omega arith), tt)
settings_fit cores sems timers threads few LineKind.Levels = (refl, tt)
settings_fit cores sems timers threads few LineKind.Tickless = (tt, tt)
settings_fit cores sems timers threads few LineKind.Tick0 = (in_range 0 0 4294967295 (omega arith) (omega arith) (omega arith), tt)
settings_fit cores sems timers threads few LineKind.Until = ((omega arith, omega arith), tt)
settings_fit cores sems timers threads few LineKind.Entries = (in_range 1000000 1 1000000 (omega arith) (omega arith) (omega arith), tt)
settings_fit cores sems timers threads few LineKind.LpMax = (in_range 2147483647 1 2147483647 (omega arith) (omega arith) (omega arith), tt)
settings_fit cores sems timers threads few LineKind.Thresh = (in_range 2 1 2147483647 (omega arith) (omega arith) (omega arith), tt)
settings_fit cores sems timers threads few LineKind.LpClock = (in_range 1 1 1000000 (omega arith) (omega arith) (omega arith), (in_range 1 1 1000 (omega arith) (omega arith) (omega arith), tt))
settings_fit cores sems timers threads few LineKind.DefaultMode = (tt, tt)
settings_fit cores sems timers threads few LineKind.Schedule = (tt, refl)
settings_fit cores sems timers threads few LineKind.Limit = (omega arith, omega arith, omega arith)
settings_fit cores sems timers threads few _ = tt

-- a semaphore's value, and a timer's time
sem_value : (g : Lcg) → (0 ≤ (draw_below 3 g).value) × ((draw_below 3 g).value ≤ 65535) × ((draw_below 3 g).value < 2 ^ 32)
sem_value g = in_range (draw_below 3 g).value 0 65535 (omega arith) (omega (arith, below 3 g (omega arith))) (omega arith)

timer_time : (g : Lcg) → (1 ≤ 5 + (draw_below 20 g).value) × (5 + (draw_below 20 g).value ≤ 2147483647) × (5 + (draw_below 20 g).value < 2 ^ 32)
timer_time g = in_range (5 + (draw_below 20 g).value) 1 2147483647 (omega arith) (omega (arith, below 20 g (omega arith))) (omega arith)

sems_grow : (cores : ℕ) (timers : List TimerDef) (threads : List ThreadDef) (g : Lcg) → let sems = (draw_each draw_sem (range_with_len 0 4) g).value in Grows (SemComes (board_with cores sems timers threads)) [] sems
unfolding digits
sems_grow cores timers threads g =
    let g1 = (draw_sem 0 g).rest in
    let g2 = (draw_sem 1 g1).rest in
    let g3 = (draw_sem 2 g2).rest in
    (((refl, (sem_value g, (tt, tt))), refl, refl, refl), (((refl, (sem_value g1, (tt, tt))), refl, refl, refl), (((refl, (sem_value g2, (tt, tt))), refl, refl, refl), (((refl, (sem_value g3, (tt, tt))), refl, refl, refl), tt))))

timers_grow : (cores : ℕ) (sems : List SemDef) (threads : List ThreadDef) (g : Lcg) → let timers = (draw_each draw_timer (range_with_len 0 2) g).value in Grows (TimerComes (board_with cores sems timers threads)) [] timers
unfolding digits
timers_grow cores sems threads g = (((refl, (tt, (timer_time g, (tt, (refl, tt))))), refl, refl, refl), (((refl, (tt, (timer_time (draw_timer 0 g).rest, (tt, (refl, tt))))), refl, refl, refl), tt))

objects_grow : (cores : ℕ) (g h i : Lcg) (count : ℕ) → count ≤ 16 →
    let sems = (draw_each draw_sem (range_with_len 0 4) g).value in
    let timers = (draw_each draw_timer (range_with_len 0 2) h).value in
    let threads = (draw_each draw_thread (range_with_len 0 count) i).value in
    ObjectsGrow (board_with cores sems timers threads)
unfolding digits
objects_grow cores g h i count few LineKind.Sem = sems_grow cores (draw_each draw_timer (range_with_len 0 2) h).value (draw_each draw_thread (range_with_len 0 count) i).value g
objects_grow cores g h i count few LineKind.Mutex =
    let ceiling = in_range 31 0 31 (omega arith) (omega arith) (omega arith) in
    (((refl, (ceiling, tt)), refl, refl, refl), (((refl, (ceiling, tt)), refl, refl, refl), (((refl, (ceiling, tt)), refl, refl, refl), (((refl, (ceiling, tt)), refl, refl, refl), tt))))
objects_grow cores g h i count few LineKind.Mailbox =
    let size = in_range 4 1 64 (omega arith) (omega arith) (omega arith) in (((refl, (size, (tt, tt))), refl, refl, refl), (((refl, (size, (tt, tt))), refl, refl, refl), tt))
objects_grow cores g h i count few LineKind.Device =
    let ring = in_range 16 1 64 (omega arith) (omega arith) (omega arith) in
    (((refl, (ring, (ring, (in_range 4 1 64 (omega arith) (omega arith) (omega arith), (tt, (refl, tt)))))), refl, refl, refl), tt)
objects_grow cores g h i count few LineKind.Timer = timers_grow cores (draw_each draw_sem (range_with_len 0 4) g).value (draw_each draw_thread (range_with_len 0 count) i).value h
objects_grow cores g h i count few LineKind.Thread = threads_grow cores (draw_each draw_sem (range_with_len 0 4) g).value (draw_each draw_timer (range_with_len 0 2) h).value (draw_each draw_thread (range_with_len 0 count) i).value [] 0 count i (omega (arith, few)) (record { count = refl; names = tt })
objects_grow cores g h i count few _ = tt

pub generated_is_valid : (n : ℕ) → IsValid (generated_board n)
generated_is_valid n =
    let cores = draw_below 4 (words_of_seed n) in
    let sems = draw_each draw_sem (range_with_len 0 4) cores.rest in
    let timers = draw_each draw_timer (range_with_len 0 2) sems.rest in
    let more = draw_below 8 timers.rest in
    let threads = draw_each draw_thread (range_with_len 0 (8 + more.value)) more.rest in
    grown_is_valid (generated_board n) (settings_fit cores.value sems.value timers.value threads.value (below 4 (words_of_seed n) (omega arith))) (objects_grow cores.value cores.rest sems.rest more.rest (8 + more.value) (omega (arith, below 8 timers.rest (omega arith))))
