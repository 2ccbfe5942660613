-- What follows from another base priority.
use Rattle.std.proofs.Common.{◌≡◌, ℕ, zero, suc, ◌+◌, ◌<◌, ◌≤◌, ◌&&◌, not, arith, List, [], ◌∷◌, ◌++◌, Option, Some, None, Bool, true, false, refl, sym, ap, ◌∙◌, length, map, filter, filter_map, slice_set, slice_index_or, cond, subst, eqb, eq-eqb, ◌||◌}
use Rattle.std.specs.Prelude.{if◌then◌else◌, ◌==◌}
use Rattle.std.specs.List.{AllByRecursion, cons_option, position_from, range_with_len}
use Rattle.std.proofs.lemmas.List.{append-nil}
use Rattle.rt_base.specs.declared.codes.Code.{Code}
use Rattle.rt_plain.specs.declared.line.Line.{Line}
use Rattle.rt_plain.specs.PlainBoard.{PlainBoard}
use Rattle.rt_plain.specs.kernel.State.{State, Thread, no_thread, thread_at, with_thread, find_thread, is_among, is_closed, thread_numbers}
use Rattle.rt_plain.specs.kernel.Effects.{Effect}
use Rattle.rt_plain.specs.kernel.Outcome.{Answers, Outcome, refusal, silent_success, found_outcome}
use Rattle.rt_plain.specs.kernel.Priority.{cur}
use Rattle.rt_plain.specs.kernel.Ownership.{CurChange}
use Rattle.rt_plain.specs.kernel.Sound.{is_active}
use Rattle.rt_plain.specs.kernel.ThreadCalls.{set_prio}
use Rattle.rt_plain.specs.kernel.Calls.{has_new_cur, mode_lines, settled_effect}
use Rattle.rt_plain.proofs.kernel.Invariant.{active-open, is-there}
use Rattle.rt_plain.proofs.kernel.TallyLemmas.{length-set_at, same-set}
use Rattle.kernel_tables.specs.Threads.{is_found, row_at, with_row}
use Rattle.mutex_tables.specs.Moved.{AreOnce, MovesOne, moved_behind, settled_by}
use Rattle.mutex_tables.specs.MutexTabled.{MutexTabled, plain_state}
use Rattle.mutex_tables.proofs.LawLemmas.{settles}
use Rattle.mutex_tie.specs.Changes.{AreLive, change_line, new_cur_of, new_curs}
use Rattle.rt_kernel.specs.declared.state.State.{State as KernelState}
use Rattle.rt_kernel.specs.Mutexes.{AreActive}
use Rattle.rt_kernel.specs.Settles.{settled}
use Rattle.rt_kernel.specs.View.{state_of}
use Rattle.rt_kernel.proofs.Quiet.{call-quiet, quiet-self}
use Rattle.rt_kernel.proofs.Settled.{same-mode}

-- what is found at a place
pub record IsFoundAt (p : Thread → Bool) (i : ℕ) (rows : List Thread) (j : ℕ) : Type 0 where
  pub step : ℕ
  pub at : j ≡ i + step
  pub within : step < length rows
  pub passes : p (slice_index_or rows step no_thread) ≡ true

some-is : (i j : ℕ) → Some i ≡ Some j → j ≡ i
some-is i j e = cc

pub found_at : (p : Thread → Bool) (i : ℕ) (rows : List Thread) (j : ℕ) → position_from p i rows ≡ Some j → IsFoundAt p i rows j
found_at p i [] j e = absurd cc
found_at p i (row ∷ rows) j e = by_test (p row) refl (found_at p (i + 1) rows j) e where
  by_test : (c : Bool) → p row ≡ c → (position_from p (i + 1) rows ≡ Some j → IsFoundAt p (i + 1) rows j) → cond c (Some i) (position_from p (i + 1) rows) ≡ Some j → IsFoundAt p i (row ∷ rows) j
  by_test true is rest here = record { step = 0; at = some-is i j here ∙ omega arith; within = omega arith; passes = is }
  by_test false is rest there = let found : IsFoundAt p (i + 1) rows j = rest there in record { step = suc found.step; at = omega (arith, found.at); within = omega (arith, found.within); passes = found.passes }

and-left : (c d : Bool) → c && d ≡ true → c ≡ true
and-left true d e = refl
and-left false d e = absurd cc

not-true : (c : Bool) → not c ≡ true → c ≡ false
not-true false e = refl
not-true true e = absurd cc

-- a thread that is found by its name is there, and hasn't ended
pub found_thread : (s : State) (name : List ℕ) (u : ℕ) → find_thread s name ≡ Some u → (u < length s.threads) × (is_closed (thread_at s u).stage ≡ false)
found_thread s name u e =
    let found : IsFoundAt (is_found name) 0 s.threads u = found_at (is_found name) 0 s.threads u e in
    let same : found.step ≡ u = omega (arith, found.at) in
    (omega (arith, same, found.within), not-true (is_closed (thread_at s u).stage) (and-left _ _ (subst (λ n. is_found name (slice_index_or s.threads n no_thread) ≡ true) same found.passes)))

-- threads that are ready are active, and so they are there and haven't ended
all-live : (s : State) (ts : List ℕ) → ((u : ℕ) → is_among ts u ≡ true → is_active (thread_at s u).stage ≡ true) → AllByRecursion (λ t. (t < length s.threads) × (is_closed (thread_at s t).stage ≡ false)) ts
all-live s [] active = tt
all-live s (t ∷ ts) active =
    let live : is_closed (thread_at s t).stage ≡ false = active-open (thread_at s t).stage (active t (ap (λ c. c || is_among ts t) (eq-eqb t t refl))) in
    ((is-there s.threads t live, live), all-live s ts (λ u among. active u (ap (λ c. eqb t u || c) among ∙ or-true (eqb t u)))) where
      or-true : (c : Bool) → c || true ≡ true
      or-true true = refl
      or-true false = refl

-- what follows from an action where ready threads are active, each is ready once, no vote changed, and one ready thread moves at most
pub follows : (b : PlainBoard) (s : State) (e : Effect) (cs : List CurChange) → ((u : ℕ) → is_among e.state.ready u ≡ true → is_active (thread_at e.state u).stage ≡ true) → AreOnce e.state.ready → MovesOne s.ready cs → cs ≡ new_curs s e.state → s.votes ≡ e.state.votes
    → settled_effect b s e ≡ record { state = record (e.state) { ready = moved_behind s.ready cs e.state.ready }; lines = e.lines ++ map (change_line e.state) cs }
follows b s e cs active once one told votes =
    settles b s e (all-live e.state e.state.ready active) once (subst (MovesOne s.ready) told one)
    ∙ ap (λ (changes : List CurChange). settled_by b s changes e) (sym told)
    ∙ ap (λ (mode : List Line). record { state = record (e.state) { ready = moved_behind s.ready cs e.state.ready }; lines = e.lines ++ map (change_line e.state) cs ++ mode }) (same-mode b s e.state votes)
    ∙ ap (λ (lines : List Line). record { state = record (e.state) { ready = moved_behind s.ready cs e.state.ready }; lines = lines }) (append-nil (e.lines ++ map (change_line e.state) cs))

-- each changed thread is there
there-from : (p q : State) (a n m : ℕ) → a + n ≤ m → AllByRecursion (λ (c : CurChange). c.thread < m) (filter_map (new_cur_of p q) (range_with_len a n))
there-from p q a zero m within = tt
there-from p q a (suc n) m within = by_test (not (is_closed (thread_at q a).stage) && has_new_cur p q a) (there-from p q (a + 1) n m (omega (arith, within))) where
  by_test : (c : Bool) → AllByRecursion (λ (d : CurChange). d.thread < m) (filter_map (new_cur_of p q) (range_with_len (a + 1) n)) → AllByRecursion (λ (d : CurChange). d.thread < m) (cons_option (if c then Some (record { thread = a; old = cur p a; new = cur q a }) else None) (filter_map (new_cur_of p q) (range_with_len (a + 1) n)))
  by_test true rest = (omega (arith, within), rest)
  by_test false rest = rest

pub changes-there : (p q : State) → AllByRecursion (λ (c : CurChange). c.thread < length q.threads) (new_curs p q)
changes-there p q = there-from p q 0 (length q.threads) (length q.threads) (omega arith)

-- and there are no more of them than threads
few-from : (p q : State) (a n : ℕ) → length (filter_map (new_cur_of p q) (range_with_len a n)) ≤ n
few-from p q a zero = omega arith
few-from p q a (suc n) = by_test (not (is_closed (thread_at q a).stage) && has_new_cur p q a) (few-from p q (a + 1) n) where
  by_test : (c : Bool) → length (filter_map (new_cur_of p q) (range_with_len (a + 1) n)) ≤ n → length (cons_option (if c then Some (record { thread = a; old = cur p a; new = cur q a }) else None) (filter_map (new_cur_of p q) (range_with_len (a + 1) n))) ≤ suc n
  by_test true rest = omega (arith, rest)
  by_test false rest = omega (arith, rest)

pub changes-few : (p q : State) → length (new_curs p q) ≤ length q.threads
changes-few p q = few-from p q 0 (length q.threads)

-- the tables after another base priority
abbrev pub rebased_tables : MutexTabled → ℕ → ℕ → List CurChange → MutexTabled
rebased_tables v u base cs = record v { threads = with_row v.threads u (λ row. record row { base = base }); ready = moved_behind v.ready cs v.ready }

-- as many threads as before, and no more changes
pub rebased-size : (v new : MutexTabled) (u base : ℕ) (cs : List CurChange) → new ≡ rebased_tables v u base cs → length new.threads ≡ length v.threads
rebased-size v new u base cs is = ap (λ (w : MutexTabled). length w.threads) is ∙ length-set_at v.threads u (record (row_at v.threads u) { base = base })

pub rebased-few : (v new : MutexTabled) (u base : ℕ) (cs : List CurChange) → new ≡ rebased_tables v u base cs → cs ≡ new_curs (plain_state v) (plain_state new) → length cs ≤ length v.threads
rebased-few v new u base cs is told = omega (arith, ap length told, changes-few (plain_state v) (plain_state new), rebased-size v new u base cs is)

-- setprio where there is no such thread
pub prio-missing : (b : PlainBoard) (s : State) (name : List ℕ) (prio : ℕ) → None ≡ find_thread s name → settled b s (set_prio name prio s) ≡ refusal s Code.Inval
prio-missing b s name prio is =
    ap (λ (o : Option ℕ). settled b s (found_outcome o (refusal s Code.Inval) (λ v. silent_success (with_thread s v (record (thread_at s v) { base = prio }))))) (sym is)
    ∙ call-quiet b s (refusal s Code.Inval) (quiet-self s)

-- setprio of a thread that is there, with what follows
pub prio-settled : (b : PlainBoard) (k : KernelState) (new : MutexTabled) (name : List ℕ) (prio u : ℕ) (cs : List CurChange) → find_thread (state_of k) name ≡ Some u
    → AreActive k.tables → AreOnce k.tables.ready → MovesOne k.tables.ready cs → cs ≡ new_curs (plain_state k.tables) (plain_state new) → new ≡ rebased_tables k.tables u prio cs
    → settled b (state_of k) (set_prio name prio (state_of k)) ≡ record { effect = record { state = state_of (record k { tables = new }); lines = map (change_line (state_of (record k { tables = new }))) cs }; answer = Answers Code.Ok }
prio-settled b k new name prio u cs found active once one told is =
    ap (λ (o : Option ℕ). settled b s (found_outcome o (refusal s Code.Inval) act)) found
    ∙ ap (λ (e : Effect). record { effect = e; answer = Answers Code.Ok }) (follows b s (act u).effect cs still once one (told ∙ ap (λ (v : MutexTabled). new_curs (plain_state k.tables) (plain_state v)) is) refl)
    ∙ ap (λ (v : MutexTabled). record { effect = record { state = state_of (record k { tables = v }); lines = map (change_line (state_of (record k { tables = v }))) cs }; answer = Answers Code.Ok }) (sym is)
  where
    s : State
    s = state_of k

    act : ℕ → Outcome
    act v = silent_success (with_thread s v (record (thread_at s v) { base = prio }))

    still : (v : ℕ) → is_among s.ready v ≡ true → is_active (thread_at (act u).effect.state v).stage ≡ true
    still v among = ap is_active (same-set (λ (r : Thread). r.stage) s.threads u v (record (thread_at s u) { base = prio }) no_thread refl) ∙ active v among
