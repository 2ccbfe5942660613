-- What follows where the tables have woken threads.
use Rattle.std.proofs.Common.{◌≡◌, ℕ, suc, ◌+◌, ◌<◌, ◌≤◌, arith, List, [], ◌∷◌, ◌++◌, Bool, true, refl, sym, ap, ◌∙◌, subst, length, map, fold, drop, get_or, bit_and, slice_set, inl, inr, ◌⊎◌}
use Rattle.std.specs.List.{AllByRecursion}
use Rattle.std.proofs.Math.Seq.{drop-cons}
use Rattle.std.proofs.lemmas.Bool.{cases_lt}
use Rattle.std.proofs.lemmas.List.{set-set, set_past, append-nil, append_assoc, map-id}
use Rattle.rt_base.specs.declared.codes.Code.{Code}
use Rattle.rt_base.specs.declared.codes.WaitOrder.{WaitOrder}
use Rattle.rt_plain.specs.declared.line.Line.{Line}
use Rattle.rt_plain.specs.declared.line.Woke.{Woke}
use Rattle.rt_plain.specs.declared.stmt.Call.{Call}
use Rattle.rt_plain.specs.kernel.State.{State, Thread, Active, no_thread, thread_at}
use Rattle.rt_plain.specs.kernel.Effects.{Effect, no_effect, and_then, line_effect, each_effect, wake_effect}
use Rattle.rt_plain.specs.kernel.EventCalls.{Wanting, flags_wake_effect}
use Rattle.rt_plain.specs.kernel.Sound.{is_waiting}
use Rattle.rt_plain.specs.kernel.Waiting.{waiters}
use Rattle.rt_plain.proofs.kernel.Invariant.{is-there, waiting-open}
use Rattle.rt_plain.proofs.kernel.TallyLemmas.{all-weaker, same-set, here-set, length-set_at}
use Rattle.rt_plain.proofs.kernel.WakeLemmas.{waiters-wait}
use Rattle.rt_kernel.specs.declared.state.State.{State as KernelState}
use Rattle.kernel_tables.specs.Tabled.{woken_row, given_row, all_woken, all_given}
use Rattle.mutex_tables.specs.MutexTabled.{MutexTabled}
use Rattle.kernel_tables.specs.Threads.{with_row, row_at}
use Rattle.rt_kernel.specs.View.{state_of}
use Rattle.rt_kernel.specs.Wake.{followed, follow_effect}

-- the state on other tables
abbrev pub on : KernelState → MutexTabled → State
on r k = state_of (record r { tables = k })

-- a change of a row keeps all names
pub row_names : (threads : List Thread) (t u : ℕ) (row : Thread) → row.name ≡ (row_at threads t).name → (row_at (slice_set threads t row) u).name ≡ (row_at threads u).name
row_names threads t u row same = same-set (λ (r : Thread). r.name) threads t u row no_thread same

-- two writes of the row of a thread, the second of what the first wrote
pub written-twice : (threads : List Thread) (t : ℕ) (one : Thread) (change : Thread → Thread) → slice_set (slice_set threads t one) t (change (row_at (slice_set threads t one) t)) ≡ slice_set threads t (change one)
written-twice threads t one change = by_case (cases_lt t (length threads)) where
  by_case : (t < length threads) ⊎ (length threads ≤ t) → slice_set (slice_set threads t one) t (change (row_at (slice_set threads t one) t)) ≡ slice_set threads t (change one)
  by_case (inl there) = set-set threads t one _ ∙ ap (λ (row : Thread). slice_set threads t (change row)) (here-set threads t one no_thread there)
  by_case (inr past) = set-set threads t one _ ∙ set_past threads t _ past ∙ sym (set_past threads t _ past)

-- a thread that wakes is one whose row is woken, with what follows
pub wake-follows : (code : Code) (t : ℕ) (s : State) → wake_effect code t s ≡ follow_effect code t (record s { threads = with_row s.threads t (woken_row code); ready = s.ready ++ t ∷ [] })
wake-follows code t s =
    ap (λ (threads : List Thread). line_effect (followed (record s { threads = threads; ready = s.ready ++ t ∷ [] }) t) (Line.Wake (row_at s.threads t).name (Woke.Code code))) (written-twice s.threads t (record (row_at s.threads t) { code = code }) (λ row. record row { stage = Active }))
    ∙ ap (λ (name : List ℕ). line_effect (followed (record s { threads = with_row s.threads t (woken_row code); ready = s.ready ++ t ∷ [] }) t) (Line.Wake name (Woke.Code code))) (sym (row_names s.threads t t (woken_row code (row_at s.threads t)) refl))

-- the same where it gets flags
pub give-follows : (value t : ℕ) (s : State) → wake_effect Code.Ok t (record s { threads = with_row s.threads t (λ row. record row { value = value }) }) ≡ follow_effect Code.Ok t (record s { threads = with_row s.threads t (given_row value); ready = s.ready ++ t ∷ [] })
give-follows value t s =
    let one : Thread = record (row_at s.threads t) { value = value } in
    wake-follows Code.Ok t (record s { threads = slice_set s.threads t one })
    ∙ ap (λ (threads : List Thread). follow_effect Code.Ok t (record s { threads = threads; ready = s.ready ++ t ∷ [] })) (written-twice s.threads t one (woken_row Code.Ok))

-- changes of rows that keep all names
abbrev pub KeepsNames : {A : Type 0} → (List Thread → A → List Thread) → Type 0
KeepsNames rows = (threads : List Thread) (x : _) (u : ℕ) → (row_at (rows threads x) u).name ≡ (row_at threads u).name

pub fold-names : {A : Type 0} (rows : List Thread → A → List Thread) → KeepsNames rows → (xs : List A) (threads : List Thread) (u : ℕ) → (row_at (fold rows threads xs) u).name ≡ (row_at threads u).name
fold-names rows keeps [] threads u = refl
fold-names rows keeps (x ∷ xs) threads u = fold-names rows keeps xs (rows threads x) u ∙ keeps threads x u

-- threads that wake one after the other are those whose rows are woken first, and who stand last, with what follows for each
pub each-follows : {A : Type 0} (act : A → State → Effect) (code : Code) (key : A → ℕ) (rows : List Thread → A → List Thread) → ((x : A) (s : State) → act x s ≡ follow_effect code (key x) (record s { threads = rows s.threads x; ready = s.ready ++ key x ∷ [] })) → KeepsNames rows
    → (xs : List A) (s : State) → each_effect act xs s ≡ each_effect (λ x. follow_effect code (key x)) xs (record s { threads = fold rows s.threads xs; ready = s.ready ++ map key xs })
each-follows act code key rows same keeps [] s = ap (λ (ready : List ℕ). no_effect (record s { ready = ready })) (sym (append-nil s.ready))
each-follows {A = A} act code key rows same keeps (x ∷ xs) s =
    ap (λ (e : Effect). and_then e (each_effect act xs)) (same x s)
    ∙ ap (λ (e : Effect). record { state = e.state; lines = Line.Wake (row_at one x_is).name (Woke.Code code) ∷ e.lines }) (each-follows act code key rows same keeps xs (followed (record s { threads = one; ready = s.ready ++ x_is ∷ [] }) x_is))
    ∙ ap (λ (name : List ℕ). record { state = (rest ((s.ready ++ x_is ∷ []) ++ map key xs)).state; lines = Line.Wake name (Woke.Code code) ∷ (rest ((s.ready ++ x_is ∷ []) ++ map key xs)).lines }) (sym (fold-names rows keeps xs one x_is))
    ∙ ap (λ (ready : List ℕ). record { state = (rest ready).state; lines = Line.Wake (row_at (fold rows one xs) x_is).name (Woke.Code code) ∷ (rest ready).lines }) (append_assoc s.ready (x_is ∷ []) (map key xs)) where
      one : List Thread
      one = rows s.threads x

      x_is : ℕ
      x_is = key x

      rest : List ℕ → Effect
      rest ready = each_effect (λ (y : A). follow_effect code (key y)) xs (record (followed s x_is) { threads = fold rows one xs; ready = ready })

-- threads that wake with a code
pub wakes-follow : (code : Code) (ts : List ℕ) (s : State) → each_effect (wake_effect code) ts s ≡ each_effect (follow_effect code) ts (record s { threads = all_woken code s.threads ts; ready = s.ready ++ ts })
wakes-follow code ts s = each-follows (wake_effect code) code (λ t. t) (λ threads t. with_row threads t (woken_row code)) (wake-follows code) (λ threads t u. row_names threads t u (woken_row code (row_at threads t)) refl) ts s
    ∙ ap (λ (ready : List ℕ). each_effect (follow_effect code) ts (record s { threads = all_woken code s.threads ts; ready = s.ready ++ ready })) (map-id ts)

each-map : {A B : Type 0} (act : B → State → Effect) (g : A → B) (xs : List A) (s : State) → each_effect act (map g xs) s ≡ each_effect (λ x. act (g x)) xs s
each-map act g [] s = refl
each-map act g (x ∷ xs) s = ap (λ (e : Effect). record { state = e.state; lines = (act (g x) s).lines ++ e.lines }) (each-map act g xs (act (g x) s).state)

fold-map : {A B C : Type 0} (step : C → B → C) (g : A → B) (xs : List A) (c : C) → fold step c (map g xs) ≡ fold (λ c x. step c (g x)) c xs
fold-map step g [] c = refl
fold-map step g (x ∷ xs) c = fold-map step g xs (step c (g x))

-- threads that wake with flags
pub gives-follow : (flags : ℕ) (ws : List Wanting) (s : State)
    → each_effect (flags_wake_effect flags) ws s ≡ each_effect (λ (w : ℕ × ℕ). follow_effect Code.Ok w.0) (map (λ (w : Wanting). (w.thread, bit_and flags w.want.mask)) ws) (record s { threads = all_given s.threads (map (λ (w : Wanting). (w.thread, bit_and flags w.want.mask)) ws); ready = s.ready ++ map (λ (w : ℕ × ℕ). w.0) (map (λ (w : Wanting). (w.thread, bit_and flags w.want.mask)) ws) })
gives-follow flags ws s =
    each-follows (flags_wake_effect flags) Code.Ok (λ (w : Wanting). w.thread) rows (λ w u. give-follows (bit_and flags w.want.mask) w.thread u) (λ threads w u. row_names threads w.thread u (given_row (bit_and flags w.want.mask) (row_at threads w.thread)) refl) ws s
    ∙ ap (λ (threads : List Thread). each_effect (λ (w : Wanting). follow_effect Code.Ok w.thread) ws (record s { threads = threads; ready = s.ready ++ map (λ (w : Wanting). w.thread) ws })) (sym (fold-map (λ (threads : List Thread) (w : ℕ × ℕ). with_row threads w.0 (given_row w.1)) got ws s.threads))
    ∙ ap (λ (ready : List ℕ). each_effect (λ (w : Wanting). follow_effect Code.Ok w.thread) ws (record s { threads = all_given s.threads (map got ws); ready = s.ready ++ ready })) (sym (keys ws))
    ∙ sym (each-map (λ (w : ℕ × ℕ). follow_effect Code.Ok w.0) got ws (record s { threads = all_given s.threads (map got ws); ready = s.ready ++ map (λ (w : ℕ × ℕ). w.0) (map got ws) })) where
      got : Wanting → ℕ × ℕ
      got w = (w.thread, bit_and flags w.want.mask)

      keys : (us : List Wanting) → map (λ (w : ℕ × ℕ). w.0) (map got us) ≡ map (λ (w : Wanting). w.thread) us
      keys [] = refl
      keys (u ∷ us) = ap (λ (ts : List ℕ). u.thread ∷ ts) (keys us)

      rows : List Thread → Wanting → List Thread
      rows threads w = with_row threads w.thread (given_row (bit_and flags w.want.mask))

-- names of threads stay where they wake
pub woken-names : (code : Code) (ts : List ℕ) (threads : List Thread) (u : ℕ) → (row_at (all_woken code threads ts) u).name ≡ (row_at threads u).name
woken-names code ts threads u = fold-names (λ threads t. with_row threads t (woken_row code)) (λ threads t u. row_names threads t u (woken_row code (row_at threads t)) refl) ts threads u

pub given-names : (ws : List (ℕ × ℕ)) (threads : List Thread) (u : ℕ) → (row_at (all_given threads ws) u).name ≡ (row_at threads u).name
given-names ws threads u = fold-names (λ threads (w : ℕ × ℕ). with_row threads w.0 (given_row w.1)) (λ threads w u. row_names threads w.0 u (given_row w.1 (row_at threads w.0)) refl) ws threads u

-- the next of the actions that are left
pub each-next : {A : Type 0} (act : A → State → Effect) (xs : List A) (i : ℕ) (d : A) (s : State) → i < length xs → each_effect act (drop i xs) s ≡ and_then (act (get_or xs i d) s) (each_effect act (drop (i + 1) xs))
each-next act xs i d s within =
    let next : suc i ≡ i + 1 = omega arith in
    ap (λ ys. each_effect act ys s) (drop-cons xs i d within) ∙ ap (λ n. and_then (act (get_or xs i d) s) (each_effect act (drop n xs))) next

-- as many threads as before
pub woken-length : (code : Code) (ts : List ℕ) (threads : List Thread) → length (all_woken code threads ts) ≡ length threads
woken-length code [] threads = refl
woken-length code (t ∷ ts) threads = woken-length code ts (with_row threads t (woken_row code)) ∙ length-set_at threads t (woken_row code (row_at threads t))

pub given-length : (ws : List (ℕ × ℕ)) (threads : List Thread) → length (all_given threads ws) ≡ length threads
given-length [] threads = refl
given-length (w ∷ ws) threads = given-length ws (with_row threads w.0 (given_row w.1)) ∙ length-set_at threads w.0 (given_row w.1 (row_at threads w.0))

-- who waits in a list is there
pub line-there : (s : State) (order : WaitOrder) (p : Call → Bool) → AllByRecursion (λ t. t < length s.threads) (waiters s order p)
line-there s order p =
    all-weaker (λ t. is_waiting (thread_at s t).stage ≡ true) (λ t. t < length s.threads) (waiters s order p) (λ t waits. is-there s.threads t (waiting-open (thread_at s t).stage waits)) (waiters-wait s order p)
