-- Threads keep their names, so their numbers stay those of the board's order.
use Rattle.std.proofs.Common.{◌≡◌, ◌≢◌, ℕ, zero, suc, ◌+◌, ◌-◌, ◌<◌, arith, List, [], ◌∷◌, Option, Some, None, Bool, true, false, refl, sym, ap, ◌∙◌, length, map, fold, AllPairs, bytes_eq}
use Rattle.std.specs.Prelude.{slice_get, slice_index_or, unwrap_or, if◌then◌else◌}
use Rattle.std.specs.List.{find}
use Rattle.std.specs.Option.{option_map}
use Rattle.rt_base.specs.declared.codes.Code.{Code}
use Rattle.rt_plain.specs.declared.board.ThreadDef.{ThreadDef}
use Rattle.rt_plain.specs.declared.line.Line.{Line}
use Rattle.rt_plain.specs.PlainBoard.{PlainBoard}
use Rattle.rt_plain.specs.kernel.State.{State, Thread, no_thread, thread_at, with_thread, running_on, find_thread}
use Rattle.rt_plain.specs.kernel.Outcome.{refusal, silent_success, found_outcome}
use Rattle.rt_plain.specs.kernel.ThreadCalls.{set_prio}
use Rattle.rt_plain.specs.kernel.Statements.{script_of, call_effect, with_next}
use Rattle.rt_plain.specs.kernel.Opening.{open_state, unstarted_state, new_script_thread}
use Rattle.rt_plain.specs.kernel.Pick.{pick}
use Rattle.rt_plain.specs.kernel.Steps.{without_mark}
use Rattle.rt_plain.specs.kernel.Effects.{with_ready_last, with_ready_first}
use Rattle.rt_plain.specs.kernel.Ticks.{next_tick_state, with_slice_used, thread_after_slice}
use Rattle.rt_plain.proofs.text.FieldLemmas.{is_word, is_same}
use Rattle.rt_kernel.specs.Mutexes.{HasNoMutex}
use Rattle.rt_kernel.specs.declared.state.State.{State as KernelState}
use Rattle.kernel_tables.specs.Threads.{row_at}
use Rattle.rt_kernel.specs.View.{state_of}
use Rattle.rt_kernel.specs.Built.{IsBuilt}
use Rattle.rt_kernel.specs.IsKernel.{IsInOrder}
use Rattle.rt_kernel.specs.Switched.{switched, switched_by, effect_or, preempt_effect}
use Rattle.rt_kernel.proofs.Quiet.{KeepsNames, name-set}
use Rattle.rt_kernel.proofs.TimersOpened.{auto_started}

-- what keeps all names keeps the order
pub order-kept : (b : PlainBoard) (s u : State) → KeepsNames s u → IsInOrder b s → IsInOrder b u
order-kept b s u names order t def at = names t ∙ order t def at

get-map : {A B : Type 0} (f : A → B) (xs : List A) (t : ℕ) (x : A) (d : B) → slice_get xs t ≡ Some x → slice_index_or (map f xs) t d ≡ f x
get-map f [] t x d is = absurd cc
get-map f (y ∷ ys) zero x d is = ap f (same y x is) where
  same : {A : Type 0} (y x : A) → Some y ≡ Some x → y ≡ x
  same y x e = cc
get-map f (y ∷ ys) (suc t) x d is = get-map f ys t x d is

-- the board's order at its opening
pub opened-order : (b : PlainBoard) (s : State) → IsBuilt b → s ≡ open_state b → IsInOrder b s
unfolding open_state
opened-order b s built is t def at =
    ap (λ (u : State). (thread_at u t).name) is
    ∙ ap (λ (u : State). (thread_at u t).name) (auto_started b.timers (unstarted_state b))
    ∙ rw (built.shell, built.soft) (ap (λ (row : Thread). row.name) (get-map new_script_thread b.threads t def no_thread at))

-- a core that takes a thread
pub switched-names : (s : State) (core : ℕ) → KeepsNames s (effect_or s (switched s core)).state
switched-names s core = by_both (running_on s core) (pick s core) where
  by_mark : (r : ℕ) (c : Bool) → KeepsNames s (if c then with_ready_last (without_mark s r) r else with_ready_first (without_mark s r) r)
  by_mark r true u = name-set s.threads r u (record (thread_at s r) { marked = false }) refl
  by_mark r false u = name-set s.threads r u (record (thread_at s r) { marked = false }) refl

  by_test : (r p : ℕ) (c : Bool) → KeepsNames s (effect_or s (if c then Some (preempt_effect s core r p) else None)).state
  by_test r p true = by_mark r (thread_at s r).marked
  by_test r p false = λ u. refl

  by_both : (r p : Option ℕ) → KeepsNames s (effect_or s (switched_by s core r p)).state
  by_both None None = λ u. refl
  by_both None (Some p) = λ u. refl
  by_both (Some r) None = λ u. refl
  by_both (Some r) (Some p) = by_test r p _

slice-name : (row : Thread) → (thread_after_slice row).name ≡ row.name
slice-name row = by_test _ where
  by_test : (c : Bool) → (if c then record row { left = row.slice; marked = true } else record row { left = row.left - 1 }).name ≡ row.name
  by_test true = refl
  by_test false = refl

-- a tick that begins
pub begun-names : (s : State) → KeepsNames s (next_tick_state s)
begun-names s = by_list s.running (record s { moment = s.moment + 1 }) where
  by_list : (rs : List (Option ℕ)) (s : State) → KeepsNames s (fold with_slice_used s rs)
  by_list [] s u = refl
  by_list (None ∷ rs) s u = by_list rs s u
  by_list (Some t ∷ rs) s u = by_list rs (with_slice_used s (Some t)) u ∙ name-set s.threads t u (thread_after_slice (thread_at s t)) (slice-name (thread_at s t))

-- there is no mutex behind either
pub switched-free : (s : State) (core : ℕ) → HasNoMutex s → HasNoMutex (effect_or s (switched s core)).state
switched-free s core free = by_both (running_on s core) (pick s core) where
  by_mark : (r : ℕ) (c : Bool) → HasNoMutex (if c then with_ready_last (without_mark s r) r else with_ready_first (without_mark s r) r)
  by_mark r true = free
  by_mark r false = free

  by_test : (r p : ℕ) (c : Bool) → HasNoMutex (effect_or s (if c then Some (preempt_effect s core r p) else None)).state
  by_test r p true = by_mark r (thread_at s r).marked
  by_test r p false = free

  by_both : (r p : Option ℕ) → HasNoMutex (effect_or s (switched_by s core r p)).state
  by_both None None = free
  by_both None (Some p) = free
  by_both (Some r) None = free
  by_both (Some r) (Some p) = by_test r p _

pub begun-free : (s : State) → HasNoMutex s → HasNoMutex (next_tick_state s)
begun-free s free = by_list s.running (record s { moment = s.moment + 1 }) free where
  by_list : (rs : List (Option ℕ)) (u : State) → HasNoMutex u → HasNoMutex (fold with_slice_used u rs)
  by_list [] u free = free
  by_list (None ∷ rs) u free = by_list rs u free
  by_list (Some t ∷ rs) u free = by_list rs (with_slice_used u (Some t)) free

-- setprio by a statement of a thread
pub prio-names : (s : State) (t k : ℕ) (line : Option Code → Line) (name : List ℕ) (prio : ℕ) → KeepsNames s (call_effect t line (set_prio name prio (with_next s t k))).state
prio-names s t k line name prio = by_found (find_thread next name) where
  next : State
  next = with_next s t k

  by_found : (o : Option ℕ) → KeepsNames s (call_effect t line (found_outcome o (refusal next Code.Inval) (λ u. silent_success (with_thread next u (record (thread_at next u) { base = prio }))))).state
  by_found None v = name-set next.threads t v (record (thread_at next t) { code = Code.Inval }) refl ∙ name-set s.threads t v (record (thread_at s t) { next = k }) refl
  by_found (Some u) v =
      let mid : State = with_thread next u (record (thread_at next u) { base = prio }) in
      name-set mid.threads t v (record (thread_at mid t) { code = Code.Ok }) refl ∙ name-set next.threads u v (record (thread_at next u) { base = prio }) refl ∙ name-set s.threads t v (record (thread_at s t) { next = k }) refl

-- there is no mutex behind it
pub prio-free : (s : State) (t k : ℕ) (line : Option Code → Line) (name : List ℕ) (prio : ℕ) → HasNoMutex s → HasNoMutex (call_effect t line (set_prio name prio (with_next s t k))).state
prio-free s t k line name prio free = by_found (find_thread next name) where
  next : State
  next = with_next s t k

  by_found : (o : Option ℕ) → HasNoMutex (call_effect t line (found_outcome o (refusal next Code.Inval) (λ u. silent_success (with_thread next u (record (thread_at next u) { base = prio }))))).state
  by_found None = free
  by_found (Some u) = free

same-def : (one other : ThreadDef) → Some one ≡ Some other → one ≡ other
same-def one other e = cc

get-there : (defs : List ThreadDef) (t : ℕ) (def d : ThreadDef) → slice_get defs t ≡ Some def → (t < length defs) × (slice_index_or defs t d ≡ def)
get-there [] t def d at = absurd cc
get-there (first ∷ defs) zero def d at = (omega arith, same-def first def at)
get-there (first ∷ defs) (suc t) def d at = let rest = get-there defs t def d at in (omega (arith, rest.0), rest.1)

-- the definition of a name that one definition alone has
own-def : (defs : List ThreadDef) (t : ℕ) (def : ThreadDef) → AllPairs (λ (one other : ThreadDef). one.name ≢ other.name) defs → slice_get defs t ≡ Some def → find (λ (other : ThreadDef). bytes_eq other.name def.name) defs ≡ Some def
own-def [] t def apart at = absurd cc
own-def (first ∷ defs) zero def apart at = ap (λ (x : ThreadDef). find (λ (other : ThreadDef). bytes_eq other.name def.name) (x ∷ defs)) (same-def first def at) ∙ ap (λ c. if c then Some def else find (λ (other : ThreadDef). bytes_eq other.name def.name) defs) (is_same def.name)
own-def (first ∷ defs) (suc t) def apart at = by_test (bytes_eq first.name def.name) refl (own-def defs t def (λ i j d before within. apart (suc i) (suc j) d (omega (arith, before)) (omega (arith, within))) at) where
  there : (t < length defs) × (slice_index_or defs t def ≡ def)
  there = get-there defs t def def at

  by_test : (c : Bool) → bytes_eq first.name def.name ≡ c → find (λ (other : ThreadDef). bytes_eq other.name def.name) defs ≡ Some def → (if c then Some first else find (λ (other : ThreadDef). bytes_eq other.name def.name) defs) ≡ Some def
  by_test true is rest = absurd (apart 0 (suc t) def (omega arith) (omega (arith, there.0)) (is_word first.name def.name is ∙ ap (λ (x : ThreadDef). x.name) (sym there.1)))
  by_test false is rest = rest

-- the script of a thread is that of the definition with its number
own-script : (b : PlainBoard) (s : State) (t : ℕ) (def : ThreadDef) → AllPairs (λ (one other : ThreadDef). one.name ≢ other.name) b.threads → IsInOrder b s → slice_get b.threads t ≡ Some def → script_of b (thread_at s t).name ≡ def.script
own-script b s t def apart order at =
    ap (script_of b) (order t def at)
    ∙ ap (λ (o : Option ThreadDef). unwrap_or (option_map (λ (x : ThreadDef). x.script) o) []) (own-def b.threads t def apart at)

get-here : (defs : List ThreadDef) (t : ℕ) (d : ThreadDef) → t < length defs → slice_get defs t ≡ Some (slice_index_or defs t d)
get-here [] t d within = absurd (omega (arith, within))
get-here (first ∷ defs) zero d within = refl
get-here (first ∷ defs) (suc t) d within = get-here defs t d (omega (arith, within))

pub script_here : (b : PlainBoard) (s : KernelState) (t : ℕ) (d : ThreadDef) → t < length b.threads → AllPairs (λ (one other : ThreadDef). one.name ≢ other.name) b.threads → IsInOrder b (state_of s) → (slice_index_or b.threads t d).script ≡ script_of b (row_at s.tables.threads t).name
script_here b s t d within apart order = sym (own-script b (state_of s) t (slice_index_or b.threads t d) apart order (get-here b.threads t d within))
