-- What mutex_take does, and what follows from it, by the edits of the graph.
use Rattle.std.proofs.Common.{ℕ, ◌≡◌, ◌+◌, ◌<◌, suc, List, [], ◌∷◌, Option, Some, None, Bool, true, false, cond, refl, sym, ap, ◌∙◌, eqb, map, length}
use Rattle.std.specs.Prelude.{find, ◌==◌, if◌then◌else◌}
use Rattle.std.specs.Option.{option_map}
use Rattle.std.specs.Str.{bytes_eq}
use Rattle.std.proofs.lemmas.Bool.{eqb-true, eqb-false}
use Rattle.std.proofs.lemmas.Option.{none-some}
use Rattle.rt_plain.specs.declared.stmt.Call.{Call}
use Rattle.rt_plain.specs.kernel.State.{State, Thread, Waiting, InCall, Mutex, Holding, thread_at, is_closed, is_number, no_thread}
use Rattle.rt_plain.specs.kernel.Effects.{waiting_state, Effect}
use Rattle.rt_plain.specs.kernel.Owners.{with_owner}
use Rattle.rt_plain.specs.kernel.Priority.{holding_of}
use Rattle.rt_plain.specs.kernel.MutexCalls.{mutex_take, mutex_take_outcome, hold_more_outcome}
use Rattle.rt_plain.specs.kernel.Outcome.{Outcome, By, ByThread, refusal, silent_success, found_outcome, may_not_wait, wait_outcome, Waits}
use Rattle.rt_base.specs.declared.codes.Code.{Code}
use Rattle.rt_plain.specs.kernel.Ownership.{Ownership, Taken, taken_of, wait_edit, take_edit, with_mutex_got, changes, take_edit_of}
use Rattle.object_box.specs.declared.object.Object.{Object}
use Rattle.object_box.specs.Objects.{ClassObjects, number_of}
use Rattle.mutex_tie.specs.Tie.{plain_mutex, plain_holding, StandsFor}
use Rattle.mutex_tie.proofs.HoldingLemmas.{holding-tied}
use Rattle.rt_plain.specs.declared.line.Line.{Line}
use Rattle.rt_plain.specs.PlainBoard.{PlainBoard}
use Rattle.rt_plain.specs.kernel.Statements.{call_effect, with_next}
use Rattle.rt_plain.specs.kernel.Calls.{settled_effect}
use Rattle.rt_plain.proofs.kernel.TallyLemmas.{other-set, length-set_at}
use Rattle.mutex_tie.specs.Changes.{followed_effect, CameFrom, AreLive}
use Rattle.mutex_tie.proofs.ChangeLemmas.{settled-tied}
use Rattle.mutex_tie.proofs.EditLemmas.{stands-got, stands-waits, stands-kept, stage-kept}

-- the mutex of a name
pub seen-mutex : (cs : List (Option ℕ)) (xs : List Object) (name : List ℕ) → find (λ (m : Mutex). bytes_eq m.name name) (map (plain_mutex cs) xs) ≡ option_map (plain_mutex cs) (find (λ (x : Object). bytes_eq x.name name) xs)
seen-mutex cs [] name = refl
seen-mutex cs (x ∷ xs) name = by_test (bytes_eq x.name name) (seen-mutex cs xs name)
  where
    by_test : (c : Bool) → find (λ (m : Mutex). bytes_eq m.name name) (map (plain_mutex cs) xs) ≡ option_map (plain_mutex cs) (find (λ (x : Object). bytes_eq x.name name) xs)
        → cond c (Some (plain_mutex cs x)) (find (λ (m : Mutex). bytes_eq m.name name) (map (plain_mutex cs) xs)) ≡ option_map (plain_mutex cs) (cond c (Some x) (find (λ (y : Object). bytes_eq y.name name) xs))
    by_test true rest = refl
    by_test false rest = rest

pub found-some : (cs : List (Option ℕ)) (r : Option Object) (i : ℕ) (missing done : Outcome) → option_map (λ (x : Object). x.no) r ≡ Some i → found_outcome (option_map (plain_mutex cs) r) missing (λ m. done) ≡ done
found-some cs None i missing done is = absurd (none-some i is)
found-some cs (Some x) i missing done is = refl

-- what mutex_take is, where the mutex is there
pub take-found : (s : State) (c : ClassObjects) (o : Ownership) (name : List ℕ) (i : ℕ) (timeout : Option ℕ) (by : By) → StandsFor s c o → number_of c.objects name ≡ Some i
    → mutex_take name timeout s by ≡ mutex_take_outcome name (option_map (plain_holding c.objects) (taken_of o i)) timeout s by
take-found s c o name i timeout by tie is =
    ap (λ (m : Option Mutex). found_outcome m (refusal s Code.Inval) (λ mutex. mutex_take_outcome name (holding_of s name) timeout s by)) (ap (find (λ (m : Mutex). bytes_eq m.name name)) tie.mutexes ∙ seen-mutex o.ceilings c.objects name)
    ∙ found-some o.ceilings (find (λ (x : Object). bytes_eq x.name name) c.objects) i (refusal s Code.Inval) (mutex_take_outcome name (holding_of s name) timeout s by) is
    ∙ ap (λ (h : Option Holding). mutex_take_outcome name h timeout s by) (holding-tied s c o name tie ∙ ap (λ (n : Option ℕ). option_map (plain_holding c.objects) (find (λ (h : Taken). is_number h.mutex n) o.taken)) is)

-- a free mutex is got
pub take-free : (s : State) (c : ClassObjects) (o : Ownership) (name : List ℕ) (i t core : ℕ) (timeout : Option ℕ) → StandsFor s c o → number_of c.objects name ≡ Some i → taken_of o i ≡ None
    → mutex_take name timeout s (ByThread t core) ≡ silent_success (with_owner s name t)
take-free s c o name i t core timeout tie is free =
    take-found s c o name i timeout (ByThread t core) tie is ∙ ap (λ (r : Option Taken). mutex_take_outcome name (option_map (plain_holding c.objects) r) timeout s (ByThread t core)) free

-- that of another thread is waited for, where the thread may wait
pub take-waits : (s : State) (c : ClassObjects) (o : Ownership) (name : List ℕ) (i t core : ℕ) (h : Taken) → StandsFor s c o → number_of c.objects name ≡ Some i → taken_of o i ≡ Some h → (h.owner == t) ≡ false → may_not_wait s t core ≡ false
    → mutex_take name None s (ByThread t core) ≡ record { effect = record { state = waiting_state s t (InCall (Call.MutexTake name None)) None; lines = [] }; answer = Waits }
take-waits s c o name i t core h tie is taken other may =
    let call = Call.MutexTake name None in
    take-found s c o name i None (ByThread t core) tie is
    ∙ ap (λ (r : Option Taken). mutex_take_outcome name (option_map (plain_holding c.objects) r) None s (ByThread t core)) taken
    ∙ ap (λ d. if d then hold_more_outcome (plain_holding c.objects h) s else wait_outcome s t core (InCall call) None) other
    ∙ ap (λ d. if d then refusal s Code.Error else record { effect = record { state = waiting_state s t (InCall call) None; lines = [] }; answer = Waits }) may

pub take-waits-until : (s : State) (c : ClassObjects) (o : Ownership) (name : List ℕ) (i t core n : ℕ) (h : Taken) → StandsFor s c o → number_of c.objects name ≡ Some i → taken_of o i ≡ Some h → (h.owner == t) ≡ false → may_not_wait s t core ≡ false
    → mutex_take name (Some (suc n)) s (ByThread t core) ≡ record { effect = record { state = waiting_state s t (InCall (Call.MutexTake name (Some (suc n)))) (Some (s.moment + suc n)); lines = [] }; answer = Waits }
take-waits-until s c o name i t core n h tie is taken other may =
    let call = Call.MutexTake name (Some (suc n)) in
    take-found s c o name i (Some (suc n)) (ByThread t core) tie is
    ∙ ap (λ (r : Option Taken). mutex_take_outcome name (option_map (plain_holding c.objects) r) (Some (suc n)) s (ByThread t core)) taken
    ∙ ap (λ d. if d then hold_more_outcome (plain_holding c.objects h) s else wait_outcome s t core (InCall call) (Some (s.moment + suc n))) other
    ∙ ap (λ d. if d then refusal s Code.Error else record { effect = record { state = waiting_state s t (InCall call) (Some (s.moment + suc n)); lines = [] }; answer = Waits }) may

-- a free mutex is got, and what follows is by the changes of the edit
pub take-settles : (b : PlainBoard) (s : State) (c : ClassObjects) (o : Ownership) (name : List ℕ) (i t k core : ℕ) (timeout : Option ℕ) (line : Option Code → Line) → StandsFor s c o → number_of c.objects name ≡ Some i → taken_of o i ≡ None
    → AreLive (call_effect t line (silent_success (with_owner (with_next s t k) name t))).state
    → settled_effect b s (call_effect t line (mutex_take name timeout (with_next s t k) (ByThread t core))) ≡ followed_effect b s (changes o (take_edit t i o)) (call_effect t line (silent_success (with_owner (with_next s t k) name t)))
take-settles b s c o name i t k core timeout line tie is free live =
    ap (λ (x : Outcome). settled_effect b s (call_effect t line x)) (take-free next c o name i t core timeout begun is free)
    ∙ settled-tied b s e c c o (with_mutex_got i t o) tie ended came live
    ∙ sym (ap (λ (r : Option Taken). followed_effect b s (changes o (take_edit_of t i r o)) e) free)
  where
    next : State
    next = with_next s t k

    got : State
    got = with_owner next name t

    e : Effect
    e = call_effect t line (silent_success got)

    begun : StandsFor next c o
    begun = stands-kept s next c o t (record (thread_at s t) { next = k }) tie refl refl refl refl refl

    ended : StandsFor e.state c (with_mutex_got i t o)
    ended = stands-kept got e.state c (with_mutex_got i t o) t (record (thread_at got t) { code = Code.Ok }) (stands-got next c o name i t begun is) refl refl refl refl refl

    stages : (u : ℕ) → (thread_at e.state u).stage ≡ (thread_at s u).stage
    stages u = stage-kept next.threads t u (record (thread_at next t) { code = Code.Ok }) refl ∙ stage-kept s.threads t u (record (thread_at s t) { next = k }) refl

    came : CameFrom s e.state
    came = record {
      size = sym (length-set_at next.threads t (record (thread_at next t) { code = Code.Ok }) ∙ length-set_at s.threads t (record (thread_at s t) { next = k }));
      ended = λ u h. ap is_closed (sym (stages u)) ∙ h;
    }

-- that of another thread is waited for, and its owner's chain is as the edit has it
pub wait-settles : (b : PlainBoard) (s : State) (c : ClassObjects) (o : Ownership) (name : List ℕ) (i t k core : ℕ) (h : Taken) (line : Option Code → Line) → StandsFor s c o → number_of c.objects name ≡ Some i → taken_of o i ≡ Some h → (h.owner == t) ≡ false
    → may_not_wait (with_next s t k) t core ≡ false → is_closed (thread_at s t).stage ≡ false → t < length s.threads
    → AreLive (waiting_state (with_next s t k) t (InCall (Call.MutexTake name None)) None)
    → settled_effect b s (call_effect t line (mutex_take name None (with_next s t k) (ByThread t core)))
    ≡ followed_effect b s (changes o (wait_edit t i s.numbers o)) (record { state = waiting_state (with_next s t k) t (InCall (Call.MutexTake name None)) None; lines = line None ∷ [] })
wait-settles b s c o name i t k core h line tie is taken other may begins there live =
    ap (λ (x : Outcome). settled_effect b s (call_effect t line x)) (take-waits next c o name i t core h begun is taken other may)
    ∙ settled-tied b s e c c o (wait_edit t i s.numbers o) tie (stands-waits next c o name i t None None begun is open_next) came live
  where
    next : State
    next = with_next s t k

    e : Effect
    e = record { state = waiting_state next t (InCall (Call.MutexTake name None)) None; lines = line None ∷ [] }

    row : Thread
    row = record (thread_at next t) { stage = Waiting (InCall (Call.MutexTake name None)) s.numbers }

    begun : StandsFor next c o
    begun = stands-kept s next c o t (record (thread_at s t) { next = k }) tie refl refl refl refl refl

    next_stage : (u : ℕ) → (thread_at next u).stage ≡ (thread_at s u).stage
    next_stage u = stage-kept s.threads t u (record (thread_at s t) { next = k }) refl

    open_next : is_closed (thread_at next t).stage ≡ false
    open_next = ap is_closed (next_stage t) ∙ begins

    by_case : (u : ℕ) (d : Bool) → eqb u t ≡ d → is_closed (thread_at e.state u).stage ≡ false → is_closed (thread_at s u).stage ≡ false
    by_case u true same h = ap (λ v. is_closed (thread_at s v).stage) (eqb-true u t same) ∙ begins
    by_case u false apart h = ap is_closed (sym (next_stage u)) ∙ sym (ap (λ (r : Thread). is_closed r.stage) (other-set next.threads t u row no_thread (eqb-false u t apart))) ∙ h

    came : CameFrom s e.state
    came = record {
      size = sym (length-set_at next.threads t row ∙ length-set_at s.threads t (record (thread_at s t) { next = k }));
      ended = λ u h. by_case u (eqb u t) refl h;
    }
