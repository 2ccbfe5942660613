-- What the calls on event objects do, by what the tables do.
use Rattle.std.proofs.Common.{◌≡◌, ◌++◌, ℕ, ◌<◌, ◌≤◌, List, Option, Some, None, Bool, true, false, refl, sym, ap, ◌∙◌, subst, length, map, filter, not, is_some, bit_and, bit_or, if◌then◌else◌}
use Rattle.std.specs.List.{AllByRecursion}
use Rattle.std.specs.Option.{option_map}
use Rattle.std.specs.Str.{bytes_eq}
use Rattle.rt_base.specs.declared.codes.Code.{Code}
use Rattle.rt_plain.specs.declared.stmt.Call.{Call}
use Rattle.rt_plain.specs.kernel.State.{State, EventObj, thread_at}
use Rattle.rt_plain.specs.kernel.Effects.{each_effect}
use Rattle.rt_plain.specs.kernel.Waiting.{waiters, receives_event}
use Rattle.rt_plain.specs.kernel.Outcome.{By, First, Outcome, refusal, success, found_outcome, wait_or_refusal}
use Rattle.rt_plain.specs.kernel.EventCalls.{Want, Wanting, is_satisfied, want_of, with_event, event_recv, event_recv_outcome, event_send, event_send_outcome, satisfied_waiters, flags_left, wanting_threads}
use Rattle.rt_plain.specs.kernel.DeleteCall.{deletion_outcome, event_deletion}
use Rattle.rt_plain.proofs.text.FieldLemmas.{is_word}
use Rattle.rt_plain.proofs.text.StatementTableLemmas.{find_some}
use Rattle.rt_plain.proofs.kernel.TallyLemmas.{all-map, all-filter}
use Rattle.rt_kernel.specs.declared.state.State.{State as KernelState}
use Rattle.kernel_tables.specs.Tabled.{found_event, flags_got, events_received, all_woken}
use Rattle.mutex_tables.specs.Woken.{sent_to, woken_on}
use Rattle.mutex_tables.specs.MutexTabled.{MutexTabled}
use Rattle.kernel_tables.specs.Threads.{row_at}
use Rattle.rt_kernel.specs.View.{state_of}
use Rattle.rt_kernel.specs.Wake.{follow_effect}
use Rattle.rt_kernel.proofs.WakeLemmas.{on, wakes-follow, gives-follow, given-names, given-length, line-there}

-- what is found by a name has it
pub found-name : (events : List EventObj) (name : List ℕ) (event : EventObj) → found_event events name ≡ Some event → event.name ≡ name
found-name events name event is = is_word event.name name (find_some (λ (o : EventObj). bytes_eq o.name name) events event is)

-- no flags are got where they don't satisfy
not-satisfied : (want : Want) (event : EventObj) → flags_got want event ≡ None → is_satisfied event.flags want ≡ false
not-satisfied want event e = by_test (is_satisfied event.flags want) e where
  by_test : (c : Bool) → (if c then Some (bit_and event.flags want.mask) else None) ≡ None → c ≡ false
  by_test true e = absurd cc
  by_test false e = refl

some-got : (o : Option ℕ) → Some o ≡ Some None → o ≡ None
some-got o e = cc

-- a receiver that isn't satisfied leaves the event objects
pub none-received : (events : List EventObj) (want : Want) (o : Option EventObj) → option_map (flags_got want) o ≡ Some None → events_received events want o ≡ events
none-received events want None e = absurd cc
none-received events want (Some event) e = rw (not-satisfied want event (some-got (flags_got want event) e)) refl

-- and waits
pub receives_later : (s : State) (name copy : List ℕ) (want : Want) (timeout : Option ℕ) (by : By) → copy ≡ name → option_map (flags_got want) (found_event s.events name) ≡ Some None
    → wait_or_refusal s by First (Call.EventRecv copy want.mask want.all want.clear timeout) timeout Code.Timeout ≡ event_recv name want timeout s by
receives_later s name copy want timeout by same e = ap (λ (n : List ℕ). waits n) same ∙ sym (by_found (found_event s.events name) refl e) where
  waits : List ℕ → Outcome
  waits n = wait_or_refusal s by First (Call.EventRecv n want.mask want.all want.clear timeout) timeout Code.Timeout

  by_found : (o : Option EventObj) → found_event s.events name ≡ o → option_map (flags_got want) o ≡ Some None
      → found_outcome o (refusal s Code.Inval) (λ event. event_recv_outcome event want timeout s by) ≡ waits name
  by_found None is e = absurd cc
  by_found (Some event) is e = rw (not-satisfied want event (some-got (flags_got want event) e)) (ap waits (found-name s.events name event is))

-- what a deletion does, and that those who wake are there
pub event-deletes : (s : State) (name : List ℕ) (woken : List ℕ) → true ≡ is_some (found_event s.events name) → ((event : EventObj) → found_event s.events name ≡ Some event → woken ≡ waiters s event.order (receives_event event.name))
    → (event_deletion name s ≡ success (each_effect (follow_effect Code.Error) woken (record s { threads = all_woken Code.Error s.threads woken; ready = s.ready ++ woken; events = filter (λ o. not (bytes_eq o.name name)) s.events }))) × AllByRecursion (λ t. t < length s.threads) woken
event-deletes s name woken there are = by_found (found_event s.events name) refl there where
  left : State
  left = record s { events = filter (λ o. not (bytes_eq o.name name)) s.events }

  by_found : (o : Option EventObj) → found_event s.events name ≡ o → true ≡ is_some o
      → (found_outcome o (refusal s Code.Inval) (λ event. deletion_outcome left (waiters s event.order (receives_event name))) ≡ success (each_effect (follow_effect Code.Error) woken (record left { threads = all_woken Code.Error s.threads woken; ready = s.ready ++ woken }))) × AllByRecursion (λ t. t < length s.threads) woken
  by_found None is some = absurd cc
  by_found (Some event) is some = (ap (deletion_outcome left) listed ∙ ap success (wakes-follow Code.Error woken left), subst (AllByRecursion (λ t. t < length s.threads)) (sym (are event is)) (line-there s event.order (receives_event event.name))) where
    listed : waiters s event.order (receives_event name) ≡ woken
    listed = ap (λ (n : List ℕ). waiters s event.order (receives_event n)) (sym (found-name s.events name event is)) ∙ sym (are event is)

-- what a send leaves, and what follows from it
pub record IsSent (r : KernelState) (new : MutexTabled) (name : List ℕ) (mask : ℕ) (woken : List (ℕ × ℕ)) : Type 0 where
  pub names : (v : ℕ) → (row_at new.threads v).name ≡ (row_at r.tables.threads v).name
  pub count : length new.threads ≡ length r.tables.threads
  pub there : AllByRecursion (λ (w : ℕ × ℕ). w.0 < length r.tables.threads) woken
  pub few : length woken ≤ length r.tables.threads
  pub does : event_send name mask (state_of r) ≡ success (each_effect (λ (w : ℕ × ℕ). follow_effect Code.Ok w.0) woken (on r new))

woken-there : (r : KernelState) (event : EventObj) (mask : ℕ) → AllByRecursion (λ (w : ℕ × ℕ). w.0 < length r.tables.threads) (woken_on r.tables event mask)
woken-there r event mask =
    let s : State = state_of r in
    all-map (λ (w : ℕ × ℕ). w.0 < length s.threads) (λ (w : Wanting). (w.thread, bit_and (bit_or event.flags mask) w.want.mask)) (satisfied_waiters (bit_or event.flags mask) (wanting_threads s event))
    (all-filter (λ (w : Wanting). w.thread < length s.threads) (λ (w : Wanting). is_satisfied (bit_or event.flags mask) w.want) (wanting_threads s event)
    (all-map (λ (w : Wanting). w.thread < length s.threads) _ (waiters s event.order (receives_event event.name)) (line-there s event.order (receives_event event.name))))

pub event-sends : (r : KernelState) (new : MutexTabled) (name : List ℕ) (mask : ℕ) (woken : List (ℕ × ℕ)) → true ≡ is_some (found_event r.tables.events name)
    → ((event : EventObj) → found_event r.tables.events name ≡ Some event → woken ≡ woken_on r.tables event mask)
    → ((event : EventObj) → found_event r.tables.events name ≡ Some event → new ≡ sent_to r.tables event mask)
    → ((event : EventObj) → found_event r.tables.events name ≡ Some event → length woken ≤ length r.tables.threads)
    → IsSent r new name mask woken
event-sends r new name mask woken there are left few = by_found (found_event r.tables.events name) refl there where
  s : State
  s = state_of r

  by_found : (o : Option EventObj) → found_event r.tables.events name ≡ o → true ≡ is_some o → IsSent r new name mask woken
  by_found None is some = absurd cc
  by_found (Some event) is some = record {
    names = λ v. ap (λ (k : MutexTabled). (row_at k.threads v).name) (left event is) ∙ given-names (woken_on r.tables event mask) s.threads v;
    count = ap (λ (k : MutexTabled). length k.threads) (left event is) ∙ given-length (woken_on r.tables event mask) s.threads;
    there = subst (AllByRecursion (λ (w : ℕ × ℕ). w.0 < length s.threads)) (sym (are event is)) (woken-there r event mask);
    few = few event is;
    does = ap (λ (o : Option EventObj). found_outcome o (refusal s Code.Inval) (λ x. event_send_outcome x mask s)) is
        ∙ ap success (gives-follow flags (satisfied_waiters flags (wanting_threads s event)) put)
        ∙ ap (λ (k : MutexTabled). success (each_effect (λ (w : ℕ × ℕ). follow_effect Code.Ok w.0) (woken_on r.tables event mask) (on r k))) (sym (left event is))
        ∙ ap (λ (ws : List (ℕ × ℕ)). success (each_effect (λ (w : ℕ × ℕ). follow_effect Code.Ok w.0) ws (on r new))) (sym (are event is));
  } where
    flags : ℕ
    flags = bit_or event.flags mask

    put : State
    put = with_event s (record event { flags = flags_left flags (wanting_threads s event) })
