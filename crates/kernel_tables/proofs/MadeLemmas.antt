-- The tie where an object is made, and where one is dropped that nobody waits for.
use Rattle.std.proofs.Common.{◌≡◌, ℕ, suc, ◌<◌, ◌&&◌, ◌||◌, List, [], ◌∷◌, Option, Some, None, Bool, true, false, refl, sym, ap, ◌∙◌, subst, eqb, map, get_or, is_some, slice_get}
use Rattle.std.specs.Prelude.{if◌then◌else◌}
use Rattle.std.specs.Str.{bytes_eq}
use Rattle.std.proofs.lemmas.Bool.{false≢true, eqb-true, eqb-false}
use Rattle.std.proofs.lemmas.Option.{none-some}
use Rattle.rt_plain.specs.declared.stmt.Call.{Call}
use Rattle.rt_plain.specs.kernel.State.{Thread, Stage, Waiting, InCall}
use Rattle.rt_plain.specs.kernel.Waiting.{number_in}
use Rattle.susp_list.specs.Rows.{Waits, line}
use Rattle.object_box.specs.declared.object.Object.{Object}
use Rattle.object_box.specs.Classes.{AllObjects}
use Rattle.object_box.specs.Objects.{ClassObjects, IsSound, has_number, number_of, removed}
use Rattle.ipc_counts.specs.Sent.{want_at}
use Rattle.ipc_counts.specs.declared.want.Want.{Want}
use Rattle.kernel_tables.specs.declared.lists.Lists.{Lists}
use Rattle.ipc_queues.specs.declared.channels.ChannelKind.{ChannelKind}
use Rattle.ipc_queues.specs.declared.ends.End.{End}
use Rattle.kernel_tables.specs.declared.wait_list.WaitList.{WaitList}
use Rattle.kernel_tables.specs.Listed.{wait_row, row_with, waits_in, wants_in, slots_in}
use Rattle.kernel_tables.specs.Threads.{row_at}
use Rattle.kernel_tables.specs.Tied.{AreTied, AreWanted, IsTied}
use Rattle.kernel_tables.specs.WaitLists.{waits_for, list_of, is_same, objects_in, calls_in, calls_on, is_known, is_known_call, is_known_name, is_there}
use Rattle.kernel_tables.proofs.WaitListLemmas.{waits-is, is_on, same-is}
use Rattle.kernel_tables.proofs.TiedLemmas.{tied-same}
use Rattle.kernel_tables.proofs.FoundLemmas.{calls-made, none-there, rows-known, get-row, found-calls, found-below, free-calls, free-removed, calls-removed, there-removed, empty-row, name_same}

-- the objects with one more, which has these lists
abbrev pub IsMade : AllObjects → AllObjects → (WaitList → Bool) → List ℕ → ℕ → Type 0
IsMade a b mine name i = (list : WaitList) → objects_in b list ≡ (if mine list then record (objects_in a list) { objects = record { no = i; name = name } ∷ (objects_in a list).objects } else objects_in a list)

-- the objects without one that has these lists
abbrev pub IsDropped : AllObjects → AllObjects → (WaitList → Bool) → ℕ → Type 0
IsDropped a b mine i = (list : WaitList) → objects_in b list ≡ (if mine list then removed (objects_in a list) i else objects_in a list)

rows-each : (p q : Call → Bool) (threads : List Thread) → ((t : ℕ) → wait_row p (row_at threads t) ≡ wait_row q (row_at threads t)) → map (wait_row p) threads ≡ map (wait_row q) threads
rows-each p q [] same = refl
rows-each p q (x ∷ xs) same = ap (λ row. row ∷ map (wait_row p) xs) (same 0) ∙ ap (λ rows. wait_row q x ∷ rows) (rows-each p q xs (λ t. same (suc t)))

-- the tie where only the objects differ, and no thread's row does
tied-objects : (threads : List Thread) (a b : AllObjects) (waits : WaitList → ℕ → Waits) → AreTied threads a waits → ((list : WaitList) → IsSound (objects_in b list)) → ((list : WaitList) → (objects_in b list).limit ≡ (objects_in a list).limit)
    → ((list : WaitList) (j t : ℕ) → wait_row (calls_in a list j) (row_at threads t) ≡ wait_row (calls_in b list j) (row_at threads t)) → ((t : ℕ) → is_known b (row_at threads t).stage ≡ true) → AreTied threads b waits
tied-objects threads a b waits tied sound limits same known = record {
  sound = sound;
  rows = λ list j within. tied.rows list j (subst (λ n. j < n) (limits list) within) ∙ rows-each (calls_in a list j) (calls_in b list j) threads (same list j);
  known = known;
}

wanted-objects : (threads : List Thread) (a b : AllObjects) (wants : ℕ → List Want) → AreWanted threads a wants → b.event.limit ≡ a.event.limit → ((j t : ℕ) → wait_row (calls_in a WaitList.Event j) (row_at threads t) ≡ wait_row (calls_in b WaitList.Event j) (row_at threads t)) → AreWanted threads b wants
wanted-objects threads a b wants wanted limit same j t within below waits = wanted j t (subst (λ n. j < n) limit within) below (ap is_some (same j t) ∙ waits)

module _ (threads : List Thread) (a b : AllObjects) (waits : WaitList → ℕ → Waits) (mine : WaitList → Bool) (name : List ℕ) (i : ℕ) (tied : AreTied threads a waits) (made : IsMade a b mine name i)
    (none : (list : WaitList) → mine list ≡ true → number_of (objects_in a list).objects name ≡ None) where
  pub made-limits : (list : WaitList) → (objects_in b list).limit ≡ (objects_in a list).limit
  made-limits list = ap (λ (c : ClassObjects). c.limit) (made list) ∙ by_test (mine list) where
    by_test : (c : Bool) → (if c then record (objects_in a list) { objects = record { no = i; name = name } ∷ (objects_in a list).objects } else objects_in a list).limit ≡ (objects_in a list).limit
    by_test true = refl
    by_test false = refl

  -- nobody waits for a name that isn't there
  unknown : (list : WaitList) (call : Call) → mine list ≡ true → is_known_call a call ≡ true → waits_for list name call ≡ false
  unknown list call own known = waits-is list name call ∙ by_list (list_of call) known where
    by_list : (on : Option (WaitList × List ℕ)) → is_known_name a on ≡ true → is_on list name on ≡ false
    by_list None known = refl
    by_list (Some (other, called)) known = by_tests (is_same list other) (bytes_eq called name) refl refl where
      by_tests : (c d : Bool) → is_same list other ≡ c → bytes_eq called name ≡ d → is_same list other && bytes_eq called name ≡ false
      by_tests true true e f =
          absurd (false≢true (
          sym (none-there (objects_in a list).objects name (none list own))
          ∙ ap (λ (l : WaitList). is_there (objects_in a l).objects name) (same-is list other e)
          ∙ ap (is_there (objects_in a other).objects) (sym (name_same called name f))
          ∙ known
          ))
      by_tests true false e f = ap (λ c. is_same list other && c) f ∙ ap (λ c. c && false) e
      by_tests false d e f = ap (λ c. c && bytes_eq called name) e

  calls-same : (list : WaitList) (j : ℕ) (call : Call) → is_known_call a call ≡ true → calls_in a list j call ≡ calls_in b list j call
  calls-same list j call known = sym (ap (λ (c : ClassObjects). calls_on (waits_for list) c.objects j call) (made list) ∙ by_test (mine list) refl) where
    by_test : (c : Bool) → mine list ≡ c → calls_on (waits_for list) (if c then record (objects_in a list) { objects = record { no = i; name = name } ∷ (objects_in a list).objects } else objects_in a list).objects j call ≡ calls_in a list j call
    by_test true own = calls-made (waits_for list) (objects_in a list).objects name i j call (λ at. unknown list call own known)
    by_test false own = refl

  made-row : (list : WaitList) (j t : ℕ) → wait_row (calls_in a list j) (row_at threads t) ≡ wait_row (calls_in b list j) (row_at threads t)
  made-row list j t =
      sym (get-row (calls_in a list j) threads t)
      ∙ ap (λ rows. get_or rows t None) (rows-known a (calls_in a list j) (calls_in b list j) threads tied.known (calls-same list j))
      ∙ get-row (calls_in b list j) threads t

  made-known : (stage : Stage) → is_known a stage ≡ true → is_known b stage ≡ true
  made-known (Waiting (InCall call) number) known = by_list (list_of call) known where
    by_list : (on : Option (WaitList × List ℕ)) → is_known_name a on ≡ true → is_known_name b on ≡ true
    by_list None known = refl
    by_list (Some (other, called)) known = ap (λ (c : ClassObjects). is_there c.objects called) (made other) ∙ by_test (mine other) where
      one : (c : Bool) → c || is_there (objects_in a other).objects called ≡ true
      one true = refl
      one false = known

      by_test : (c : Bool) → is_there (if c then record (objects_in a other) { objects = record { no = i; name = name } ∷ (objects_in a other).objects } else objects_in a other).objects called ≡ true
      by_test true = one (bytes_eq name called)
      by_test false = known
  made-known _ known = known

  pub tied-made : ((list : WaitList) → IsSound (objects_in b list)) → AreTied threads b waits
  tied-made sound = tied-objects threads a b waits tied sound made-limits made-row (λ t. made-known (row_at threads t).stage (tied.known t))

  pub wanted-made : (wants : ℕ → List Want) → AreWanted threads a wants → AreWanted threads b wants
  wanted-made wants wanted = wanted-objects threads a b wants wanted (made-limits WaitList.Event) (made-row WaitList.Event)

-- who waits in no list has no row
off-row : (q : Call → Bool) (row : Thread) → ((call : Call) → q call ≡ false) → wait_row q row ≡ None
off-row q row off = ap (row_with row.base) (by_stage row.stage) where
  by_stage : (stage : Stage) → number_in q stage ≡ None
  by_stage (Waiting (InCall call) number) = ap (λ c. if c then Some number else None) (off call)
  by_stage _ = refl

call-same : (p q : Call → Bool) (row : Thread) → ((call : Call) → p call ≡ q call) → wait_row p row ≡ wait_row q row
call-same p q row same = ap (row_with row.base) (by_stage row.stage) where
  by_stage : (stage : Stage) → number_in p stage ≡ number_in q stage
  by_stage (Waiting (InCall call) number) = ap (λ c. if c then Some number else None) (same call)
  by_stage _ = refl

module _ (threads : List Thread) (a b : AllObjects) (waits : WaitList → ℕ → Waits) (mine : WaitList → Bool) (name : List ℕ) (i : ℕ) (tied : AreTied threads a waits) (dropped : IsDropped a b mine i)
    (here : (list : WaitList) → mine list ≡ true → number_of (objects_in a list).objects name ≡ Some i) (empty : (list : WaitList) → mine list ≡ true → line (waits list i) ≡ []) where
  pub dropped-limits : (list : WaitList) → (objects_in b list).limit ≡ (objects_in a list).limit
  dropped-limits list = ap (λ (c : ClassObjects). c.limit) (dropped list) ∙ by_test (mine list) where
    by_test : (c : Bool) → (if c then removed (objects_in a list) i else objects_in a list).limit ≡ (objects_in a list).limit
    by_test true = refl
    by_test false = refl

  gone : (list : WaitList) (t : ℕ) → mine list ≡ true → wait_row (calls_in a list i) (row_at threads t) ≡ None
  gone list t own = empty-row (calls_in a list i) threads (waits list i) t (tied.rows list i (found-below (objects_in a list) name i (tied.sound list) (here list own))) (empty list own)

  dropped-row : (list : WaitList) (j t : ℕ) → wait_row (calls_in a list j) (row_at threads t) ≡ wait_row (calls_in b list j) (row_at threads t)
  dropped-row list j t = by_test (mine list) refl ∙ sym (ap (λ (c : ClassObjects). wait_row (calls_on (waits_for list) c.objects j) (row_at threads t)) (dropped list)) where
    others : List Object
    others = (removed (objects_in a list) i).objects

    by_number : mine list ≡ true → (d : Bool) → eqb j i ≡ d → wait_row (calls_in a list j) (row_at threads t) ≡ wait_row (calls_on (waits_for list) others j) (row_at threads t)
    by_number own true e =
        let at : j ≡ i = eqb-true j i e in
        ap (λ k. wait_row (calls_in a list k) (row_at threads t)) at
        ∙ gone list t own
        ∙ sym (off-row (calls_on (waits_for list) others j) (row_at threads t) (λ call. free-calls (waits_for list) others j call (ap (has_number others) at ∙ free-removed (objects_in a list).objects i)))
    by_number own false e = call-same (calls_in a list j) (calls_on (waits_for list) others j) (row_at threads t) (λ call. sym (calls-removed (waits_for list) (objects_in a list).objects i j call (eqb-false j i e)))

    by_test : (c : Bool) → mine list ≡ c → wait_row (calls_in a list j) (row_at threads t) ≡ wait_row (calls_on (waits_for list) (if mine list then removed (objects_in a list) i else objects_in a list).objects j) (row_at threads t)
    by_test true own = by_number own (eqb j i) refl ∙ ap (λ c. wait_row (calls_on (waits_for list) (if c then removed (objects_in a list) i else objects_in a list).objects j) (row_at threads t)) (sym own)
    by_test false own = ap (λ c. wait_row (calls_on (waits_for list) (if c then removed (objects_in a list) i else objects_in a list).objects j) (row_at threads t)) (sym own)

  -- who waits for none of the name waits for another that is there
  dropped-known : (base : ℕ) (stage : Stage) → ((list : WaitList) → mine list ≡ true → row_with base (number_in (calls_in a list i) stage) ≡ None) → is_known a stage ≡ true → is_known b stage ≡ true
  dropped-known base (Waiting (InCall call) number) none known = by_list (list_of call) refl known where
    by_list : (on : Option (WaitList × List ℕ)) → list_of call ≡ on → is_known_name a on ≡ true → is_known_name b on ≡ true
    by_list None e known = refl
    by_list (Some (list, called)) e known = ap (λ (c : ClassObjects). is_there c.objects called) (dropped list) ∙ by_test (mine list) refl where
      same-list : (l : WaitList) → is_same l l ≡ true
      same-list WaitList.Sem = refl
      same-list WaitList.Event = refl
      same-list (WaitList.Channel ChannelKind.Mailbox End.Receivers) = refl
      same-list (WaitList.Channel ChannelKind.Mailbox End.Senders) = refl
      same-list (WaitList.Channel ChannelKind.MsgQueue End.Receivers) = refl
      same-list (WaitList.Channel ChannelKind.MsgQueue End.Senders) = refl

      on : (d : Bool) → bytes_eq called name ≡ d → mine list ≡ true → bytes_eq called name ≡ false
      on true f own =
          let waits_so : calls_in a list i call ≡ true = found-calls (objects_in a list) (waits_for list) name i (tied.sound list) (here list own) call ∙ waits-is list name call ∙ ap (is_on list name) e ∙ ap (λ c. c && bytes_eq called name) (same-list list) ∙ f in
          absurd (none-some (record { prio = base; at = number }) (sym (none list own) ∙ ap (λ c. row_with base (if c then Some number else None)) waits_so))
      on false f own = f

      by_test : (c : Bool) → mine list ≡ c → is_there (if c then removed (objects_in a list) i else objects_in a list).objects called ≡ true
      by_test true own = there-removed (objects_in a list) name called i (tied.sound list) (here list own) (on (bytes_eq called name) refl own) known
      by_test false own = known
  dropped-known base _ none known = known

  pub tied-dropped : ((list : WaitList) → IsSound (objects_in b list)) → AreTied threads b waits
  tied-dropped sound = tied-objects threads a b waits tied sound dropped-limits dropped-row (λ t. dropped-known (row_at threads t).base (row_at threads t).stage (λ list own. gone list t own) (tied.known t))

  pub wanted-dropped : (wants : ℕ → List Want) → AreWanted threads a wants → AreWanted threads b wants
  wanted-dropped wants wanted = wanted-objects threads a b wants wanted (dropped-limits WaitList.Event) (dropped-row WaitList.Event)

-- where the waiters of all objects stay
pub record KeepsWaits (l new : Lists) : Type 0 where
  pub slots : (list : WaitList) → slots_in new list ≡ slots_in l list
  pub rows : (list : WaitList) (j : ℕ) → (waits_in new list j).rows ≡ (waits_in l list j).rows
  pub wants : (j : ℕ) → wants_in new j ≡ wants_in l j

wanted-same : (threads : List Thread) (a : AllObjects) (wants new_wants : ℕ → List Want) → ((j : ℕ) → new_wants j ≡ wants j) → AreWanted threads a wants → AreWanted threads a new_wants
wanted-same threads a wants new_wants same wanted j t within below waits = ap (λ (ws : List Want). want_at (slice_get ws t)) (same j) ∙ wanted j t within below waits

pub lists-kept : (threads : List Thread) (l new : Lists) → IsTied threads l → new.objects ≡ l.objects → KeepsWaits l new → IsTied threads new
lists-kept threads l new tied objects keeps = record {
  slots = λ list. keeps.slots list ∙ tied.slots list ∙ ap (λ (a : AllObjects). (objects_in a list).limit) (sym objects);
  lists = subst (λ (a : AllObjects). AreTied threads a (waits_in new)) (sym objects) (tied-same threads l.objects (waits_in l) (waits_in new) (λ list j within. keeps.rows list j) tied.lists);
  wants = subst (λ (a : AllObjects). AreWanted threads a (wants_in new)) (sym objects) (wanted-same threads l.objects (wants_in l) (wants_in new) keeps.wants tied.wants);
}

pub lists-made : (threads : List Thread) (l new : Lists) (mine : WaitList → Bool) (name : List ℕ) (i : ℕ) → IsTied threads l → IsMade l.objects new.objects mine name i → ((list : WaitList) → mine list ≡ true → number_of (objects_in l.objects list).objects name ≡ None)
    → ((list : WaitList) → IsSound (objects_in new.objects list)) → KeepsWaits l new → IsTied threads new
lists-made threads l new mine name i tied made none sound keeps = record {
  slots = λ list. keeps.slots list ∙ tied.slots list ∙ sym (made-limits threads l.objects new.objects (waits_in l) mine name i tied.lists made none list);
  lists = tied-same threads new.objects (waits_in l) (waits_in new) (λ list j within. keeps.rows list j) (tied-made threads l.objects new.objects (waits_in l) mine name i tied.lists made none sound);
  wants = wanted-same threads new.objects (wants_in l) (wants_in new) keeps.wants (wanted-made threads l.objects new.objects (waits_in l) mine name i tied.lists made none (wants_in l) tied.wants);
}

pub lists-dropped : (threads : List Thread) (l new : Lists) (mine : WaitList → Bool) (name : List ℕ) (i : ℕ) → IsTied threads l → IsDropped l.objects new.objects mine i → ((list : WaitList) → mine list ≡ true → number_of (objects_in l.objects list).objects name ≡ Some i)
    → ((list : WaitList) → mine list ≡ true → line (waits_in l list i) ≡ []) → ((list : WaitList) → IsSound (objects_in new.objects list)) → KeepsWaits l new → IsTied threads new
lists-dropped threads l new mine name i tied dropped here empty sound keeps = record {
  slots = λ list. keeps.slots list ∙ tied.slots list ∙ sym (dropped-limits threads l.objects new.objects (waits_in l) mine name i tied.lists dropped here empty list);
  lists = tied-same threads new.objects (waits_in l) (waits_in new) (λ list j within. keeps.rows list j) (tied-dropped threads l.objects new.objects (waits_in l) mine name i tied.lists dropped here empty sound);
  wants = wanted-same threads new.objects (wants_in l) (wants_in new) keeps.wants (wanted-dropped threads l.objects new.objects (waits_in l) mine name i tied.lists dropped here empty (wants_in l) tied.wants);
}
