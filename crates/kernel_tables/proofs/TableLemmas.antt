-- What the calls of the tables leave.
use Rattle.std.proofs.Common.{◌≡◌, ℕ, zero, suc, ◌<◌, ◌||◌, List, [], ◌∷◌, Option, Some, None, Bool, true, false, refl, sym, ap, ◌∙◌, subst, length, map, slice_get, slice_set, is_some, IfSome, cond, find}
use Rattle.std.specs.Option.{option_map}
use Rattle.std.specs.Str.{bytes_eq}
use Rattle.std.proofs.lemmas.List.{length-map, length-set}
use Rattle.std.proofs.lemmas.Bool.{false≢true}
use Rattle.std.proofs.lemmas.Option.{same_Some}
use Rattle.rt_plain.specs.declared.stmt.Call.{Call}
use Rattle.rt_plain.specs.kernel.State.{Thread, Stage, Active, Waiting, InCall, Sem, EventObj, Mailbox, MsgQueue, no_thread}
use Rattle.rt_plain.specs.kernel.Waiting.{number_in}
use Rattle.rt_plain.specs.kernel.EventCalls.{want_of, want_of_call}
use Rattle.susp_list.specs.Rows.{Waits, holds, is_waiting, with_prio}
use Rattle.susp_list.specs.declared.row.Row.{Row as WaitRow}
use Rattle.object_box.specs.declared.object.Object.{Object}
use Rattle.object_box.specs.Classes.{AllObjects}
use Rattle.object_box.specs.Objects.{number_of, IsSound}
use Rattle.ipc_counts.specs.Flags.{plain_want}
use Rattle.ipc_counts.specs.Sent.{want_at}
use Rattle.ipc_counts.specs.declared.want.Want.{Want}
use Rattle.kernel_tables.specs.declared.lists.Lists.{Lists}
use Rattle.kernel_tables.specs.declared.wait_list.WaitList.{WaitList}
use Rattle.kernel_tables.specs.Listed.{wait_row, row_with, waits_in, wants_in, waits_with, left, moved, joined, plain_sem, plain_event, plain_mailbox, plain_queue, want_in, IsRelisted, IsJoined, IsShownAs, event_in, Holds, MayJoin}
use Rattle.kernel_tables.specs.Tabled.{is_unlisted, knows}
use Rattle.kernel_tables.specs.Threads.{row_at}
use Rattle.kernel_tables.specs.Tied.{AreTied, AreWanted, IsTied, tabled}
use Rattle.kernel_tables.specs.WaitLists.{list_of, is_at, objects_in, number_at, list_at, calls_in, is_known_call, is_there}
use Rattle.kernel_tables.proofs.WaitListLemmas.{row-is, row-none, unlisted-at, unlisted-known, number_for, at-is, at-itself}
use Rattle.kernel_tables.proofs.TiedLemmas.{tied-at, tied-same, tied-kept, wanted-changed, row-got, set-here}
use Rattle.kernel_tables.proofs.FoundLemmas.{found-below}
use Rattle.kernel_tables.proofs.ListChangeLemmas.{IsWithin, relisted-waits, relisted-slots, relisted-wants, joined-waits, joined-slots, joined-others}

-- a change of a thread that no wait list sees
pub stage-kept : (threads : List Thread) (l : Lists) (t : ℕ) (row : Thread) → IsTied threads l → t < length threads → row.base ≡ (row_at threads t).base → row.stage ≡ (row_at threads t).stage → IsTied (slice_set threads t row) l
stage-kept threads l t row tied there base stage = record {
  slots = tied.slots;
  lists = tied-kept threads l.objects (waits_in l) t row tied.lists there base stage;
  wants = wanted-changed threads l.objects (wants_in l) (wants_in l) t row tied.wants there (λ i u apart. refl) (λ i within some. tied.wants i t within there (ap is_some (sym (same (calls_in l.objects WaitList.Event i))) ∙ some) ∙ ap want_of (sym stage));
} where
  same : (p : Call → Bool) → wait_row p row ≡ wait_row p (row_at threads t)
  same p = ap (λ prio. row_with prio (number_in p row.stage)) base ∙ ap (λ (st : Stage). row_with (row_at threads t).base (number_in p st)) stage

-- the list of a thread is there, and holds it
if-some : {A : Type 0} (o : Option A) (P : A → Type 0) → ((x : A) → o ≡ Some x → P x) → IfSome o P
if-some None P each = tt
if-some (Some x) P each = each x refl

number-within : (a : AllObjects) (on : Option (WaitList × List ℕ)) (list : WaitList) (i : ℕ) → ((m : WaitList) → IsSound (objects_in a m)) → number_at a on ≡ Some (list, i) → i < (objects_in a list).limit
number-within a None list i sound is = absurd cc
number-within a (Some (other, name)) list i sound is = by_number (number_of (objects_in a other).objects name) refl is where
  by_number : (n : Option ℕ) → number_of (objects_in a other).objects name ≡ n → option_map {U = WaitList × ℕ} (λ j. (other, j)) n ≡ Some (list, i) → i < (objects_in a list).limit
  by_number None e is = absurd cc
  by_number (Some j) e is = let both : (other, j) ≡ (list, i) = same_Some (other, j) (list, i) is in subst (λ (p : WaitList × ℕ). p.1 < (objects_in a p.0).limit) both (found-below (objects_in a other) name j (sound other) e)

at-within : (a : AllObjects) (stage : Stage) (list : WaitList) (i : ℕ) → ((m : WaitList) → IsSound (objects_in a m)) → list_at a stage ≡ Some (list, i) → i < (objects_in a list).limit
at-within a (Waiting (InCall call) number) list i sound is = number-within a (list_of call) list i sound is
at-within a _ list i sound is = absurd cc

waits-there : (a : AllObjects) (stage : Stage) (at : WaitList × ℕ) → list_at a stage ≡ Some at → is_some (number_for true stage) ≡ true
waits-there a (Waiting what number) at is = refl
waits-there a _ at is = absurd cc

waits-if : (base : ℕ) (number : Option ℕ) → is_some number ≡ true → is_waiting (Some (row_with base number)) ≡ true
waits-if base None is = absurd (false≢true is)
waits-if base (Some number) is = refl

pub within-tied : (threads : List Thread) (l : Lists) (on : Option (WaitList × List ℕ)) → IsTied threads l → IsWithin l (number_at l.objects on)
within-tied threads l on tied = if-some (number_at l.objects on) _ (λ p is. subst (λ n. p.1 < n) (sym (tied.slots p.0)) (number-within l.objects on p.0 p.1 tied.lists.sound is))

pub stage-within : (threads : List Thread) (l : Lists) (stage : Stage) → IsTied threads l → IsWithin l (list_at l.objects stage)
stage-within threads l (Waiting (InCall call) number) tied = within-tied threads l (list_of call) tied
stage-within threads l _ tied = tt

pub holds-tied : (threads : List Thread) (l : Lists) (t : ℕ) → IsTied threads l → t < length threads → Holds l (list_at l.objects (row_at threads t).stage) t
holds-tied threads l t tied there = if-some (list_at l.objects stage) _ (λ p is. let within = at-within l.objects stage p.0 p.1 tied.lists.sound is in (subst (λ n. p.1 < n) (sym (tied.slots p.0)) within, held p is within)) where
  stage : Stage
  stage = (row_at threads t).stage

  held : (p : WaitList × ℕ) → list_at l.objects stage ≡ Some p → p.1 < (objects_in l.objects p.0).limit → holds (waits_in l p.0 p.1) t ≡ true
  held p is within =
      ap is_waiting (ap (λ (rows : List (Option WaitRow)). slice_get rows t) (tied.lists.rows p.0 p.1 within) ∙ row-got (calls_in l.objects p.0 p.1) threads t there)
      ∙ ap (λ (row : Option WaitRow). is_waiting (Some row)) (row-is l.objects p.0 p.1 (row_at threads t) (tied.lists.sound p.0)
      ∙ ap (λ c. row_with (row_at threads t).base (number_for c stage)) (ap (is_at p.0 p.1) is ∙ at-itself p.0 p.1))
      ∙ waits-if (row_at threads t).base (number_for true stage) (waits-there l.objects stage p is)

-- a thread leaves its list
pub tied-left : (threads : List Thread) (l new : Lists) (t : ℕ) (row : Thread) → IsTied threads l → t < length threads → IsRelisted l new (list_at l.objects (row_at threads t).stage) (left t) → is_unlisted row.stage ≡ true → IsTied (slice_set threads t row) new
tied-left threads l new t row tied there is free = record {
  slots = λ list. relisted-slots l new at (left t) is list ∙ tied.slots list ∙ ap (λ (a : AllObjects). (objects_in a list).limit) (sym is.objects);
  lists = subst (λ (a : AllObjects). AreTied (slice_set threads t row) a (waits_in new)) (sym is.objects) (tied-same (slice_set threads t row) a (waits_with at (left t) (waits_in l)) (waits_in new) (λ list i within. ap (λ (w : Waits). w.rows) (relisted-waits l new at (left t) (λ w. refl) is (stage-within threads l (row_at threads t).stage tied) list i)) lists);
  wants = subst (λ (a : AllObjects). AreWanted (slice_set threads t row) a (wants_in new)) (sym is.objects) (wanted-changed threads a (wants_in l) (wants_in new) t row tied.wants there (λ i u apart. ap (λ (ws : List Want). slice_get ws u) (relisted-wants l new at (left t) is i)) (λ i within some. absurd (false≢true (ap is_some (sym (none WaitList.Event i)) ∙ some))));
} where
  a : AllObjects
  a = l.objects

  at : Option (WaitList × ℕ)
  at = list_at a (row_at threads t).stage

  none : (list : WaitList) (i : ℕ) → wait_row (calls_in a list i) row ≡ None
  none list i = row-none a list i row (tied.lists.sound list) (ap (is_at list i) (unlisted-at a row.stage free))

  lists : AreTied (slice_set threads t row) a (waits_with at (left t) (waits_in l))
  lists = tied-at threads a (waits_in l) t row tied.lists there at (left t) (unlisted-known a row.stage free)
      (λ list i within on. ap (slice_set (waits_in l list i).rows t) (sym (none list i)))
      (λ list i off. none list i ∙ sym (row-none a list i (row_at threads t) (tied.lists.sound list) off))

moved-row : (prio base : ℕ) (number : Option ℕ) → with_prio (Some (row_with base number)) prio ≡ row_with prio number
moved-row prio base None = refl
moved-row prio base (Some number) = refl

some-row : (one other : ℕ) (number : Option ℕ) → is_some (row_with one number) ≡ is_some (row_with other number)
some-row one other None = refl
some-row one other (Some number) = refl

-- a thread gets another base priority
pub tied-moved : (threads : List Thread) (l new : Lists) (t prio : ℕ) → IsTied threads l → t < length threads → IsRelisted l new (list_at l.objects (row_at threads t).stage) (moved t prio) → IsTied (slice_set threads t (record (row_at threads t) { base = prio })) new
tied-moved threads l new t prio tied there is = record {
  slots = λ list. relisted-slots l new at (moved t prio) is list ∙ tied.slots list ∙ ap (λ (a : AllObjects). (objects_in a list).limit) (sym is.objects);
  lists = subst (λ (a : AllObjects). AreTied (slice_set threads t row) a (waits_in new)) (sym is.objects) (tied-same (slice_set threads t row) a (waits_with at (moved t prio) (waits_in l)) (waits_in new) (λ list i within. ap (λ (w : Waits). w.rows) (relisted-waits l new at (moved t prio) (λ w. refl) is (stage-within threads l old.stage tied) list i)) lists);
  wants = subst (λ (a : AllObjects). AreWanted (slice_set threads t row) a (wants_in new)) (sym is.objects) (wanted-changed threads a (wants_in l) (wants_in new) t row tied.wants there (λ i u apart. ap (λ (ws : List Want). slice_get ws u) (relisted-wants l new at (moved t prio) is i))
      (λ i within some. ap (λ (ws : List Want). want_at (slice_get ws t)) (relisted-wants l new at (moved t prio) is i) ∙ tied.wants i t within there (some-row old.base prio (number_in (calls_in a WaitList.Event i) old.stage) ∙ some)));
} where
  a : AllObjects
  a = l.objects

  old : Thread
  old = row_at threads t

  row : Thread
  row = record old { base = prio }

  at : Option (WaitList × ℕ)
  at = list_at a old.stage

  moves : (list : WaitList) (i : ℕ) → i < (objects_in a list).limit → (moved t prio (waits_in l list i)).rows ≡ slice_set (waits_in l list i).rows t (wait_row (calls_in a list i) row)
  moves list i within =
      ap (λ (o : Option (Option WaitRow)). slice_set (waits_in l list i).rows t (with_prio o prio)) (ap (λ (rows : List (Option WaitRow)). slice_get rows t) (tied.lists.rows list i within) ∙ row-got (calls_in a list i) threads t there)
      ∙ ap (slice_set (waits_in l list i).rows t) (moved-row prio old.base (number_in (calls_in a list i) old.stage))

  lists : AreTied (slice_set threads t row) a (waits_with at (moved t prio) (waits_in l))
  lists = tied-at threads a (waits_in l) t row tied.lists there at (moved t prio) (tied.lists.known t)
      (λ list i within on. moves list i within)
      (λ list i off. row-none a list i row (tied.lists.sound list) off ∙ sym (row-none a list i old (tied.lists.sound list) off))

want-is : (call : Call) → plain_want (want_in call) ≡ want_of_call call
want-is (Call.EventRecv name mask all clear timeout) = refl
want-is _ = refl

-- a thread that waited for nothing goes into the list of a call
pub tied-joined : (threads : List Thread) (l new : Lists) (t : ℕ) (call : Call) (number : ℕ) → IsTied threads l → t < length threads → is_unlisted (row_at threads t).stage ≡ true → is_known_call l.objects call ≡ true
    → IsJoined l new (number_at l.objects (list_of call)) t (record { prio = (row_at threads t).base; at = number }) (want_in call)
    → IsTied (slice_set threads t (record (row_at threads t) { stage = Waiting (InCall call) number })) new
tied-joined threads l new t call number tied there free known is = record {
  slots = λ list. joined-slots l new at t waiter (want_in call) is list ∙ tied.slots list ∙ ap (λ (a : AllObjects). (objects_in a list).limit) (sym is.objects);
  lists = subst (λ (a : AllObjects). AreTied (slice_set threads t row) a (waits_in new)) (sym is.objects) (tied-same (slice_set threads t row) a (waits_with at (joined t waiter) (waits_in l)) (waits_in new) (λ list i within. ap (λ (w : Waits). w.rows) (joined-waits l new at t waiter (want_in call) is (within-tied threads l (list_of call) tied) list i)) lists);
  wants = subst (λ (a : AllObjects). AreWanted (slice_set threads t row) a (wants_in new)) (sym is.objects) (wanted-changed threads a (wants_in l) (wants_in new) t row tied.wants there (joined-others l new at t waiter (want_in call) is) (λ i within some. wanted i within (is_at WaitList.Event i at) refl some));
} where
  a : AllObjects
  a = l.objects

  at : Option (WaitList × ℕ)
  at = number_at a (list_of call)

  old : Thread
  old = row_at threads t

  row : Thread
  row = record old { stage = Waiting (InCall call) number }

  waiter : WaitRow
  waiter = record { prio = old.base; at = number }

  lists : AreTied (slice_set threads t row) a (waits_with at (joined t waiter) (waits_in l))
  lists = tied-at threads a (waits_in l) t row tied.lists there at (joined t waiter) known
      (λ list i within on. ap (slice_set (waits_in l list i).rows t) (sym (row-is a list i row (tied.lists.sound list) ∙ ap (λ c. row_with old.base (number_for c row.stage)) on)))
      (λ list i off. row-none a list i row (tied.lists.sound list) off ∙ sym (row-none a list i old (tied.lists.sound list) (ap (is_at list i) (unlisted-at a old.stage free))))

  wanted : (i : ℕ) → i < a.event.limit → (c : Bool) → is_at WaitList.Event i at ≡ c → is_some (wait_row (calls_in a WaitList.Event i) row) ≡ true → want_at (slice_get (wants_in new i) t) ≡ want_of row.stage
  wanted i within true on some =
      ap want_at (subst (λ (o : Option (WaitList × ℕ)). IfSome (event_in o) (λ k. slice_get (wants_in new k) t ≡ Some (want_in call))) (at-is WaitList.Event i at on) is.wanted)
      ∙ want-is call
  wanted i within false off some = absurd (false≢true (ap is_some (sym (row-none a WaitList.Event i row (tied.lists.sound WaitList.Event) off)) ∙ some))

-- after a thread has left its wait, its stage says that it waits for no object
pub set-twice : {A : Type 0} (xs : List A) (t : ℕ) (x y : A) → slice_set (slice_set xs t x) t y ≡ slice_set xs t y
set-twice [] t x y = refl
set-twice (z ∷ zs) zero x y = refl
set-twice {A = A} (z ∷ zs) (suc t) x y = ap (λ (ws : List A). z ∷ ws) (set-twice zs t x y)

-- a call on an object that is shown is on an object that is there
there-shown : {A : Type 0} (plain : Object → A) (name_of : A → List ℕ) → ((o : Object) → name_of (plain o) ≡ o.name) → (objects : List Object) (name : List ℕ) → is_some (find (λ x. bytes_eq (name_of x) name) (map plain objects)) ≡ is_there objects name
there-shown plain name_of named [] name = refl
there-shown {A = A} plain name_of named (o ∷ os) name = ap (λ (n : List ℕ). is_some (cond (bytes_eq n name) (Some (plain o)) (find (λ (x : A). bytes_eq (name_of x) name) (map plain os)))) (named o) ∙ by_test (bytes_eq o.name name) (there-shown plain name_of named os name) where
  by_test : (c : Bool) → is_some (find (λ (x : A). bytes_eq (name_of x) name) (map plain os)) ≡ is_there os name → is_some (cond c (Some (plain o)) (find (λ (x : A). bytes_eq (name_of x) name) (map plain os))) ≡ c || is_there os name
  by_test true rest = refl
  by_test false rest = rest

pub knows-is : (threads : List Thread) (l : Lists) (call : Call) → knows (tabled threads l) call ≡ is_known_call l.objects call
knows-is threads l (Call.SemTake name timeout) = there-shown (plain_sem l.sems.items) (λ (x : Sem). x.name) (λ o. refl) l.objects.sem.objects name
knows-is threads l (Call.EventRecv name mask all clear timeout) = there-shown (plain_event l.events.items) (λ (x : EventObj). x.name) (λ o. refl) l.objects.event.objects name
knows-is threads l (Call.MbSend name word timeout) = there-shown (plain_mailbox l.channels) (λ (x : Mailbox). x.name) (λ o. refl) l.objects.mailbox.objects name
knows-is threads l (Call.MbRecv name timeout) = there-shown (plain_mailbox l.channels) (λ (x : Mailbox). x.name) (λ o. refl) l.objects.mailbox.objects name
knows-is threads l (Call.MqSend name timeout message) = there-shown (plain_queue l.channels) (λ (x : MsgQueue). x.name) (λ o. refl) l.objects.msgqueue.objects name
knows-is threads l (Call.MqRecv name timeout) = there-shown (plain_queue l.channels) (λ (x : MsgQueue). x.name) (λ o. refl) l.objects.msgqueue.objects name
knows-is threads l _ = refl

-- the tables whose objects show the same
pub tabled-same : (threads rows : List Thread) (l new : Lists) → rows ≡ threads → IsShownAs l new → tabled rows new ≡ tabled threads l
tabled-same threads rows l new same shown =
    ap (λ (a : AllObjects). record { threads = rows; ready = []; cores = 0; levels = 0; sems = map (plain_sem new.sems.items) a.sem.objects; events = map (plain_event new.events.items) a.event.objects; mailboxes = map (plain_mailbox new.channels) a.mailbox.objects; queues = map (plain_queue new.channels) a.msgqueue.objects; sem_limit = a.sem.limit; event_limit = a.event.limit; mailbox_limit = a.mailbox.limit; queue_limit = a.msgqueue.limit }) shown.objects
    ∙ (λ k. record { threads = same k; ready = []; cores = 0; levels = 0; sems = shown.sems k; events = shown.events k; mailboxes = shown.mailboxes k; queues = shown.queues k; sem_limit = l.objects.sem.limit; event_limit = l.objects.event.limit; mailbox_limit = l.objects.mailbox.limit; queue_limit = l.objects.msgqueue.limit })

-- a thread that has left its wait may join a list
may-join : (threads : List Thread) (l : Lists) (t : ℕ) (call : Call) → IsTied threads l → t < length threads → is_unlisted (row_at threads t).stage ≡ true → MayJoin l (number_at l.objects (list_of call)) t
may-join threads l t call tied there free = if-some (number_at l.objects (list_of call)) _ (λ p is. let within = number-within l.objects (list_of call) p.0 p.1 tied.lists.sound is in (subst (λ n. p.1 < n) (sym (tied.slots p.0)) within, (room p.0 p.1 within, off p.0 p.1 within))) where
  room : (list : WaitList) (i : ℕ) → i < (objects_in l.objects list).limit → t < length (waits_in l list i).rows
  room list i within = subst (λ n. t < n) (sym (ap length (tied.lists.rows list i within) ∙ length-map threads (wait_row (calls_in l.objects list i)))) there

  off : (list : WaitList) (i : ℕ) → i < (objects_in l.objects list).limit → holds (waits_in l list i) t ≡ false
  off list i within =
      ap is_waiting (ap (λ (rows : List (Option WaitRow)). slice_get rows t) (tied.lists.rows list i within) ∙ row-got (calls_in l.objects list i) threads t there)
      ∙ ap (λ (o : Option WaitRow). is_waiting (Some o)) (row-none l.objects list i (row_at threads t) (tied.lists.sound list) (ap (is_at list i) (unlisted-at l.objects (row_at threads t).stage free)))

-- a thread that has left its wait stands as an active one
abbrev pub free_row : List Thread → ℕ → Thread
free_row threads t = record (row_at threads t) { stage = Active }

free-row-is : (rows : List Thread) (t : ℕ) → t < length rows → row_at (slice_set rows t (free_row rows t)) t ≡ free_row rows t
free-row-is rows t there = set-here rows t (free_row rows t) no_thread there

still-there : (rows : List Thread) (t : ℕ) → t < length rows → t < length (slice_set rows t (free_row rows t))
still-there rows t there = subst (λ n. t < n) (sym (length-set rows t (free_row rows t))) there

pub left-may-join : (rows : List Thread) (new : Lists) (t : ℕ) (call : Call) → t < length rows → IsTied (slice_set rows t (free_row rows t)) new → MayJoin new (number_at new.objects (list_of call)) t
left-may-join rows new t call there tied = may-join (slice_set rows t (free_row rows t)) new t call tied (still-there rows t there) (ap (λ (x : Thread). is_unlisted x.stage) (free-row-is rows t there))

pub joined-lists : (rows : List Thread) (gone new : Lists) (t : ℕ) (call : Call) (prio number : ℕ) → IsTied (slice_set rows t (free_row rows t)) gone → t < length rows → prio ≡ (row_at rows t).base → is_known_call gone.objects call ≡ true
    → IsJoined gone new (number_at gone.objects (list_of call)) t (record { prio = prio; at = number }) (want_in call)
    → IsTied (slice_set rows t (record (row_at rows t) { stage = Waiting (InCall call) number })) new
joined-lists rows gone new t call prio number tied there base known is =
    let free : List Thread = slice_set rows t (free_row rows t) in
    let same : row_at free t ≡ free_row rows t = free-row-is rows t there in
    let prio_is : prio ≡ (row_at free t).base = base ∙ ap (λ (x : Thread). x.base) (sym same) in
    let joins = subst (λ n. IsJoined gone new (number_at gone.objects (list_of call)) t (record { prio = n; at = number }) (want_in call)) prio_is is in
    subst (λ (xs : List Thread). IsTied xs new) (ap (λ (x : Thread). slice_set free t (record x { stage = Waiting (InCall call) number })) same ∙ set-twice rows t (free_row rows t) (record (row_at rows t) { stage = Waiting (InCall call) number }))
    (tied-joined free gone new t call number tied (still-there rows t there) (ap (λ (x : Thread). is_unlisted x.stage) same) known joins)
