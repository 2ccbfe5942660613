-- The objects of a board are made one after the other.
use Rattle.std.proofs.Common.{◌≡◌, ◌≢◌, ℕ, zero, suc, ◌+◌, ◌<◌, ◌≤◌, arith, is_some, List, [], ◌∷◌, Result, Ok, Err, None, Bool, true, false, refl, sym, ap, ◌∙◌, subst, length, map, take, reverse, get_or, add-one}
use Rattle.std.specs.List.{AllPairs, find}
use Rattle.std.specs.Str.{bytes_eq}
use Rattle.std.proofs.lemmas.List.{map_more, reverse-append, length-reverse, length-map, length-take-le, take_all}
use Rattle.object_box.specs.declared.fault.Make.{Make}
use Rattle.object_box.specs.declared.fault.Make.TheVariants.{Taken, ClassFull}
use Rattle.rt_plain.specs.declared.board.SemDef.{SemDef}
use Rattle.rt_plain.specs.declared.board.EventDef.{EventDef}
use Rattle.rt_plain.specs.declared.board.MailboxDef.{MailboxDef}
use Rattle.rt_plain.specs.declared.board.QueueDef.{QueueDef}
use Rattle.rt_plain.specs.kernel.State.{Sem, EventObj, Mailbox, MsgQueue}
use Rattle.rt_plain.specs.kernel.Opening.{new_sem, new_event, new_mailbox, new_queue}
use Rattle.rt_plain.proofs.text.FieldLemmas.{is_word}
use Rattle.kernel_tables.specs.Opened.{MayCreateSems, MayCreateEvents, MayCreateMailboxes, MayCreateQueues}
use Rattle.kernel_tables.specs.Tabled.{Tabled, CreatesSem, CreatesEvent, CreatesMailbox, CreatesQueue, found_sem, found_event, found_mailbox, found_queue}

-- those of the first definitions, newest first
abbrev made_of : {D O : Type 0} → (D → O) → List D → ℕ → List O
made_of make defs i = reverse (map make (take i defs))

one_more : {D O : Type 0} (make : D → O) (defs : List D) (i : ℕ) (d : D) → i < length defs → made_of make defs (i + 1) ≡ make (get_or defs i d) ∷ made_of make defs i
one_more make defs i d there = ap reverse (map_more make defs i d there) ∙ reverse-append (map make (take i defs)) (make (get_or defs i d) ∷ [])

count-made : {D O : Type 0} (make : D → O) (defs : List D) (i : ℕ) → i ≤ length defs → length (made_of make defs i) ≡ i
count-made make defs i le = length-reverse (map make (take i defs)) ∙ length-map (take i defs) make ∙ length-take-le i defs le

other_word : (a b : List ℕ) → a ≢ b → bytes_eq a b ≡ false
other_word a b ne = by_test (bytes_eq a b) refl where
  by_test : (c : Bool) → bytes_eq a b ≡ c → bytes_eq a b ≡ false
  by_test true e = absurd (ne (is_word a b e))
  by_test false e = e

find_past : {A : Type 0} (p : A → Bool) (x : A) (xs : List A) → p x ≡ false → find p xs ≡ None → find p (x ∷ xs) ≡ None
find_past p x xs fails none = rw fails none

-- none of them has the name of the next one
unmade : {D O : Type 0} (make : D → O) (name_of : O → List ℕ) (defs : List D) (i : ℕ) (d : D) → AllPairs (λ a c. name_of (make a) ≢ name_of (make c)) defs → i < length defs → d ≡ get_or defs i d → (k : ℕ) → k ≤ i
    → find (λ o. bytes_eq (name_of o) (name_of (make d))) (made_of make defs k) ≡ None
unmade make name_of defs i d own there is zero le = refl
unmade {D} {O} make name_of defs i d own there is (suc k) le =
    let p : O → Bool = λ o. bytes_eq (name_of o) (name_of (make d)) in
    let apart : name_of (make (get_or defs k d)) ≢ name_of (make d) = subst (λ x. name_of (make (get_or defs k d)) ≢ name_of (make x)) (sym is) (own k i d (omega (arith, le)) there) in
    let none = find_past p (make (get_or defs k d)) (made_of make defs k) (other_word _ _ apart) (unmade make name_of defs i d own there is k (omega (arith, le))) in
    subst (λ n. find p (made_of make defs n) ≡ None) (add-one k) (subst (λ os. find p os ≡ None) (sym (one_more make defs k d (omega (arith, le, there)))) none)

-- a semaphore is made where its name is new and there is room
sem_made : (old new : Tabled) (sem : Sem) (r : Result Unit Make) → CreatesSem old new sem r → found_sem old.sems sem.name ≡ None → length old.sems < old.sem_limit → new ≡ record old { sems = sem ∷ old.sems }
sem_made old new sem (Ok done) made none room = made.1.1
sem_made old new sem (Err (Taken number)) made none room = let missing : is_some (found_sem old.sems sem.name) ≡ false = ap is_some none in absurd (cc (made.0, missing))
sem_made old new sem (Err (ClassFull limit)) made none room = absurd (omega (arith, made.1.0, room))

event_made : (old new : Tabled) (event : EventObj) (r : Result Unit Make) → CreatesEvent old new event r → found_event old.events event.name ≡ None → length old.events < old.event_limit → new ≡ record old { events = event ∷ old.events }
event_made old new event (Ok done) made none room = made.1.1
event_made old new event (Err (Taken number)) made none room = let missing : is_some (found_event old.events event.name) ≡ false = ap is_some none in absurd (cc (made.0, missing))
event_made old new event (Err (ClassFull limit)) made none room = absurd (omega (arith, made.1.0, room))

mailbox_made : (old new : Tabled) (mailbox : Mailbox) (r : Result Unit Make) → CreatesMailbox old new mailbox r → found_mailbox old.mailboxes mailbox.name ≡ None → length old.mailboxes < old.mailbox_limit → new ≡ record old { mailboxes = mailbox ∷ old.mailboxes }
mailbox_made old new mailbox (Ok done) made none room = made.1.1
mailbox_made old new mailbox (Err (Taken number)) made none room = let missing : is_some (found_mailbox old.mailboxes mailbox.name) ≡ false = ap is_some none in absurd (cc (made.0, missing))
mailbox_made old new mailbox (Err (ClassFull limit)) made none room = absurd (omega (arith, made.1.0, room))

queue_made : (old new : Tabled) (queue : MsgQueue) (r : Result Unit Make) → CreatesQueue old new queue r → found_queue old.queues queue.name ≡ None → length old.queues < old.queue_limit → new ≡ record old { queues = queue ∷ old.queues }
queue_made old new queue (Ok done) made none room = made.1.1
queue_made old new queue (Err (Taken number)) made none room = let missing : is_some (found_queue old.queues queue.name) ≡ false = ap is_some none in absurd (cc (made.0, missing))
queue_made old new queue (Err (ClassFull limit)) made none room = absurd (omega (arith, made.1.0, room))

-- one semaphore of the board more
pub sems_more : (k old new : Tabled) (defs : List SemDef) (i : ℕ) (def : SemDef) (sem : Sem) (r : Result Unit Make) → MayCreateSems k defs → old ≡ record k { sems = reverse (map new_sem (take i defs)) } → i < length defs → def ≡ get_or defs i def → sem ≡ new_sem def → CreatesSem old new sem r
    → new ≡ record k { sems = reverse (map new_sem (take (i + 1) defs)) }
sems_more k old new defs i def sem r may before there is same creates =
    let now = record k { sems = made_of new_sem defs i } in
    let made : CreatesSem now new (new_sem def) r = subst (λ o. CreatesSem o new (new_sem def) r) before (subst (λ s. CreatesSem old new s r) same creates) in
    let count = count-made new_sem defs i (omega (arith, there)) in
    sem_made now new (new_sem def) r made (unmade new_sem (λ (s : Sem). s.name) defs i def may.names there is i (omega arith)) (omega (arith, may.room, count, there))
    ∙ ap (λ (sems : List Sem). record k { sems = sems }) (ap (λ d. new_sem d ∷ made_of new_sem defs i) is ∙ sym (one_more new_sem defs i def there))

pub events_more : (k old new : Tabled) (defs : List EventDef) (i : ℕ) (def : EventDef) (event : EventObj) (r : Result Unit Make) → MayCreateEvents k defs → old ≡ record k { events = reverse (map new_event (take i defs)) } → i < length defs → def ≡ get_or defs i def → event ≡ new_event def → CreatesEvent old new event r
    → new ≡ record k { events = reverse (map new_event (take (i + 1) defs)) }
events_more k old new defs i def event r may before there is same creates =
    let now = record k { events = made_of new_event defs i } in
    let made : CreatesEvent now new (new_event def) r = subst (λ o. CreatesEvent o new (new_event def) r) before (subst (λ s. CreatesEvent old new s r) same creates) in
    let count = count-made new_event defs i (omega (arith, there)) in
    event_made now new (new_event def) r made (unmade new_event (λ (e : EventObj). e.name) defs i def may.names there is i (omega arith)) (omega (arith, may.room, count, there))
    ∙ ap (λ (events : List EventObj). record k { events = events }) (ap (λ d. new_event d ∷ made_of new_event defs i) is ∙ sym (one_more new_event defs i def there))

pub mailboxes_more : (k old new : Tabled) (defs : List MailboxDef) (i : ℕ) (def : MailboxDef) (mailbox : Mailbox) (r : Result Unit Make) → MayCreateMailboxes k defs → old ≡ record k { mailboxes = reverse (map new_mailbox (take i defs)) } → i < length defs → def ≡ get_or defs i def → mailbox ≡ new_mailbox def → CreatesMailbox old new mailbox r
    → new ≡ record k { mailboxes = reverse (map new_mailbox (take (i + 1) defs)) }
mailboxes_more k old new defs i def mailbox r may before there is same creates =
    let now = record k { mailboxes = made_of new_mailbox defs i } in
    let made : CreatesMailbox now new (new_mailbox def) r = subst (λ o. CreatesMailbox o new (new_mailbox def) r) before (subst (λ s. CreatesMailbox old new s r) same creates) in
    let count = count-made new_mailbox defs i (omega (arith, there)) in
    mailbox_made now new (new_mailbox def) r made (unmade new_mailbox (λ (e : Mailbox). e.name) defs i def may.names there is i (omega arith)) (omega (arith, may.room, count, there))
    ∙ ap (λ (mailboxes : List Mailbox). record k { mailboxes = mailboxes }) (ap (λ d. new_mailbox d ∷ made_of new_mailbox defs i) is ∙ sym (one_more new_mailbox defs i def there))

pub queues_more : (k old new : Tabled) (defs : List QueueDef) (i : ℕ) (def : QueueDef) (queue : MsgQueue) (r : Result Unit Make) → MayCreateQueues k defs → old ≡ record k { queues = reverse (map new_queue (take i defs)) } → i < length defs → def ≡ get_or defs i def → queue ≡ new_queue def → CreatesQueue old new queue r
    → new ≡ record k { queues = reverse (map new_queue (take (i + 1) defs)) }
queues_more k old new defs i def queue r may before there is same creates =
    let now = record k { queues = made_of new_queue defs i } in
    let made : CreatesQueue now new (new_queue def) r = subst (λ o. CreatesQueue o new (new_queue def) r) before (subst (λ s. CreatesQueue old new s r) same creates) in
    let count = count-made new_queue defs i (omega (arith, there)) in
    queue_made now new (new_queue def) r made (unmade new_queue (λ (e : MsgQueue). e.name) defs i def may.names there is i (omega arith)) (omega (arith, may.room, count, there))
    ∙ ap (λ (queues : List MsgQueue). record k { queues = queues }) (ap (λ d. new_queue d ∷ made_of new_queue defs i) is ∙ sym (one_more new_queue defs i def there))

-- all of them
pub sems_all : (k : Tabled) (defs : List SemDef) (i : ℕ) → length defs ≤ i → record k { sems = reverse (map new_sem (take i defs)) } ≡ record k { sems = reverse (map new_sem defs) }
sems_all k defs i le = ap (λ ds. record k { sems = reverse (map new_sem ds) }) (take_all i defs le)

pub events_all : (k : Tabled) (defs : List EventDef) (i : ℕ) → length defs ≤ i → record k { events = reverse (map new_event (take i defs)) } ≡ record k { events = reverse (map new_event defs) }
events_all k defs i le = ap (λ ds. record k { events = reverse (map new_event ds) }) (take_all i defs le)

pub mailboxes_all : (k : Tabled) (defs : List MailboxDef) (i : ℕ) → length defs ≤ i → record k { mailboxes = reverse (map new_mailbox (take i defs)) } ≡ record k { mailboxes = reverse (map new_mailbox defs) }
mailboxes_all k defs i le = ap (λ ds. record k { mailboxes = reverse (map new_mailbox ds) }) (take_all i defs le)

pub queues_all : (k : Tabled) (defs : List QueueDef) (i : ℕ) → length defs ≤ i → record k { queues = reverse (map new_queue (take i defs)) } ≡ record k { queues = reverse (map new_queue defs) }
queues_all k defs i le = ap (λ ds. record k { queues = reverse (map new_queue ds) }) (take_all i defs le)
