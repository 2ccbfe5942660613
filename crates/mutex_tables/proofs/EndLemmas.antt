-- Those who wait at the ends of mailboxes and message queues.
use Rattle.std.proofs.Common.{ℕ, ◌≡◌, ◌<◌, ◌++◌, ◌∷◌, [], List, Option, Some, None, IfSome, Bool, true, false, refl, sym, ap, ◌∙◌, subst, length, is_some}
use Rattle.std.specs.Bool.{OnFalse, OnTrue}
use Rattle.std.specs.List.{AllByRecursion}
use Rattle.std.proofs.lemmas.Bool.{OnTrue_at, OnTrue_from, OnFalse_at}
use Rattle.rt_base.specs.declared.codes.Code.{Code}
use Rattle.rt_base.specs.declared.codes.WaitOrder.{WaitOrder}
use Rattle.rt_plain.specs.declared.stmt.Call.{Call}
use Rattle.rt_plain.specs.kernel.State.{Thread, Mailbox, MsgQueue}
use Rattle.rt_plain.specs.kernel.Waiting.{receives_mail, sends_mail, receives_message, sends_message}
use Rattle.ipc_queues.specs.declared.ends.End.{End}
use Rattle.kernel_tables.specs.Repeated.{is_repeated}
use Rattle.kernel_tables.specs.Tabled.{Tabled, all_woken, found_mailbox, found_queue, line_of, mail_line, message_line, woken_row}
use Rattle.kernel_tables.specs.Tabled as Below
use Rattle.kernel_tables.specs.Threads.{row_at}
use Rattle.mutex_tables.specs.declared.tables.MutexTables.TheInside.{Inside}
use Rattle.mutex_tables.specs.MutexTabled.{MutexTabled}
use Rattle.mutex_tables.specs.Kept.{AreMutexTables}
use Rattle.mutex_tables.specs.Woken.{mail_waiters, message_waiters, without_mailbox, without_queue}
use Rattle.mutex_tables.proofs.BaseLemmas.{based-stage, length-based}
use Rattle.mutex_tables.proofs.SeenLemmas.{view_of, Keeps, keeps-same}
use Rattle.mutex_tables.proofs.LineLemmas.{TakesNoMutex, WaitsIn, line-seen, line-waits}
use Rattle.mutex_tables.proofs.ObjectLemmas.{all-woken-based, by-found, itself, off-all, seen_by, woken-wakes}
use Rattle.mutex_tables.proofs.WokenLemmas.{IsOff, changed-keeps}

-- the first of a list is there
pub first-there : (k : Inside) (v : MutexTabled) (r : Option ℕ) → view_of k ≡ v → IfSome r (λ t. t < length k.tables.threads) → IfSome r (λ t. t < length v.threads)
first-there k v r is there = subst (λ n. IfSome r (λ t. t < n)) (sym (length-based k.bases.items k.tables.threads) ∙ ap (λ (x : MutexTabled). length x.threads) is) there

-- and waits in a call that it makes again
pub first-repeats : (k : Inside) (v : MutexTabled) (r : Option ℕ) → view_of k ≡ v → IfSome r (λ t. is_repeated (row_at k.tables.threads t).stage ≡ true) → IfSome r (λ t. is_repeated (row_at v.threads t).stage ≡ true)
first-repeats k v None is waits = tt
first-repeats k v (Some t) is waits = subst (λ (x : MutexTabled). is_repeated (row_at x.threads t).stage ≡ true) is (ap is_repeated (based-stage k.bases.items k.tables.threads t) ∙ waits)

all-both : (P : ℕ → Type 0) (ts us : List ℕ) → AllByRecursion P ts → AllByRecursion P us → AllByRecursion P (ts ++ us)
all-both P [] us one two = two
all-both P (t ∷ ts) us (this, one) two = (this, all-both P ts us one two)

-- the tables with those of two wait lists awake
ends-woken-keeps : (k : Inside) (new : Tabled) (order : WaitOrder) (p q : Call → Bool) (ts : List ℕ) → Keeps k → TakesNoMutex p → TakesNoMutex q → ts ≡ line_of k.tables.threads order p ++ line_of k.tables.threads order q → new.threads ≡ all_woken Code.Error k.tables.threads ts → new.levels ≡ k.tables.levels
    → AreMutexTables new k.bases.items k.names.mutex k.graph
ends-woken-keeps k new order p q ts keeps none noone is threads levels =
    changed-keeps itself (λ t. woken_row Code.Error) k.tables new k.bases.items k.names.mutex k.graph ts (λ t. woken-wakes Code.Error)
    (subst (AllByRecursion (λ t. IsOff k.tables.threads t)) (sym is)
    (all-both (λ t. IsOff k.tables.threads t) (line_of k.tables.threads order p) (line_of k.tables.threads order q)
    (off-all k.tables.threads p (line_of k.tables.threads order p) none (line-waits k.tables.threads order p))
    (off-all k.tables.threads q (line_of k.tables.threads order q) noone (line-waits k.tables.threads order q))))
    keeps threads levels

-- who waits at an end of a mailbox
pub mail-seen : (k : Inside) (v : MutexTabled) (mailbox : Mailbox) (end : End) → view_of k ≡ v → Keeps k → mail_line k.tables.threads mailbox end ≡ mail_waiters v mailbox end
mail-seen k v mailbox End.Receivers is keeps = line-seen k v mailbox.order (receives_mail mailbox.name) is keeps
mail-seen k v mailbox End.Senders is keeps = line-seen k v mailbox.order (sends_mail mailbox.name) is keeps

pub mail-seens : (k : Inside) (v : MutexTabled) (mailbox : Mailbox) → view_of k ≡ v → Keeps k → mail_line k.tables.threads mailbox End.Receivers ++ mail_line k.tables.threads mailbox End.Senders ≡ mail_waiters v mailbox End.Receivers ++ mail_waiters v mailbox End.Senders
mail-seens k v mailbox is keeps =
    ap (λ (ts : List ℕ). ts ++ mail_line k.tables.threads mailbox End.Senders) (mail-seen k v mailbox End.Receivers is keeps)
    ∙ ap (λ (ts : List ℕ). mail_waiters v mailbox End.Receivers ++ ts) (mail-seen k v mailbox End.Senders is keeps)

no-mutex-receives_mail : (name : List ℕ) → TakesNoMutex (receives_mail name)
no-mutex-receives_mail name mutex timeout = refl

no-mutex-sends_mail : (name : List ℕ) → TakesNoMutex (sends_mail name)
no-mutex-sends_mail name mutex timeout = refl

-- what its deletion answers and leaves, as the tables below have it
pub record DeletesMailbox (old new : Tabled) (name woken : List ℕ) (answer : Bool) : Type 0 where
  pub answered : answer ≡ is_some (found_mailbox old.mailboxes name)
  pub missing : OnFalse answer (new ≡ old)
  pub waiters_are : (mailbox : Mailbox) → found_mailbox old.mailboxes name ≡ Some mailbox → woken ≡ mail_line old.threads mailbox End.Receivers ++ mail_line old.threads mailbox End.Senders
  pub state : OnTrue answer (new ≡ Below.without_mailbox old name woken)

pub mailbox-deleted-keeps : (k : Inside) (new : Tabled) (name woken : List ℕ) (answer : Bool) → Keeps k → DeletesMailbox k.tables new name woken answer → AreMutexTables new k.bases.items k.names.mutex k.graph
mailbox-deleted-keeps k new name woken answer keeps d =
    by-found (found_mailbox k.tables.mailboxes name) answer (AreMutexTables new k.bases.items k.names.mutex k.graph) d.answered
    (λ no. keeps-same k new keeps (ap (λ (x : Tabled). x.threads) (OnFalse_at no d.missing)) (ap (λ (x : Tabled). x.levels) (OnFalse_at no d.missing)))
    (λ mailbox found yes. ends-woken-keeps k new mailbox.order (receives_mail mailbox.name) (sends_mail mailbox.name) woken keeps (no-mutex-receives_mail mailbox.name) (no-mutex-sends_mail mailbox.name) (d.waiters_are mailbox found) (ap (λ (x : Tabled). x.threads) (OnTrue_at yes d.state)) (ap (λ (x : Tabled). x.levels) (OnTrue_at yes d.state)))

pub mailbox-deleted-state : (k : Inside) (v : MutexTabled) (new : Tabled) (name woken : List ℕ) (answer : Bool) → view_of k ≡ v → Keeps k → OnTrue answer (new ≡ Below.without_mailbox k.tables name woken) → OnTrue answer (seen_by k new ≡ without_mailbox v name woken)
mailbox-deleted-state k v new name woken answer is keeps state = OnTrue_from answer (seen_by k new ≡ without_mailbox v name woken) (λ yes.
    ap (seen_by k) (OnTrue_at yes state)
    ∙ ap (λ (rows : List Thread). record (without_mailbox (view_of k) name woken) { threads = rows }) (all-woken-based k Code.Error woken keeps)
    ∙ ap (λ (x : MutexTabled). without_mailbox x name woken) is)

-- who waits at an end of a message queue
pub message-seen : (k : Inside) (v : MutexTabled) (queue : MsgQueue) (end : End) → view_of k ≡ v → Keeps k → message_line k.tables.threads queue end ≡ message_waiters v queue end
message-seen k v queue End.Receivers is keeps = line-seen k v queue.order (receives_message queue.name) is keeps
message-seen k v queue End.Senders is keeps = line-seen k v queue.order (sends_message queue.name) is keeps

pub message-seens : (k : Inside) (v : MutexTabled) (queue : MsgQueue) → view_of k ≡ v → Keeps k → message_line k.tables.threads queue End.Receivers ++ message_line k.tables.threads queue End.Senders ≡ message_waiters v queue End.Receivers ++ message_waiters v queue End.Senders
message-seens k v queue is keeps =
    ap (λ (ts : List ℕ). ts ++ message_line k.tables.threads queue End.Senders) (message-seen k v queue End.Receivers is keeps)
    ∙ ap (λ (ts : List ℕ). message_waiters v queue End.Receivers ++ ts) (message-seen k v queue End.Senders is keeps)

no-mutex-receives_message : (name : List ℕ) → TakesNoMutex (receives_message name)
no-mutex-receives_message name mutex timeout = refl

no-mutex-sends_message : (name : List ℕ) → TakesNoMutex (sends_message name)
no-mutex-sends_message name mutex timeout = refl

-- what its deletion answers and leaves, as the tables below have it
pub record DeletesMsgQueue (old new : Tabled) (name woken : List ℕ) (answer : Bool) : Type 0 where
  pub answered : answer ≡ is_some (found_queue old.queues name)
  pub missing : OnFalse answer (new ≡ old)
  pub waiters_are : (queue : MsgQueue) → found_queue old.queues name ≡ Some queue → woken ≡ message_line old.threads queue End.Receivers ++ message_line old.threads queue End.Senders
  pub state : OnTrue answer (new ≡ Below.without_queue old name woken)

pub queue-deleted-keeps : (k : Inside) (new : Tabled) (name woken : List ℕ) (answer : Bool) → Keeps k → DeletesMsgQueue k.tables new name woken answer → AreMutexTables new k.bases.items k.names.mutex k.graph
queue-deleted-keeps k new name woken answer keeps d =
    by-found (found_queue k.tables.queues name) answer (AreMutexTables new k.bases.items k.names.mutex k.graph) d.answered
    (λ no. keeps-same k new keeps (ap (λ (x : Tabled). x.threads) (OnFalse_at no d.missing)) (ap (λ (x : Tabled). x.levels) (OnFalse_at no d.missing)))
    (λ queue found yes. ends-woken-keeps k new queue.order (receives_message queue.name) (sends_message queue.name) woken keeps (no-mutex-receives_message queue.name) (no-mutex-sends_message queue.name) (d.waiters_are queue found) (ap (λ (x : Tabled). x.threads) (OnTrue_at yes d.state)) (ap (λ (x : Tabled). x.levels) (OnTrue_at yes d.state)))

pub queue-deleted-state : (k : Inside) (v : MutexTabled) (new : Tabled) (name woken : List ℕ) (answer : Bool) → view_of k ≡ v → Keeps k → OnTrue answer (new ≡ Below.without_queue k.tables name woken) → OnTrue answer (seen_by k new ≡ without_queue v name woken)
queue-deleted-state k v new name woken answer is keeps state = OnTrue_from answer (seen_by k new ≡ without_queue v name woken) (λ yes.
    ap (seen_by k) (OnTrue_at yes state)
    ∙ ap (λ (rows : List Thread). record (without_queue (view_of k) name woken) { threads = rows }) (all-woken-based k Code.Error woken keeps)
    ∙ ap (λ (x : MutexTabled). without_queue x name woken) is)
