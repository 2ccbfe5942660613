-- The rows of the objects, with those who wait by current priorities.
use Rattle.std.proofs.Common.{ℕ, ◌≡◌, List, Option, Some, None, refl, sym, ap, ◌∙◌, length}
use Rattle.std.specs.Option.{option_map}
use Rattle.rt_plain.specs.declared.row.Row.{Row}
use Rattle.rt_plain.specs.kernel.State.{EventObj, Mailbox, MsgQueue, Sem}
use Rattle.rt_plain.specs.kernel.Waiting.{receives_event, takes_sem}
use Rattle.kernel_tables.specs.ObjectRows.{event_shown as event_below, mailbox_shown as mailbox_below, queue_shown as queue_below, sem_shown as sem_below}
use Rattle.ipc_queues.specs.declared.ends.End.{End}
use Rattle.kernel_tables.specs.Tabled.{mail_line, message_line}
use Rattle.mutex_tables.specs.declared.tables.MutexTables.TheInside.{Inside}
use Rattle.mutex_tables.specs.ObjectRows.{event_shown, mailbox_shown, queue_shown, sem_shown}
use Rattle.mutex_tables.specs.Woken.{mail_waiters, message_waiters}
use Rattle.mutex_tables.proofs.EndLemmas.{mail-seen, message-seen}
use Rattle.mutex_tables.proofs.LineLemmas.{line-seen}
use Rattle.mutex_tables.proofs.SeenLemmas.{view_of, Keeps}

pub sem-row : (k : Inside) (o : Option Sem) → Keeps k → option_map (sem_shown (view_of k)) o ≡ option_map (sem_below k.tables.threads) o
sem-row k None keeps = refl
sem-row k (Some sem) keeps = ap (λ (ts : List ℕ). Some (Row.Sem sem.name sem.value (length ts))) (sym (line-seen k (view_of k) sem.order (takes_sem sem.name) refl keeps))

pub event-row : (k : Inside) (o : Option EventObj) → Keeps k → option_map (event_shown (view_of k)) o ≡ option_map (event_below k.tables.threads) o
event-row k None keeps = refl
event-row k (Some event) keeps = ap (λ (ts : List ℕ). Some (Row.Event event.name event.flags (length ts))) (sym (line-seen k (view_of k) event.order (receives_event event.name) refl keeps))

pub mailbox-row : (k : Inside) (o : Option Mailbox) → Keeps k → option_map (mailbox_shown (view_of k)) o ≡ option_map (mailbox_below k.tables.threads) o
mailbox-row k None keeps = refl
mailbox-row k (Some mailbox) keeps =
    ap (λ (ts : List ℕ). Some (Row.Mailbox mailbox.name (length mailbox.words) mailbox.size (length ts) (length (mail_waiters (view_of k) mailbox End.Senders)))) (sym (mail-seen k (view_of k) mailbox End.Receivers refl keeps))
    ∙ ap (λ (ts : List ℕ). Some (Row.Mailbox mailbox.name (length mailbox.words) mailbox.size (length (mail_line k.tables.threads mailbox End.Receivers)) (length ts))) (sym (mail-seen k (view_of k) mailbox End.Senders refl keeps))

pub queue-row : (k : Inside) (o : Option MsgQueue) → Keeps k → option_map (queue_shown (view_of k)) o ≡ option_map (queue_below k.tables.threads) o
queue-row k None keeps = refl
queue-row k (Some queue) keeps =
    ap (λ (ts : List ℕ). Some (Row.MsgQueue queue.name (length queue.messages) queue.size queue.max (length ts) (length (message_waiters (view_of k) queue End.Senders)))) (sym (message-seen k (view_of k) queue End.Receivers refl keeps))
    ∙ ap (λ (ts : List ℕ). Some (Row.MsgQueue queue.name (length queue.messages) queue.size queue.max (length (message_line k.tables.threads queue End.Receivers)) (length ts))) (sym (message-seen k (view_of k) queue End.Senders refl keeps))
