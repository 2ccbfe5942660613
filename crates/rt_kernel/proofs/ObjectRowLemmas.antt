-- The rows of the tables of semaphores, event objects, mailboxes and message queues.
use Rattle.std.proofs.Common.{◌≡◌, ℕ, slice_get, option_map}
use Rattle.std.proofs.lemmas.Option.{slice_get-map}
use Rattle.rt_base.specs.declared.codes.Class.{Class}
use Rattle.rt_plain.specs.PlainBoard.{PlainBoard}
use Rattle.rt_plain.specs.kernel.State.{State}
use Rattle.rt_plain.specs.kernel.Rows.{rows, sem_row, event_row, mutex_row, mailbox_row, queue_row}

-- the row at a place
pub sem_rows_at : (b : PlainBoard) (s : State) (place : ℕ) → slice_get (rows b s Class.Sem) place ≡ option_map (sem_row s) (slice_get s.sems place)
sem_rows_at b s place = slice_get-map (sem_row s) s.sems place

pub event_rows_at : (b : PlainBoard) (s : State) (place : ℕ) → slice_get (rows b s Class.Event) place ≡ option_map (event_row s) (slice_get s.events place)
event_rows_at b s place = slice_get-map (event_row s) s.events place

pub mutex_rows_at : (b : PlainBoard) (s : State) (place : ℕ) → slice_get (rows b s Class.Mutex) place ≡ option_map (mutex_row s) (slice_get s.mutexes place)
mutex_rows_at b s place = slice_get-map (mutex_row s) s.mutexes place

pub mailbox_rows_at : (b : PlainBoard) (s : State) (place : ℕ) → slice_get (rows b s Class.Mailbox) place ≡ option_map (mailbox_row s) (slice_get s.mailboxes place)
mailbox_rows_at b s place = slice_get-map (mailbox_row s) s.mailboxes place

pub queue_rows_at : (b : PlainBoard) (s : State) (place : ℕ) → slice_get (rows b s Class.MsgQueue) place ≡ option_map (queue_row s) (slice_get s.queues place)
queue_rows_at b s place = slice_get-map (queue_row s) s.queues place
