-- Who waits at the two ends of a mailbox or a message queue.
use Rattle.std.specs.Prelude.{ℕ, List, [], Option, None, replicate}
use Rattle.rt_base.specs.declared.codes.WaitOrder.{WaitOrder}
use Rattle.susp_list.specs.Rows.{Waits}
use Rattle.susp_list.specs.declared.row.Row.{Row}
use Rattle.ipc_queues.specs.declared.ends.End.{End}

-- the order in which they wake, and for each thread number the row of that thread, if it waits there
pub record PlainEnds : Type 0 where
  pub order : WaitOrder
  pub receivers : List (Option Row)
  pub senders : List (Option Row)

-- what stands where there are none
abbrev pub no_ends : PlainEnds
no_ends = record { order = WaitOrder.Fifo; receivers = []; senders = [] }

-- two ends for so many threads at which nobody waits
abbrev pub empty_ends : ℕ → PlainEnds
empty_ends threads = record { order = WaitOrder.Fifo; receivers = replicate threads None; senders = replicate threads None }

-- who waits at an end
abbrev pub end_waits : PlainEnds → End → Waits
end_waits e End.Receivers = record { order = e.order; rows = e.receivers }
end_waits e End.Senders = record { order = e.order; rows = e.senders }

-- with other rows at an end
abbrev pub with_end : PlainEnds → End → List (Option Row) → PlainEnds
with_end e End.Receivers rows = record e { receivers = rows }
with_end e End.Senders rows = record e { senders = rows }
