-- How many objects there may be of the classes that threads wait for, how many cores there are, and levels of priorities.
use Rattle.std.specs.Prelude.{ℕ, length}
use Rattle.rt_plain.specs.PlainBoard.{PlainBoard}
use Rattle.mutex_tables.specs.MutexTabled.{MutexTabled}

pub record ObjectLimits : Type 0 where
  pub sem : ℕ
  pub event : ℕ
  pub mutex : ℕ
  pub mailbox : ℕ
  pub queue : ℕ
  pub cores : ℕ
  pub levels : ℕ

-- as the tables have room
abbrev pub limits_of : MutexTabled → ObjectLimits
limits_of k = record { sem = k.sem_limit; event = k.event_limit; mutex = k.mutex_limit; mailbox = k.mailbox_limit; queue = k.queue_limit; cores = k.cores; levels = k.levels }

-- as the board says
abbrev pub board_limits : PlainBoard → ObjectLimits
board_limits b = record { sem = b.limits.sem; event = b.limits.event; mutex = b.limits.mutex; mailbox = length b.mailboxes; queue = length b.queues; cores = b.cores; levels = b.levels }
