-- What the row of a thread stands for.
use Rattle.std.specs.Prelude.{◌==◌, ◌-◌, ℕ, Bool, true, not, ◌&&◌, List, [], Option, slice_set, slice_index_or, unwrap_or, if◌then◌else◌}
use Rattle.std.specs.Str.{bytes_eq}
use Rattle.rt_plain.specs.kernel.Effects.{retry_of}
use Rattle.rt_plain.specs.kernel.State.{Thread, Stage, Initial, Active, Waiting, Suspended, Closed, no_thread, is_closed}
use Rattle.kernel_tables.specs.Awaiting.{awaited_of}
use Rattle.kernel_tables.specs.declared.stage.Stage.{Stage as OwnStage}
use Rattle.kernel_tables.specs.declared.threads.Thread.{Thread as ThreadRow}
use Rattle.kernel_tables.specs.declared.vars.Vars.{Vars}

-- where a thread stands
abbrev pub stage_of : OwnStage → Stage
stage_of OwnStage.Initial = Initial
stage_of OwnStage.Active = Active
stage_of (OwnStage.Waiting what arrival) = Waiting (awaited_of what) arrival
stage_of OwnStage.Suspended = Suspended
stage_of OwnStage.Closed = Closed

-- a thread
abbrev pub plain_thread : ThreadRow → Thread
plain_thread r = record {
  name = r.name;
  base = r.base;
  slice = r.vars.slice;
  left = r.vars.left;
  core = r.core;
  stage = stage_of r.stage;
  next = r.vars.next;
  code = r.vars.code;
  value = r.vars.value;
  text = unwrap_or r.text [];
  counter = r.vars.counter;
  locks = r.vars.locks;
  marked = r.vars.marked;
  retry = r.retry;
}

-- what a thread has that no wait list depends on
abbrev pub vars_of : Thread → Vars
vars_of row = record { slice = row.slice; left = row.left; next = row.next; code = row.code; value = row.value; counter = row.counter; locks = row.locks; marked = row.marked }

-- a thread with other such variables
abbrev pub with_vars : Vars → Thread → Thread
with_vars vars row = record row { slice = vars.slice; left = vars.left; next = vars.next; code = vars.code; value = vars.value; counter = vars.counter; locks = vars.locks; marked = vars.marked }

-- these variables after one tick of the slice
abbrev pub vars_after_slice : Vars → Vars
vars_after_slice vars = if vars.left - 1 == 0 then record vars { left = vars.slice; marked = true } else record vars { left = vars.left - 1 }

-- the threads with another row for one of them
abbrev pub with_row : List Thread → ℕ → (Thread → Thread) → List Thread
with_row threads t change = slice_set threads t (change (slice_index_or threads t no_thread))

-- the row of a thread
abbrev pub row_at : List Thread → ℕ → Thread
row_at threads t = slice_index_or threads t no_thread

-- whether it is a thread of this name that hasn't ended
abbrev pub is_found : List ℕ → Thread → Bool
is_found name row = not (is_closed row.stage) && bytes_eq row.name name

-- a woken thread that has to make again the call in which it waits, whose wait was due at a moment, if at any
abbrev pub retried_row : Option ℕ → Thread → Thread
retried_row due row = record row { stage = Active; retry = retry_of row.stage due }
