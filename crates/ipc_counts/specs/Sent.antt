-- What a send does.
use Rattle.std.specs.Prelude.{ℕ, true, false, List, [], ◌∷◌, Option, Some, None, map, slice_get, slice_set, bit_and, bit_or}
use Rattle.rt_plain.specs.kernel.EventCalls.{Want as PlainWant, Wanting, satisfied_waiters, flags_left}
use Rattle.susp_list.specs.Rows.{line}
use Rattle.susp_list.specs.declared.row.Row.{Row}
use Rattle.ipc_counts.specs.declared.want.Want.{Want}
use Rattle.ipc_counts.specs.Flags.{Flagged, plain_want}

-- what a thread wants, by the table of wants
abbrev pub want_at : Option Want → PlainWant
want_at (Some want) = plain_want want
want_at None = record { mask = 0; all = true; clear = false }

-- a thread with what it wants
abbrev pub wanting_of : List Want → ℕ → Wanting
wanting_of wants t = record { thread = t; want = want_at (slice_get wants t) }

-- the waiters in the order of the list, with what they want
abbrev pub wanting : Flagged → List Wanting
wanting e = map (wanting_of e.wants) (line e.waiters)

-- those who are satisfied, each with the flags that it gets
abbrev pub woken_by : ℕ → List Wanting → List (ℕ × ℕ)
woken_by flags ws = map (λ w. (w.thread, bit_and flags w.want.mask)) (satisfied_waiters flags ws)

-- a table without the rows of some threads
abbrev pub rows_without : List (Option Row) → List Wanting → List (Option Row)
rows_without rows [] = rows
rows_without rows (w ∷ ws) = rows_without (slice_set rows w.thread None) ws

-- the event object after a send
abbrev pub sent : Flagged → ℕ → Flagged
sent e mask =
    let flags = bit_or e.flags mask in
    record e {
      flags = flags_left flags (wanting e);
      waiters = record e.waiters { rows = rows_without e.waiters.rows (satisfied_waiters flags (wanting e)) };
    }
