use Rattle.std.proofs.Common.{◌≡◌, ◌≤◌, ◌++◌, length}
use Rattle.rt_plain.specs.text.TraceRows.{whole_lines_of, events_in, events_told}
use Rattle.journal.proofs.reading.read_events.Given as goal

-- the events so far and those of what is left are all
abbrev pub invariant-loop-end : goal.invariant-loop-end
invariant-loop-end l = (length l.rest ≤ length l.fn.text) × (l.events ++ events_in (whole_lines_of l.rest) ≡ events_told l.fn.text)

abbrev pub decreases-loop-end : goal.decreases-loop-end
decreases-loop-end l = length l.rest
