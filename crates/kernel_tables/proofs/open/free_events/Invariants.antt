use Rattle.std.proofs.Common.{◌≡◌, ◌≤◌}
use Rattle.std.specs.Prelude.{vec_len, vec_capacity}
use Rattle.kernel_tables.specs.Opened.{AreFreeEvents}
use Rattle.kernel_tables.proofs.open.free_events.Given as goal

abbrev pub invariant-loop : goal.invariant-loop
invariant-loop l = record { free : AreFreeEvents l.events.items l.counter l.threads; len : vec_len l.events ≡ l.counter; room : l.count ≤ vec_capacity l.events }
