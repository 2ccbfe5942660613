use Rattle.std.proofs.Common.{◌≡◌, ◌≤◌}
use Rattle.std.specs.Prelude.{vec_len, vec_capacity}
use Rattle.kernel_tables.specs.Opened.{AreFreeSems}
use Rattle.kernel_tables.proofs.open.free_sems.Given as goal

abbrev pub invariant-loop : goal.invariant-loop
invariant-loop l = record { free : AreFreeSems l.sems.items l.counter l.threads; len : vec_len l.sems ≡ l.counter; room : l.count ≤ vec_capacity l.sems }
