use Rattle.std.proofs.Common.{◌≡◌}
use Rattle.kernel_tables.proofs.EventLemmas.{IsGiving}
use Rattle.kernel_tables.proofs.tables.Tables.send.Given as goal

abbrev pub invariant-loop-i : goal.invariant-loop-i
invariant-loop-i l = record {
  giving : IsGiving l.initial.self-inside.threads l.self-inside.threads l.woken l.i;
  lists : l.self-inside.lists ≡ l.initial.self-inside.lists;
  ready : l.self-inside.ready ≡ l.initial.self-inside.ready;
}
