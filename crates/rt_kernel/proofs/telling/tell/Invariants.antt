use Rattle.std.proofs.Common.{◌≡◌, ◌+◌, ◌<◌, ◌≤◌, ◌++◌, drop, length, map}
use Rattle.std.specs.List.{AllByRecursion}
use Rattle.rt_plain.specs.kernel.Ownership.{CurChange}
use Rattle.mutex_tables.specs.MutexTabled.{plain_state}
use Rattle.mutex_tie.specs.Changes.{change_line}
use Rattle.rt_kernel.proofs.telling.tell.Given as goal

-- the lines that are told and those of the changes that are left are the lines of all of them
abbrev pub invariant-loop-change : goal.invariant-loop-change
invariant-loop-change l = record {
  shown : l.out.items ++ map (change_line (plain_state l.tables)) (drop l.change-index l.changes) ≡ l.fn.out.items ++ map (change_line (plain_state l.tables)) l.changes;
  there : AllByRecursion (λ (c : CurChange). c.thread < length l.tables.threads) (drop l.change-index l.changes);
  fits : length l.out.items + length (drop l.change-index l.changes) ≤ l.out.room;
  room : l.out.room ≡ l.fn.out.room;
}
