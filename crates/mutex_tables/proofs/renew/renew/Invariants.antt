use Rattle.std.proofs.Common.{◌≡◌, drop}
use Rattle.mutex_tables.specs.Moved.{renewed, AreWithin}
use Rattle.mutex_tables.proofs.renew.renew.Given as goal

-- the changes that are left lead to what all of them lead to
abbrev pub invariant-loop-change : goal.invariant-loop-change
invariant-loop-change l = record { same : renewed l.tables (drop l.change-index l.changes) ≡ renewed l.fn.tables l.changes; within : AreWithin l.tables (drop l.change-index l.changes) }
