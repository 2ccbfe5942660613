use Rattle.std.proofs.Common.{◌≡◌, map, reverse, take}
use Rattle.rt_plain.specs.kernel.Opening.{new_mailbox}
use Rattle.kernel_tables.proofs.tables.Tables.create_mailboxes.Given as goal

-- those of the definitions so far
abbrev pub invariant-loop-def : goal.invariant-loop-def
invariant-loop-def l = l.self ≡ record l.fn.self { mailboxes = reverse (map new_mailbox (take l.def-index l.defs)) }
