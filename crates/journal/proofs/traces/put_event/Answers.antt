use Rattle.std.proofs.Common.{◌≡◌, ◌+◌, ◌≤◌, ◌++◌, length, ap, arith}
use Rattle.journal.proofs.traces.put_event.Goals as goal

-- a core with the bytes around it
pub returns-in-Step-clause-short : goal.returns-in-Step-clause-short
returns-in-Step-clause-short c =
    omega (arith, c.requires, ap length c.put.ensures, c.put_number.ensures.short, ap length c.put-in-Step.ensures)
