use Rattle.journal.proofs.HeaderLemmas.{console_of-entries_of}
use Rattle.journal.proofs.entries.Journal.put_console.Goals as goal

-- what all lines print is what the entries print
pub returns : goal.returns
returns c =
    rw (← c.self.view_is, console_of-entries_of c.self.inside.headers.items c.self.inside.lines.items c.self.invariant.0, ← c.deref.ensures.value) c.put_printed.ensures
