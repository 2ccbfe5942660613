use Rattle.std.proofs.Common.{arith}
use Rattle.std.proofs.lemmas.Option.{slice_get_read}
use Rattle.journal.proofs.HeaderLemmas.{lines_of-entries_of, line_count-entries_of}
use Rattle.journal.proofs.entries.Journal.line.Goals as goal

-- the entries have all lines
pub index-requires : goal.index-requires
index-requires c =
    let within = rw (← c.self.view_is) at c.requires in
    omega (arith, within, line_count-entries_of c.self.inside.headers.items c.self.inside.lines.items c.self.invariant.0)

pub returns : goal.returns
returns c =
    let within = rw (← c.self.view_is) at c.requires in
    rw (← c.self.view_is, lines_of-entries_of c.self.inside.headers.items c.self.inside.lines.items c.self.invariant.0)
    (slice_get_read c.self.inside.lines.items _ c.args.at c.index.result.now (line_count-entries_of c.self.inside.headers.items c.self.inside.lines.items c.self.invariant.0) within c.index.ensures)
