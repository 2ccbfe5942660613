use Rattle.std.proofs.Common.{arith}
use Rattle.std.proofs.lemmas.Option.{slice_get_read}
use Rattle.journal.proofs.HeaderLemmas.{entry-at, length-entries_of}
use Rattle.journal.proofs.entries.Journal.entry.Goals as goal

-- there is a header for each entry
pub index-header-requires : goal.index-header-requires
index-header-requires c =
    let within = rw (← c.self.view_is) at c.requires in
    omega (arith, within, length-entries_of c.self.inside.headers.items c.self.inside.lines.items)

pub returns : goal.returns
returns c =
    let within = rw (← c.self.view_is) at c.requires in
    let there = slice_get_read c.self.inside.headers.items _ c.args.at c.index-header.result.now (length-entries_of c.self.inside.headers.items c.self.inside.lines.items) within c.index-header.ensures in
    rw (← c.self.view_is) (entry-at c.self.inside.headers.items c.self.inside.lines.items c.args.at c.index-header.result.now c.self.invariant.0 c.self.invariant.1 there)
