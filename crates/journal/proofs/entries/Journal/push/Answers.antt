use Rattle.std.proofs.Common.{length, arith, ap}
use Rattle.std.proofs.lemmas.List.{length-append}
use Rattle.std.proofs.lemmas.List.Elements.{All-push, All-append}
use Rattle.rt_plain.specs.text.TraceRows.{CanShow}
use Rattle.journal.specs.Headers.{CanHead}
use Rattle.journal.proofs.HeaderLemmas.{entries_of-push, StandFrom-push, lines_in-push}
use Rattle.journal.proofs.entries.Journal.push.Goals as goal

-- the entries before, and the new one
pub returns-clause-entries : goal.returns-clause-entries
returns-clause-entries c =
    rw (c.push_reserved.ensures.items, c.move_to.ensures.moved, ← c.self.view_is)
    (entries_of-push c.self.inside.headers.items _ c.self.inside.lines.items c.args.lines.now.items c.self.invariant.0 c.len-count.ensures)

pub invariant_of-self : goal.invariant_of-self
invariant_of-self c =
    let total = lines_in-push c.self.inside.headers.items (record { event = c.args.event; tick = c.args.tick; first = c.len-first.result; count = c.len-count.result }) in
    let entry_room = rw (← c.self.view_is) at c.requires.entry in
    let line_room = rw (← c.self.view_is) at c.requires.lines in
    let lines_len = length-append c.self.inside.lines.items c.args.lines.now.items in (
      rw (c.push_reserved.ensures.items, c.move_to.ensures.moved) (omega (arith, total, c.self.invariant.0, c.len-count.ensures, lines_len)),
      rw (c.push_reserved.ensures.items) (StandFrom-push 0 c.self.inside.headers.items _ c.self.invariant.1 (omega (arith, c.self.invariant.0, c.len-first.ensures))),
      omega (arith, entry_room, c.push_reserved.ensures.len),
      omega (arith, line_room, lines_len, ap length c.move_to.ensures.moved),
      rw (c.push_reserved.ensures.items) (All-push CanHead c.self.inside.headers.items _ c.self.invariant.4 (c.know_event.ensures, omega (arith, c.ranges.tick.fits))),
      rw (c.move_to.ensures.moved) (All-append CanShow c.self.inside.lines.items c.args.lines.now.items c.self.invariant.5 c.move_to.ensures.written),
    )
