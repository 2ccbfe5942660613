use Rattle.std.proofs.Common.{◌≡◌, ◌∙◌, ◌+◌, ◌++◌, ap, arith, take, drop, length}
use Rattle.rt_plain.specs.declared.entry.Entry.{Entry}
use Rattle.rt_plain.specs.text.Texts.{entry_text}
use Rattle.journal.specs.JournalSeen.{JournalSeen}
use Rattle.journal.proofs.HeaderLemmas.{entry-is, on-ok_each, own-lines_are, own-lines_fit}
use Rattle.journal.proofs.entries.Journal.put_entry.Goals as goal

-- the lines of the entry are among all
pub lines_from-lines-requires : goal.lines_from-lines-requires
lines_from-lines-requires c =
    let fit = own-lines_fit c.self.inside.headers.items c.self.inside.lines.items _ _ _ _ _ _ (ap (λ (j : JournalSeen). j.entries) c.self.view_is) c.self.invariant.0 c.entry-event.ensures in
    omega (arith, fit, ap length c.deref.ensures.value)

pub returns : goal.returns
returns c =
    let is = c.lines_from-lines.ensures ∙ ap (λ ls. take c.entry-event.result.3 (drop c.entry-event.result.2 ls)) c.deref.ensures.value in
    let lines = own-lines_are c.self.inside.headers.items c.self.inside.lines.items _ _ _ _ (ap (λ (j : JournalSeen). j.entries) c.self.view_is) c.self.invariant.0 is in
    on-ok_each c.put_one.result _ _ c.args.self.now.entries c.args.at (λ e is at. is ∙ ap (λ (x : Entry). c.args.out.now ++ entry_text (c.args.at + 1) x) (entry-is _ _ _ _ _ _ _ c.entry-event.ensures lines e at)) c.put_one.ensures
