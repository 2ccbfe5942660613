use Rattle.std.proofs.Common.{◌≡◌, ◌∙◌, ℕ, ◌+◌, List, length, ap, sym, subst}
use Rattle.std.specs.List.{slice_get}
use Rattle.rt_plain.specs.declared.entry.Entry.{Entry}
use Rattle.rt_plain.specs.text.Texts.{entry_text}
use Rattle.core_runner.specs.Replaying.{Closes}
use Rattle.core_runner.specs.declared.trace_reader.Closing.{Closing}
use Rattle.core_runner.proofs.ReaderLemmas.{entry-there, front-none, front-some, header-stops, entry-closed, entry-open}
use Rattle.core_runner.proofs.trace_reader.TraceReader.begin_entry.Goals as goal

pub returns-then-not-stands_first-clause-read : goal.returns-then-not-stands_first-clause-read
returns-then-not-stands_first-clause-read g c = λ front r e made.
    let b = c.args.self.now.machine.board in
    let text_is : c.in_ok-self.field-0 ≡ entry_text (length r.done + 1) e =
    c.in_ok-self.ensures e (ap (λ (j : List Entry). slice_get j c.args.self.now.entries) c.journal.ensures.entries ∙ entry-there b front c.args.self.now r e made) ∙ ap (λ (n : ℕ). entry_text (n + 1) e) made.all in
    header-stops b front c.args.line.now r e c.args.self.now.machine.course.state _
    (front-none c.args.line.now c.as_slice.result.now (entry_text (length r.done + 1) e) c.stands_first.result (c.as_slice.ensures ∙ text_is) c.stands_first.ensures.front c.if-not-stands_first.true)

pub returns-in-Closed-clause-read : goal.returns-in-Closed-clause-read
returns-in-Closed-clause-read g c = λ front r e made.
    let b = c.args.self.now.machine.board in
    let text_is : c.in_ok-self.field-0 ≡ entry_text (length r.done + 1) e =
    c.in_ok-self.ensures e (ap (λ (j : List Entry). slice_get j c.args.self.now.entries) c.journal.ensures.entries ∙ entry-there b front c.args.self.now r e made) ∙ ap (λ (n : ℕ). entry_text (n + 1) e) made.all in
    entry-closed b front c.args.line.now r e c.args.self.now c.close.new.machine c.in_ok-self.field-0 made text_is
    (front-some c.args.line.now c.as_slice.result.now c.in_ok-self.field-0 c.stands_first.result c.as_slice.ensures c.stands_first.ensures.front c.if-not-stands_first.false)
    (subst (Closes c.args.self.now.machine c.close.new.machine) c.in-Closed.is c.in_ok-close.ensures.closing)
    c.in_ok-close.ensures.board c.entries-self.result (c.entries-self.ensures.count ∙ ap length c.journal-2.ensures.entries)

pub returns-in-Open-clause-read : goal.returns-in-Open-clause-read
returns-in-Open-clause-read g c = λ front r e made.
    let b = c.args.self.now.machine.board in
    let text_is : c.in_ok-self.field-0 ≡ entry_text (length r.done + 1) e =
    c.in_ok-self.ensures e (ap (λ (j : List Entry). slice_get j c.args.self.now.entries) c.journal.ensures.entries ∙ entry-there b front c.args.self.now r e made) ∙ ap (λ (n : ℕ). entry_text (n + 1) e) made.all in
    entry-open b front c.args.line.now r e c.args.self.now c.close.new.machine c.in_ok-self.field-0 made text_is
    (front-some c.args.line.now c.as_slice.result.now c.in_ok-self.field-0 c.stands_first.result c.as_slice.ensures c.stands_first.ensures.front c.if-not-stands_first.false)
    (subst (Closes c.args.self.now.machine c.close.new.machine) c.in-Open.is c.in_ok-close.ensures.closing)
    c.in_ok-close.ensures.board c.requires.halt c.entries-self.result (c.entries-self.ensures.count ∙ ap length c.journal-2.ensures.entries)
