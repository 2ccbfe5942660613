use Rattle.std.proofs.Common.{◌≡◌, ◌∙◌, List, ap, sym, subst}
use Rattle.rt_plain.specs.declared.entry.Entry.{Entry}
use Rattle.rt_plain.specs.runs.Runs.{events_of}
use Rattle.rt_plain.specs.runs.Live.{owner_counts}
use Rattle.rt_plain.specs.runs.Agreement.{Read}
use Rattle.rt_plain.specs.text.TraceRows.{Counted, row_text}
use Rattle.std.specs.Prelude.{bytes_eq, take}
use Rattle.core_runner.specs.Parts.{SaysCut}
use Rattle.core_runner.specs.Replaying.{Follows}
use Rattle.core_runner.proofs.ReaderLemmas.{outer-cut}
use Rattle.core_runner.proofs.trace_reader.TraceReader.read_outer.Goals as goal

pub returns-in-Some-clause-read : goal.returns-in-Some-clause-read
returns-in-Some-clause-read g c = λ front r at none.
    let b = c.args.self.now.machine.board in
    let counts = owner_counts b.cores (events_of (take c.args.self.now.entries c.args.self.now.machine.course.journal)) in
    let said = subst (SaysCut c.args.line.now c.args.self.now.entries counts) c.in-Some.is c.in_ok-cut.ensures in
    subst (λ (read : Read). Follows b front c.args.line.now r read c.take_cut.result c.take_cut.new.self)
    (sym (outer-cut b front c.args.line.now r counts (ap (λ (j : List Entry). owner_counts b.cores (events_of j)) (sym at.done)) said.line_is))
    (c.take_cut.ensures.read front c.args.line.now r at none said)

pub returns-in-None-clause-read : goal.returns-in-None-clause-read
returns-in-None-clause-read g c = λ front r at none.
    let b = c.args.self.now.machine.board in
    let counts = owner_counts b.cores (events_of (take c.args.self.now.entries c.args.self.now.machine.course.journal)) in
    let said = subst (SaysCut c.args.line.now c.args.self.now.entries counts) c.in-None.is c.in_ok-cut.ensures in
    c.read_other.ensures.read front r at none
    (ap (λ (j : List Entry). bytes_eq c.args.line.now (row_text (Counted (owner_counts b.cores (events_of j))))) at.done ∙ said)
