use Rattle.std.proofs.Common.{◌≡◌, ◌∙◌, ◌+◌, List, [], ◌∷◌, Option, length, ap, sym, subst, arith, length-append}
use Rattle.rt_base.specs.declared.codes.Event.{Event}
use Rattle.rt_plain.specs.declared.entry.Entry.{Entry}
use Rattle.rt_plain.specs.PlainBoard.{PlainBoard}
use Rattle.rt_plain.specs.runs.Runs.{Course, after, entry_tick}
use Rattle.rt_plain.specs.runs.Agreement.{event_named}
use Rattle.rt_plain.specs.text.Splits.{word_at, words_of}
use Rattle.kernel_step.specs.Did.{did_by}
use Rattle.core_runner.specs.Parts.{event_on}
use Rattle.core_runner.proofs.ReaderLemmas.{HasEntered, event-enters, event-read_on, over-read, same-read}
use Rattle.core_runner.proofs.trace_reader.TraceReader.read_event.Goals as goal

pub returns-then-is_over-clause-read : goal.returns-then-is_over-clause-read
returns-then-is_over-clause-read g c = λ front r at none.
    over-read c.args.self.now.machine.board front c.args.line.now r c.args.self.now _ at c.requires.open (sym c.is_over.ensures ∙ c.if-is_over.true) (event_named (word_at (words_of c.args.line.now) 1))

pub begin_entry-requires-clause-made : goal.begin_entry-requires-clause-made
begin_entry-requires-clause-made g c =
    let b = c.args.self.now.machine.board in
    let course = c.args.self.now.machine.course in
    let reserved = c.reserve.new.self.course in
    let board_is = c.in_ok-reserve.ensures.board in
    let course_is = c.in_ok-reserve.ensures.course in
    let event = c.in-Some.event in
    let entered : HasEntered b course c.event.new.self.course event =
    event-enters b course c.event.new.self.course event
    (sym (c.event.ensures.did ∙ ap (λ (x : PlainBoard). did_by x reserved event) board_is ∙ ap (λ (x : Course). did_by b x event) course_is) ∙ c.in-Entry.is)
    (c.event.ensures.course ∙ ap (λ (x : PlainBoard). after x reserved event) board_is ∙ ap (λ (x : Course). after b x event) course_is) in
    let e : Entry = record { event = event; tick = entry_tick b event course.state c.event.new.self.course.state; lines = entered.lines } in
    omega (arith, c.requires.some, ap length entered.journal, length-append course.journal (e ∷ []))

pub begin_entry-requires-clause-halt : goal.begin_entry-requires-clause-halt
begin_entry-requires-clause-halt g c =
    let b = c.args.self.now.machine.board in
    let course = c.args.self.now.machine.course in
    let reserved = c.reserve.new.self.course in
    let board_is = c.in_ok-reserve.ensures.board in
    let course_is = c.in_ok-reserve.ensures.course in
    let event = c.in-Some.event in
    (event-enters b course c.event.new.self.course event
    (sym (c.event.ensures.did ∙ ap (λ (x : PlainBoard). did_by x reserved event) board_is ∙ ap (λ (x : Course). did_by b x event) course_is) ∙ c.in-Entry.is)
    (c.event.ensures.course ∙ ap (λ (x : PlainBoard). after x reserved event) board_is ∙ ap (λ (x : Course). after b x event) course_is)).halt

pub returns-in-Entry-clause-read : goal.returns-in-Entry-clause-read
returns-in-Entry-clause-read g c = λ front r at none.
    let b = c.args.self.now.machine.board in
    let course = c.args.self.now.machine.course in
    let reserved = c.reserve.new.self.course in
    let board_is = c.in_ok-reserve.ensures.board in
    let course_is = c.in_ok-reserve.ensures.course in
    let event = c.in-Some.event in
    let named = event_named (word_at (words_of c.args.line.now) 1) in
    let entered : HasEntered b course c.event.new.self.course event =
    event-enters b course c.event.new.self.course event
    (sym (c.event.ensures.did ∙ ap (λ (x : PlainBoard). did_by x reserved event) board_is ∙ ap (λ (x : Course). did_by b x event) course_is) ∙ c.in-Entry.is)
    (c.event.ensures.course ∙ ap (λ (x : PlainBoard). after x reserved event) board_is ∙ ap (λ (x : Course). after b x event) course_is) in
    event-read_on b front c.args.line.now r c.args.self.now c.event.new.self c.event.new.self.board event named c.begin_entry.result c.begin_entry.new.self at none c.requires.open
    (ap (λ (x : PlainBoard). event_on x named) (sym (c.board.ensures ∙ board_is)) ∙ sym c.in_ok-event.ensures ∙ c.in-Some.is)
    (sym c.is_over.ensures ∙ c.if-is_over.false) (c.event.ensures.board ∙ board_is) entered c.begin_entry.ensures.read

pub returns-in-Same-clause-read : goal.returns-in-Same-clause-read
returns-in-Same-clause-read g c = λ front r at none.
    let b = c.args.self.now.machine.board in
    let reserved = c.reserve.new.self.course in
    let board_is = c.in_ok-reserve.ensures.board in
    let course_is = c.in_ok-reserve.ensures.course in
    let event = c.in-Some.event in
    let named = event_named (word_at (words_of c.args.line.now) 1) in
    same-read b front c.args.line.now r c.args.self.now _ event named c.event.result at c.requires.open
    (ap (λ (x : PlainBoard). event_on x named) (sym (c.board.ensures ∙ board_is)) ∙ sym c.in_ok-event.ensures ∙ c.in-Some.is)
    (c.event.ensures.did ∙ ap (λ (x : PlainBoard). did_by x reserved event) board_is ∙ ap (λ (x : Course). did_by b x event) course_is)
    (λ enters. let bad = sym c.in-Same.is ∙ enters in cc)

pub returns-in-Halted-clause-read : goal.returns-in-Halted-clause-read
returns-in-Halted-clause-read g c = λ front r at none.
    let b = c.args.self.now.machine.board in
    let reserved = c.reserve.new.self.course in
    let board_is = c.in_ok-reserve.ensures.board in
    let course_is = c.in_ok-reserve.ensures.course in
    let event = c.in-Some.event in
    let named = event_named (word_at (words_of c.args.line.now) 1) in
    same-read b front c.args.line.now r c.args.self.now _ event named c.event.result at c.requires.open
    (ap (λ (x : PlainBoard). event_on x named) (sym (c.board.ensures ∙ board_is)) ∙ sym c.in_ok-event.ensures ∙ c.in-Some.is)
    (c.event.ensures.did ∙ ap (λ (x : PlainBoard). did_by x reserved event) board_is ∙ ap (λ (x : Course). did_by b x event) course_is)
    (λ enters. let bad = sym c.in-Halted.is ∙ enters in cc)
