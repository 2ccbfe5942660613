use Rattle.std.proofs.Common.{arith, length, List, Some, slice_get, option_map, refl, sym, ap, ◌∙◌}
use Rattle.std.proofs.lemmas.List.{length-map}
use Rattle.std.proofs.lemmas.Option.{slice_get-map}
use Rattle.rt_plain.specs.kernel.State.{State, Thread}
use Rattle.rt_plain.specs.kernel.Rows.{rows, thread_row, timer_row}
use Rattle.rt_kernel.specs.PlainKernel.{PlainKernel}
use Rattle.kernel_tables.specs.Shown.{shown}
use Rattle.rt_kernel.specs.View.{state_of}
use Rattle.rt_kernel.proofs.ViewLemmas.{shown-open}
use Rattle.rt_kernel.proofs.ObjectRowLemmas.{sem_rows_at, event_rows_at, mutex_rows_at, mailbox_rows_at, queue_rows_at}
use Rattle.rt_kernel.proofs.view.KernelView.row.Goals as goal

pub thread_row-requires-clause-live : goal.thread_row-requires-clause-live
thread_row-requires-clause-live c = shown-open c.self.inside.state.tables.threads c.args.place c.shown_at.result c.shown_at.ensures.is

pub returns-in-Thread : goal.returns-in-Thread
returns-in-Thread c =
    let s : State = state_of c.self.inside.state in
    ap (λ (k : PlainKernel). slice_get (rows k.board k.state c.args.class) c.args.place) (sym c.self.view_is)
    ∙ ap (λ class. slice_get (rows c.self.inside.board s class) c.args.place) c.in-Thread.is
    ∙ slice_get-map (thread_row s) (shown s.threads) c.args.place
    ∙ ap (option_map (thread_row s)) c.shown_at.ensures.is
    ∙ ap Some (sym c.thread_row.ensures)

pub returns-in-Sem : goal.returns-in-Sem
returns-in-Sem c =
    let s : State = state_of c.self.inside.state in
    ap (λ (k : PlainKernel). slice_get (rows k.board k.state c.args.class) c.args.place) (sym c.self.view_is)
    ∙ ap (λ class. slice_get (rows c.self.inside.board s class) c.args.place) c.in-Sem.is
    ∙ sem_rows_at c.self.inside.board s c.args.place
    ∙ c.sem_row.ensures

pub returns-in-Event : goal.returns-in-Event
returns-in-Event c =
    let s : State = state_of c.self.inside.state in
    ap (λ (k : PlainKernel). slice_get (rows k.board k.state c.args.class) c.args.place) (sym c.self.view_is)
    ∙ ap (λ class. slice_get (rows c.self.inside.board s class) c.args.place) c.in-Event.is
    ∙ event_rows_at c.self.inside.board s c.args.place
    ∙ c.event_row.ensures

pub returns-in-Mutex : goal.returns-in-Mutex
returns-in-Mutex c =
    let s : State = state_of c.self.inside.state in
    ap (λ (k : PlainKernel). slice_get (rows k.board k.state c.args.class) c.args.place) (sym c.self.view_is)
    ∙ ap (λ class. slice_get (rows c.self.inside.board s class) c.args.place) c.in-Mutex.is
    ∙ mutex_rows_at c.self.inside.board s c.args.place
    ∙ c.mutex_row.ensures

pub returns-in-Mailbox : goal.returns-in-Mailbox
returns-in-Mailbox c =
    let s : State = state_of c.self.inside.state in
    ap (λ (k : PlainKernel). slice_get (rows k.board k.state c.args.class) c.args.place) (sym c.self.view_is)
    ∙ ap (λ class. slice_get (rows c.self.inside.board s class) c.args.place) c.in-Mailbox.is
    ∙ mailbox_rows_at c.self.inside.board s c.args.place
    ∙ c.mailbox_row.ensures

pub returns-in-MsgQueue : goal.returns-in-MsgQueue
returns-in-MsgQueue c =
    let s : State = state_of c.self.inside.state in
    ap (λ (k : PlainKernel). slice_get (rows k.board k.state c.args.class) c.args.place) (sym c.self.view_is)
    ∙ ap (λ class. slice_get (rows c.self.inside.board s class) c.args.place) c.in-MsgQueue.is
    ∙ queue_rows_at c.self.inside.board s c.args.place
    ∙ c.queue_row.ensures

pub timer_row-requires : goal.timer_row-requires
timer_row-requires c =
    let s : State = c.args.self.now.state in
    omega (arith, c.requires, length-map s.timers (timer_row c.args.self.now.board s), ap (λ class. length (rows c.args.self.now.board s class)) c.in-Timer.is)

pub returns-in-Timer : goal.returns-in-Timer
returns-in-Timer c = ap (λ class. slice_get (rows c.args.self.now.board c.args.self.now.state class) c.args.place) c.in-Timer.is ∙ c.timer_row.ensures
