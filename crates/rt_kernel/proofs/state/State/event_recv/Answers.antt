use Rattle.std.proofs.Common.{List, Some, sym, ap, ◌∙◌, arith}
use Rattle.std.proofs.lemmas.Grind.{common_steps}
use Rattle.rt_plain.specs.kernel.State.{EventObj}
use Rattle.ipc_counts.specs.Flags.{plain_want}
use Rattle.kernel_tables.specs.Tabled.{found_event}
use Rattle.mutex_tables.specs.MutexTabled.{MutexTabled}
use Rattle.rt_kernel.specs.Caller.{plain_by}
use Rattle.rt_kernel.specs.View.{state_of}
use Rattle.rt_kernel.proofs.DoesLemmas.{does_by}
use Rattle.rt_kernel.proofs.EventCallLemmas.{none-received, receives_later}
use Rattle.rt_kernel.proofs.state.State.event_recv.Goals as goal

pub returns-in-Some-None : goal.returns-in-Some-None
returns-in-Some-None c =
    let old : MutexTabled = c.args.self.now.tables in
    let is = sym c.receive.ensures.answer ∙ c.in-Some-None.is ∙ ap (λ o. Some o) c.in-Some-None.field-0-is in
    let kept = c.receive.ensures.state ∙ ap (λ (events : List EventObj). record old { events = events }) (none-received old.events (plain_want c.args.want) (found_event old.events c.args.name.now) is) in
    does_by (sym (receives_later (state_of c.args.self.now) c.args.name.now c.copy.result (plain_want c.args.want) c.args.timeout (plain_by (state_of c.args.self.now) c.args.by) c.copy.ensures is)) (grind (arith, common_steps))
