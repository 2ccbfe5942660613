use Rattle.std.proofs.Common.{◌≡◌, ◌+◌, length, refl, ap, ◌∙◌}
use Rattle.rt_plain.specs.kernel.State.{thread_at}
use Rattle.rt_plain.proofs.kernel.TallyLemmas.{length-set_at}
use Rattle.mutex_tables.specs.MutexTabled.{MutexTabled}
use Rattle.kernel_tables.specs.Threads.{row_at}
use Rattle.rt_kernel.specs.declared.state.State.{State as KernelState}
use Rattle.rt_kernel.specs.Limits.{limits_of}
use Rattle.rt_kernel.specs.NextCall.{begun}
use Rattle.rt_kernel.specs.View.{state_of}
use Rattle.rt_kernel.proofs.NextCallLemmas.{calls-next}
use Rattle.rt_kernel.proofs.state.State.call.Goals as goal

pub returns : goal.returns
returns g c =
    let old : KernelState = c.args.self.now in
    let mid : KernelState = record old { tables = c.set_next.new.self } in
    let begins : state_of mid ≡ begun (state_of old) c.args.t = rw (c.set_next.ensures, c.next-k.ensures) refl in
    let place : c.next-k.result ≡ (thread_at (state_of old) c.args.t).next = c.next-k.ensures in
    let count : length mid.tables.threads ≡ length old.tables.threads = ap (λ (k : MutexTabled). length k.threads) c.set_next.ensures ∙ length-set_at old.tables.threads c.args.t (record (row_at old.tables.threads c.args.t) { next = c.next-k.result + 1 }) in
    calls-next c.args.board.now c.args.t c.args.core c.next-k.result c.args.call.now old mid c.do_call.new.self c.args.out.now c.do_call.new.out c.do_call.result begins place (ap limits_of c.set_next.ensures) count refl c.do_call.ensures
