use Rattle.std.proofs.Common.{◌≡◌, List, sym, ap, ◌∙◌, arith}
use Rattle.std.proofs.lemmas.Grind.{common_steps}
use Rattle.rt_base.specs.declared.codes.Code.{Code}
use Rattle.rt_plain.specs.declared.stmt.Call.{Call}
use Rattle.rt_plain.specs.kernel.Outcome.{First, wait_or_refusal}
use Rattle.rt_plain.specs.kernel.PoolCalls.{mp_alloc}
use Rattle.rt_kernel.specs.Caller.{plain_by}
use Rattle.rt_kernel.specs.declared.caller.Caller.{Caller}
use Rattle.rt_kernel.specs.View.{state_of}
use Rattle.rt_kernel.proofs.DoesLemmas.{does_by}
use Rattle.rt_kernel.proofs.PoolCallLemmas.{alloc-waits}
use Rattle.rt_kernel.proofs.state.State.mp_alloc.Goals as goal

pub returns-in-None : goal.returns-in-None
returns-in-None c =
    let s = state_of c.args.self.now in
    let waits = alloc-waits c.args.self.now c.give.new.self c.args.name.now c.copy.result c.args.timeout c.in-Some.o c.in-Thread.t c.in-Thread.field-1 c.copy.ensures c.in-Some.ensures c.in-None.ensures.place c.give.ensures.state in
    let kept = waits.0 in
    does_by
    (ap (λ (by : Caller). mp_alloc c.args.name.now c.args.timeout s (plain_by s by)) c.in-Thread.is
    ∙ waits.1
    ∙ sym (ap (λ (by : Caller). wait_or_refusal s (plain_by s by) First (Call.MpAlloc c.copy.result c.args.timeout) c.args.timeout Code.Timeout) c.in-Thread.is))
    (grind (arith, common_steps))
