use Rattle.std.proofs.Common.{◌≡◌, ◌+◌, ◌≤◌, ◌++◌, ◌∷◌, [], List, ℕ, arith, length, length-append, refl, sym, ap, ◌∙◌}
use Rattle.rt_base.specs.declared.codes.Code.{Code}
use Rattle.rt_plain.specs.declared.line.Line.{Line}
use Rattle.rt_plain.specs.kernel.Effects.{line_effect}
use Rattle.rt_plain.specs.kernel.Outcome.{success}
use Rattle.rt_plain.specs.kernel.State.{State}
use Rattle.rt_kernel.specs.declared.answer.Answer.{Answer}
use Rattle.rt_kernel.specs.declared.state.State.{State as KernelState}
use Rattle.rt_kernel.specs.Does.{Does}
use Rattle.rt_kernel.specs.Notice.{notice_by}
use Rattle.rt_kernel.specs.View.{state_of}
use Rattle.rt_kernel.proofs.ArrivalLemmas.{arrives}
use Rattle.rt_kernel.proofs.DoesLemmas.{does_by, does-then}
use Rattle.rt_kernel.proofs.state.State.arrive.Goals as goal

pub returns-clause-acts : goal.returns-clause-acts
returns-clause-acts c =
    let old : KernelState = c.args.self.now in
    let s : State = state_of old in
    let mid : KernelState = record old { devices = c.arrive.new.self } in
    let line : Line = Line.Rx c.args.device.now c.args.text.now c.in-Some.arrived.lost in
    let items : c.push.new.self.items ≡ c.args.out.now.items ++ line ∷ [] =
    c.push.ensures.items
    ∙ ap (λ (n : List ℕ). c.args.out.now.items ++ Line.Rx n c.copy-2.result c.in-Some.arrived.lost ∷ []) c.copy.ensures
    ∙ ap (λ (t : List ℕ). c.args.out.now.items ++ Line.Rx c.args.device.now t c.in-Some.arrived.lost ∷ []) c.copy-2.ensures in
    let longer : length c.push.new.self.items ≡ length c.args.out.now.items + 1 = omega (arith, ap length items, length-append c.args.out.now.items (line ∷ [])) in
    let first : Does old mid c.args.out.now c.push.new.self (Answer.Code Code.Ok) 2 (success (line_effect (state_of mid) line)) = record { state = refl; lines = items; answer = refl; limits = refl; threads = refl; numbers = omega arith; few = omega (arith, longer); out_room = c.push.ensures.room } in
    does_by (ap success (arrives s c.arrive.new.self c.args.device.now c.args.text.now c.in-Some.arrived (sym c.in-Some.is ∙ c.arrive.ensures.answer) c.arrive.ensures.devices))
    (does-then old mid c.notice.new.self c.args.out.now c.push.new.self c.notice.new.out (Answer.Code Code.Ok) 2 1 (success (line_effect (state_of mid) line)) (notice_by c.in-Some.arrived) first c.notice.ensures.acts c.notice.ensures.numbers (omega (arith, longer, c.notice.ensures.acts.few)))
