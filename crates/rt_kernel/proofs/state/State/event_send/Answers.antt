use Rattle.std.proofs.Common.{◌<◌, ℕ, arith, length}
use Rattle.std.proofs.lemmas.Grind.{common_steps}
use Rattle.rt_plain.proofs.kernel.TallyLemmas.{all-weaker}
use Rattle.rt_kernel.proofs.DoesLemmas.{does_by}
use Rattle.rt_kernel.proofs.EventCallLemmas.{event-sends}
use Rattle.rt_kernel.proofs.state.State.event_send.Goals as goal

pub follow_woken-requires-clause-there : goal.follow_woken-requires-clause-there
follow_woken-requires-clause-there c =
    let send = c.if-not-send.ensures in
    let is = event-sends c.args.self.now c.send.new.self c.args.name.now c.args.mask c.send.new.woken send.answer send.woken send.state send.few in
    all-weaker (λ (w : ℕ × ℕ). w.0 < length c.args.self.now.tables.threads) (λ (w : ℕ × ℕ). w.0 < length c.send.new.self.threads) c.send.new.woken (λ w there. omega (arith, there, is.count)) is.there

pub returns : goal.returns
returns c =
    let send = c.if-not-send.ensures in
    let is = event-sends c.args.self.now c.send.new.self c.args.name.now c.args.mask c.send.new.woken send.answer send.woken send.state send.few in
    does_by is.does (grind (arith, common_steps))
