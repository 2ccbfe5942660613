use Rattle.std.proofs.Common.{ℕ, ◌≡◌, ◌<◌, ◌++◌, List, Option, length, reverse, sym, ap, ◌∙◌, arith}
use Rattle.std.proofs.lemmas.List.{append-nil}
use Rattle.rt_base.specs.Roomy.{Roomy}
use Rattle.rt_plain.specs.declared.line.Line.{Line}
use Rattle.rt_plain.specs.kernel.State.{Device}
use Rattle.kernel_devices.specs.Acts.{sent_lines}
use Rattle.kernel_devices.specs.Deviced.{DevicesSeen, device_at}
use Rattle.kernel_devices.proofs.DeviceLemmas.{at-default, still-deviced}
use Rattle.kernel_devices.proofs.DrainLemmas.{lines_of, lines-are}
use Rattle.kernel_devices.proofs.devices.Devices.send_at.Goals as goal
use Rattle.kernel_devices.proofs.devices.Devices.send_at.Goals.{in-Some, in_default}

pub invariant_of-self : goal.invariant_of-self
invariant_of-self c =
    let items = c.self.inside.devices.items in
    let there : c.args.place < length items = omega (arith, c.requires.there, ap (λ (s : DevicesSeen). length s.devices) c.self.view_is) in
    still-deviced items (reverse c.self.inside.left.items) c.args.place c.send.new.self
    (ap (λ (d : Device). d.name) c.send.ensures.device ∙ ap (λ (d : Device). d.name) (c.index_mut.ensures.value ∙ at-default items c.args.place c.index_mut.result.now there))
    c.self.invariant

pub returns-clause-lines : goal.returns-clause-lines
returns-clause-lines c =
    let items = c.self.inside.devices.items in
    let there : c.args.place < length items = omega (arith, c.requires.there, ap (λ (s : DevicesSeen). length s.devices) c.self.view_is) in
    let was : c.index_mut.result.now ≡ device_at items c.args.place = c.index_mut.ensures.value ∙ at-default items c.args.place c.index_mut.result.now there in
    let read : c.index.result.now ≡ device_at items c.args.place = c.index.ensures ∙ at-default items c.args.place c.index.result.now there in
    let named : c.name-name.result ≡ c.index_mut.result.now.name = c.name-name.ensures ∙ ap (λ (d : Device). d.name) (read ∙ sym was) in
    let shown : lines_of c.name-name.result c.send.result ≡ sent_lines (device_at c.args.self.now.devices c.args.place) =
    lines-are c.name-name.result c.index_mut.result.now c.send.result named c.send.ensures.text ∙ ap sent_lines (was ∙ ap (λ (s : DevicesSeen). device_at s.devices c.args.place) c.self.view_is) in
    let made : c.match-send.out.items ≡ c.args.out.now.items ++ lines_of c.name-name.result c.send.result = elim c.match-send.branch [
      | in-Some w ↦ ap (λ (l : Roomy Line). l.items) w.out-is ∙ w.push.ensures.items ∙ ap (λ (o : Option (List ℕ)). c.args.out.now.items ++ lines_of c.name-name.result o) (sym w.in-Some.is)
      | in_default w ↦ ap (λ (l : Roomy Line). l.items) w.out-is ∙ sym (append-nil c.args.out.now.items) ∙ ap (λ (o : Option (List ℕ)). c.args.out.now.items ++ lines_of c.name-name.result o) (sym w.in_default.is)
    ] in
    made ∙ ap (λ (l : List Line). c.args.out.now.items ++ l) shown
