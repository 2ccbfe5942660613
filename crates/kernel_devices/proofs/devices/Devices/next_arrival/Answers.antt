use Rattle.std.proofs.Common.{◌≡◌, ◌-◌, List, Some, sym, ap, ◌∙◌, length, reverse, subst}
use Rattle.std.specs.Prelude.{slice_get}
use Rattle.std.specs.Option.{option_copied}
use Rattle.rt_plain.specs.kernel.State.{Arriving}
use Rattle.kernel_devices.specs.Deviced.{DevicesSeen, next_moment, IsInOrder}
use Rattle.kernel_devices.proofs.ArrivalLemmas.{earliest, last-is}
use Rattle.kernel_devices.proofs.devices.Devices.next_arrival.Goals as goal

pub returns-in-Some-clause-earliest : goal.returns-in-Some-clause-earliest
returns-in-Some-clause-earliest c =
    let items = c.self.inside.left.items in
    let last : slice_get items (length items - 1) ≡ Some c.in-Some.next.now =
    ap (λ (l : List Arriving). slice_get l (length l - 1)) (sym c.deref.ensures.value) ∙ sym c.last.ensures.value ∙ ap option_copied c.in-Some.is in
    let arrivals : reverse items ≡ c.args.self.now.arrivals = ap (λ (s : DevicesSeen). s.arrivals) c.self.view_is in
    let first : next_moment c.args.self.now.arrivals ≡ Some c.next.inside.moment =
    ap next_moment (sym arrivals) ∙ last-is items c.in-Some.next.now last ∙ ap (λ (a : Arriving). Some a.moment) (sym c.next.view_is) in
    earliest c.args.self.now.arrivals c.next.inside.moment (subst IsInOrder arrivals c.self.invariant.in_order) first
