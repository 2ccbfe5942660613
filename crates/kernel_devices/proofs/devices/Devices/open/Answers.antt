use Rattle.std.proofs.Common.{◌≤◌, List, map, reverse, sym, ap, ◌∷◌, ◌∙◌, subst, arith}
use Rattle.std.specs.List.{All}
use Rattle.rt_plain.specs.PlainBoard.{PlainBoard}
use Rattle.rt_plain.specs.declared.board.Arrival.{Arrival}
use Rattle.rt_plain.specs.declared.board.DeviceDef.{DeviceDef}
use Rattle.rt_plain.specs.kernel.Opening.{new_console, new_device}
use Rattle.rt_plain.specs.text.Canon.{IsValid}
use Rattle.kernel_devices.specs.Deviced.{arriving}
use Rattle.kernel_devices.proofs.OpenLemmas.{opened-kept}
use Rattle.kernel_devices.proofs.ValidLemmas.{valid-fit}
use Rattle.kernel_devices.proofs.devices.Devices.open.Goals as goal

pub devices_of-requires : goal.devices_of-requires
devices_of-requires c =
    let fit = valid-fit c.args.board.now (subst IsValid c.board.view_is c.board.invariant) in
    subst (λ (l : List DeviceDef). All (λ def. (1 ≤ def.rate) × (def.rate ≤ 64)) l) (sym (c.as_slice.ensures ∙ ap (λ (b : PlainBoard). b.devices) c.board.view_is)) fit.rates

pub arrivals_of-requires : goal.arrivals_of-requires
arrivals_of-requires c =
    let fit = valid-fit c.args.board.now (subst IsValid c.board.view_is c.board.invariant) in
    omega (arith, fit.counts, ap (λ (b : PlainBoard). b.lp_h) c.board.view_is)

pub invariant_of-result : goal.invariant_of-result
invariant_of-result c =
    opened-kept c.args.board.now c.in_ok-devices.devices.items c.in_ok-left.left.items
    (c.in_ok-devices.ensures ∙ ap (λ (l : List DeviceDef). reverse (new_console ∷ map new_device l)) c.as_slice.ensures ∙ ap (λ (b : PlainBoard). reverse (new_console ∷ map new_device b.devices)) c.board.view_is)
    (c.in_ok-left.ensures ∙ ap (λ (l : List Arrival). reverse (map (arriving c.board.inside.lp_h c.board.inside.lp_q) l)) c.as_slice-2.ensures ∙ ap (λ (b : PlainBoard). reverse (map (arriving b.lp_h b.lp_q) b.arrivals)) c.board.view_is)
    (valid-fit c.args.board.now (subst IsValid c.board.view_is c.board.invariant))
