use Rattle.std.proofs.Common.{rules, ◌≡◌, Some, None, sym, ap, ◌∙◌}
use Rattle.std.specs.Option.{option_map}
use Rattle.timer_skip.specs.Armed.{ArmedRow}
use Rattle.timer_skip.specs.Links.{entries, key_of}
use Rattle.timer_skip.proofs.Chains.{none_found}
use Rattle.timer_skip.proofs.Changes.{node_there, left_found}
use Rattle.timer_skip.proofs.rows.Rows.left_of.Goals as goal

pub returns-in_err-key_of : goal.returns-in_err-key_of
returns-in_err-key_of g c =
    let none : c.from_residual.result ≡ None = search rules in
    let no_key : key_of c.args.no (entries c.args.self.now) ≡ None = sym c.in_err-key_of.ensures in
    none ∙ sym (ap (λ o. option_map (λ (r : ArmedRow). r.left) o) (none_found c.args.no (entries c.args.self.now) no_key).0)

pub returns-in_err-node : goal.returns-in_err-node
returns-in_err-node g c = absurd (node_there c.args.self.now c.args.no c.in_ok-key_of.field-0 c.requires (sym c.in_ok-key_of.ensures) (sym c.in_err-node.ensures))

pub returns : goal.returns
returns g c = ap Some c.left.ensures ∙ left_found c.args.self.now c.args.no c.in_ok-key_of.field-0 c.in_ok-node.node.now c.requires (sym c.in_ok-key_of.ensures) (sym c.in_ok-node.ensures)
