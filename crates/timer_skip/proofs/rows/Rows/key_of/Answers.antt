use Rattle.std.proofs.Common.{rules, ◌≡◌, ◌≤◌, None, sym, ◌∙◌, arith}
use Rattle.std.proofs.lemmas.Bool.Decides.{nat_tests}
use Rattle.timer_skip.specs.Links.{entries, count}
use Rattle.timer_skip.proofs.Chains.{none_beyond}
use Rattle.timer_skip.proofs.rows.Rows.key_of.Goals as goal

pub returns-in_err-get : goal.returns-in_err-get
returns-in_err-get g c =
    let none : c.from_residual.result ≡ None = search rules in
    let beyond : count c.args.self.now ≤ c.args.no = grind (arith, nat_tests, c.in_err-get.ensures.lookup, c.deref.ensures.value) in
    none ∙ sym (none_beyond c.args.no (count c.args.self.now) (entries c.args.self.now) c.requires.in_order.below beyond)
