use Rattle.std.proofs.Common.{rules, ◌≡◌, ◌∙◌}
use Rattle.ready_set.specs.ReadyLists.{is_held}
use Rattle.ready_set.proofs.RowLemmas.{ready_seen}
use Rattle.ready_set.proofs.HeldLemmas.{held_rows}
use Rattle.ready_set.proofs.ready.ReadySet.holds.Goals as goal

pub returns-clause-ready : goal.returns-clause-ready
returns-clause-ready g c =
    let held : c.holds.result ≡ is_held c.args.self.now c.args.thread = search rules in
    λ rows st. held ∙ held_rows c.args.self.now c.args.thread (ready_seen _ _ _ _ _ c.args.self.now c.self.invariant c.self.view_is) rows st
