use Rattle.std.proofs.Common.{◌∙◌, ap}
use Rattle.rt_plain.specs.kernel.Pick.{pick_among}
use Rattle.ready_list.specs.Ordered.{ReadySeen}
use Rattle.ready_list.proofs.OrderLemmas.{picked-there}
use Rattle.ready_list.proofs.list.ReadyList.pick.Goals as goal

pub returns-clause-thread : goal.returns-clause-thread
returns-clause-thread g c = c.pick.ensures.ready _ c.self.invariant.stands ∙ ap (λ (s : ReadySeen). pick_among s.rows c.args.core) c.self.view_is

pub returns-clause-ready : goal.returns-clause-ready
returns-clause-ready g c = picked-there _ _ _ c.args.self.now c.pick.result c.self.invariant c.self.view_is c.pick.ensures.held
