use Rattle.std.proofs.Common.{◌∙◌, arith, ◌<◌}
use Rattle.ready_set.proofs.LinkLemmas.{seen, marks_are}
use Rattle.ready_set.proofs.queues.Queues.holds.Goals as goal

pub returns : goal.returns
returns c =
    let is = seen _ _ _ _ c.args.self.now c.self.invariant c.self.view_is in
    let below : c.args.thread < c.self.inside.threads = omega (arith, is.0, c.requires) in
    c.is_marked.ensures ∙ marks_are _ _ _ _ c.args.self.now.queues is.1 c.args.thread below
