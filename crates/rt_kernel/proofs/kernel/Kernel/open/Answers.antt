use Rattle.rt_kernel.specs.View.{state_of}
use Rattle.rt_kernel.proofs.NameLemmas.{opened-order}
use Rattle.rt_kernel.proofs.OpenLemmas.{opened_free, opened_kept}
use Rattle.rt_kernel.proofs.kernel.Kernel.open.Goals as goal

pub invariant_of-result : goal.invariant_of-result
invariant_of-result c = record {
  built = c.know_built.ensures;
  limits = c.in_ok-state.ensures.limits;
  free = opened_free c.args.board (state_of c.in_ok-state.state) c.know_built.ensures c.in_ok-state.ensures.state;
  order = opened-order c.args.board (state_of c.in_ok-state.state) c.know_built.ensures c.in_ok-state.ensures.state;
  kept = opened_kept c.args.board (state_of c.in_ok-state.state) c.know_built.ensures c.in_ok-state.ensures.state;
}
