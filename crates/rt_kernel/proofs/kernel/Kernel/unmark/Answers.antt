use Rattle.std.proofs.Common.{true, false, refl, sym, ap, ◌∙◌}
use Rattle.rt_kernel.specs.Limits.{limits_of}
use Rattle.rt_kernel.specs.View.{state_of}
use Rattle.rt_kernel.proofs.NameLemmas.{order-kept}
use Rattle.rt_kernel.proofs.Quiet.{name-set}
use Rattle.rt_plain.specs.kernel.Steps.{without_mark}
use Rattle.kernel_tables.specs.Threads.{row_at}
use Rattle.rt_kernel.proofs.KeptLemmas.{unmarked-kept}
use Rattle.rt_kernel.proofs.kernel.Kernel.unmark.Goals as goal

pub is_preemptible-requires : goal.is_preemptible-requires
is_preemptible-requires c = (c.know_state.ensures.running c.args.core c.in-Some.t (sym c.in-Some.ensures)).there

pub invariant_of-self : goal.invariant_of-self
invariant_of-self c = record {
  built = c.self.invariant.built;
  limits = ap limits_of c.unmark.ensures ∙ c.self.invariant.limits;
  free = rw c.unmark.ensures c.self.invariant.free;
  order = rw c.unmark.ensures (order-kept c.self.inside.board (state_of c.self.inside.state) (without_mark (state_of c.self.inside.state) c.in-Some.t) (λ u. name-set c.self.inside.state.tables.threads c.in-Some.t u (record (row_at c.self.inside.state.tables.threads c.in-Some.t) { marked = false }) refl) c.self.invariant.order);
  kept = rw c.unmark.ensures (unmarked-kept c.self.inside.board (state_of c.self.inside.state) c.in-Some.t true c.self.invariant.kept);
}
