use Rattle.std.proofs.Common.{List, ◌+◌, arith, subst, sym, ◌∙◌, ap}
use Rattle.ipc_counts.specs.Flags.{Flagged}
use Rattle.kernel_tables.specs.Opened.{AreFreeEvents}
use Rattle.kernel_tables.proofs.EmptyLemmas.{event_more}
use Rattle.kernel_tables.proofs.open.free_events.Goals as goal

pub loop-preserved : goal.loop-preserved
loop-preserved c = record {
  free = subst (λ (all : List Flagged). AreFreeEvents all (c.loop.counter + 1) c.args.threads) (sym c.push_reserved.ensures.items) (event_more c.loop.events.items c.in_ok-new.field-0 c.loop.counter c.args.threads c.loop.invariant.free c.in_ok-new.ensures.waiters);
  len = c.push_reserved.ensures.len ∙ ap (λ n. n + 1) c.loop.invariant.len;
  room = omega (arith, c.loop.invariant.room, c.push_reserved.ensures.capacity);
}
