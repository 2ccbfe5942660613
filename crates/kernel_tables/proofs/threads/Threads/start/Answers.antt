use Rattle.std.proofs.Common.{ℕ, List, Bool, not, ◌≡◌, ◌<◌, ◌++◌, ◌∷◌, [], length, arith, ap, sym, ◌∙◌, map, subst, refl}
use Rattle.rt_plain.specs.kernel.State.{is_initial}
use Rattle.ready_list.specs.Ordered.{ReadySeen, with_rows}
use Rattle.kernel_tables.specs.Ready.{row_for, started}
use Rattle.kernel_tables.specs.Threads.{row_at}
use Rattle.kernel_tables.proofs.ReadyLemmas.{IsStarting, starting, not-starting}
use Rattle.kernel_tables.proofs.threads.Threads.start.Goals.{then-not-is_initial, else-not-is_initial}
use Rattle.kernel_tables.proofs.threads.Threads.start.Goals as goal

pub loop-i-init : goal.loop-i-init
loop-i-init c = ap (with_rows c.args.ready.now) c.requires.none

starts : (c : goal.After-core) → IsStarting c.args.self.now c.args.ready.now c.loop-i.ready c.loop-i.i c.base.result c.core.result
starts c = starting c.args.self.now c.args.ready.now c.loop-i.ready c.loop-i.i c.base.result c.core.result c.loop-i.invariant c.requires.count (omega (arith, c.loop-i-test.true, c.len-i-end.ensures.len)) c.requires.within c.base.ensures c.core.ensures

pub add_tail-requires-clause-thread_below : goal.add_tail-requires-clause-thread_below
add_tail-requires-clause-thread_below c = (starts c).there

pub add_tail-requires-clause-prio_below : goal.add_tail-requires-clause-prio_below
add_tail-requires-clause-prio_below c = (starts c).level

pub add_tail-requires-clause-core_below : goal.add_tail-requires-clause-core_below
add_tail-requires-clause-core_below c = (starts c).binding

pub add_tail-requires-clause-absent : goal.add_tail-requires-clause-absent
add_tail-requires-clause-absent c = (starts c).out

pub loop-i-preserved : goal.loop-i-preserved
loop-i-preserved c =
    elim c.if-not-is_initial.branch [
      | then-not-is_initial w ↦ w.ready-is ∙ (starting c.args.self.now c.args.ready.now c.loop-i.ready c.loop-i.i w.base.result w.core.result c.loop-i.invariant c.requires.count (omega (arith, c.loop-i-test.true, c.len-i-end.ensures.len)) c.requires.within w.base.ensures w.core.ensures).next w.add_tail.new.self w.add_tail.ensures (ap not (sym c.is_initial.ensures ∙ w.if-not-is_initial.true))
      | else-not-is_initial w ↦ w.ready-is ∙ not-starting c.args.self.now c.args.ready.now c.loop-i.ready c.loop-i.i c.loop-i.invariant (ap not (sym c.is_initial.ensures ∙ w.if-not-is_initial.false))
    ]
