use Rattle.std.proofs.Common.{ℕ, ◌∙◌, sym, ap, ◌≡◌, ◌<◌, ◌++◌, arith, List, length, map, append-nil}
use Rattle.ready_list.specs.Ordered.{with_rows}
use Rattle.rt_plain.specs.kernel.Pick.{ReadyRow}
use Rattle.kernel_tables.proofs.ReadyLemmas.{IsEntering, entering, entering-over}
use Rattle.kernel_tables.proofs.ready.enter_all.Goals as goal

pub loop-i-init : goal.loop-i-init
loop-i-init c = ap (with_rows c.args.ready.now) (sym (append-nil c.args.ready.now.rows))

enters : (c : goal.After-core) → IsEntering c.args.threads.now c.args.ready.now c.loop-i.ready c.args.woken.now c.loop-i.i c.at-t.result c.base.result c.core.result
enters c = entering c.args.threads.now c.args.ready.now c.loop-i.ready c.args.woken.now c.loop-i.i c.at-t.result c.base.result c.core.result c.requires c.loop-i.invariant (omega (arith, c.loop-i-test.true, c.len-i-end.ensures)) c.at-t.ensures c.base.ensures c.core.ensures

pub add_tail-requires-clause-thread_below : goal.add_tail-requires-clause-thread_below
add_tail-requires-clause-thread_below c = (enters c).there

pub add_tail-requires-clause-prio_below : goal.add_tail-requires-clause-prio_below
add_tail-requires-clause-prio_below c = (enters c).level

pub add_tail-requires-clause-core_below : goal.add_tail-requires-clause-core_below
add_tail-requires-clause-core_below c = (enters c).binding

pub add_tail-requires-clause-absent : goal.add_tail-requires-clause-absent
add_tail-requires-clause-absent c = (enters c).out

entered : (c : goal.After-add_tail) → IsEntering c.args.threads.now c.args.ready.now c.loop-i.ready c.args.woken.now c.loop-i.i c.at-t.result c.base.result c.core.result
entered c = entering c.args.threads.now c.args.ready.now c.loop-i.ready c.args.woken.now c.loop-i.i c.at-t.result c.base.result c.core.result c.requires c.loop-i.invariant (omega (arith, c.loop-i-test.true, c.len-i-end.ensures)) c.at-t.ensures c.base.ensures c.core.ensures

pub loop-i-preserved : goal.loop-i-preserved
loop-i-preserved c = (entered c).next c.add_tail.new.self c.add_tail.ensures

pub returns : goal.returns
returns c = entering-over c.args.threads.now c.args.ready.now c.loop-i.ready c.args.woken.now c.loop-i.i c.loop-i.invariant (omega (arith, c.loop-i-test.false, c.len-i-end.ensures))
