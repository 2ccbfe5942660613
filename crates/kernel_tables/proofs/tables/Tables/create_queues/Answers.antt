use Rattle.std.proofs.Common.{ℕ, List, [], ap, ◌∙◌}
use Rattle.ipc_queues.specs.Queues.{PlainMsgQueue}
use Rattle.rt_plain.specs.kernel.State.{MsgQueue}
use Rattle.kernel_tables.proofs.CreateLemmas.{queues_more, queues_all}
use Rattle.kernel_tables.proofs.tables.Tables.create_queues.Goals as goal

pub loop-def-init : goal.loop-def-init
loop-def-init c = ap (λ (all : List MsgQueue). record c.args.self.now { queues = all }) c.requires.none

pub create_queue-requires : goal.create_queue-requires
create_queue-requires c = ap (λ (m : PlainMsgQueue). m.messages) c.in_ok-queue.ensures

pub loop-def-preserved : goal.loop-def-preserved
loop-def-preserved c = queues_more c.args.self.now c.loop-def.self c.create_queue.new.self c.args.defs.now c.loop-def.def-index c.def-item.result _ c.create_queue.result c.requires c.loop-def.invariant c.loop-def-test.true c.def-item.is (ap (λ (n : List ℕ). let m : PlainMsgQueue = c.in_ok-queue.queue in record { name = n; max = m.max; size = m.size; order = c.def-item.result.order; messages = [] }) c.copy.ensures ∙ ap (λ (m : PlainMsgQueue). let n : List ℕ = c.def-item.result.name in record { name = n; max = m.max; size = m.size; order = c.def-item.result.order; messages = [] }) c.in_ok-queue.ensures) c.create_queue.ensures

pub returns : goal.returns
returns c = c.loop-def.invariant ∙ queues_all c.args.self.now c.args.defs.now c.loop-def.def-index c.loop-def-test.false
