use Rattle.std.proofs.Common.{ℕ, List, [], ap, ◌∙◌}
use Rattle.ipc_queues.specs.Queues.{PlainMailbox}
use Rattle.rt_plain.specs.kernel.State.{Mailbox}
use Rattle.kernel_tables.proofs.CreateLemmas.{mailboxes_more, mailboxes_all}
use Rattle.kernel_tables.proofs.tables.Tables.create_mailboxes.Goals as goal

pub loop-def-init : goal.loop-def-init
loop-def-init c = ap (λ (all : List Mailbox). record c.args.self.now { mailboxes = all }) c.requires.none

pub create_mailbox-requires : goal.create_mailbox-requires
create_mailbox-requires c = ap (λ (m : PlainMailbox). m.words) c.in_ok-mailbox.ensures

pub loop-def-preserved : goal.loop-def-preserved
loop-def-preserved c = mailboxes_more c.args.self.now c.loop-def.self c.create_mailbox.new.self c.args.defs.now c.loop-def.def-index c.def-item.result _ c.create_mailbox.result c.requires c.loop-def.invariant c.loop-def-test.true c.def-item.is (ap (λ (n : List ℕ). let m : PlainMailbox = c.in_ok-mailbox.mailbox in record { name = n; size = m.size; order = c.def-item.result.order; words = [] }) c.copy.ensures ∙ ap (λ (m : PlainMailbox). let n : List ℕ = c.def-item.result.name in record { name = n; size = m.size; order = c.def-item.result.order; words = [] }) c.in_ok-mailbox.ensures) c.create_mailbox.ensures

pub returns : goal.returns
returns c = c.loop-def.invariant ∙ mailboxes_all c.args.self.now c.args.defs.now c.loop-def.def-index c.loop-def-test.false
