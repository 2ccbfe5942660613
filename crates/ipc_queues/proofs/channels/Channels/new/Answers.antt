use Rattle.ipc_queues.proofs.FreeLemmas.{all_free}
use Rattle.ipc_queues.proofs.channels.Channels.new.Goals as goal

pub returns-clause-free : goal.returns-clause-free
returns-clause-free c = all_free c.in_ok-mails.mails.items c.in_ok-messages.messages.items c.args.threads c.in_ok-mails.ensures.free c.in_ok-messages.ensures.free
