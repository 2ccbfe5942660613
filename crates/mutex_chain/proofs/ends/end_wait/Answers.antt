use Rattle.rt_plain.specs.kernel.Ownership.{leave_edit}
use Rattle.mutex_chain.proofs.EditLemmas.{aside_by, differs_leave}
use Rattle.mutex_chain.proofs.ends.end_wait.Goals as goal

pub returns-clause-aside : goal.returns-clause-aside
returns-clause-aside g c = λ numbers at.
    let o = c.args.owners.now in
    rw c.counted_blocker-owner.ensures.owner (aside_by o c.set_wait.new.self (leave_edit c.args.thread o) numbers _ c.know_sound.ensures c.know_sound-2.ensures at c.set_wait.ensures (differs_leave o c.args.thread c.know_sound.ensures c.requires.thread))
