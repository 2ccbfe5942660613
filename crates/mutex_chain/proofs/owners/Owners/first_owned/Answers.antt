use Rattle.std.proofs.Common.{length}
use Rattle.std.specs.Prelude.{◌==◌}
use Rattle.rt_plain.specs.kernel.Ownership.{Taken}
use Rattle.mutex_chain.proofs.PassLemmas.{find_head, mutex_has}
use Rattle.mutex_chain.proofs.owners.Owners.first_owned.Goals as goal

pub returns-clause-mutex : goal.returns-clause-mutex
returns-clause-mutex c = rw (c.first_owned_by.ensures, c.deref.ensures.value, ← c.self.view_is) (find_head c.args.thread c.self.inside.taken.items)

pub returns-clause-within : goal.returns-clause-within
returns-clause-within c =
    rw (c.first_owned_by.ensures, c.deref.ensures.value, ← c.self.view_is) (mutex_has (length c.self.inside.ceilings.items) (λ (h : Taken). h.owner == c.args.thread) c.self.inside.taken.items c.self.invariant.1.0.mutexes)
