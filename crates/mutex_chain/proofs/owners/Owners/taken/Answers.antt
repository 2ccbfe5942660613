use Rattle.std.proofs.Common.{◌<◌, length}
use Rattle.std.specs.Prelude.{◌==◌}
use Rattle.rt_plain.specs.kernel.Ownership.{Taken}
use Rattle.mutex_chain.proofs.CurLemmas.{found_has}
use Rattle.mutex_chain.proofs.owners.Owners.taken.Goals as goal

pub returns-clause-within : goal.returns-clause-within
returns-clause-within c =
    rw (c.row_of.ensures, c.deref.ensures.value, ← c.self.view_is) (found_has (λ (h : Taken). h.owner < length c.self.inside.members.items) (λ (h : Taken). h.mutex == c.args.mutex) c.self.inside.taken.items c.self.invariant.1.0.owners)
