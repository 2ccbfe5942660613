use Rattle.std.proofs.Common.{arith, refl}
use Rattle.mutex_chain.proofs.HolderLemmas.{holders_hold}
use Rattle.mutex_chain.proofs.OwnerLemmas.{sound_hold}
use Rattle.mutex_chain.proofs.owners.Owners.set_hold.Goals as goal

pub invariant_of-self : goal.invariant_of-self
invariant_of-self c = (
  omega (arith, c.set_holds.ensures.room, c.self.invariant.0),
  (
    rw c.set_holds.ensures.rows (sound_hold _ c.args.mutex c.args.hold c.self.invariant.1.0),
    rw c.set_holds.ensures.rows (holders_hold _ _ c.args.mutex c.args.hold _ c.self.invariant.1.1),
  ),
)

pub returns : goal.returns
returns c = rw (c.set_holds.ensures.rows, ← c.self.view_is) refl
