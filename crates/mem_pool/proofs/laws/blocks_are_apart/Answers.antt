use Rattle.std.proofs.Common.{arith, inl, inr}
use Rattle.std.proofs.lemmas.Bool.{cases_lt}
use Rattle.mem_pool.proofs.PoolLemmas.{apart_places}
use Rattle.mem_pool.proofs.laws.blocks_are_apart.Goals as goal

pub returns : goal.returns
returns c p j k other =
    elim (cases_lt j k) [
      | inl less ↦ inl (apart_places p.size j k less)
      | inr more ↦ inr (apart_places p.size k j (omega (arith, more, other)))
    ]
