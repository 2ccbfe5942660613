use Rattle.std.proofs.Common.{◌≡◌, ◌∙◌, ℕ, List, Some, None, Bool, true, refl, ap, bytes_eq, is_some}
use Rattle.std.specs.Prelude.{if◌then◌else◌}
use Rattle.std.proofs.lemmas.Slice.Eq.{bytes_eq-Decides}
use Rattle.pool_laws.specs.Served.{awaits_block}
use Rattle.pool_laws.proofs.RunSpares.{waits-served}
use Rattle.pool_laws.proofs.laws.nobody_waits_for_a_free_block.Goals as goal

waits-here : (name : List ℕ) (number : ℕ) → is_some (if bytes_eq name name then Some number else None) ≡ true
waits-here name number = ap (λ (c : Bool). is_some (if c then Some number else None)) ((bytes_eq-Decides name name).1 refl)

pub returns : goal.returns
returns c b journal s t number name timeout pool run stage found = waits-served b journal s t name run (ap (awaits_block name) stage ∙ waits-here name number) pool found
