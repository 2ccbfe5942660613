use Rattle.std.proofs.Common.{ℕ, ◌<◌, ◌∙◌, List, Option, sym, ap, subst, length}
use Rattle.std.specs.Prelude.{IfSome}
use Rattle.rt_plain.specs.kernel.State.{Thread}
use Rattle.mutex_chain.proofs.HolderLemmas.{owner_has}
use Rattle.mutex_tables.proofs.object_rows.owner_name.Goals as goal

pub name-requires : goal.name-requires
name-requires c =
    subst (λ (rows : List Thread). c.in_ok-owner.owner < length rows) (sym c.threads.ensures)
    (subst (λ n. c.in_ok-owner.owner < n) c.requires.members
    (subst (λ (r : Option ℕ). IfSome r (λ t. t < length c.args.graph.now.members)) (sym c.owner.ensures ∙ c.in_ok-owner.was) (owner_has (length c.args.graph.now.members) c.args.mutex c.args.graph.now.taken c.know_owners.ensures.owners)))
