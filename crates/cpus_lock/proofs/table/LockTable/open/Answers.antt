use Rattle.std.proofs.Common.{rules, ◌≡◌, List, [], ◌∷◌, Option, Some, subst, sym}
use Rattle.atomic_table.specs.Table.{opening}
use Rattle.cpus_lock.specs.Rule.{Locked, first_seat}
use Rattle.cpus_lock.proofs.Ends.{opens}
use Rattle.cpus_lock.proofs.table.LockTable.open.Goals as goal

pub new-requires : goal.new-requires
new-requires g c =
    let meanings = g.K.Nested in
    let cores = c.args.cores in
    let items_is : c.push_reserved.new.self.items ≡ Some c.args.value ∷ [] = search rules in
    let value_is : c.of.result.value ≡ c.args.value = search rules in
    let P : List (Option g.row.K.Denot) → Type 0 = λ xs. Locked meanings cores c.of.result.value (opening (0 ∷ []) xs (first_seat cores (meanings.root c.of.result.value) (meanings.log c.of.result.value))) in
    let Q : g.row.K.Denot → Type 0 = λ v. Locked meanings cores v (opening (0 ∷ []) (Some c.args.value ∷ []) (first_seat cores (meanings.root v) (meanings.log v))) in
    subst P (sym items_is) (subst Q (sym value_is) (opens meanings cores c.args.value c.requires.cores.0 c.requires.cores.1 c.requires.owners c.requires.nest))
