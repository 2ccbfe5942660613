use Rattle.std.proofs.Common.{rules, ◌≡◌, ap, ◌∙◌, ◌++◌, ◌∷◌, []}
use Rattle.std.specs.Option.{option_to_list}
use Rattle.cpus_lock.specs.Passes.{LockPass}
use Rattle.cpus_lock.proofs.Gathered.{list_one}
use Rattle.cpus_lock.proofs.table.LockTable.list.Goals as goal

pub loop-pass-preserved : goal.loop-pass-preserved
loop-pass-preserved g c =
    let front = c.pop.new.self.items in
    let pass = c.in-Some.pass in
    let cut : c.loop-pass.row.items ≡ front ++ pass ∷ [] = c.pop.ensures.items ∙ ap (λ o. front ++ option_to_list o) c.in-Some.is in
    let more : c.push.new.self ≡ c.loop-pass.passes ++ pass ∷ [] = search rules in
    let kept = c.loop-pass.invariant in
    list_one (λ (p : LockPass). p.lock.table ≡ c.args.self.now.table.shared.table_id) c.loop-pass.passes c.loop-pass.row.items front c.push.new.self _ pass cut more kept.0 kept.1 kept.2
