use Rattle.std.proofs.Common.{rules, ◌≡◌, [], ◌∷◌, List, sym, subst}
use Rattle.cpus_lock.specs.Passes.{LockPass, AreAllPasses}
use Rattle.cpus_lock_tests.proofs.Both.{both_are_all}
use Rattle.cpus_lock_tests.proofs.diary.value_back.Goals as goal

pub into_inner-requires : goal.into_inner-requires
into_inner-requires c =
    let passes : c.push-2.new.self ≡ c.args.first ∷ c.args.second ∷ [] = search rules in
    let P : List LockPass → Type 0 = λ ps. AreAllPasses c.args.lock ps in
    subst P (sym passes) (both_are_all c.args.lock c.args.first c.args.second c.requires.first.0 c.requires.second.0 c.requires.first.1 c.requires.second.1 c.requires.cores)
