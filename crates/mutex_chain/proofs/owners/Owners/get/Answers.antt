use Rattle.std.proofs.Common.{rules, arith, ◌≡◌, ◌≢◌, ◌<◌, ◌∷◌, length, ap, ◌∙◌}
use Rattle.std.specs.Prelude.{All}
use Rattle.std.proofs.lemmas.Grind.{common_steps}
use Rattle.rt_plain.specs.kernel.Ownership.{Ownership, Taken, with_mutex_free}
use Rattle.mutex_chain.proofs.HolderLemmas.{holders_push}
use Rattle.mutex_chain.proofs.OwnerLemmas.{others, others_apart, sound_push}
use Rattle.mutex_chain.proofs.owners.Owners.get.Goals as goal

pub invariant_of-self : goal.invariant_of-self
invariant_of-self c =
    let o : Ownership = record { members = c.self.inside.members.items; ceilings = c.self.inside.ceilings.items; taken = c.self.inside.taken.items } in
    let free : o ≡ with_mutex_free c.args.mutex c.args.self.now = c.self.view_is ∙ c.free.ensures in
    let threads : length o.members ≡ length c.args.self.now.members = ap (λ (p : Ownership). length p.members) free in
    let mutexes : length o.ceilings ≡ length c.args.self.now.ceilings = ap (λ (p : Ownership). length p.ceilings) free in
    let rows : o.taken ≡ others c.args.mutex c.args.self.now.taken = ap (λ (p : Ownership). p.taken) free in
    let apart : All (λ h. c.args.mutex ≢ h.mutex) o.taken = rw rows (others_apart c.args.mutex c.args.self.now.taken) in
    let pushed = sound_push o c.args.mutex c.args.thread c.self.invariant.1.0 apart (omega (arith, c.requires.mutex)) (omega (arith, c.requires.thread)) in
    let room : length c.self.inside.taken.items < length c.self.inside.ceilings.items = pushed.1 in
    let row : Taken = record { mutex = c.args.mutex; owner = c.args.thread; hold = 1 } in
    let items : c.insert.new.self.items ≡ row ∷ c.self.inside.taken.items = search (rules, common_steps) in (
      omega (arith, c.insert.ensures.capacity, c.self.invariant.0),
      (
        rw items pushed.0,
        rw (items, c.mutex.view_is) (holders_push c.self.inside.taken.items _ c.args.mutex c.args.thread c.self.inside.holders.items (omega (arith, c.requires.mutex)) c.self.invariant.1.1),
      ),
    )

pub returns : goal.returns
returns c =
    let o : Ownership = record { members = c.self.inside.members.items; ceilings = c.self.inside.ceilings.items; taken = c.self.inside.taken.items } in
    let free : o ≡ with_mutex_free c.args.mutex c.args.self.now = c.self.view_is ∙ c.free.ensures in
    let threads : length o.members ≡ length c.args.self.now.members = ap (λ (p : Ownership). length p.members) free in
    let mutexes : length o.ceilings ≡ length c.args.self.now.ceilings = ap (λ (p : Ownership). length p.ceilings) free in
    let rows : o.taken ≡ others c.args.mutex c.args.self.now.taken = ap (λ (p : Ownership). p.taken) free in
    let apart : All (λ h. c.args.mutex ≢ h.mutex) o.taken = rw rows (others_apart c.args.mutex c.args.self.now.taken) in
    let pushed = sound_push o c.args.mutex c.args.thread c.self.invariant.1.0 apart (omega (arith, c.requires.mutex)) (omega (arith, c.requires.thread)) in
    let room : length c.self.inside.taken.items < length c.self.inside.ceilings.items = pushed.1 in
    let row : Taken = record { mutex = c.args.mutex; owner = c.args.thread; hold = 1 } in
    let items : c.insert.new.self.items ≡ row ∷ c.self.inside.taken.items = search (rules, common_steps) in
    rw items (ap (λ (p : Ownership). record p { taken = row ∷ p.taken }) free)
