use Rattle.std.proofs.Common.{rules, arith, ◌≡◌, not, eqb, refl}
use Rattle.std.specs.Prelude.{filter}
use Rattle.std.proofs.lemmas.Fn.{filter_same}
use Rattle.rt_plain.specs.kernel.Ownership.{Taken}
use Rattle.mutex_chain.proofs.HolderLemmas.{holders_free}
use Rattle.mutex_chain.proofs.OwnerLemmas.{sound_free}
use Rattle.mutex_chain.proofs.owners.Owners.free.Goals as goal

pub invariant_of-self : goal.invariant_of-self
invariant_of-self c =
    let left : c.retain.new.self.items ≡ filter (λ (h : Taken). not (eqb h.mutex c.args.mutex)) c.self.inside.taken.items = filter_same _ (λ (h : Taken). not (eqb h.mutex c.args.mutex)) _ (λ x b f' k. search rules) _ _ c.retain.ensures.filtered in (
      omega (arith, c.retain.ensures.capacity, c.self.invariant.0),
      (
        rw left (sound_free _ c.args.mutex c.self.invariant.1.0),
        rw (left, c.mutex.view_is) (holders_free c.self.inside.taken.items _ c.args.mutex c.self.inside.holders.items (rw (← c.self.view_is) at c.requires) c.self.invariant.1.1),
      ),
    )

pub returns : goal.returns
returns c =
    let left : c.retain.new.self.items ≡ filter (λ (h : Taken). not (eqb h.mutex c.args.mutex)) c.self.inside.taken.items = filter_same _ (λ (h : Taken). not (eqb h.mutex c.args.mutex)) _ (λ x b f' k. search rules) _ _ c.retain.ensures.filtered in
    rw (left, ← c.self.view_is) refl
