use Rattle.std.proofs.Common.{rules, arith, ◌≡◌, not, eqb, refl}
use Rattle.std.specs.Prelude.{filter}
use Rattle.std.proofs.lemmas.Fn.{filter_same}
use Rattle.object_box.specs.declared.object.Object.{Object}
use Rattle.object_box.proofs.ObjectLemmas.{sound_removed}
use Rattle.object_box.proofs.container.Container.remove.Goals as goal

pub invariant_of-self : goal.invariant_of-self
invariant_of-self c =
    let left : c.retain.new.self.items ≡ filter (λ (o : Object). not (eqb o.no c.args.no)) c.self.inside.objects.items = filter_same _ (λ (o : Object). not (eqb o.no c.args.no)) _ (λ x b f' k. search rules) _ _ c.retain.ensures.filtered in
    (omega (arith, c.retain.ensures.capacity, c.self.invariant.0), (c.self.invariant.1.0, rw left (sound_removed _ c.args.no c.self.invariant.1.1)))

pub returns : goal.returns
returns c =
    let left : c.retain.new.self.items ≡ filter (λ (o : Object). not (eqb o.no c.args.no)) c.self.inside.objects.items = filter_same _ (λ (o : Object). not (eqb o.no c.args.no)) _ (λ x b f' k. search rules) _ _ c.retain.ensures.filtered in
    rw (left, ← c.self.view_is) refl
