use Rattle.std.proofs.Common.{rules, arith, sym, ◌∙◌, ◌≡◌, ◌<◌, ◌∷◌, length, None}
use Rattle.std.proofs.lemmas.Grind.{common_steps}
use Rattle.object_box.specs.declared.object.Object.{Object}
use Rattle.object_box.specs.Objects.{number_of, IsLeastFree}
use Rattle.object_box.proofs.ObjectLemmas.{sound_made}
use Rattle.object_box.proofs.container.Container.make.Goals as goal

pub invariant_of-self : goal.invariant_of-self
invariant_of-self c =
    let free : IsLeastFree c.self.inside.objects.items c.least_free-no.result = rw c.deref.ensures.value at c.least_free-no.ensures in
    let new : number_of c.self.inside.objects.items c.args.name ≡ None = rw (← c.self.view_is) at (sym c.find.ensures ∙ c.in_default.is) in
    let room : length c.self.inside.objects.items < c.self.inside.limit = search rules in
    let object : Object = record { no = c.least_free-no.result; name = c.args.name } in
    let items : c.insert.new.self.items ≡ object ∷ c.self.inside.objects.items = search (rules, common_steps) in
    (omega (arith, c.insert.ensures.capacity, c.self.invariant.0), (c.self.invariant.1.0, rw items (sound_made _ _ _ c.self.invariant.1.1 new room free).1))

pub returns-clause-cause : goal.returns-clause-cause
returns-clause-cause c =
    let free : IsLeastFree c.self.inside.objects.items c.least_free-no.result = rw c.deref.ensures.value at c.least_free-no.ensures in
    let new : number_of c.self.inside.objects.items c.args.name ≡ None = rw (← c.self.view_is) at (sym c.find.ensures ∙ c.in_default.is) in
    let room : length c.self.inside.objects.items < c.self.inside.limit = search rules in
    rw (← c.self.view_is) (new, (room, (free, (sound_made _ _ _ c.self.invariant.1.1 new room free).0)))
