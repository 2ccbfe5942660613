use Rattle.std.proofs.Common.{arith, ◌<◌, length, subst}
use Rattle.ready_set.specs.Levels.{IsChangedAt}
use Rattle.ready_set.proofs.LevelBits.{bits_seen, place_fits, level_set, index_set}
use Rattle.ready_set.proofs.bits.PrioBits.set.Goals as goal

pub overflow_mul-at : goal.overflow_mul-at
overflow_mul-at g c =
    let is = bits_seen g.row.G _ _ c.args.self.now c.self.invariant c.self.view_is in
    record { fits = omega (arith, place_fits _ _ _ c.self.invariant c.args.binding (omega (arith, is.0, c.requires.binding_below))) }

pub overflow_add-at : goal.overflow_add-at
overflow_add-at g c =
    let is = bits_seen g.row.G _ _ c.args.self.now c.self.invariant c.self.view_is in
    record { fits = omega (arith, place_fits _ _ _ c.self.invariant c.args.binding (omega (arith, is.0, c.requires.binding_below))) }

pub invariant_of-self : goal.invariant_of-self
invariant_of-self g c =
    let is = bits_seen g.row.G _ _ c.args.self.now c.self.invariant c.self.view_is in
    let row : c.args.binding < length c.self.inside.tops = omega (arith, is.0, c.requires.binding_below) in
    index_set _ _ _ c.self.invariant c.args.binding c.args.level c.stored-word.result c.stored-top.result _ _ _ _ row c.requires.level_below
    c.stored-word.ensures.value c.stored-word.ensures.same c.write-2.ensures c.stored-top.ensures.value c.stored-top.ensures.same c.write.ensures

pub returns-clause-bits : goal.returns-clause-bits
returns-clause-bits g c =
    let is = bits_seen g.row.G _ _ c.args.self.now c.self.invariant c.self.view_is in
    let row : c.args.binding < length c.self.inside.tops = omega (arith, is.0, c.requires.binding_below) in
    subst (λ gs. IsChangedAt g.row.G gs c.write-2.new.self c.args.binding c.args.level 1) is.1
    (level_set _ _ _ c.self.invariant c.args.binding c.args.level c.stored-word.result _ _ row c.requires.level_below c.stored-word.ensures.value c.stored-word.ensures.same c.write-2.ensures)
