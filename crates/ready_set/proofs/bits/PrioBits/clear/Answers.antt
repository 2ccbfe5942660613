use Rattle.std.proofs.Common.{arith, ◌<◌, length, subst}
use Rattle.ready_set.specs.Levels.{IsChangedAt}
use Rattle.ready_set.proofs.LevelBits.{bits_seen, place_fits, level_cleared, index_emptied}
use Rattle.ready_set.proofs.bits.PrioBits.clear.Goals as goal

pub overflow_mul-at : goal.overflow_mul-at
overflow_mul-at g c =
    let is = bits_seen g.row.G _ _ c.args.self.now c.self.invariant c.self.view_is in
    record { fits = omega (arith, place_fits _ _ _ c.self.invariant c.args.binding (omega (arith, is.0, c.requires.binding_below))) }

pub overflow_add-at : goal.overflow_add-at
overflow_add-at g c =
    let is = bits_seen g.row.G _ _ c.args.self.now c.self.invariant c.self.view_is in
    record { fits = omega (arith, place_fits _ _ _ c.self.invariant c.args.binding (omega (arith, is.0, c.requires.binding_below))) }

pub invariant_of-self : goal.invariant_of-self
invariant_of-self g c =
    let is = bits_seen g.row.G _ _ c.args.self.now c.self.invariant c.self.view_is in
    let row : c.args.binding < length c.self.inside.tops = omega (arith, is.0, c.requires.binding_below) in
    index_emptied _ _ _ c.self.invariant c.args.binding c.args.level _ c.stored-top.result _ _ _ _ row c.requires.level_below
    c.stored.ensures.same c.write.ensures c.if-word-eq0.true c.stored-top.ensures.value c.stored-top.ensures.same c.write-then-word-eq0.ensures

pub returns-then-word-eq0-clause-bits : goal.returns-then-word-eq0-clause-bits
returns-then-word-eq0-clause-bits g c =
    let is = bits_seen g.row.G _ _ c.args.self.now c.self.invariant c.self.view_is in
    let row : c.args.binding < length c.self.inside.tops = omega (arith, is.0, c.requires.binding_below) in
    subst (λ gs. IsChangedAt g.row.G gs c.write.new.self c.args.binding c.args.level 0) is.1
    (level_cleared _ _ _ c.self.invariant c.args.binding c.args.level c.stored.result _ _ row c.requires.level_below c.stored.ensures.value c.stored.ensures.same c.write.ensures)

pub returns-else-word-eq0-clause-bits : goal.returns-else-word-eq0-clause-bits
returns-else-word-eq0-clause-bits g c =
    let is = bits_seen g.row.G _ _ c.args.self.now c.self.invariant c.self.view_is in
    let row : c.args.binding < length c.self.inside.tops = omega (arith, is.0, c.requires.binding_below) in
    subst (λ gs. IsChangedAt g.row.G gs c.write.new.self c.args.binding c.args.level 0) is.1
    (level_cleared _ _ _ c.self.invariant c.args.binding c.args.level c.stored.result _ _ row c.requires.level_below c.stored.ensures.value c.stored.ensures.same c.write.ensures)
