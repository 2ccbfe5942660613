use Rattle.std.proofs.Common.{rules, arith, ◌+◌, ◌*◌, ◌<◌, length, subst}
use Rattle.std.specs.Int.{trailing_zeros, w8, w32}
use Rattle.ready_set.specs.Levels.{IsLeastLevel}
use Rattle.ready_set.proofs.LevelBits.{bits_seen, group_below, group_is_there, lowest_is_least}
use Rattle.ready_set.proofs.bits.PrioBits.lowest.Goals as goal

pub read-word-requires : goal.read-word-requires
read-word-requires g c =
    let is = bits_seen g.row.G _ _ c.args.self.now c.self.invariant c.self.view_is in
    let row : c.args.binding < length c.self.inside.tops = omega (arith, is.0, c.requires.binding_below) in
    let pos : 0 < c.read-top.result = search rules in
    group_below _ _ _ c.self.invariant c.args.binding _ row (group_is_there _ _ _ c.self.invariant c.args.binding c.read-top.result row c.read-top.ensures.value pos)

pub overflow_cast-result : goal.overflow_cast-result
overflow_cast-result g c =
    let is = bits_seen g.row.G _ _ c.args.self.now c.self.invariant c.self.view_is in
    let row : c.args.binding < length c.self.inside.tops = omega (arith, is.0, c.requires.binding_below) in
    let pos : 0 < c.read-top.result = search rules in
    let there = group_is_there _ _ _ c.self.invariant c.args.binding c.read-top.result row c.read-top.ensures.value pos in
    let least = lowest_is_least _ _ _ c.self.invariant c.args.binding c.read-top.result c.read-word.result row c.read-top.ensures.value pos c.read-word.ensures.value in
    record { fits = omega (arith, there, least.0, c.self.invariant.most) }

pub returns-clause-least : goal.returns-clause-least
returns-clause-least g c =
    let is = bits_seen g.row.G _ _ c.args.self.now c.self.invariant c.self.view_is in
    let row : c.args.binding < length c.self.inside.tops = omega (arith, is.0, c.requires.binding_below) in
    let pos : 0 < c.read-top.result = search rules in
    let least = lowest_is_least _ _ _ c.self.invariant c.args.binding c.read-top.result c.read-word.result row c.read-top.ensures.value pos c.read-word.ensures.value in
    subst (λ gs. IsLeastLevel g.row.G gs c.args.binding (trailing_zeros w32 c.read-top.result * 8 + trailing_zeros w8 c.read-word.result)) is.1 least.1
