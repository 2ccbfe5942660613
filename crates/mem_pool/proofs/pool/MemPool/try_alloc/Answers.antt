use Rattle.std.proofs.Common.{arith, rules, ◌≡◌, None}
use Rattle.mem_pool.specs.Bits.{IsLeast}
use Rattle.mem_pool.specs.Pools.{free_block}
use Rattle.mem_pool.proofs.PoolLemmas.{lowest_is_free, room_left, kept_alloc, given, none_given}
use Rattle.mem_pool.proofs.pool.MemPool.try_alloc.Goals as goal

pub returns-in_err-block-clause-place : goal.returns-in_err-block-clause-place
returns-in_err-block-clause-place c =
    let none : free_block c.args.self.now ≡ None = none_given _ _ _ _ _ _ _ c.self.invariant (rw c.in_err-block.was at c.lowest.ensures) c.self.view_is in
    rw none (search rules)

pub returns-in_err-block-clause-state : goal.returns-in_err-block-clause-state
returns-in_err-block-clause-state c =
    let none : free_block c.args.self.now ≡ None = none_given _ _ _ _ _ _ _ c.self.invariant (rw c.in_err-block.was at c.lowest.ensures) c.self.view_is in
    rw none (search rules)

pub index_mut-requires : goal.index_mut-requires
index_mut-requires c =
    let least : IsLeast c.self.inside.free.word c.in_ok-block.block = rw c.in_ok-block.was at c.lowest.ensures in
    omega (arith, (lowest_is_free _ _ _ _ _ c.self.invariant least).below)

pub push_reserved-requires : goal.push_reserved-requires
push_reserved-requires c =
    let least : IsLeast c.self.inside.free.word c.in_ok-block.block = rw c.in_ok-block.was at c.lowest.ensures in
    omega (arith, room_left _ _ _ _ _ c.self.invariant (lowest_is_free _ _ _ _ _ c.self.invariant least).is_none)

pub invariant_of-self : goal.invariant_of-self
invariant_of-self c =
    let least : IsLeast c.self.inside.free.word c.in_ok-block.block = rw c.in_ok-block.was at c.lowest.ensures in
    rw c.push_reserved.ensures.items
    (kept_alloc _ _ _ _ _ _ _ c.args.thread c.self.invariant (lowest_is_free _ _ _ _ _ c.self.invariant least).is_none
    c.push_reserved.ensures.capacity c.remove.ensures.here c.remove.ensures.elsewhere)

pub returns-clause-place : goal.returns-clause-place
returns-clause-place c =
    let least : IsLeast c.self.inside.free.word c.in_ok-block.block = rw c.in_ok-block.was at c.lowest.ensures in
    (given _ _ _ _ _ _ c.args.thread _ c.self.inside.waiters _ c.self.invariant least c.self.view_is c.place_of.ensures).place_is

pub returns-clause-state : goal.returns-clause-state
returns-clause-state c =
    let least : IsLeast c.self.inside.free.word c.in_ok-block.block = rw c.in_ok-block.was at c.lowest.ensures in
    rw c.push_reserved.ensures.items (given _ _ _ _ _ _ c.args.thread _ c.self.inside.waiters _ c.self.invariant least c.self.view_is c.place_of.ensures).state_is
