use Rattle.std.proofs.Common.{arith, ◌≡◌, ◌<◌, ◌∙◌, ap, length, true}
use Rattle.std.specs.Prelude.{min, slice_index}
use Rattle.std.proofs.lemmas.Grind.{get_or_default_zero}
use Rattle.rt_plain.specs.kernel.Ownership.{cur_in}
use Rattle.mutex_chain.specs.Owners.{has_thread}
use Rattle.mutex_chain.proofs.CurLemmas.{cur_at}
use Rattle.mutex_chain.proofs.ChangeLemmas.{thread_within, cur_small}
use Rattle.mutex_chain.proofs.graph.MutexGraph.cur.Goals as goal

pub index-requires : goal.index-requires
index-requires c =
    let there : has_thread c.self.inside.owners c.thread.inside.0 ≡ true = rw (c.self.view_is, c.thread.view_is) c.requires in
    let within = thread_within c.self.inside.owners c.thread.inside.0 there in
    omega (arith, within, c.self.invariant.places)

pub returns : goal.returns
returns c =
    let o = c.self.inside.owners in
    let t = c.thread.inside.0 in
    let there : has_thread c.self.inside.owners c.thread.inside.0 ≡ true = rw (c.self.view_is, c.thread.view_is) c.requires in
    let within : c.thread.inside.0 < length c.self.inside.owners.members = thread_within c.self.inside.owners c.thread.inside.0 there in
    let place : c.thread.inside.0 < length c.self.inside.curs.numbers.items = omega (arith, within, c.self.invariant.places) in
    let read : c.index.result.now ≡ cur_in c.self.inside.owners c.thread.inside.0 =
    c.index.ensures ∙ get_or_default_zero c.self.inside.curs.numbers.items c.thread.inside.0 c.index.result.now place
    ∙ ap (λ ns. slice_index ns c.thread.inside.0) c.self.invariant.curs ∙ cur_at o t within in
    let small : cur_in c.self.inside.owners c.thread.inside.0 < 256 = cur_small o t c.self.invariant.sound there in
    let low : min (cur_in c.self.inside.owners c.thread.inside.0) 255 ≡ cur_in c.self.inside.owners c.thread.inside.0 = omega arith in
    rw (← c.self.view_is, ← c.thread.view_is) (c.number.ensures ∙ ap (λ n. min n 255) read ∙ low)
