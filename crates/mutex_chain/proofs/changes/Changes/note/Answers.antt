use Rattle.std.proofs.Common.{arith, ◌≡◌, ◌≤◌, ◌∙◌, length, ap}
use Rattle.mutex_chain.specs.Raising.{place_among}
use Rattle.mutex_chain.proofs.PutLemmas.{place_among_within}
use Rattle.mutex_chain.proofs.changes.Changes.note.Goals as goal

pub insert-requires : goal.insert-requires
insert-requires c =
    let low : place_among c.args.thread c.self.inside.changes.items ≤ length c.self.inside.changes.items = place_among_within c.args.thread c.self.inside.changes.items in
    let at : c.place_among-place.result ≡ place_among c.args.thread c.self.inside.changes.items =
    c.place_among-place.ensures ∙ ap (place_among c.args.thread) c.as_slice.ensures.value in
    omega (arith, c.self.inside.changes.ok)
