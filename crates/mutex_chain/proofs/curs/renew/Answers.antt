use Rattle.std.proofs.Common.{arith, ◌≡◌, ◌∙◌, ap}
use Rattle.mutex_chain.specs.Graph.{ChangeList}
use Rattle.mutex_chain.specs.Noting.{AreNotes, AreSmall}
use Rattle.mutex_chain.specs.Walks.{curs_of}
use Rattle.mutex_chain.proofs.NoteLemmas.{notes_begin, has_small_begin}
use Rattle.mutex_chain.proofs.curs.renew.Goals as goal

pub renew_chain-requires-clause-notes : goal.renew_chain-requires-clause-notes
renew_chain-requires-clause-notes g c =
    let small : AreSmall c.args.curs.now.numbers.items = λ t h. c.requires.aside.small t (omega (arith, c.requires.aside.places)) in
    rw c.clear.ensures (has_small_begin c.args.curs.now.numbers.items c.requires.aside.places small)

pub returns-clause-changes : goal.returns-clause-changes
returns-clause-changes g c = λ o sound at keeps.
    let small : AreSmall c.args.curs.now.numbers.items = λ t h. c.requires.aside.small t (omega (arith, c.requires.aside.places)) in
    let begun : AreNotes c.args.curs.now.numbers.items c.args.curs.now.numbers.items c.clear.new.self.changes = rw c.clear.ensures (notes_begin c.args.curs.now.numbers.items) in
    let notes : AreNotes (curs_of o) c.renew_chain.new.curs.numbers.items c.renew_chain.new.out.changes = rw (← at) (c.renew_chain.ensures.notes c.args.curs.now.numbers.items small begun) in
    let noted : AreNotes (curs_of o) c.deref.result.now c.renew_chain.new.out.changes = rw c.deref.ensures.value notes in
    let room : c.renew_chain.new.out.threads ≡ c.args.out.now.threads = c.renew_chain.ensures.room ∙ ap (λ (l : ChangeList). l.threads) c.clear.ensures in
    rw room at (c.settle.ensures.changes o sound keeps noted)
