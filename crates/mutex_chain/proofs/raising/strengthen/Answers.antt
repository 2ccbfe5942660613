use Rattle.std.proofs.Common.{◌≡◌, ◌∙◌, ap}
use Rattle.mutex_chain.specs.Graph.{ChangeList}
use Rattle.mutex_chain.specs.Noting.{AreNotes}
use Rattle.mutex_chain.specs.Walks.{curs_of}
use Rattle.mutex_chain.proofs.NoteLemmas.{notes_begin, has_notes_begin}
use Rattle.mutex_chain.proofs.raising.strengthen.Goals as goal

pub raise-requires-clause-notes : goal.raise-requires-clause-notes
raise-requires-clause-notes g c = rw c.clear.ensures (has_notes_begin c.args.curs.now.numbers.items c.requires.raising.places)

pub returns-clause-changes : goal.returns-clause-changes
returns-clause-changes g c = λ o sound at keeps.
    let begun : AreNotes c.args.curs.now.numbers.items c.args.curs.now.numbers.items c.clear.new.self.changes = rw c.clear.ensures (notes_begin c.args.curs.now.numbers.items) in
    let notes : AreNotes (curs_of o) c.raise.new.curs.numbers.items c.raise.new.out.changes = rw (← at) (c.raise.ensures.notes c.args.curs.now.numbers.items begun) in
    let noted : AreNotes (curs_of o) c.deref.result.now c.raise.new.out.changes = rw c.deref.ensures.value notes in
    let room : c.raise.new.out.threads ≡ c.args.out.now.threads = c.raise.ensures.room ∙ ap (λ (l : ChangeList). l.threads) c.clear.ensures in
    rw room at (c.settle.ensures.changes o sound keeps noted)

pub returns-clause-room : goal.returns-clause-room
returns-clause-room g c = c.settle.ensures.room ∙ c.raise.ensures.room ∙ ap (λ (l : ChangeList). l.threads) c.clear.ensures
