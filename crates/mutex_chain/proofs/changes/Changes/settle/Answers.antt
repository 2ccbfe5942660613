use Rattle.std.proofs.Common.{rules, ◌≡◌, ◌∙◌, ap, length, not, eqb}
use Rattle.std.specs.Prelude.{filter}
use Rattle.std.proofs.lemmas.Fn.{filter_same}
use Rattle.rt_plain.specs.kernel.Ownership.{CurChange, changes}
use Rattle.mutex_chain.specs.Graph.{ChangeList}
use Rattle.mutex_chain.specs.Noting.{AreNotes}
use Rattle.mutex_chain.specs.Walks.{curs_of}
use Rattle.mutex_chain.proofs.CurLemmas.{length-curs}
use Rattle.mutex_chain.proofs.NoteLemmas.{notes_settle, same_list}
use Rattle.mutex_chain.proofs.changes.Changes.settle.Goals as goal

pub renew_notes-requires : goal.renew_notes-requires
renew_notes-requires c = ap length c.requires.numbers ∙ length-curs c.args.owners.now

pub returns-clause-changes : goal.returns-clause-changes
returns-clause-changes c = λ o sound keeps notes.
    let inside : AreNotes (curs_of o) c.args.numbers.now c.self.inside.changes.items = rw (ap (λ (l : ChangeList). l.changes) c.self.view_is) notes in
    let left : c.retain.new.self.items ≡ filter (λ (x : CurChange). not (eqb x.old x.new)) c.renew_notes.new.notes.items =
    filter_same _ (λ (x : CurChange). not (eqb x.old x.new)) _ (λ x b f' k. search rules) _ _ c.retain.ensures.filtered in
    let all : c.retain.new.self.items ≡ changes o c.args.owners.now =
    left ∙ ap (filter (λ (x : CurChange). not (eqb x.old x.new))) c.renew_notes.ensures.notes ∙ notes_settle o c.args.owners.now c.args.numbers.now c.self.inside.changes.items sound c.requires.sound keeps c.requires.numbers inside in
    let threads : c.self.inside.threads ≡ c.args.self.now.threads = ap (λ (l : ChangeList). l.threads) c.self.view_is in
    same_list _ _ _ _ threads all

pub returns-clause-room : goal.returns-clause-room
returns-clause-room c = ap (λ (l : ChangeList). l.threads) c.self.view_is
