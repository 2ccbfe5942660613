use Rattle.std.proofs.Common.{◌≡◌, ◌∙◌, ap, length, arith, get_or}
use Rattle.std.proofs.lemmas.List.{get_or_read}
use Rattle.mutex_chain.specs.Lines.{line_of, lines_of}
use Rattle.susp_list.specs.Rows.{line}
use Rattle.mutex_chain.proofs.StoredLemmas.{no_waits, length-lines, line_at, line_is}
use Rattle.mutex_chain.proofs.stored.Stored.waiters.Goals as goal

pub index-requires : goal.index-requires
index-requires c =
    let o = c.args.owners.now in
    let ns = c.args.self.now.numbers.items in
    let long : length c.args.self.now.lines.items ≡ length c.args.owners.now.ceilings = ap length c.requires.lines ∙ length-lines c.args.owners.now c.args.self.now.numbers.items in
    omega (arith, long, c.requires.mutex, c.mutex.view_is)

pub returns : goal.returns
returns c =
    let o = c.args.owners.now in
    let ns = c.args.self.now.numbers.items in
    let long : length c.args.self.now.lines.items ≡ length c.args.owners.now.ceilings = ap length c.requires.lines ∙ length-lines c.args.owners.now c.args.self.now.numbers.items in
    let at : c.index.result.now ≡ line_of c.args.owners.now c.args.self.now.numbers.items c.args.mutex =
    get_or_read c.args.self.now.lines.items c.mutex.inside.0 c.index.result.now (omega (arith, long, c.requires.mutex, c.mutex.view_is)) c.index.ensures no_waits
    ∙ ap (λ l. get_or l c.mutex.inside.0 no_waits) c.requires.lines ∙ ap (λ i. get_or (lines_of o ns) i no_waits) c.mutex.view_is ∙ line_at o ns c.args.mutex no_waits c.requires.mutex in
    c.len.ensures.len ∙ ap (λ l. length (line l)) at ∙ ap (λ l. length (line (line_of o l c.args.mutex))) c.requires.curs ∙ ap length (line_is o c.args.mutex c.know_sound.ensures)
