use Rattle.std.proofs.Common.{◌≡◌, ◌∙◌, ap, length, arith, get_or}
use Rattle.std.proofs.lemmas.List.{get_or_read}
use Rattle.susp_list.specs.Rows.{Waits}
use Rattle.mutex_chain.specs.Walks.{curs_of}
use Rattle.mutex_chain.specs.Lines.{line_of, lines_of}
use Rattle.rt_plain.specs.kernel.Waiting.{first_of}
use Rattle.susp_list.specs.Rows.{waiters}
use Rattle.mutex_chain.proofs.StoredLemmas.{no_waits, length-lines, line_at, first_is, first_within}
use Rattle.mutex_chain.proofs.stored.Stored.first.Goals as goal

pub index-requires : goal.index-requires
index-requires c =
    let o = c.args.owners.now in
    let ns = curs_of c.args.owners.now in
    let long : length c.args.self.now.lines.items ≡ length c.args.owners.now.ceilings = ap length c.requires.lines ∙ length-lines c.args.owners.now (curs_of c.args.owners.now) in
    omega (arith, long, c.requires.mutex, c.mutex.view_is)

pub returns-clause-first : goal.returns-clause-first
returns-clause-first c =
    let o = c.args.owners.now in
    let ns = curs_of c.args.owners.now in
    let long : length c.args.self.now.lines.items ≡ length c.args.owners.now.ceilings = ap length c.requires.lines ∙ length-lines c.args.owners.now (curs_of c.args.owners.now) in
    let at : c.index.result.now ≡ line_of c.args.owners.now (curs_of c.args.owners.now) c.args.mutex =
    get_or_read c.args.self.now.lines.items c.mutex.inside.0 c.index.result.now (omega (arith, long, c.requires.mutex, c.mutex.view_is)) c.index.ensures no_waits
    ∙ ap (λ l. get_or l c.mutex.inside.0 no_waits) c.requires.lines ∙ ap (λ i. get_or (lines_of o ns) i no_waits) c.mutex.view_is ∙ line_at o ns c.args.mutex no_waits c.requires.mutex in
    c.first.ensures.first ∙ ap (λ (l : Waits). first_of l.order (waiters l)) at ∙ first_is o c.args.mutex c.know_sound.ensures

pub returns-clause-within : goal.returns-clause-within
returns-clause-within c =
    let o = c.args.owners.now in
    let ns = curs_of c.args.owners.now in
    let long : length c.args.self.now.lines.items ≡ length c.args.owners.now.ceilings = ap length c.requires.lines ∙ length-lines c.args.owners.now (curs_of c.args.owners.now) in
    let at : c.index.result.now ≡ line_of c.args.owners.now (curs_of c.args.owners.now) c.args.mutex =
    get_or_read c.args.self.now.lines.items c.mutex.inside.0 c.index.result.now (omega (arith, long, c.requires.mutex, c.mutex.view_is)) c.index.ensures no_waits
    ∙ ap (λ l. get_or l c.mutex.inside.0 no_waits) c.requires.lines ∙ ap (λ i. get_or (lines_of o ns) i no_waits) c.mutex.view_is ∙ line_at o ns c.args.mutex no_waits c.requires.mutex in
    first_within o ns c.args.mutex c.first.result (rw at at c.first.ensures.held)
