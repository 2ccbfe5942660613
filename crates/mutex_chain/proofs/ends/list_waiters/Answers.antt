use Rattle.std.proofs.Common.{◌≡◌, ◌∙◌, ap, length, arith, get_or}
use Rattle.std.proofs.lemmas.List.{get_or_read}
use Rattle.rt_plain.specs.kernel.Ownership.{waiters_in}
use Rattle.susp_list.specs.Rows.{Waits, line}
use Rattle.mutex_chain.specs.Graph.{WokenList}
use Rattle.mutex_chain.specs.Lines.{line_of, lines_of}
use Rattle.mutex_chain.proofs.LineLemmas.{waiters_within}
use Rattle.mutex_chain.proofs.StoredLemmas.{no_waits, length-lines, length-line_rows, line_at, line_is}
use Rattle.mutex_chain.proofs.ends.list_waiters.Goals as goal

pub index-requires : goal.index-requires
index-requires g c =
    let long : length c.args.curs.now.lines.items ≡ length c.args.owners.now.ceilings = ap length c.requires.lines ∙ length-lines c.args.owners.now c.args.curs.now.numbers.items in
    omega (arith, long, c.requires.mutex, c.mutex.view_is)

pub list_line-requires-clause-room : goal.list_line-requires-clause-room
list_line-requires-clause-room g c =
    let o = c.args.owners.now in
    let ns = c.args.curs.now.numbers.items in
    let long : length c.args.curs.now.lines.items ≡ length c.args.owners.now.ceilings = ap length c.requires.lines ∙ length-lines c.args.owners.now c.args.curs.now.numbers.items in
    let at : c.index.result.now ≡ line_of c.args.owners.now c.args.curs.now.numbers.items c.args.mutex =
    get_or_read c.args.curs.now.lines.items c.mutex.inside.0 c.index.result.now (omega (arith, long, c.requires.mutex, c.mutex.view_is)) c.index.ensures no_waits
    ∙ ap (λ l. get_or l c.mutex.inside.0 no_waits) c.requires.lines ∙ ap (λ i. get_or (lines_of o ns) i no_waits) c.mutex.view_is ∙ line_at o ns c.args.mutex no_waits c.requires.mutex in
    omega (arith, ap (λ (l : Waits). length l.rows) at, length-line_rows o ns c.args.mutex, ap (λ (w : WokenList). w.threads) c.clear.ensures, c.requires.room)

pub returns-clause-waiters : goal.returns-clause-waiters
returns-clause-waiters g c =
    let o = c.args.owners.now in
    let ns = c.args.curs.now.numbers.items in
    let long : length c.args.curs.now.lines.items ≡ length c.args.owners.now.ceilings = ap length c.requires.lines ∙ length-lines c.args.owners.now c.args.curs.now.numbers.items in
    let at : c.index.result.now ≡ line_of c.args.owners.now c.args.curs.now.numbers.items c.args.mutex =
    get_or_read c.args.curs.now.lines.items c.mutex.inside.0 c.index.result.now (omega (arith, long, c.requires.mutex, c.mutex.view_is)) c.index.ensures no_waits
    ∙ ap (λ l. get_or l c.mutex.inside.0 no_waits) c.requires.lines ∙ ap (λ i. get_or (lines_of o ns) i no_waits) c.mutex.view_is ∙ line_at o ns c.args.mutex no_waits c.requires.mutex in
    let all : line c.index.result.now ≡ waiters_in c.args.owners.now c.args.mutex =
    ap line at ∙ ap (λ l. line (line_of o l c.args.mutex)) c.requires.curs ∙ line_is o c.args.mutex c.know_sound.ensures in
    c.list_line.ensures.woken ∙ ap (λ (w : WokenList). record w { woken = line c.index.result.now }) c.clear.ensures ∙ ap (λ ts. record c.args.woken.now { woken = ts }) all

pub returns-clause-within : goal.returns-clause-within
returns-clause-within g c =
    let o = c.args.owners.now in
    let ns = c.args.curs.now.numbers.items in
    let long : length c.args.curs.now.lines.items ≡ length c.args.owners.now.ceilings = ap length c.requires.lines ∙ length-lines c.args.owners.now c.args.curs.now.numbers.items in
    let at : c.index.result.now ≡ line_of c.args.owners.now c.args.curs.now.numbers.items c.args.mutex =
    get_or_read c.args.curs.now.lines.items c.mutex.inside.0 c.index.result.now (omega (arith, long, c.requires.mutex, c.mutex.view_is)) c.index.ensures no_waits
    ∙ ap (λ l. get_or l c.mutex.inside.0 no_waits) c.requires.lines ∙ ap (λ i. get_or (lines_of o ns) i no_waits) c.mutex.view_is ∙ line_at o ns c.args.mutex no_waits c.requires.mutex in
    let all : line c.index.result.now ≡ waiters_in c.args.owners.now c.args.mutex =
    ap line at ∙ ap (λ l. line (line_of o l c.args.mutex)) c.requires.curs ∙ line_is o c.args.mutex c.know_sound.ensures in
    rw (ap (λ (w : WokenList). w.woken) c.list_line.ensures.woken ∙ all) (waiters_within o c.args.mutex)

pub returns-clause-count : goal.returns-clause-count
returns-clause-count g c =
    let o = c.args.owners.now in
    let ns = c.args.curs.now.numbers.items in
    let long : length c.args.curs.now.lines.items ≡ length c.args.owners.now.ceilings = ap length c.requires.lines ∙ length-lines c.args.owners.now c.args.curs.now.numbers.items in
    let at : c.index.result.now ≡ line_of c.args.owners.now c.args.curs.now.numbers.items c.args.mutex =
    get_or_read c.args.curs.now.lines.items c.mutex.inside.0 c.index.result.now (omega (arith, long, c.requires.mutex, c.mutex.view_is)) c.index.ensures no_waits
    ∙ ap (λ l. get_or l c.mutex.inside.0 no_waits) c.requires.lines ∙ ap (λ i. get_or (lines_of o ns) i no_waits) c.mutex.view_is ∙ line_at o ns c.args.mutex no_waits c.requires.mutex in
    let all : line c.index.result.now ≡ waiters_in c.args.owners.now c.args.mutex =
    ap line at ∙ ap (λ l. line (line_of o l c.args.mutex)) c.requires.curs ∙ line_is o c.args.mutex c.know_sound.ensures in
    omega (arith, c.list_line.ensures.count, ap length all)
