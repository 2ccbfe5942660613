use Rattle.std.proofs.Common.{◌≡◌, ◌<◌, ◌∙◌, sym, ap, length, arith, Some, get_or, true}
use Rattle.std.specs.Prelude.{min, slice_index, IfSome}
use Rattle.std.specs.Option.{option_map}
use Rattle.std.proofs.lemmas.Grind.{get_or_default_zero}
use Rattle.std.proofs.lemmas.List.{get_or_read}
use Rattle.rt_plain.specs.kernel.Waiting.{first_of}
use Rattle.susp_list.specs.Rows.{Waits, holds, waiters}
use Rattle.mutex_chain.specs.Lines.{line_of, lines_of}
use Rattle.mutex_chain.proofs.StoredLemmas.{no_waits, length-lines, line_at, first_within}
use Rattle.mutex_chain.proofs.stored.Stored.first_number.Goals as goal

pub index-requires : goal.index-requires
index-requires c =
    let o = c.args.owners.now in
    let ns = c.args.self.now.numbers.items in
    let long : length c.args.self.now.lines.items ≡ length c.args.owners.now.ceilings = ap length c.requires.lines ∙ length-lines c.args.owners.now c.args.self.now.numbers.items in
    omega (arith, long, c.requires.mutex, c.mutex.view_is)

pub returns-in_default : goal.returns-in_default
returns-in_default c =
    let o = c.args.owners.now in
    let ns = c.args.self.now.numbers.items in
    let long : length c.args.self.now.lines.items ≡ length c.args.owners.now.ceilings = ap length c.requires.lines ∙ length-lines c.args.owners.now c.args.self.now.numbers.items in
    let at : c.index.result.now ≡ line_of c.args.owners.now c.args.self.now.numbers.items c.args.mutex =
    get_or_read c.args.self.now.lines.items c.mutex.inside.0 c.index.result.now (omega (arith, long, c.requires.mutex, c.mutex.view_is)) c.index.ensures no_waits
    ∙ ap (λ l. get_or l c.mutex.inside.0 no_waits) c.requires.lines ∙ ap (λ i. get_or (lines_of o ns) i no_waits) c.mutex.view_is ∙ line_at o ns c.args.mutex no_waits c.requires.mutex in
    sym (ap (option_map (λ t. min (slice_index ns t) 255)) (sym (ap (λ (l : Waits). first_of l.order (waiters l)) at) ∙ sym c.first.ensures.first ∙ c.in_default.is))

pub index-requires-2 : goal.index-requires-2
index-requires-2 c =
    let o = c.args.owners.now in
    let ns = c.args.self.now.numbers.items in
    let long : length c.args.self.now.lines.items ≡ length c.args.owners.now.ceilings = ap length c.requires.lines ∙ length-lines c.args.owners.now c.args.self.now.numbers.items in
    let at : c.index.result.now ≡ line_of c.args.owners.now c.args.self.now.numbers.items c.args.mutex =
    get_or_read c.args.self.now.lines.items c.mutex.inside.0 c.index.result.now (omega (arith, long, c.requires.mutex, c.mutex.view_is)) c.index.ensures no_waits
    ∙ ap (λ l. get_or l c.mutex.inside.0 no_waits) c.requires.lines ∙ ap (λ i. get_or (lines_of o ns) i no_waits) c.mutex.view_is ∙ line_at o ns c.args.mutex no_waits c.requires.mutex in
    let held : IfSome c.first.result (λ t. holds (line_of c.args.owners.now c.args.self.now.numbers.items c.args.mutex) t ≡ true) = rw at at c.first.ensures.held in
    let low : c.in-Some.thread < length c.args.owners.now.members = rw c.in-Some.is at (first_within o ns c.args.mutex c.first.result held) in
    omega (arith, low, c.requires.places, c.thread.view_is)

pub returns : goal.returns
returns c =
    let o = c.args.owners.now in
    let ns = c.args.self.now.numbers.items in
    let long : length c.args.self.now.lines.items ≡ length c.args.owners.now.ceilings = ap length c.requires.lines ∙ length-lines c.args.owners.now c.args.self.now.numbers.items in
    let at : c.index.result.now ≡ line_of c.args.owners.now c.args.self.now.numbers.items c.args.mutex =
    get_or_read c.args.self.now.lines.items c.mutex.inside.0 c.index.result.now (omega (arith, long, c.requires.mutex, c.mutex.view_is)) c.index.ensures no_waits
    ∙ ap (λ l. get_or l c.mutex.inside.0 no_waits) c.requires.lines ∙ ap (λ i. get_or (lines_of o ns) i no_waits) c.mutex.view_is ∙ line_at o ns c.args.mutex no_waits c.requires.mutex in
    let held : IfSome c.first.result (λ t. holds (line_of c.args.owners.now c.args.self.now.numbers.items c.args.mutex) t ≡ true) = rw at at c.first.ensures.held in
    let low : c.in-Some.thread < length c.args.owners.now.members = rw c.in-Some.is at (first_within o ns c.args.mutex c.first.result held) in
    let place : c.thread.inside.0 < length c.args.self.now.numbers.items = omega (arith, low, c.requires.places, c.thread.view_is) in
    let number : c.index-2.result.now ≡ slice_index c.args.self.now.numbers.items c.in-Some.thread =
    c.index-2.ensures ∙ get_or_default_zero c.args.self.now.numbers.items c.thread.inside.0 c.index-2.result.now place ∙ ap (slice_index c.args.self.now.numbers.items) c.thread.view_is in
    ap Some (c.min.ensures ∙ ap (λ n. min n 255) number)
    ∙ sym (ap (option_map (λ t. min (slice_index ns t) 255)) (sym (ap (λ (l : Waits). first_of l.order (waiters l)) at) ∙ sym c.first.ensures.first ∙ c.in-Some.is))
