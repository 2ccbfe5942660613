use Rattle.std.proofs.Common.{◌≡◌, ◌<◌, ◌∙◌, ap, length, arith, Some, get_or}
use Rattle.std.specs.Prelude.{min, slice_index, slice_set}
use Rattle.std.proofs.lemmas.List.{get_or_read}
use Rattle.susp_list.specs.Rows.{Waits, holds}
use Rattle.mutex_chain.specs.Lines.{line_of, lines_of}
use Rattle.std.proofs.lemmas.Grind.{get_or_default_zero}
use Rattle.mutex_chain.proofs.ChangeLemmas.{thread_within}
use Rattle.mutex_chain.proofs.StoredLemmas.{no_waits, length-lines, line_at, length-line_rows, lines_join, joins_free, idle_wait}
use Rattle.mutex_chain.proofs.stored.Stored.join.Goals as goal

pub index-cur-requires : goal.index-cur-requires
index-cur-requires c = omega (arith, thread_within c.args.owners.now c.args.thread c.requires.thread, c.requires.places, c.thread.view_is)

pub index_mut-requires : goal.index_mut-requires
index_mut-requires c =
    let o = c.args.owners.now in
    let ns = c.args.self.now.numbers.items in
    let long : length c.args.self.now.lines.items ≡ length c.args.owners.now.ceilings = ap length c.requires.lines ∙ length-lines c.args.owners.now c.args.self.now.numbers.items in
    omega (arith, long, c.requires.mutex, c.mutex.view_is)

pub join-requires-clause-there : goal.join-requires-clause-there
join-requires-clause-there c =
    let o = c.args.owners.now in
    let ns = c.args.self.now.numbers.items in
    let long : length c.args.self.now.lines.items ≡ length c.args.owners.now.ceilings = ap length c.requires.lines ∙ length-lines c.args.owners.now c.args.self.now.numbers.items in
    let at : c.index_mut.result.now ≡ line_of c.args.owners.now c.args.self.now.numbers.items c.args.mutex =
    get_or_read c.args.self.now.lines.items c.mutex.inside.0 c.index_mut.result.now (omega (arith, long, c.requires.mutex, c.mutex.view_is)) c.index_mut.ensures.value no_waits
    ∙ ap (λ l. get_or l c.mutex.inside.0 no_waits) c.requires.lines ∙ ap (λ i. get_or (lines_of o ns) i no_waits) c.mutex.view_is ∙ line_at o ns c.args.mutex no_waits c.requires.mutex in
    omega (arith, ap (λ (l : Waits). length l.rows) at, length-line_rows o ns c.args.mutex, thread_within o c.args.thread c.requires.thread)

pub join-requires-clause-free : goal.join-requires-clause-free
join-requires-clause-free c =
    let o = c.args.owners.now in
    let ns = c.args.self.now.numbers.items in
    let long : length c.args.self.now.lines.items ≡ length c.args.owners.now.ceilings = ap length c.requires.lines ∙ length-lines c.args.owners.now c.args.self.now.numbers.items in
    let at : c.index_mut.result.now ≡ line_of c.args.owners.now c.args.self.now.numbers.items c.args.mutex =
    get_or_read c.args.self.now.lines.items c.mutex.inside.0 c.index_mut.result.now (omega (arith, long, c.requires.mutex, c.mutex.view_is)) c.index_mut.ensures.value no_waits
    ∙ ap (λ l. get_or l c.mutex.inside.0 no_waits) c.requires.lines ∙ ap (λ i. get_or (lines_of o ns) i no_waits) c.mutex.view_is ∙ line_at o ns c.args.mutex no_waits c.requires.mutex in
    ap (λ l. holds l c.args.thread) at ∙ joins_free o ns c.args.thread c.args.mutex (thread_within o c.args.thread c.requires.thread) (idle_wait o c.args.thread c.requires.idle)

pub returns-clause-lines : goal.returns-clause-lines
returns-clause-lines c =
    let o = c.args.owners.now in
    let ns = c.args.self.now.numbers.items in
    let long : length c.args.self.now.lines.items ≡ length c.args.owners.now.ceilings = ap length c.requires.lines ∙ length-lines c.args.owners.now c.args.self.now.numbers.items in
    let at : c.index_mut.result.now ≡ line_of c.args.owners.now c.args.self.now.numbers.items c.args.mutex =
    get_or_read c.args.self.now.lines.items c.mutex.inside.0 c.index_mut.result.now (omega (arith, long, c.requires.mutex, c.mutex.view_is)) c.index_mut.ensures.value no_waits
    ∙ ap (λ l. get_or l c.mutex.inside.0 no_waits) c.requires.lines ∙ ap (λ i. get_or (lines_of o ns) i no_waits) c.mutex.view_is ∙ line_at o ns c.args.mutex no_waits c.requires.mutex in
    let within = thread_within o c.args.thread c.requires.thread in
    let place : c.thread.inside.0 < length c.args.self.now.numbers.items = omega (arith, within, c.requires.places, c.thread.view_is) in
    let cur : c.index-cur.result.now ≡ slice_index c.args.self.now.numbers.items c.args.thread =
    c.index-cur.ensures ∙ get_or_default_zero c.args.self.now.numbers.items c.thread.inside.0 c.index-cur.result.now place ∙ ap (slice_index c.args.self.now.numbers.items) c.thread.view_is in
    let changed : c.join.new.self ≡ record (line_of o ns c.args.mutex) { rows = slice_set (line_of o ns c.args.mutex).rows c.args.thread (Some (record { prio = min (slice_index ns c.args.thread) 255; at = c.args.at })) } =
    c.join.ensures ∙ ap (λ (l : Waits). record l { rows = slice_set l.rows c.args.thread (Some (record { prio = c.number.result; at = c.args.at })) }) at
    ∙ ap (λ p. record (line_of o ns c.args.mutex) { rows = slice_set (line_of o ns c.args.mutex).rows c.args.thread (Some (record { prio = p; at = c.args.at })) }) (c.number.ensures ∙ ap (λ n. min n 255) cur) in
    ap (λ l. slice_set l c.mutex.inside.0 c.join.new.self) c.requires.lines ∙ ap (λ i. slice_set (lines_of o ns) i c.join.new.self) c.mutex.view_is ∙ ap (slice_set (lines_of o ns) c.args.mutex) changed
    ∙ lines_join o ns c.args.thread c.args.mutex c.args.at within c.requires.mutex c.requires.thread (idle_wait o c.args.thread c.requires.idle)
