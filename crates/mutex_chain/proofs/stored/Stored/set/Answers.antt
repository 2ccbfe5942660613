use Rattle.std.proofs.Common.{◌≡◌, ◌<◌, ◌≤◌, ◌∙◌, sym, ap, length, arith, Some, get_or}
use Rattle.std.specs.Prelude.{min, slice_set, slice_get}
use Rattle.std.proofs.lemmas.List.{get_or_read}
use Rattle.rt_plain.specs.kernel.Ownership.{MutexWait, wait_of}
use Rattle.susp_list.specs.Rows.{Waits, holds, with_prio}
use Rattle.mutex_chain.specs.declared.rows.WaitRow.TheInside.{Inside}
use Rattle.mutex_chain.specs.Lines.{line_of, lines_of}
use Rattle.mutex_chain.proofs.StoredLemmas.{no_waits, length-lines, line_at, holds_here, lines_set, lines_set_idle, lines_set_outside}
use Rattle.mutex_chain.proofs.stored.Stored.set.Goals as goal

pub returns-in_default-clause-lines : goal.returns-in_default-clause-lines
returns-in_default-clause-lines c =
    rw c.thread.view_is (c.requires.lines ∙ lines_set_idle c.args.owners.now c.args.self.now.numbers.items c.args.thread c.args.cur (sym c.wait.ensures ∙ c.in_default.is))

pub reprio-requires : goal.reprio-requires
reprio-requires c =
    let o = c.args.owners.now in
    let ns = c.args.self.now.numbers.items in
    let w = c.in-Some.wait in
    let waits : wait_of c.args.owners.now c.args.thread ≡ Some c.in-Some.wait = sym c.wait.ensures ∙ c.in-Some.is in
    let place : c.wait-inside.inside.0.0.0 ≡ c.in-Some.wait.mutex = ap (λ (v : Inside). v.mutex) c.wait-inside.view_is ∙ ap (λ (v : MutexWait). v.mutex) c.wait-2.view_is in
    let long : length c.args.self.now.lines.items ≡ length c.args.owners.now.ceilings = ap length c.requires.lines ∙ length-lines c.args.owners.now c.args.self.now.numbers.items in
    let within : c.in-Some.wait.mutex < length c.args.owners.now.ceilings = omega (arith, c.if-line-len.true, c.len.ensures, long, place) in
    let at : c.index_mut-then-line-len.result.now ≡ line_of c.args.owners.now c.args.self.now.numbers.items c.in-Some.wait.mutex =
    get_or_read c.args.self.now.lines.items c.wait-inside.inside.0.0.0 c.index_mut-then-line-len.result.now (omega (arith, long, within, place)) c.index_mut-then-line-len.ensures.value no_waits
    ∙ ap (λ l. get_or l c.wait-inside.inside.0.0.0 no_waits) c.requires.lines ∙ ap (λ i. get_or (lines_of o ns) i no_waits) place ∙ line_at o ns c.in-Some.wait.mutex no_waits within in
    ap (λ l. holds l c.args.thread) at ∙ holds_here o ns c.args.thread w c.requires.thread waits

pub returns-then-line-len-clause-lines : goal.returns-then-line-len-clause-lines
returns-then-line-len-clause-lines c =
    let o = c.args.owners.now in
    let ns = c.args.self.now.numbers.items in
    let w = c.in-Some.wait in
    let waits : wait_of c.args.owners.now c.args.thread ≡ Some c.in-Some.wait = sym c.wait.ensures ∙ c.in-Some.is in
    let place : c.wait-inside.inside.0.0.0 ≡ c.in-Some.wait.mutex = ap (λ (v : Inside). v.mutex) c.wait-inside.view_is ∙ ap (λ (v : MutexWait). v.mutex) c.wait-2.view_is in
    let long : length c.args.self.now.lines.items ≡ length c.args.owners.now.ceilings = ap length c.requires.lines ∙ length-lines c.args.owners.now c.args.self.now.numbers.items in
    let within : c.in-Some.wait.mutex < length c.args.owners.now.ceilings = omega (arith, c.if-line-len.true, c.len.ensures, long, place) in
    let at : c.index_mut-then-line-len.result.now ≡ line_of c.args.owners.now c.args.self.now.numbers.items c.in-Some.wait.mutex =
    get_or_read c.args.self.now.lines.items c.wait-inside.inside.0.0.0 c.index_mut-then-line-len.result.now (omega (arith, long, within, place)) c.index_mut-then-line-len.ensures.value no_waits
    ∙ ap (λ l. get_or l c.wait-inside.inside.0.0.0 no_waits) c.requires.lines ∙ ap (λ i. get_or (lines_of o ns) i no_waits) place ∙ line_at o ns c.in-Some.wait.mutex no_waits within in
    let changed : c.reprio.new.self ≡ record (line_of o ns w.mutex) { rows = slice_set (line_of o ns w.mutex).rows c.args.thread (with_prio (slice_get (line_of o ns w.mutex).rows c.args.thread) (min c.args.cur 255)) } =
    c.reprio.ensures ∙ ap (λ (l : Waits). record l { rows = slice_set l.rows c.args.thread (with_prio (slice_get l.rows c.args.thread) c.number.result) }) at
    ∙ ap (λ p. record (line_of o ns w.mutex) { rows = slice_set (line_of o ns w.mutex).rows c.args.thread (with_prio (slice_get (line_of o ns w.mutex).rows c.args.thread) p) }) c.number.ensures in
    let done : slice_set c.args.self.now.lines.items c.wait-inside.inside.0.0.0 c.reprio.new.self ≡ lines_of c.args.owners.now (slice_set c.args.self.now.numbers.items c.args.thread c.args.cur) =
    ap (λ l. slice_set l c.wait-inside.inside.0.0.0 c.reprio.new.self) c.requires.lines ∙ ap (λ i. slice_set (lines_of o ns) i c.reprio.new.self) place ∙ ap (slice_set (lines_of o ns) w.mutex) changed
    ∙ lines_set o ns c.args.thread c.args.cur w c.requires.thread c.requires.places within waits in
    rw c.thread.view_is done

pub returns-else-line-len-clause-lines : goal.returns-else-line-len-clause-lines
returns-else-line-len-clause-lines c =
    let o = c.args.owners.now in
    let ns = c.args.self.now.numbers.items in
    let w = c.in-Some.wait in
    let waits : wait_of c.args.owners.now c.args.thread ≡ Some c.in-Some.wait = sym c.wait.ensures ∙ c.in-Some.is in
    let place : c.wait-inside.inside.0.0.0 ≡ c.in-Some.wait.mutex = ap (λ (v : Inside). v.mutex) c.wait-inside.view_is ∙ ap (λ (v : MutexWait). v.mutex) c.wait-2.view_is in
    let long : length c.args.self.now.lines.items ≡ length c.args.owners.now.ceilings = ap length c.requires.lines ∙ length-lines c.args.owners.now c.args.self.now.numbers.items in
    let past : length c.args.owners.now.ceilings ≤ c.in-Some.wait.mutex = omega (arith, c.if-line-len.false, c.len.ensures, long, place) in
    rw c.thread.view_is (c.requires.lines ∙ lines_set_outside o ns c.args.thread c.args.cur w past waits)
