use Rattle.std.proofs.Common.{◌≡◌, ◌<◌, ◌≤◌, ◌∙◌, sym, ap, length, arith, Some, None, get_or}
use Rattle.std.specs.Prelude.{slice_set}
use Rattle.std.proofs.lemmas.List.{get_or_read}
use Rattle.rt_plain.specs.kernel.Ownership.{MutexWait, wait_of}
use Rattle.susp_list.specs.Rows.{Waits, holds}
use Rattle.mutex_chain.specs.declared.rows.WaitRow.TheInside.{Inside}
use Rattle.mutex_chain.specs.Lines.{line_of, lines_of}
use Rattle.mutex_chain.proofs.StoredLemmas.{no_waits, length-lines, line_at, holds_here, lines_leave, lines_leave_idle, lines_leave_outside}
use Rattle.mutex_chain.proofs.stored.Stored.leave.Goals as goal

pub leave-requires : goal.leave-requires
leave-requires c =
    let o = c.args.owners.now in
    let ns = c.args.self.now.numbers.items in
    let w = c.in-Some.wait in
    let waits : wait_of c.args.owners.now c.args.thread ≡ Some c.in-Some.wait = sym c.wait.ensures ∙ c.in-Some.is in
    let place : c.wait-inside.inside.0.0.0 ≡ c.in-Some.wait.mutex = ap (λ (v : Inside). v.mutex) c.wait-inside.view_is ∙ ap (λ (v : MutexWait). v.mutex) c.wait-2.view_is in
    let long : length c.args.self.now.lines.items ≡ length c.args.owners.now.ceilings = ap length c.requires.lines ∙ length-lines c.args.owners.now c.args.self.now.numbers.items in
    let within : c.in-Some.wait.mutex < length c.args.owners.now.ceilings = omega (arith, c.if-line-len.true, c.len.ensures, long, place) in
    let at : c.index_mut.result.now ≡ line_of c.args.owners.now c.args.self.now.numbers.items c.in-Some.wait.mutex =
    get_or_read c.args.self.now.lines.items c.wait-inside.inside.0.0.0 c.index_mut.result.now (omega (arith, long, within, place)) c.index_mut.ensures.value no_waits
    ∙ ap (λ l. get_or l c.wait-inside.inside.0.0.0 no_waits) c.requires.lines ∙ ap (λ i. get_or (lines_of o ns) i no_waits) place ∙ line_at o ns c.in-Some.wait.mutex no_waits within in
    ap (λ l. holds l c.args.thread) at ∙ holds_here o ns c.args.thread w c.requires.thread waits

pub returns-then-line-len-clause-lines : goal.returns-then-line-len-clause-lines
returns-then-line-len-clause-lines c =
    let o = c.args.owners.now in
    let ns = c.args.self.now.numbers.items in
    let w = c.in-Some.wait in
    let waits : wait_of c.args.owners.now c.args.thread ≡ Some c.in-Some.wait = sym c.wait.ensures ∙ c.in-Some.is in
    let place : c.wait-inside.inside.0.0.0 ≡ c.in-Some.wait.mutex = ap (λ (v : Inside). v.mutex) c.wait-inside.view_is ∙ ap (λ (v : MutexWait). v.mutex) c.wait-2.view_is in
    let long : length c.args.self.now.lines.items ≡ length c.args.owners.now.ceilings = ap length c.requires.lines ∙ length-lines c.args.owners.now c.args.self.now.numbers.items in
    let within : c.in-Some.wait.mutex < length c.args.owners.now.ceilings = omega (arith, c.if-line-len.true, c.len.ensures, long, place) in
    let at : c.index_mut.result.now ≡ line_of c.args.owners.now c.args.self.now.numbers.items c.in-Some.wait.mutex =
    get_or_read c.args.self.now.lines.items c.wait-inside.inside.0.0.0 c.index_mut.result.now (omega (arith, long, within, place)) c.index_mut.ensures.value no_waits
    ∙ ap (λ l. get_or l c.wait-inside.inside.0.0.0 no_waits) c.requires.lines ∙ ap (λ i. get_or (lines_of o ns) i no_waits) place ∙ line_at o ns c.in-Some.wait.mutex no_waits within in
    let changed : c.leave.new.self ≡ record (line_of o ns w.mutex) { rows = slice_set (line_of o ns w.mutex).rows c.args.thread None } =
    c.leave.ensures.row ∙ ap (λ (l : Waits). record l { rows = slice_set l.rows c.args.thread None }) at in
    ap (λ l. slice_set l c.wait-inside.inside.0.0.0 c.leave.new.self) c.requires.lines ∙ ap (λ i. slice_set (lines_of o ns) i c.leave.new.self) place ∙ ap (slice_set (lines_of o ns) w.mutex) changed
    ∙ lines_leave o ns c.args.thread w c.requires.thread within waits

pub returns-else-line-len-clause-lines : goal.returns-else-line-len-clause-lines
returns-else-line-len-clause-lines c =
    let o = c.args.owners.now in
    let ns = c.args.self.now.numbers.items in
    let w = c.in-Some.wait in
    let waits : wait_of c.args.owners.now c.args.thread ≡ Some c.in-Some.wait = sym c.wait.ensures ∙ c.in-Some.is in
    let place : c.wait-inside.inside.0.0.0 ≡ c.in-Some.wait.mutex = ap (λ (v : Inside). v.mutex) c.wait-inside.view_is ∙ ap (λ (v : MutexWait). v.mutex) c.wait-2.view_is in
    let long : length c.args.self.now.lines.items ≡ length c.args.owners.now.ceilings = ap length c.requires.lines ∙ length-lines c.args.owners.now c.args.self.now.numbers.items in
    let past : length c.args.owners.now.ceilings ≤ c.in-Some.wait.mutex = omega (arith, c.if-line-len.false, c.len.ensures, long, place) in
    c.requires.lines ∙ lines_leave_outside o ns c.args.thread w c.requires.thread past waits

pub returns-in_default-clause-lines : goal.returns-in_default-clause-lines
returns-in_default-clause-lines c = c.requires.lines ∙ lines_leave_idle c.args.owners.now c.args.self.now.numbers.items c.args.thread c.requires.thread (sym c.wait.ensures ∙ c.in_default.is)
