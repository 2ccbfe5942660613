use Rattle.std.proofs.Common.{ℕ, ◌∙◌, refl, sym, ap, subst, rules}
use Rattle.rt_plain.specs.text.Splits.{word_at}
use Rattle.rt_plain.specs.text.Fields.{number_in}
use Rattle.rt_plain.specs.declared.kind.LineKind.{LineKind}
use Rattle.rt_plain.proofs.text.SplitLemmas.{nows}
use Rattle.rt_plain.specs.text.LineTable.{line_in}
use Rattle.board_text.specs.Gives.{Gives}
use Rattle.rt_plain.proofs.text.RowLemmas.{both-same, board-line-read}
use Rattle.board_text.proofs.table.read_line.Goals as goal

pub returns-in-Ok : goal.returns-in-Ok
returns-in-Ok c = board-line-read c.args.board_levels (nows c.args.words.now) c.args.kind LineKind.Board _ c.in-Board.is (c.in-Ok.ensures ∙ both-same c.byte.ensures refl)

pub returns-in-Err : goal.returns-in-Err
returns-in-Err c = board-line-read c.args.board_levels (nows c.args.words.now) c.args.kind LineKind.Board _ c.in-Board.is (c.in-Err.ensures ∙ both-same c.byte.ensures refl)

pub returns-in-Ok-all1 : goal.returns-in-Ok-all1
returns-in-Ok-all1 c = board-line-read c.args.board_levels (nows c.args.words.now) c.args.kind LineKind.Cores _ c.in-Cores.is (c.in-Ok-all1.ensures ∙ both-same c.byte-in-Cores.ensures refl)

pub returns-in-Err-all1 : goal.returns-in-Err-all1
returns-in-Err-all1 c = board-line-read c.args.board_levels (nows c.args.words.now) c.args.kind LineKind.Cores _ c.in-Cores.is (c.in-Err-all1.ensures ∙ both-same c.byte-in-Cores.ensures refl)

pub returns-in-Ok-all1-2 : goal.returns-in-Ok-all1-2
returns-in-Ok-all1-2 c = board-line-read c.args.board_levels (nows c.args.words.now) c.args.kind LineKind.Levels _ c.in-Levels.is (c.in-Ok-all1-2.ensures ∙ both-same c.levels.ensures refl)

pub returns-in-Err-all1-2 : goal.returns-in-Err-all1-2
returns-in-Err-all1-2 c = board-line-read c.args.board_levels (nows c.args.words.now) c.args.kind LineKind.Levels _ c.in-Levels.is (c.in-Err-all1-2.ensures ∙ both-same c.levels.ensures refl)

pub returns-in-Ok-all1-3 : goal.returns-in-Ok-all1-3
returns-in-Ok-all1-3 c = board-line-read c.args.board_levels (nows c.args.words.now) c.args.kind LineKind.Tickless _ c.in-Tickless.is (c.in-Ok-all1-3.ensures ∙ both-same c.on_off.ensures refl)

pub returns-in-Err-all1-3 : goal.returns-in-Err-all1-3
returns-in-Err-all1-3 c = board-line-read c.args.board_levels (nows c.args.words.now) c.args.kind LineKind.Tickless _ c.in-Tickless.is (c.in-Err-all1-3.ensures ∙ both-same c.on_off.ensures refl)

pub returns-in-Ok-all1-4 : goal.returns-in-Ok-all1-4
returns-in-Ok-all1-4 c = board-line-read c.args.board_levels (nows c.args.words.now) c.args.kind LineKind.Tick0 _ c.in-Tick0.is (c.in-Ok-all1-4.ensures ∙ both-same c.number.ensures refl)

pub returns-in-Err-all1-4 : goal.returns-in-Err-all1-4
returns-in-Err-all1-4 c = board-line-read c.args.board_levels (nows c.args.words.now) c.args.kind LineKind.Tick0 _ c.in-Tick0.is (c.in-Err-all1-4.ensures ∙ both-same c.number.ensures refl)

pub returns-in-Ok-all1-5 : goal.returns-in-Ok-all1-5
returns-in-Ok-all1-5 c = board-line-read c.args.board_levels (nows c.args.words.now) c.args.kind LineKind.Until _ c.in-Until.is (c.in-Ok-all1-5.ensures ∙ both-same c.moment.ensures refl)

pub returns-in-Err-all1-5 : goal.returns-in-Err-all1-5
returns-in-Err-all1-5 c = board-line-read c.args.board_levels (nows c.args.words.now) c.args.kind LineKind.Until _ c.in-Until.is (c.in-Err-all1-5.ensures ∙ both-same c.moment.ensures refl)

pub returns-in-Ok-all1-6 : goal.returns-in-Ok-all1-6
returns-in-Ok-all1-6 c = board-line-read c.args.board_levels (nows c.args.words.now) c.args.kind LineKind.Entries _ c.in-Entries.is (c.in-Ok-all1-6.ensures ∙ both-same c.number-in-Entries.ensures refl)

pub returns-in-Err-all1-6 : goal.returns-in-Err-all1-6
returns-in-Err-all1-6 c = board-line-read c.args.board_levels (nows c.args.words.now) c.args.kind LineKind.Entries _ c.in-Entries.is (c.in-Err-all1-6.ensures ∙ both-same c.number-in-Entries.ensures refl)

pub returns-in-Ok-all1-7 : goal.returns-in-Ok-all1-7
returns-in-Ok-all1-7 c = board-line-read c.args.board_levels (nows c.args.words.now) c.args.kind LineKind.LpMax _ c.in-LpMax.is (c.in-Ok-all1-7.ensures ∙ both-same c.number-in-LpMax.ensures refl)

pub returns-in-Err-all1-7 : goal.returns-in-Err-all1-7
returns-in-Err-all1-7 c = board-line-read c.args.board_levels (nows c.args.words.now) c.args.kind LineKind.LpMax _ c.in-LpMax.is (c.in-Err-all1-7.ensures ∙ both-same c.number-in-LpMax.ensures refl)

pub returns-in-Ok-all1-8 : goal.returns-in-Ok-all1-8
returns-in-Ok-all1-8 c = board-line-read c.args.board_levels (nows c.args.words.now) c.args.kind LineKind.Thresh _ c.in-Thresh.is (c.in-Ok-all1-8.ensures ∙ both-same c.number-in-Thresh.ensures refl)

pub returns-in-Err-all1-8 : goal.returns-in-Err-all1-8
returns-in-Err-all1-8 c = board-line-read c.args.board_levels (nows c.args.words.now) c.args.kind LineKind.Thresh _ c.in-Thresh.is (c.in-Err-all1-8.ensures ∙ both-same c.number-in-Thresh.ensures refl)

pub returns-in-Ok-all2 : goal.returns-in-Ok-all2
returns-in-Ok-all2 c = board-line-read c.args.board_levels (nows c.args.words.now) c.args.kind LineKind.LpClock _ c.in-LpClock.is (c.in-Ok-all2.ensures ∙ both-same c.number-in-LpClock.ensures (both-same c.number-in-LpClock-2.ensures refl))

pub returns-in-Err-all2 : goal.returns-in-Err-all2
returns-in-Err-all2 c = board-line-read c.args.board_levels (nows c.args.words.now) c.args.kind LineKind.LpClock _ c.in-LpClock.is (c.in-Err-all2.ensures ∙ both-same c.number-in-LpClock.ensures (both-same c.number-in-LpClock-2.ensures refl))

pub returns-in-Ok-all1-9 : goal.returns-in-Ok-all1-9
returns-in-Ok-all1-9 c = board-line-read c.args.board_levels (nows c.args.words.now) c.args.kind LineKind.DefaultMode _ c.in-DefaultMode.is (c.in-Ok-all1-9.ensures ∙ both-same c.mode.ensures refl)

pub returns-in-Err-all1-9 : goal.returns-in-Err-all1-9
returns-in-Err-all1-9 c = board-line-read c.args.board_levels (nows c.args.words.now) c.args.kind LineKind.DefaultMode _ c.in-DefaultMode.is (c.in-Err-all1-9.ensures ∙ both-same c.mode.ensures refl)

pub returns-in-Ok-all1-10 : goal.returns-in-Ok-all1-10
returns-in-Ok-all1-10 c = board-line-read c.args.board_levels (nows c.args.words.now) c.args.kind LineKind.Shell _ c.in-Shell.is (c.in-Ok-all1-10.ensures ∙ both-same (c.prio.ensures ∙ ap (λ (n : ℕ). number_in 0 n (word_at (nows c.args.words.now) 1)) c.below_idle.ensures) refl)

pub returns-in-Err-all1-10 : goal.returns-in-Err-all1-10
returns-in-Err-all1-10 c = board-line-read c.args.board_levels (nows c.args.words.now) c.args.kind LineKind.Shell _ c.in-Shell.is (c.in-Err-all1-10.ensures ∙ both-same (c.prio.ensures ∙ ap (λ (n : ℕ). number_in 0 n (word_at (nows c.args.words.now) 1)) c.below_idle.ensures) refl)

pub returns-in-Ok-all1-11 : goal.returns-in-Ok-all1-11
returns-in-Ok-all1-11 c = board-line-read c.args.board_levels (nows c.args.words.now) c.args.kind LineKind.Soft _ c.in-Soft.is (c.in-Ok-all1-11.ensures ∙ both-same (c.prio-in-Soft.ensures ∙ ap (λ (n : ℕ). number_in 0 n (word_at (nows c.args.words.now) 1)) c.below_idle-in-Soft.ensures) refl)

pub returns-in-Err-all1-11 : goal.returns-in-Err-all1-11
returns-in-Err-all1-11 c = board-line-read c.args.board_levels (nows c.args.words.now) c.args.kind LineKind.Soft _ c.in-Soft.is (c.in-Err-all1-11.ensures ∙ both-same (c.prio-in-Soft.ensures ∙ ap (λ (n : ℕ). number_in 0 n (word_at (nows c.args.words.now) 1)) c.below_idle-in-Soft.ensures) refl)

pub returns-in-Ok-all3 : goal.returns-in-Ok-all3
returns-in-Ok-all3 c = board-line-read c.args.board_levels (nows c.args.words.now) c.args.kind LineKind.Sem _ c.in-Sem.is (c.in-Ok-all3.ensures ∙ both-same c.name.ensures (both-same c.half.ensures (both-same c.order.ensures refl)))

pub returns-in-Err-all3 : goal.returns-in-Err-all3
returns-in-Err-all3 c = board-line-read c.args.board_levels (nows c.args.words.now) c.args.kind LineKind.Sem _ c.in-Sem.is (c.in-Err-all3.ensures ∙ both-same c.name.ensures (both-same c.half.ensures (both-same c.order.ensures refl)))

pub returns-in-Ok-all2-2 : goal.returns-in-Ok-all2-2
returns-in-Ok-all2-2 c = board-line-read c.args.board_levels (nows c.args.words.now) c.args.kind LineKind.Event _ c.in-Event.is (c.in-Ok-all2-2.ensures ∙ both-same c.name-in-Event.ensures (both-same c.order-in-Event.ensures refl))

pub returns-in-Err-all2-2 : goal.returns-in-Err-all2-2
returns-in-Err-all2-2 c = board-line-read c.args.board_levels (nows c.args.words.now) c.args.kind LineKind.Event _ c.in-Event.is (c.in-Err-all2-2.ensures ∙ both-same c.name-in-Event.ensures (both-same c.order-in-Event.ensures refl))

pub returns-in-Ok-all2-3 : goal.returns-in-Ok-all2-3
returns-in-Ok-all2-3 c = board-line-read c.args.board_levels (nows c.args.words.now) c.args.kind LineKind.Mutex _ c.in-Mutex.is (c.in-Ok-all2-3.ensures ∙ both-same c.name-in-Mutex.ensures (both-same (c.prio-in-Mutex.ensures ∙ ap (λ (n : ℕ). number_in 0 n (word_at (nows c.args.words.now) 2)) c.idle.ensures) refl))

pub returns-in-Err-all2-3 : goal.returns-in-Err-all2-3
returns-in-Err-all2-3 c = board-line-read c.args.board_levels (nows c.args.words.now) c.args.kind LineKind.Mutex _ c.in-Mutex.is (c.in-Err-all2-3.ensures ∙ both-same c.name-in-Mutex.ensures (both-same (c.prio-in-Mutex.ensures ∙ ap (λ (n : ℕ). number_in 0 n (word_at (nows c.args.words.now) 2)) c.idle.ensures) refl))

pub returns-in-Ok-all3-2 : goal.returns-in-Ok-all3-2
returns-in-Ok-all3-2 c = board-line-read c.args.board_levels (nows c.args.words.now) c.args.kind LineKind.Mailbox _ c.in-Mailbox.is (c.in-Ok-all3-2.ensures ∙ both-same c.name-in-Mailbox.ensures (both-same c.byte-in-Mailbox.ensures (both-same c.order-in-Mailbox.ensures refl)))

pub returns-in-Err-all3-2 : goal.returns-in-Err-all3-2
returns-in-Err-all3-2 c = board-line-read c.args.board_levels (nows c.args.words.now) c.args.kind LineKind.Mailbox _ c.in-Mailbox.is (c.in-Err-all3-2.ensures ∙ both-same c.name-in-Mailbox.ensures (both-same c.byte-in-Mailbox.ensures (both-same c.order-in-Mailbox.ensures refl)))

pub returns-in-Ok-all4 : goal.returns-in-Ok-all4
returns-in-Ok-all4 c = board-line-read c.args.board_levels (nows c.args.words.now) c.args.kind LineKind.Queue _ c.in-Queue.is (c.in-Ok-all4.ensures ∙ both-same c.name-in-Queue.ensures (both-same c.byte-in-Queue.ensures (both-same c.byte-in-Queue-2.ensures (both-same c.order-in-Queue.ensures refl))))

pub returns-in-Err-all4 : goal.returns-in-Err-all4
returns-in-Err-all4 c = board-line-read c.args.board_levels (nows c.args.words.now) c.args.kind LineKind.Queue _ c.in-Queue.is (c.in-Err-all4.ensures ∙ both-same c.name-in-Queue.ensures (both-same c.byte-in-Queue.ensures (both-same c.byte-in-Queue-2.ensures (both-same c.order-in-Queue.ensures refl))))

pub returns-in-Ok-all4-2 : goal.returns-in-Ok-all4-2
returns-in-Ok-all4-2 c = board-line-read c.args.board_levels (nows c.args.words.now) c.args.kind LineKind.Pool _ c.in-Pool.is (c.in-Ok-all4-2.ensures ∙ both-same c.name-in-Pool.ensures (both-same c.byte-in-Pool.ensures (both-same c.half-in-Pool.ensures (both-same c.order-in-Pool.ensures refl))))

pub returns-in-Err-all4-2 : goal.returns-in-Err-all4-2
returns-in-Err-all4-2 c = board-line-read c.args.board_levels (nows c.args.words.now) c.args.kind LineKind.Pool _ c.in-Pool.is (c.in-Err-all4-2.ensures ∙ both-same c.name-in-Pool.ensures (both-same c.byte-in-Pool.ensures (both-same c.half-in-Pool.ensures (both-same c.order-in-Pool.ensures refl))))

pub returns-in-Ok-all6 : goal.returns-in-Ok-all6
returns-in-Ok-all6 c = board-line-read c.args.board_levels (nows c.args.words.now) c.args.kind LineKind.Device _ c.in-Device.is (c.in-Ok-all6.ensures ∙ both-same c.name-in-Device.ensures (both-same c.byte-in-Device.ensures (both-same c.byte-in-Device-2.ensures (both-same c.byte-in-Device-3.ensures (both-same c.power.ensures (both-same c.indicated.ensures refl))))))

pub returns-in-Err-all6 : goal.returns-in-Err-all6
returns-in-Err-all6 c = board-line-read c.args.board_levels (nows c.args.words.now) c.args.kind LineKind.Device _ c.in-Device.is (c.in-Err-all6.ensures ∙ both-same c.name-in-Device.ensures (both-same c.byte-in-Device.ensures (both-same c.byte-in-Device-2.ensures (both-same c.byte-in-Device-3.ensures (both-same c.power.ensures (both-same c.indicated.ensures refl))))))

pub returns-in-Ok-all5 : goal.returns-in-Ok-all5
returns-in-Ok-all5 c = board-line-read c.args.board_levels (nows c.args.words.now) c.args.kind LineKind.Thread _ c.in-Thread.is (c.in-Ok-all5.ensures ∙ both-same c.name-in-Thread.ensures (both-same (c.prio-in-Thread.ensures ∙ ap (λ (n : ℕ). number_in 0 n (word_at (nows c.args.words.now) 2)) c.below_idle-in-Thread.ensures) (both-same c.byte-in-Thread.ensures (both-same c.core.ensures (both-same c.started.ensures refl)))))

pub returns-in-Err-all5 : goal.returns-in-Err-all5
returns-in-Err-all5 c = board-line-read c.args.board_levels (nows c.args.words.now) c.args.kind LineKind.Thread _ c.in-Thread.is (c.in-Err-all5.ensures ∙ both-same c.name-in-Thread.ensures (both-same (c.prio-in-Thread.ensures ∙ ap (λ (n : ℕ). number_in 0 n (word_at (nows c.args.words.now) 2)) c.below_idle-in-Thread.ensures) (both-same c.byte-in-Thread.ensures (both-same c.core.ensures (both-same c.started.ensures refl)))))

pub returns-in-Ok-all3-3 : goal.returns-in-Ok-all3-3
unfolding line_in
returns-in-Ok-all3-3 c = rw c.in-Arrive.is (search rules)

pub returns-in-Err-all3-3 : goal.returns-in-Err-all3-3
returns-in-Err-all3-3 c = board-line-read c.args.board_levels (nows c.args.words.now) c.args.kind LineKind.Arrive _ c.in-Arrive.is (c.in-Err-all3-3.ensures ∙ both-same c.number-in-Arrive.ensures (both-same c.name-in-Arrive.ensures (both-same c.text.ensures refl)))

pub returns-in-Schedule : goal.returns-in-Schedule
unfolding line_in
returns-in-Schedule c = subst (λ (k : LineKind). Gives c.read_schedule.result (line_in c.args.board_levels (nows c.args.words.now) k)) (sym c.in-Schedule.is) c.read_schedule.ensures

pub returns-in-Limit : goal.returns-in-Limit
unfolding line_in
returns-in-Limit c = subst (λ (k : LineKind). Gives c.read_limit.result (line_in c.args.board_levels (nows c.args.words.now) k)) (sym c.in-Limit.is) c.read_limit.ensures

pub returns-in-Timer : goal.returns-in-Timer
returns-in-Timer c = subst (λ (k : LineKind). Gives c.read_timer.result (line_in c.args.board_levels (nows c.args.words.now) k)) (sym c.in-Timer.is) c.read_timer.ensures
