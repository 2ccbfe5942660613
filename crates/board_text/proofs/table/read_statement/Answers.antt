use Rattle.std.proofs.Common.{ℕ, ◌∙◌, refl, ap}
use Rattle.rt_plain.specs.text.Splits.{word_at}
use Rattle.rt_plain.specs.text.Fields.{number_in}
use Rattle.rt_plain.specs.declared.kind.StatementKind.{StatementKind}
use Rattle.rt_plain.proofs.text.SplitLemmas.{nows}
use Rattle.rt_plain.proofs.text.RowLemmas.{both-same, statement-read}
use Rattle.board_text.proofs.table.read_statement.Goals as goal

pub returns-in-Ok : goal.returns-in-Ok
returns-in-Ok c = statement-read c.args.board_levels (nows c.args.words.now) c.args.kind StatementKind.Print _ c.in-Print.is (c.in-Ok.ensures ∙ both-same c.text.ensures refl)

pub returns-in-Err : goal.returns-in-Err
returns-in-Err c = statement-read c.args.board_levels (nows c.args.words.now) c.args.kind StatementKind.Print _ c.in-Print.is (c.in-Err.ensures ∙ both-same c.text.ensures refl)

pub returns-in-Ok-all1 : goal.returns-in-Ok-all1
returns-in-Ok-all1 c = statement-read c.args.board_levels (nows c.args.words.now) c.args.kind StatementKind.Say _ c.in-Say.is (c.in-Ok-all1.ensures ∙ both-same c.what.ensures refl)

pub returns-in-Err-all1 : goal.returns-in-Err-all1
returns-in-Err-all1 c = statement-read c.args.board_levels (nows c.args.words.now) c.args.kind StatementKind.Say _ c.in-Say.is (c.in-Err-all1.ensures ∙ both-same c.what.ensures refl)

pub returns-in-Ok-all1-2 : goal.returns-in-Ok-all1-2
returns-in-Ok-all1-2 c = statement-read c.args.board_levels (nows c.args.words.now) c.args.kind StatementKind.Goto _ c.in-Goto.is (c.in-Ok-all1-2.ensures ∙ both-same c.half.ensures refl)

pub returns-in-Err-all1-2 : goal.returns-in-Err-all1-2
returns-in-Err-all1-2 c = statement-read c.args.board_levels (nows c.args.words.now) c.args.kind StatementKind.Goto _ c.in-Goto.is (c.in-Err-all1-2.ensures ∙ both-same c.half.ensures refl)

pub returns-in-Ok-all2 : goal.returns-in-Ok-all2
returns-in-Ok-all2 c = statement-read c.args.board_levels (nows c.args.words.now) c.args.kind StatementKind.IfCode _ c.in-IfCode.is (c.in-Ok-all2.ensures ∙ both-same c.code.ensures (both-same c.half-in-IfCode.ensures refl))

pub returns-in-Err-all2 : goal.returns-in-Err-all2
returns-in-Err-all2 c = statement-read c.args.board_levels (nows c.args.words.now) c.args.kind StatementKind.IfCode _ c.in-IfCode.is (c.in-Err-all2.ensures ∙ both-same c.code.ensures (both-same c.half-in-IfCode.ensures refl))

pub returns-in-Ok-all1-3 : goal.returns-in-Ok-all1-3
returns-in-Ok-all1-3 c = statement-read c.args.board_levels (nows c.args.words.now) c.args.kind StatementKind.Count _ c.in-Count.is (c.in-Ok-all1-3.ensures ∙ both-same c.half-in-Count.ensures refl)

pub returns-in-Err-all1-3 : goal.returns-in-Err-all1-3
returns-in-Err-all1-3 c = statement-read c.args.board_levels (nows c.args.words.now) c.args.kind StatementKind.Count _ c.in-Count.is (c.in-Err-all1-3.ensures ∙ both-same c.half-in-Count.ensures refl)

pub returns-in-Ok-all1-4 : goal.returns-in-Ok-all1-4
returns-in-Ok-all1-4 c = statement-read c.args.board_levels (nows c.args.words.now) c.args.kind StatementKind.Next _ c.in-Next.is (c.in-Ok-all1-4.ensures ∙ both-same c.half-in-Next.ensures refl)

pub returns-in-Err-all1-4 : goal.returns-in-Err-all1-4
returns-in-Err-all1-4 c = statement-read c.args.board_levels (nows c.args.words.now) c.args.kind StatementKind.Next _ c.in-Next.is (c.in-Err-all1-4.ensures ∙ both-same c.half-in-Next.ensures refl)

pub returns-in-Ok-all0 : goal.returns-in-Ok-all0
returns-in-Ok-all0 c = statement-read c.args.board_levels (nows c.args.words.now) c.args.kind StatementKind.Exit _ c.in-Exit.is c.in-Ok-all0.ensures

pub returns-in-Ok-all1-5 : goal.returns-in-Ok-all1-5
returns-in-Ok-all1-5 c = statement-read c.args.board_levels (nows c.args.words.now) c.args.kind StatementKind.Delay _ c.in-Delay.is (c.in-Ok-all1-5.ensures ∙ both-same c.number.ensures refl)

pub returns-in-Err-all1-5 : goal.returns-in-Err-all1-5
returns-in-Err-all1-5 c = statement-read c.args.board_levels (nows c.args.words.now) c.args.kind StatementKind.Delay _ c.in-Delay.is (c.in-Err-all1-5.ensures ∙ both-same c.number.ensures refl)

pub returns-in-Ok-all0-2 : goal.returns-in-Ok-all0-2
returns-in-Ok-all0-2 c = statement-read c.args.board_levels (nows c.args.words.now) c.args.kind StatementKind.Yield _ c.in-Yield.is c.in-Ok-all0-2.ensures

pub returns-in-Ok-all1-6 : goal.returns-in-Ok-all1-6
returns-in-Ok-all1-6 c = statement-read c.args.board_levels (nows c.args.words.now) c.args.kind StatementKind.Startup _ c.in-Startup.is (c.in-Ok-all1-6.ensures ∙ both-same c.name.ensures refl)

pub returns-in-Err-all1-6 : goal.returns-in-Err-all1-6
returns-in-Err-all1-6 c = statement-read c.args.board_levels (nows c.args.words.now) c.args.kind StatementKind.Startup _ c.in-Startup.is (c.in-Err-all1-6.ensures ∙ both-same c.name.ensures refl)

pub returns-in-Ok-all1-7 : goal.returns-in-Ok-all1-7
returns-in-Ok-all1-7 c = statement-read c.args.board_levels (nows c.args.words.now) c.args.kind StatementKind.Suspend _ c.in-Suspend.is (c.in-Ok-all1-7.ensures ∙ both-same c.name-in-Suspend.ensures refl)

pub returns-in-Err-all1-7 : goal.returns-in-Err-all1-7
returns-in-Err-all1-7 c = statement-read c.args.board_levels (nows c.args.words.now) c.args.kind StatementKind.Suspend _ c.in-Suspend.is (c.in-Err-all1-7.ensures ∙ both-same c.name-in-Suspend.ensures refl)

pub returns-in-Ok-all1-8 : goal.returns-in-Ok-all1-8
returns-in-Ok-all1-8 c = statement-read c.args.board_levels (nows c.args.words.now) c.args.kind StatementKind.Resume _ c.in-Resume.is (c.in-Ok-all1-8.ensures ∙ both-same c.name-in-Resume.ensures refl)

pub returns-in-Err-all1-8 : goal.returns-in-Err-all1-8
returns-in-Err-all1-8 c = statement-read c.args.board_levels (nows c.args.words.now) c.args.kind StatementKind.Resume _ c.in-Resume.is (c.in-Err-all1-8.ensures ∙ both-same c.name-in-Resume.ensures refl)

pub returns-in-Ok-all1-9 : goal.returns-in-Ok-all1-9
returns-in-Ok-all1-9 c = statement-read c.args.board_levels (nows c.args.words.now) c.args.kind StatementKind.Kill _ c.in-Kill.is (c.in-Ok-all1-9.ensures ∙ both-same c.name-in-Kill.ensures refl)

pub returns-in-Err-all1-9 : goal.returns-in-Err-all1-9
returns-in-Err-all1-9 c = statement-read c.args.board_levels (nows c.args.words.now) c.args.kind StatementKind.Kill _ c.in-Kill.is (c.in-Err-all1-9.ensures ∙ both-same c.name-in-Kill.ensures refl)

pub returns-in-Ok-all2-2 : goal.returns-in-Ok-all2-2
returns-in-Ok-all2-2 c = statement-read c.args.board_levels (nows c.args.words.now) c.args.kind StatementKind.SetPrio _ c.in-SetPrio.is (c.in-Ok-all2-2.ensures ∙ both-same c.name-in-SetPrio.ensures (both-same (c.prio.ensures ∙ ap (λ (n : ℕ). number_in 0 n (word_at (nows c.args.words.now) 2)) c.below_idle.ensures) refl))

pub returns-in-Err-all2-2 : goal.returns-in-Err-all2-2
returns-in-Err-all2-2 c = statement-read c.args.board_levels (nows c.args.words.now) c.args.kind StatementKind.SetPrio _ c.in-SetPrio.is (c.in-Err-all2-2.ensures ∙ both-same c.name-in-SetPrio.ensures (both-same (c.prio.ensures ∙ ap (λ (n : ℕ). number_in 0 n (word_at (nows c.args.words.now) 2)) c.below_idle.ensures) refl))

pub returns-in-Ok-all0-3 : goal.returns-in-Ok-all0-3
returns-in-Ok-all0-3 c = statement-read c.args.board_levels (nows c.args.words.now) c.args.kind StatementKind.Lock _ c.in-Lock.is c.in-Ok-all0-3.ensures

pub returns-in-Ok-all0-4 : goal.returns-in-Ok-all0-4
returns-in-Ok-all0-4 c = statement-read c.args.board_levels (nows c.args.words.now) c.args.kind StatementKind.Unlock _ c.in-Unlock.is c.in-Ok-all0-4.ensures

pub returns-in-Ok-all0-5 : goal.returns-in-Ok-all0-5
returns-in-Ok-all0-5 c = statement-read c.args.board_levels (nows c.args.words.now) c.args.kind StatementKind.SchedLock _ c.in-SchedLock.is c.in-Ok-all0-5.ensures

pub returns-in-Ok-all0-6 : goal.returns-in-Ok-all0-6
returns-in-Ok-all0-6 c = statement-read c.args.board_levels (nows c.args.words.now) c.args.kind StatementKind.SchedUnlock _ c.in-SchedUnlock.is c.in-Ok-all0-6.ensures

pub returns-in-Ok-all3 : goal.returns-in-Ok-all3
returns-in-Ok-all3 c = statement-read c.args.board_levels (nows c.args.words.now) c.args.kind StatementKind.SemCreate _ c.in-SemCreate.is (c.in-Ok-all3.ensures ∙ both-same c.name-in-SemCreate.ensures (both-same c.half-in-SemCreate.ensures (both-same c.order.ensures refl)))

pub returns-in-Err-all3 : goal.returns-in-Err-all3
returns-in-Err-all3 c = statement-read c.args.board_levels (nows c.args.words.now) c.args.kind StatementKind.SemCreate _ c.in-SemCreate.is (c.in-Err-all3.ensures ∙ both-same c.name-in-SemCreate.ensures (both-same c.half-in-SemCreate.ensures (both-same c.order.ensures refl)))

pub returns-in-Ok-all2-3 : goal.returns-in-Ok-all2-3
returns-in-Ok-all2-3 c = statement-read c.args.board_levels (nows c.args.words.now) c.args.kind StatementKind.SemTake _ c.in-SemTake.is (c.in-Ok-all2-3.ensures ∙ both-same c.name-in-SemTake.ensures (both-same c.wait.ensures refl))

pub returns-in-Err-all2-3 : goal.returns-in-Err-all2-3
returns-in-Err-all2-3 c = statement-read c.args.board_levels (nows c.args.words.now) c.args.kind StatementKind.SemTake _ c.in-SemTake.is (c.in-Err-all2-3.ensures ∙ both-same c.name-in-SemTake.ensures (both-same c.wait.ensures refl))

pub returns-in-Ok-all1-10 : goal.returns-in-Ok-all1-10
returns-in-Ok-all1-10 c = statement-read c.args.board_levels (nows c.args.words.now) c.args.kind StatementKind.SemRelease _ c.in-SemRelease.is (c.in-Ok-all1-10.ensures ∙ both-same c.name-in-SemRelease.ensures refl)

pub returns-in-Err-all1-10 : goal.returns-in-Err-all1-10
returns-in-Err-all1-10 c = statement-read c.args.board_levels (nows c.args.words.now) c.args.kind StatementKind.SemRelease _ c.in-SemRelease.is (c.in-Err-all1-10.ensures ∙ both-same c.name-in-SemRelease.ensures refl)

pub returns-in-Ok-all2-4 : goal.returns-in-Ok-all2-4
returns-in-Ok-all2-4 c = statement-read c.args.board_levels (nows c.args.words.now) c.args.kind StatementKind.EventCreate _ c.in-EventCreate.is (c.in-Ok-all2-4.ensures ∙ both-same c.name-in-EventCreate.ensures (both-same c.order-in-EventCreate.ensures refl))

pub returns-in-Err-all2-4 : goal.returns-in-Err-all2-4
returns-in-Err-all2-4 c = statement-read c.args.board_levels (nows c.args.words.now) c.args.kind StatementKind.EventCreate _ c.in-EventCreate.is (c.in-Err-all2-4.ensures ∙ both-same c.name-in-EventCreate.ensures (both-same c.order-in-EventCreate.ensures refl))

pub returns-in-Ok-all2-5 : goal.returns-in-Ok-all2-5
returns-in-Ok-all2-5 c = statement-read c.args.board_levels (nows c.args.words.now) c.args.kind StatementKind.EventSend _ c.in-EventSend.is (c.in-Ok-all2-5.ensures ∙ both-same c.name-in-EventSend.ensures (both-same c.number-in-EventSend.ensures refl))

pub returns-in-Err-all2-5 : goal.returns-in-Err-all2-5
returns-in-Err-all2-5 c = statement-read c.args.board_levels (nows c.args.words.now) c.args.kind StatementKind.EventSend _ c.in-EventSend.is (c.in-Err-all2-5.ensures ∙ both-same c.name-in-EventSend.ensures (both-same c.number-in-EventSend.ensures refl))

pub returns-in-Ok-all5 : goal.returns-in-Ok-all5
returns-in-Ok-all5 c = statement-read c.args.board_levels (nows c.args.words.now) c.args.kind StatementKind.EventRecv _ c.in-EventRecv.is (c.in-Ok-all5.ensures ∙ both-same c.name-in-EventRecv.ensures (both-same c.number-in-EventRecv.ensures (both-same c.how.ensures (both-same c.keep.ensures (both-same c.wait-in-EventRecv.ensures refl)))))

pub returns-in-Err-all5 : goal.returns-in-Err-all5
returns-in-Err-all5 c = statement-read c.args.board_levels (nows c.args.words.now) c.args.kind StatementKind.EventRecv _ c.in-EventRecv.is (c.in-Err-all5.ensures ∙ both-same c.name-in-EventRecv.ensures (both-same c.number-in-EventRecv.ensures (both-same c.how.ensures (both-same c.keep.ensures (both-same c.wait-in-EventRecv.ensures refl)))))

pub returns-in-Ok-all2-6 : goal.returns-in-Ok-all2-6
returns-in-Ok-all2-6 c = statement-read c.args.board_levels (nows c.args.words.now) c.args.kind StatementKind.MutexCreate _ c.in-MutexCreate.is (c.in-Ok-all2-6.ensures ∙ both-same c.name-in-MutexCreate.ensures (both-same (c.prio-in-MutexCreate.ensures ∙ ap (λ (n : ℕ). number_in 0 n (word_at (nows c.args.words.now) 2)) c.idle.ensures) refl))

pub returns-in-Err-all2-6 : goal.returns-in-Err-all2-6
returns-in-Err-all2-6 c = statement-read c.args.board_levels (nows c.args.words.now) c.args.kind StatementKind.MutexCreate _ c.in-MutexCreate.is (c.in-Err-all2-6.ensures ∙ both-same c.name-in-MutexCreate.ensures (both-same (c.prio-in-MutexCreate.ensures ∙ ap (λ (n : ℕ). number_in 0 n (word_at (nows c.args.words.now) 2)) c.idle.ensures) refl))

pub returns-in-Ok-all2-7 : goal.returns-in-Ok-all2-7
returns-in-Ok-all2-7 c = statement-read c.args.board_levels (nows c.args.words.now) c.args.kind StatementKind.MutexTake _ c.in-MutexTake.is (c.in-Ok-all2-7.ensures ∙ both-same c.name-in-MutexTake.ensures (both-same c.wait-in-MutexTake.ensures refl))

pub returns-in-Err-all2-7 : goal.returns-in-Err-all2-7
returns-in-Err-all2-7 c = statement-read c.args.board_levels (nows c.args.words.now) c.args.kind StatementKind.MutexTake _ c.in-MutexTake.is (c.in-Err-all2-7.ensures ∙ both-same c.name-in-MutexTake.ensures (both-same c.wait-in-MutexTake.ensures refl))

pub returns-in-Ok-all1-11 : goal.returns-in-Ok-all1-11
returns-in-Ok-all1-11 c = statement-read c.args.board_levels (nows c.args.words.now) c.args.kind StatementKind.MutexRelease _ c.in-MutexRelease.is (c.in-Ok-all1-11.ensures ∙ both-same c.name-in-MutexRelease.ensures refl)

pub returns-in-Err-all1-11 : goal.returns-in-Err-all1-11
returns-in-Err-all1-11 c = statement-read c.args.board_levels (nows c.args.words.now) c.args.kind StatementKind.MutexRelease _ c.in-MutexRelease.is (c.in-Err-all1-11.ensures ∙ both-same c.name-in-MutexRelease.ensures refl)

pub returns-in-Ok-all2-8 : goal.returns-in-Ok-all2-8
returns-in-Ok-all2-8 c = statement-read c.args.board_levels (nows c.args.words.now) c.args.kind StatementKind.MutexCeiling _ c.in-MutexCeiling.is (c.in-Ok-all2-8.ensures ∙ both-same c.name-in-MutexCeiling.ensures (both-same (c.prio-in-MutexCeiling.ensures ∙ ap (λ (n : ℕ). number_in 0 n (word_at (nows c.args.words.now) 2)) c.idle-in-MutexCeiling.ensures) refl))

pub returns-in-Err-all2-8 : goal.returns-in-Err-all2-8
returns-in-Err-all2-8 c = statement-read c.args.board_levels (nows c.args.words.now) c.args.kind StatementKind.MutexCeiling _ c.in-MutexCeiling.is (c.in-Err-all2-8.ensures ∙ both-same c.name-in-MutexCeiling.ensures (both-same (c.prio-in-MutexCeiling.ensures ∙ ap (λ (n : ℕ). number_in 0 n (word_at (nows c.args.words.now) 2)) c.idle-in-MutexCeiling.ensures) refl))

pub returns-in-Ok-all3-2 : goal.returns-in-Ok-all3-2
returns-in-Ok-all3-2 c = statement-read c.args.board_levels (nows c.args.words.now) c.args.kind StatementKind.MbSend _ c.in-MbSend.is (c.in-Ok-all3-2.ensures ∙ both-same c.name-in-MbSend.ensures (both-same c.number-in-MbSend.ensures (both-same c.wait-in-MbSend.ensures refl)))

pub returns-in-Err-all3-2 : goal.returns-in-Err-all3-2
returns-in-Err-all3-2 c = statement-read c.args.board_levels (nows c.args.words.now) c.args.kind StatementKind.MbSend _ c.in-MbSend.is (c.in-Err-all3-2.ensures ∙ both-same c.name-in-MbSend.ensures (both-same c.number-in-MbSend.ensures (both-same c.wait-in-MbSend.ensures refl)))

pub returns-in-Ok-all2-9 : goal.returns-in-Ok-all2-9
returns-in-Ok-all2-9 c = statement-read c.args.board_levels (nows c.args.words.now) c.args.kind StatementKind.MbUrgent _ c.in-MbUrgent.is (c.in-Ok-all2-9.ensures ∙ both-same c.name-in-MbUrgent.ensures (both-same c.number-in-MbUrgent.ensures refl))

pub returns-in-Err-all2-9 : goal.returns-in-Err-all2-9
returns-in-Err-all2-9 c = statement-read c.args.board_levels (nows c.args.words.now) c.args.kind StatementKind.MbUrgent _ c.in-MbUrgent.is (c.in-Err-all2-9.ensures ∙ both-same c.name-in-MbUrgent.ensures (both-same c.number-in-MbUrgent.ensures refl))

pub returns-in-Ok-all2-10 : goal.returns-in-Ok-all2-10
returns-in-Ok-all2-10 c = statement-read c.args.board_levels (nows c.args.words.now) c.args.kind StatementKind.MbRecv _ c.in-MbRecv.is (c.in-Ok-all2-10.ensures ∙ both-same c.name-in-MbRecv.ensures (both-same c.wait-in-MbRecv.ensures refl))

pub returns-in-Err-all2-10 : goal.returns-in-Err-all2-10
returns-in-Err-all2-10 c = statement-read c.args.board_levels (nows c.args.words.now) c.args.kind StatementKind.MbRecv _ c.in-MbRecv.is (c.in-Err-all2-10.ensures ∙ both-same c.name-in-MbRecv.ensures (both-same c.wait-in-MbRecv.ensures refl))

pub returns-in-Ok-all3-3 : goal.returns-in-Ok-all3-3
returns-in-Ok-all3-3 c = statement-read c.args.board_levels (nows c.args.words.now) c.args.kind StatementKind.MqSend _ c.in-MqSend.is (c.in-Ok-all3-3.ensures ∙ both-same c.name-in-MqSend.ensures (both-same c.wait-in-MqSend.ensures (both-same c.text-in-MqSend.ensures refl)))

pub returns-in-Err-all3-3 : goal.returns-in-Err-all3-3
returns-in-Err-all3-3 c = statement-read c.args.board_levels (nows c.args.words.now) c.args.kind StatementKind.MqSend _ c.in-MqSend.is (c.in-Err-all3-3.ensures ∙ both-same c.name-in-MqSend.ensures (both-same c.wait-in-MqSend.ensures (both-same c.text-in-MqSend.ensures refl)))

pub returns-in-Ok-all2-11 : goal.returns-in-Ok-all2-11
returns-in-Ok-all2-11 c = statement-read c.args.board_levels (nows c.args.words.now) c.args.kind StatementKind.MqUrgent _ c.in-MqUrgent.is (c.in-Ok-all2-11.ensures ∙ both-same c.name-in-MqUrgent.ensures (both-same c.text-in-MqUrgent.ensures refl))

pub returns-in-Err-all2-11 : goal.returns-in-Err-all2-11
returns-in-Err-all2-11 c = statement-read c.args.board_levels (nows c.args.words.now) c.args.kind StatementKind.MqUrgent _ c.in-MqUrgent.is (c.in-Err-all2-11.ensures ∙ both-same c.name-in-MqUrgent.ensures (both-same c.text-in-MqUrgent.ensures refl))

pub returns-in-Ok-all2-12 : goal.returns-in-Ok-all2-12
returns-in-Ok-all2-12 c = statement-read c.args.board_levels (nows c.args.words.now) c.args.kind StatementKind.MqRecv _ c.in-MqRecv.is (c.in-Ok-all2-12.ensures ∙ both-same c.name-in-MqRecv.ensures (both-same c.wait-in-MqRecv.ensures refl))

pub returns-in-Err-all2-12 : goal.returns-in-Err-all2-12
returns-in-Err-all2-12 c = statement-read c.args.board_levels (nows c.args.words.now) c.args.kind StatementKind.MqRecv _ c.in-MqRecv.is (c.in-Err-all2-12.ensures ∙ both-same c.name-in-MqRecv.ensures (both-same c.wait-in-MqRecv.ensures refl))

pub returns-in-Ok-all2-13 : goal.returns-in-Ok-all2-13
returns-in-Ok-all2-13 c = statement-read c.args.board_levels (nows c.args.words.now) c.args.kind StatementKind.Delete _ c.in-Delete.is (c.in-Ok-all2-13.ensures ∙ both-same c.class.ensures (both-same c.name-in-Delete.ensures refl))

pub returns-in-Err-all2-13 : goal.returns-in-Err-all2-13
returns-in-Err-all2-13 c = statement-read c.args.board_levels (nows c.args.words.now) c.args.kind StatementKind.Delete _ c.in-Delete.is (c.in-Err-all2-13.ensures ∙ both-same c.class.ensures (both-same c.name-in-Delete.ensures refl))

pub returns-in-Ok-all1-12 : goal.returns-in-Ok-all1-12
returns-in-Ok-all1-12 c = statement-read c.args.board_levels (nows c.args.words.now) c.args.kind StatementKind.TimerStart _ c.in-TimerStart.is (c.in-Ok-all1-12.ensures ∙ both-same c.name-in-TimerStart.ensures refl)

pub returns-in-Err-all1-12 : goal.returns-in-Err-all1-12
returns-in-Err-all1-12 c = statement-read c.args.board_levels (nows c.args.words.now) c.args.kind StatementKind.TimerStart _ c.in-TimerStart.is (c.in-Err-all1-12.ensures ∙ both-same c.name-in-TimerStart.ensures refl)

pub returns-in-Ok-all1-13 : goal.returns-in-Ok-all1-13
returns-in-Ok-all1-13 c = statement-read c.args.board_levels (nows c.args.words.now) c.args.kind StatementKind.TimerStop _ c.in-TimerStop.is (c.in-Ok-all1-13.ensures ∙ both-same c.name-in-TimerStop.ensures refl)

pub returns-in-Err-all1-13 : goal.returns-in-Err-all1-13
returns-in-Err-all1-13 c = statement-read c.args.board_levels (nows c.args.words.now) c.args.kind StatementKind.TimerStop _ c.in-TimerStop.is (c.in-Err-all1-13.ensures ∙ both-same c.name-in-TimerStop.ensures refl)

pub returns-in-Ok-all2-14 : goal.returns-in-Ok-all2-14
returns-in-Ok-all2-14 c = statement-read c.args.board_levels (nows c.args.words.now) c.args.kind StatementKind.TimerSet _ c.in-TimerSet.is (c.in-Ok-all2-14.ensures ∙ both-same c.name-in-TimerSet.ensures (both-same c.number-in-TimerSet.ensures refl))

pub returns-in-Err-all2-14 : goal.returns-in-Err-all2-14
returns-in-Err-all2-14 c = statement-read c.args.board_levels (nows c.args.words.now) c.args.kind StatementKind.TimerSet _ c.in-TimerSet.is (c.in-Err-all2-14.ensures ∙ both-same c.name-in-TimerSet.ensures (both-same c.number-in-TimerSet.ensures refl))

pub returns-in-Ok-all1-14 : goal.returns-in-Ok-all1-14
returns-in-Ok-all1-14 c = statement-read c.args.board_levels (nows c.args.words.now) c.args.kind StatementKind.DevOpen _ c.in-DevOpen.is (c.in-Ok-all1-14.ensures ∙ both-same c.name-in-DevOpen.ensures refl)

pub returns-in-Err-all1-14 : goal.returns-in-Err-all1-14
returns-in-Err-all1-14 c = statement-read c.args.board_levels (nows c.args.words.now) c.args.kind StatementKind.DevOpen _ c.in-DevOpen.is (c.in-Err-all1-14.ensures ∙ both-same c.name-in-DevOpen.ensures refl)

pub returns-in-Ok-all1-15 : goal.returns-in-Ok-all1-15
returns-in-Ok-all1-15 c = statement-read c.args.board_levels (nows c.args.words.now) c.args.kind StatementKind.DevClose _ c.in-DevClose.is (c.in-Ok-all1-15.ensures ∙ both-same c.name-in-DevClose.ensures refl)

pub returns-in-Err-all1-15 : goal.returns-in-Err-all1-15
returns-in-Err-all1-15 c = statement-read c.args.board_levels (nows c.args.words.now) c.args.kind StatementKind.DevClose _ c.in-DevClose.is (c.in-Err-all1-15.ensures ∙ both-same c.name-in-DevClose.ensures refl)

pub returns-in-Ok-all2-15 : goal.returns-in-Ok-all2-15
returns-in-Ok-all2-15 c = statement-read c.args.board_levels (nows c.args.words.now) c.args.kind StatementKind.DevRead _ c.in-DevRead.is (c.in-Ok-all2-15.ensures ∙ both-same c.name-in-DevRead.ensures (both-same c.byte.ensures refl))

pub returns-in-Err-all2-15 : goal.returns-in-Err-all2-15
returns-in-Err-all2-15 c = statement-read c.args.board_levels (nows c.args.words.now) c.args.kind StatementKind.DevRead _ c.in-DevRead.is (c.in-Err-all2-15.ensures ∙ both-same c.name-in-DevRead.ensures (both-same c.byte.ensures refl))

pub returns-in-Ok-all2-16 : goal.returns-in-Ok-all2-16
returns-in-Ok-all2-16 c = statement-read c.args.board_levels (nows c.args.words.now) c.args.kind StatementKind.DevWrite _ c.in-DevWrite.is (c.in-Ok-all2-16.ensures ∙ both-same c.name-in-DevWrite.ensures (both-same c.text-in-DevWrite.ensures refl))

pub returns-in-Err-all2-16 : goal.returns-in-Err-all2-16
returns-in-Err-all2-16 c = statement-read c.args.board_levels (nows c.args.words.now) c.args.kind StatementKind.DevWrite _ c.in-DevWrite.is (c.in-Err-all2-16.ensures ∙ both-same c.name-in-DevWrite.ensures (both-same c.text-in-DevWrite.ensures refl))

pub returns-in-Ok-all2-17 : goal.returns-in-Ok-all2-17
returns-in-Ok-all2-17 c = statement-read c.args.board_levels (nows c.args.words.now) c.args.kind StatementKind.DevCtl _ c.in-DevCtl.is (c.in-Ok-all2-17.ensures ∙ both-same c.name-in-DevCtl.ensures (both-same c.byte-in-DevCtl.ensures refl))

pub returns-in-Err-all2-17 : goal.returns-in-Err-all2-17
returns-in-Err-all2-17 c = statement-read c.args.board_levels (nows c.args.words.now) c.args.kind StatementKind.DevCtl _ c.in-DevCtl.is (c.in-Err-all2-17.ensures ∙ both-same c.name-in-DevCtl.ensures (both-same c.byte-in-DevCtl.ensures refl))

pub returns-in-Ok-all1-16 : goal.returns-in-Ok-all1-16
returns-in-Ok-all1-16 c = statement-read c.args.board_levels (nows c.args.words.now) c.args.kind StatementKind.PmRequest _ c.in-PmRequest.is (c.in-Ok-all1-16.ensures ∙ both-same c.mode.ensures refl)

pub returns-in-Err-all1-16 : goal.returns-in-Err-all1-16
returns-in-Err-all1-16 c = statement-read c.args.board_levels (nows c.args.words.now) c.args.kind StatementKind.PmRequest _ c.in-PmRequest.is (c.in-Err-all1-16.ensures ∙ both-same c.mode.ensures refl)

pub returns-in-Ok-all1-17 : goal.returns-in-Ok-all1-17
returns-in-Ok-all1-17 c = statement-read c.args.board_levels (nows c.args.words.now) c.args.kind StatementKind.PmRelease _ c.in-PmRelease.is (c.in-Ok-all1-17.ensures ∙ both-same c.mode-in-PmRelease.ensures refl)

pub returns-in-Err-all1-17 : goal.returns-in-Err-all1-17
returns-in-Err-all1-17 c = statement-read c.args.board_levels (nows c.args.words.now) c.args.kind StatementKind.PmRelease _ c.in-PmRelease.is (c.in-Err-all1-17.ensures ∙ both-same c.mode-in-PmRelease.ensures refl)

pub returns-in-Ok-all1-18 : goal.returns-in-Ok-all1-18
returns-in-Ok-all1-18 c = statement-read c.args.board_levels (nows c.args.words.now) c.args.kind StatementKind.PmRun _ c.in-PmRun.is (c.in-Ok-all1-18.ensures ∙ both-same c.run.ensures refl)

pub returns-in-Err-all1-18 : goal.returns-in-Err-all1-18
returns-in-Err-all1-18 c = statement-read c.args.board_levels (nows c.args.words.now) c.args.kind StatementKind.PmRun _ c.in-PmRun.is (c.in-Err-all1-18.ensures ∙ both-same c.run.ensures refl)

pub returns-in-Ok-all2-18 : goal.returns-in-Ok-all2-18
returns-in-Ok-all2-18 c = statement-read c.args.board_levels (nows c.args.words.now) c.args.kind StatementKind.MpAlloc _ c.in-MpAlloc.is (c.in-Ok-all2-18.ensures ∙ both-same c.name-in-MpAlloc.ensures (both-same c.wait-in-MpAlloc.ensures refl))

pub returns-in-Err-all2-18 : goal.returns-in-Err-all2-18
returns-in-Err-all2-18 c = statement-read c.args.board_levels (nows c.args.words.now) c.args.kind StatementKind.MpAlloc _ c.in-MpAlloc.is (c.in-Err-all2-18.ensures ∙ both-same c.name-in-MpAlloc.ensures (both-same c.wait-in-MpAlloc.ensures refl))

pub returns-in-Ok-all1-19 : goal.returns-in-Ok-all1-19
returns-in-Ok-all1-19 c = statement-read c.args.board_levels (nows c.args.words.now) c.args.kind StatementKind.MpFree _ c.in-MpFree.is (c.in-Ok-all1-19.ensures ∙ both-same c.name-in-MpFree.ensures refl)

pub returns-in-Err-all1-19 : goal.returns-in-Err-all1-19
returns-in-Err-all1-19 c = statement-read c.args.board_levels (nows c.args.words.now) c.args.kind StatementKind.MpFree _ c.in-MpFree.is (c.in-Err-all1-19.ensures ∙ both-same c.name-in-MpFree.ensures refl)
