use Rattle.std.proofs.Common.{refl}
use Rattle.rt_plain.specs.declared.stmt.Call.{Call}
use Rattle.board_show.proofs.Spelled.{words-same, call_put}
use Rattle.board_show.proofs.statements.put_call.Goals as goal

pub returns-in-Delay-statement_rows : goal.returns-in-Delay-statement_rows
returns-in-Delay-statement_rows c = call_put c.args.call.now _ c.all1.result c.args.out.now c.all1.new.out _ c.in-Delay-statement_rows.number-arg-1-own.given.1 (words-same refl (words-same c.number.ensures refl)) c.all1.ensures

pub returns-in-Startup-statement_rows : goal.returns-in-Startup-statement_rows
returns-in-Startup-statement_rows c = call_put c.args.call.now _ c.all1-in-Startup-1.result c.args.out.now c.all1-in-Startup-1.new.out _ c.in-Startup-statement_rows.name-arg-1-own.given.1 (words-same refl (words-same c.name.ensures refl)) c.all1-in-Startup-1.ensures

pub returns-in-Suspend-statement_rows : goal.returns-in-Suspend-statement_rows
returns-in-Suspend-statement_rows c = call_put c.args.call.now _ c.all1-in-Suspend-1.result c.args.out.now c.all1-in-Suspend-1.new.out _ c.in-Suspend-statement_rows.name-arg-in-Suspend-1-own.given.1 (words-same refl (words-same c.name-in-Suspend-1.ensures refl)) c.all1-in-Suspend-1.ensures

pub returns-in-Resume-statement_rows : goal.returns-in-Resume-statement_rows
returns-in-Resume-statement_rows c = call_put c.args.call.now _ c.all1-in-Resume-1.result c.args.out.now c.all1-in-Resume-1.new.out _ c.in-Resume-statement_rows.name-arg-in-Resume-1-own.given.1 (words-same refl (words-same c.name-in-Resume-1.ensures refl)) c.all1-in-Resume-1.ensures

pub returns-in-Kill-statement_rows : goal.returns-in-Kill-statement_rows
returns-in-Kill-statement_rows c = call_put c.args.call.now _ c.all1-in-Kill-1.result c.args.out.now c.all1-in-Kill-1.new.out _ c.in-Kill-statement_rows.name-arg-in-Kill-1-own.given.1 (words-same refl (words-same c.name-in-Kill-1.ensures refl)) c.all1-in-Kill-1.ensures

pub returns-in-SetPrio-statement_rows : goal.returns-in-SetPrio-statement_rows
returns-in-SetPrio-statement_rows c = call_put c.args.call.now (Call.SetPrio c.in-SetPrio-statement_rows.name-arg-in-SetPrio-1-own.given.0.0 c.in-SetPrio-statement_rows.prio-arg-1-own.given.0.1.0) c.all2.result c.args.out.now c.all2.new.out _ (cc (c.in-SetPrio-statement_rows.name-arg-in-SetPrio-1-own.given.1, c.in-SetPrio-statement_rows.prio-arg-1-own.given.1)) (words-same refl (words-same c.name-in-SetPrio-1.ensures (words-same c.prio.ensures refl))) c.all2.ensures

pub returns-in-SemCreate-statement_rows : goal.returns-in-SemCreate-statement_rows
returns-in-SemCreate-statement_rows c = call_put c.args.call.now (Call.SemCreate c.in-SemCreate-statement_rows.name-arg-in-SemCreate-1-own.given.0.0 c.in-SemCreate-statement_rows.half-arg-1-own.given.0.1.0 c.in-SemCreate-statement_rows.order-arg-1-own.given.0.1.1.0) c.all3.result c.args.out.now c.all3.new.out _ (cc (c.in-SemCreate-statement_rows.name-arg-in-SemCreate-1-own.given.1, c.in-SemCreate-statement_rows.half-arg-1-own.given.1, c.in-SemCreate-statement_rows.order-arg-1-own.given.1)) (words-same refl (words-same c.name-in-SemCreate-1.ensures (words-same c.half.ensures (words-same c.order.ensures refl)))) c.all3.ensures

pub returns-in-SemTake-statement_rows : goal.returns-in-SemTake-statement_rows
returns-in-SemTake-statement_rows c = call_put c.args.call.now (Call.SemTake c.in-SemTake-statement_rows.name-arg-in-SemTake-1-own.given.0.0 c.in-SemTake-statement_rows.wait-arg-1-own.given.0.1.0) c.all2-in-SemTake-1.result c.args.out.now c.all2-in-SemTake-1.new.out _ (cc (c.in-SemTake-statement_rows.name-arg-in-SemTake-1-own.given.1, c.in-SemTake-statement_rows.wait-arg-1-own.given.1)) (words-same refl (words-same c.name-in-SemTake-1.ensures (words-same c.wait.ensures refl))) c.all2-in-SemTake-1.ensures

pub returns-in-SemRelease-statement_rows : goal.returns-in-SemRelease-statement_rows
returns-in-SemRelease-statement_rows c = call_put c.args.call.now _ c.all1-in-SemRelease-1.result c.args.out.now c.all1-in-SemRelease-1.new.out _ c.in-SemRelease-statement_rows.name-arg-in-SemRelease-1-own.given.1 (words-same refl (words-same c.name-in-SemRelease-1.ensures refl)) c.all1-in-SemRelease-1.ensures

pub returns-in-EventCreate-statement_rows : goal.returns-in-EventCreate-statement_rows
returns-in-EventCreate-statement_rows c = call_put c.args.call.now (Call.EventCreate c.in-EventCreate-statement_rows.name-arg-in-EventCreate-1-own.given.0.0 c.in-EventCreate-statement_rows.order-arg-in-EventCreate-1-own.given.0.1.0) c.all2-in-EventCreate-1.result c.args.out.now c.all2-in-EventCreate-1.new.out _ (cc (c.in-EventCreate-statement_rows.name-arg-in-EventCreate-1-own.given.1, c.in-EventCreate-statement_rows.order-arg-in-EventCreate-1-own.given.1)) (words-same refl (words-same c.name-in-EventCreate-1.ensures (words-same c.order-in-EventCreate-1.ensures refl))) c.all2-in-EventCreate-1.ensures

pub returns-in-EventSend-statement_rows : goal.returns-in-EventSend-statement_rows
returns-in-EventSend-statement_rows c = call_put c.args.call.now (Call.EventSend c.in-EventSend-statement_rows.name-arg-in-EventSend-1-own.given.0.0 c.in-EventSend-statement_rows.number-arg-in-EventSend-1-own.given.0.1.0) c.all2-in-EventSend-1.result c.args.out.now c.all2-in-EventSend-1.new.out _ (cc (c.in-EventSend-statement_rows.name-arg-in-EventSend-1-own.given.1, c.in-EventSend-statement_rows.number-arg-in-EventSend-1-own.given.1)) (words-same refl (words-same c.name-in-EventSend-1.ensures (words-same c.number-in-EventSend-1.ensures refl))) c.all2-in-EventSend-1.ensures

pub returns-in-EventRecv-statement_rows : goal.returns-in-EventRecv-statement_rows
returns-in-EventRecv-statement_rows c = call_put c.args.call.now (Call.EventRecv c.in-EventRecv-statement_rows.name-arg-in-EventRecv-1-own.given.0.0 c.in-EventRecv-statement_rows.number-arg-in-EventRecv-1-own.given.0.1.0 c.in-EventRecv-statement_rows.how-arg-1-own.given.0.1.1.0 c.in-EventRecv-statement_rows.keep-arg-1-own.given.0.1.1.1.0 c.in-EventRecv-statement_rows.wait-arg-in-EventRecv-1-own.given.0.1.1.1.1.0) c.all5.result c.args.out.now c.all5.new.out _ (cc (c.in-EventRecv-statement_rows.name-arg-in-EventRecv-1-own.given.1, c.in-EventRecv-statement_rows.number-arg-in-EventRecv-1-own.given.1, c.in-EventRecv-statement_rows.how-arg-1-own.given.1, c.in-EventRecv-statement_rows.keep-arg-1-own.given.1, c.in-EventRecv-statement_rows.wait-arg-in-EventRecv-1-own.given.1)) (words-same refl (words-same c.name-in-EventRecv-1.ensures (words-same c.number-in-EventRecv-1.ensures (words-same c.how.ensures (words-same c.keep.ensures (words-same c.wait-in-EventRecv-1.ensures refl)))))) c.all5.ensures

pub returns-in-MutexCreate-statement_rows : goal.returns-in-MutexCreate-statement_rows
returns-in-MutexCreate-statement_rows c = call_put c.args.call.now (Call.MutexCreate c.in-MutexCreate-statement_rows.name-arg-in-MutexCreate-1-own.given.0.0 c.in-MutexCreate-statement_rows.prio-arg-in-MutexCreate-1-own.given.0.1.0) c.all2-in-MutexCreate-1.result c.args.out.now c.all2-in-MutexCreate-1.new.out _ (cc (c.in-MutexCreate-statement_rows.name-arg-in-MutexCreate-1-own.given.1, c.in-MutexCreate-statement_rows.prio-arg-in-MutexCreate-1-own.given.1)) (words-same refl (words-same c.name-in-MutexCreate-1.ensures (words-same c.prio-in-MutexCreate-1.ensures refl))) c.all2-in-MutexCreate-1.ensures

pub returns-in-MutexTake-statement_rows : goal.returns-in-MutexTake-statement_rows
returns-in-MutexTake-statement_rows c = call_put c.args.call.now (Call.MutexTake c.in-MutexTake-statement_rows.name-arg-in-MutexTake-1-own.given.0.0 c.in-MutexTake-statement_rows.wait-arg-in-MutexTake-1-own.given.0.1.0) c.all2-in-MutexTake-1.result c.args.out.now c.all2-in-MutexTake-1.new.out _ (cc (c.in-MutexTake-statement_rows.name-arg-in-MutexTake-1-own.given.1, c.in-MutexTake-statement_rows.wait-arg-in-MutexTake-1-own.given.1)) (words-same refl (words-same c.name-in-MutexTake-1.ensures (words-same c.wait-in-MutexTake-1.ensures refl))) c.all2-in-MutexTake-1.ensures

pub returns-in-MutexRelease-statement_rows : goal.returns-in-MutexRelease-statement_rows
returns-in-MutexRelease-statement_rows c = call_put c.args.call.now _ c.all1-in-MutexRelease-1.result c.args.out.now c.all1-in-MutexRelease-1.new.out _ c.in-MutexRelease-statement_rows.name-arg-in-MutexRelease-1-own.given.1 (words-same refl (words-same c.name-in-MutexRelease-1.ensures refl)) c.all1-in-MutexRelease-1.ensures

pub returns-in-MutexCeiling-statement_rows : goal.returns-in-MutexCeiling-statement_rows
returns-in-MutexCeiling-statement_rows c = call_put c.args.call.now (Call.MutexCeiling c.in-MutexCeiling-statement_rows.name-arg-in-MutexCeiling-1-own.given.0.0 c.in-MutexCeiling-statement_rows.prio-arg-in-MutexCeiling-1-own.given.0.1.0) c.all2-in-MutexCeiling-1.result c.args.out.now c.all2-in-MutexCeiling-1.new.out _ (cc (c.in-MutexCeiling-statement_rows.name-arg-in-MutexCeiling-1-own.given.1, c.in-MutexCeiling-statement_rows.prio-arg-in-MutexCeiling-1-own.given.1)) (words-same refl (words-same c.name-in-MutexCeiling-1.ensures (words-same c.prio-in-MutexCeiling-1.ensures refl))) c.all2-in-MutexCeiling-1.ensures

pub returns-in-MbSend-statement_rows : goal.returns-in-MbSend-statement_rows
returns-in-MbSend-statement_rows c = call_put c.args.call.now (Call.MbSend c.in-MbSend-statement_rows.name-arg-in-MbSend-1-own.given.0.0 c.in-MbSend-statement_rows.number-arg-in-MbSend-1-own.given.0.1.0 c.in-MbSend-statement_rows.wait-arg-in-MbSend-1-own.given.0.1.1.0) c.all3-in-MbSend-1.result c.args.out.now c.all3-in-MbSend-1.new.out _ (cc (c.in-MbSend-statement_rows.name-arg-in-MbSend-1-own.given.1, c.in-MbSend-statement_rows.number-arg-in-MbSend-1-own.given.1, c.in-MbSend-statement_rows.wait-arg-in-MbSend-1-own.given.1)) (words-same refl (words-same c.name-in-MbSend-1.ensures (words-same c.number-in-MbSend-1.ensures (words-same c.wait-in-MbSend-1.ensures refl)))) c.all3-in-MbSend-1.ensures

pub returns-in-MbUrgent-statement_rows : goal.returns-in-MbUrgent-statement_rows
returns-in-MbUrgent-statement_rows c = call_put c.args.call.now (Call.MbUrgent c.in-MbUrgent-statement_rows.name-arg-in-MbUrgent-1-own.given.0.0 c.in-MbUrgent-statement_rows.number-arg-in-MbUrgent-1-own.given.0.1.0) c.all2-in-MbUrgent-1.result c.args.out.now c.all2-in-MbUrgent-1.new.out _ (cc (c.in-MbUrgent-statement_rows.name-arg-in-MbUrgent-1-own.given.1, c.in-MbUrgent-statement_rows.number-arg-in-MbUrgent-1-own.given.1)) (words-same refl (words-same c.name-in-MbUrgent-1.ensures (words-same c.number-in-MbUrgent-1.ensures refl))) c.all2-in-MbUrgent-1.ensures

pub returns-in-MbRecv-statement_rows : goal.returns-in-MbRecv-statement_rows
returns-in-MbRecv-statement_rows c = call_put c.args.call.now (Call.MbRecv c.in-MbRecv-statement_rows.name-arg-in-MbRecv-1-own.given.0.0 c.in-MbRecv-statement_rows.wait-arg-in-MbRecv-1-own.given.0.1.0) c.all2-in-MbRecv-1.result c.args.out.now c.all2-in-MbRecv-1.new.out _ (cc (c.in-MbRecv-statement_rows.name-arg-in-MbRecv-1-own.given.1, c.in-MbRecv-statement_rows.wait-arg-in-MbRecv-1-own.given.1)) (words-same refl (words-same c.name-in-MbRecv-1.ensures (words-same c.wait-in-MbRecv-1.ensures refl))) c.all2-in-MbRecv-1.ensures

pub returns-in-MqSend-statement_rows : goal.returns-in-MqSend-statement_rows
returns-in-MqSend-statement_rows c = call_put c.args.call.now (Call.MqSend c.in-MqSend-statement_rows.name-arg-in-MqSend-1-own.given.0.0 c.in-MqSend-statement_rows.wait-arg-in-MqSend-1-own.given.0.1.0 c.in-MqSend-statement_rows.text-arg-1-own.given.0.1.1.0) c.all3-in-MqSend-1.result c.args.out.now c.all3-in-MqSend-1.new.out _ (cc (c.in-MqSend-statement_rows.name-arg-in-MqSend-1-own.given.1, c.in-MqSend-statement_rows.wait-arg-in-MqSend-1-own.given.1, c.in-MqSend-statement_rows.text-arg-1-own.given.1)) (words-same refl (words-same c.name-in-MqSend-1.ensures (words-same c.wait-in-MqSend-1.ensures (words-same c.text.ensures refl)))) c.all3-in-MqSend-1.ensures

pub returns-in-MqUrgent-statement_rows : goal.returns-in-MqUrgent-statement_rows
returns-in-MqUrgent-statement_rows c = call_put c.args.call.now (Call.MqUrgent c.in-MqUrgent-statement_rows.name-arg-in-MqUrgent-1-own.given.0.0 c.in-MqUrgent-statement_rows.text-arg-in-MqUrgent-1-own.given.0.1.0) c.all2-in-MqUrgent-1.result c.args.out.now c.all2-in-MqUrgent-1.new.out _ (cc (c.in-MqUrgent-statement_rows.name-arg-in-MqUrgent-1-own.given.1, c.in-MqUrgent-statement_rows.text-arg-in-MqUrgent-1-own.given.1)) (words-same refl (words-same c.name-in-MqUrgent-1.ensures (words-same c.text-in-MqUrgent-1.ensures refl))) c.all2-in-MqUrgent-1.ensures

pub returns-in-MqRecv-statement_rows : goal.returns-in-MqRecv-statement_rows
returns-in-MqRecv-statement_rows c = call_put c.args.call.now (Call.MqRecv c.in-MqRecv-statement_rows.name-arg-in-MqRecv-1-own.given.0.0 c.in-MqRecv-statement_rows.wait-arg-in-MqRecv-1-own.given.0.1.0) c.all2-in-MqRecv-1.result c.args.out.now c.all2-in-MqRecv-1.new.out _ (cc (c.in-MqRecv-statement_rows.name-arg-in-MqRecv-1-own.given.1, c.in-MqRecv-statement_rows.wait-arg-in-MqRecv-1-own.given.1)) (words-same refl (words-same c.name-in-MqRecv-1.ensures (words-same c.wait-in-MqRecv-1.ensures refl))) c.all2-in-MqRecv-1.ensures

pub returns-in-Delete-statement_rows : goal.returns-in-Delete-statement_rows
returns-in-Delete-statement_rows c = call_put c.args.call.now (Call.Delete c.in-Delete-statement_rows.class-arg-1-own.given.0.0 c.in-Delete-statement_rows.name-arg-in-Delete-1-own.given.0.1.0) c.all2-in-Delete-1.result c.args.out.now c.all2-in-Delete-1.new.out _ (cc (c.in-Delete-statement_rows.class-arg-1-own.given.1, c.in-Delete-statement_rows.name-arg-in-Delete-1-own.given.1)) (words-same refl (words-same c.class.ensures (words-same c.name-in-Delete-1.ensures refl))) c.all2-in-Delete-1.ensures

pub returns-in-TimerStart-statement_rows : goal.returns-in-TimerStart-statement_rows
returns-in-TimerStart-statement_rows c = call_put c.args.call.now _ c.all1-in-TimerStart-1.result c.args.out.now c.all1-in-TimerStart-1.new.out _ c.in-TimerStart-statement_rows.name-arg-in-TimerStart-1-own.given.1 (words-same refl (words-same c.name-in-TimerStart-1.ensures refl)) c.all1-in-TimerStart-1.ensures

pub returns-in-TimerStop-statement_rows : goal.returns-in-TimerStop-statement_rows
returns-in-TimerStop-statement_rows c = call_put c.args.call.now _ c.all1-in-TimerStop-1.result c.args.out.now c.all1-in-TimerStop-1.new.out _ c.in-TimerStop-statement_rows.name-arg-in-TimerStop-1-own.given.1 (words-same refl (words-same c.name-in-TimerStop-1.ensures refl)) c.all1-in-TimerStop-1.ensures

pub returns-in-TimerSet-statement_rows : goal.returns-in-TimerSet-statement_rows
returns-in-TimerSet-statement_rows c = call_put c.args.call.now (Call.TimerSet c.in-TimerSet-statement_rows.name-arg-in-TimerSet-1-own.given.0.0 c.in-TimerSet-statement_rows.number-arg-in-TimerSet-1-own.given.0.1.0) c.all2-in-TimerSet-1.result c.args.out.now c.all2-in-TimerSet-1.new.out _ (cc (c.in-TimerSet-statement_rows.name-arg-in-TimerSet-1-own.given.1, c.in-TimerSet-statement_rows.number-arg-in-TimerSet-1-own.given.1)) (words-same refl (words-same c.name-in-TimerSet-1.ensures (words-same c.number-in-TimerSet-1.ensures refl))) c.all2-in-TimerSet-1.ensures

pub returns-in-DevOpen-statement_rows : goal.returns-in-DevOpen-statement_rows
returns-in-DevOpen-statement_rows c = call_put c.args.call.now _ c.all1-in-DevOpen-1.result c.args.out.now c.all1-in-DevOpen-1.new.out _ c.in-DevOpen-statement_rows.name-arg-in-DevOpen-1-own.given.1 (words-same refl (words-same c.name-in-DevOpen-1.ensures refl)) c.all1-in-DevOpen-1.ensures

pub returns-in-DevClose-statement_rows : goal.returns-in-DevClose-statement_rows
returns-in-DevClose-statement_rows c = call_put c.args.call.now _ c.all1-in-DevClose-1.result c.args.out.now c.all1-in-DevClose-1.new.out _ c.in-DevClose-statement_rows.name-arg-in-DevClose-1-own.given.1 (words-same refl (words-same c.name-in-DevClose-1.ensures refl)) c.all1-in-DevClose-1.ensures

pub returns-in-DevRead-statement_rows : goal.returns-in-DevRead-statement_rows
returns-in-DevRead-statement_rows c = call_put c.args.call.now (Call.DevRead c.in-DevRead-statement_rows.name-arg-in-DevRead-1-own.given.0.0 c.in-DevRead-statement_rows.byte-arg-1-own.given.0.1.0) c.all2-in-DevRead-1.result c.args.out.now c.all2-in-DevRead-1.new.out _ (cc (c.in-DevRead-statement_rows.name-arg-in-DevRead-1-own.given.1, c.in-DevRead-statement_rows.byte-arg-1-own.given.1)) (words-same refl (words-same c.name-in-DevRead-1.ensures (words-same c.byte.ensures refl))) c.all2-in-DevRead-1.ensures

pub returns-in-DevWrite-statement_rows : goal.returns-in-DevWrite-statement_rows
returns-in-DevWrite-statement_rows c = call_put c.args.call.now (Call.DevWrite c.in-DevWrite-statement_rows.name-arg-in-DevWrite-1-own.given.0.0 c.in-DevWrite-statement_rows.text-arg-in-DevWrite-1-own.given.0.1.0) c.all2-in-DevWrite-1.result c.args.out.now c.all2-in-DevWrite-1.new.out _ (cc (c.in-DevWrite-statement_rows.name-arg-in-DevWrite-1-own.given.1, c.in-DevWrite-statement_rows.text-arg-in-DevWrite-1-own.given.1)) (words-same refl (words-same c.name-in-DevWrite-1.ensures (words-same c.text-in-DevWrite-1.ensures refl))) c.all2-in-DevWrite-1.ensures

pub returns-in-DevCtl-statement_rows : goal.returns-in-DevCtl-statement_rows
returns-in-DevCtl-statement_rows c = call_put c.args.call.now (Call.DevCtl c.in-DevCtl-statement_rows.name-arg-in-DevCtl-1-own.given.0.0 c.in-DevCtl-statement_rows.byte-arg-in-DevCtl-1-own.given.0.1.0) c.all2-in-DevCtl-1.result c.args.out.now c.all2-in-DevCtl-1.new.out _ (cc (c.in-DevCtl-statement_rows.name-arg-in-DevCtl-1-own.given.1, c.in-DevCtl-statement_rows.byte-arg-in-DevCtl-1-own.given.1)) (words-same refl (words-same c.name-in-DevCtl-1.ensures (words-same c.byte-in-DevCtl-1.ensures refl))) c.all2-in-DevCtl-1.ensures

pub returns-in-PmRequest-statement_rows : goal.returns-in-PmRequest-statement_rows
returns-in-PmRequest-statement_rows c = call_put c.args.call.now _ c.all1-in-PmRequest-1.result c.args.out.now c.all1-in-PmRequest-1.new.out _ c.in-PmRequest-statement_rows.mode-arg-1-own.given.1 (words-same refl (words-same c.mode.ensures refl)) c.all1-in-PmRequest-1.ensures

pub returns-in-PmRelease-statement_rows : goal.returns-in-PmRelease-statement_rows
returns-in-PmRelease-statement_rows c = call_put c.args.call.now _ c.all1-in-PmRelease-1.result c.args.out.now c.all1-in-PmRelease-1.new.out _ c.in-PmRelease-statement_rows.mode-arg-in-PmRelease-1-own.given.1 (words-same refl (words-same c.mode-in-PmRelease-1.ensures refl)) c.all1-in-PmRelease-1.ensures

pub returns-in-PmRun-statement_rows : goal.returns-in-PmRun-statement_rows
returns-in-PmRun-statement_rows c = call_put c.args.call.now _ c.all1-in-PmRun-1.result c.args.out.now c.all1-in-PmRun-1.new.out _ c.in-PmRun-statement_rows.run-arg-1-own.given.1 (words-same refl (words-same c.run.ensures refl)) c.all1-in-PmRun-1.ensures

pub returns-in-MpAlloc-statement_rows : goal.returns-in-MpAlloc-statement_rows
returns-in-MpAlloc-statement_rows c = call_put c.args.call.now (Call.MpAlloc c.in-MpAlloc-statement_rows.name-arg-in-MpAlloc-1-own.given.0.0 c.in-MpAlloc-statement_rows.wait-arg-in-MpAlloc-1-own.given.0.1.0) c.all2-in-MpAlloc-1.result c.args.out.now c.all2-in-MpAlloc-1.new.out _ (cc (c.in-MpAlloc-statement_rows.name-arg-in-MpAlloc-1-own.given.1, c.in-MpAlloc-statement_rows.wait-arg-in-MpAlloc-1-own.given.1)) (words-same refl (words-same c.name-in-MpAlloc-1.ensures (words-same c.wait-in-MpAlloc-1.ensures refl))) c.all2-in-MpAlloc-1.ensures

pub returns-in-MpFree-statement_rows : goal.returns-in-MpFree-statement_rows
returns-in-MpFree-statement_rows c = call_put c.args.call.now _ c.all1-in-MpFree-1.result c.args.out.now c.all1-in-MpFree-1.new.out _ c.in-MpFree-statement_rows.name-arg-in-MpFree-1-own.given.1 (words-same refl (words-same c.name-in-MpFree-1.ensures refl)) c.all1-in-MpFree-1.ensures

pub returns-in-Yield-statement_rows : goal.returns-in-Yield-statement_rows
returns-in-Yield-statement_rows c = call_put c.args.call.now Call.Yield c.all0.result c.args.out.now c.all0.new.out _ c.in-Yield-statement_rows.is refl c.all0.ensures

pub returns-in-Lock-statement_rows : goal.returns-in-Lock-statement_rows
returns-in-Lock-statement_rows c = call_put c.args.call.now Call.Lock c.all0-in-Lock-1.result c.args.out.now c.all0-in-Lock-1.new.out _ c.in-Lock-statement_rows.is refl c.all0-in-Lock-1.ensures

pub returns-in-Unlock-statement_rows : goal.returns-in-Unlock-statement_rows
returns-in-Unlock-statement_rows c = call_put c.args.call.now Call.Unlock c.all0-in-Unlock-1.result c.args.out.now c.all0-in-Unlock-1.new.out _ c.in-Unlock-statement_rows.is refl c.all0-in-Unlock-1.ensures

pub returns-in-SchedLock-statement_rows : goal.returns-in-SchedLock-statement_rows
returns-in-SchedLock-statement_rows c = call_put c.args.call.now Call.SchedLock c.all0-in-SchedLock-1.result c.args.out.now c.all0-in-SchedLock-1.new.out _ c.in-SchedLock-statement_rows.is refl c.all0-in-SchedLock-1.ensures

pub returns-in-SchedUnlock-statement_rows : goal.returns-in-SchedUnlock-statement_rows
returns-in-SchedUnlock-statement_rows c = call_put c.args.call.now Call.SchedUnlock c.all0-in-SchedUnlock-1.result c.args.out.now c.all0-in-SchedUnlock-1.new.out _ c.in-SchedUnlock-statement_rows.is refl c.all0-in-SchedUnlock-1.ensures
