use Rattle.std.proofs.Common.{sym, ap, arith}
use Rattle.rt_plain.specs.text.StatementTable.{statement_count}
use Rattle.rt_plain.specs.declared.kind.StatementKind.{StatementKind}
use Rattle.board_text.proofs.table.statement_count.Goals as goal

pub returns-in-Print : goal.returns-in-Print
unfolding statement_count
returns-in-Print c = record { count = ap (λ (k : StatementKind). statement_count k) (sym c.in-Print.is); few = omega arith }

pub returns-in-Say : goal.returns-in-Say
unfolding statement_count
returns-in-Say c = record { count = ap (λ (k : StatementKind). statement_count k) (sym c.in-Say.is); few = omega arith }

pub returns-in-Goto : goal.returns-in-Goto
unfolding statement_count
returns-in-Goto c = record { count = ap (λ (k : StatementKind). statement_count k) (sym c.in-Goto.is); few = omega arith }

pub returns-in-IfCode : goal.returns-in-IfCode
unfolding statement_count
returns-in-IfCode c = record { count = ap (λ (k : StatementKind). statement_count k) (sym c.in-IfCode.is); few = omega arith }

pub returns-in-Count : goal.returns-in-Count
unfolding statement_count
returns-in-Count c = record { count = ap (λ (k : StatementKind). statement_count k) (sym c.in-Count.is); few = omega arith }

pub returns-in-Next : goal.returns-in-Next
unfolding statement_count
returns-in-Next c = record { count = ap (λ (k : StatementKind). statement_count k) (sym c.in-Next.is); few = omega arith }

pub returns-in-Exit : goal.returns-in-Exit
unfolding statement_count
returns-in-Exit c = record { count = ap (λ (k : StatementKind). statement_count k) (sym c.in-Exit.is); few = omega arith }

pub returns-in-Delay : goal.returns-in-Delay
unfolding statement_count
returns-in-Delay c = record { count = ap (λ (k : StatementKind). statement_count k) (sym c.in-Delay.is); few = omega arith }

pub returns-in-Yield : goal.returns-in-Yield
unfolding statement_count
returns-in-Yield c = record { count = ap (λ (k : StatementKind). statement_count k) (sym c.in-Yield.is); few = omega arith }

pub returns-in-Startup : goal.returns-in-Startup
unfolding statement_count
returns-in-Startup c = record { count = ap (λ (k : StatementKind). statement_count k) (sym c.in-Startup.is); few = omega arith }

pub returns-in-Suspend : goal.returns-in-Suspend
unfolding statement_count
returns-in-Suspend c = record { count = ap (λ (k : StatementKind). statement_count k) (sym c.in-Suspend.is); few = omega arith }

pub returns-in-Resume : goal.returns-in-Resume
unfolding statement_count
returns-in-Resume c = record { count = ap (λ (k : StatementKind). statement_count k) (sym c.in-Resume.is); few = omega arith }

pub returns-in-Kill : goal.returns-in-Kill
unfolding statement_count
returns-in-Kill c = record { count = ap (λ (k : StatementKind). statement_count k) (sym c.in-Kill.is); few = omega arith }

pub returns-in-SetPrio : goal.returns-in-SetPrio
unfolding statement_count
returns-in-SetPrio c = record { count = ap (λ (k : StatementKind). statement_count k) (sym c.in-SetPrio.is); few = omega arith }

pub returns-in-Lock : goal.returns-in-Lock
unfolding statement_count
returns-in-Lock c = record { count = ap (λ (k : StatementKind). statement_count k) (sym c.in-Lock.is); few = omega arith }

pub returns-in-Unlock : goal.returns-in-Unlock
unfolding statement_count
returns-in-Unlock c = record { count = ap (λ (k : StatementKind). statement_count k) (sym c.in-Unlock.is); few = omega arith }

pub returns-in-SchedLock : goal.returns-in-SchedLock
unfolding statement_count
returns-in-SchedLock c = record { count = ap (λ (k : StatementKind). statement_count k) (sym c.in-SchedLock.is); few = omega arith }

pub returns-in-SchedUnlock : goal.returns-in-SchedUnlock
unfolding statement_count
returns-in-SchedUnlock c = record { count = ap (λ (k : StatementKind). statement_count k) (sym c.in-SchedUnlock.is); few = omega arith }

pub returns-in-SemCreate : goal.returns-in-SemCreate
unfolding statement_count
returns-in-SemCreate c = record { count = ap (λ (k : StatementKind). statement_count k) (sym c.in-SemCreate.is); few = omega arith }

pub returns-in-SemTake : goal.returns-in-SemTake
unfolding statement_count
returns-in-SemTake c = record { count = ap (λ (k : StatementKind). statement_count k) (sym c.in-SemTake.is); few = omega arith }

pub returns-in-SemRelease : goal.returns-in-SemRelease
unfolding statement_count
returns-in-SemRelease c = record { count = ap (λ (k : StatementKind). statement_count k) (sym c.in-SemRelease.is); few = omega arith }

pub returns-in-EventCreate : goal.returns-in-EventCreate
unfolding statement_count
returns-in-EventCreate c = record { count = ap (λ (k : StatementKind). statement_count k) (sym c.in-EventCreate.is); few = omega arith }

pub returns-in-EventSend : goal.returns-in-EventSend
unfolding statement_count
returns-in-EventSend c = record { count = ap (λ (k : StatementKind). statement_count k) (sym c.in-EventSend.is); few = omega arith }

pub returns-in-EventRecv : goal.returns-in-EventRecv
unfolding statement_count
returns-in-EventRecv c = record { count = ap (λ (k : StatementKind). statement_count k) (sym c.in-EventRecv.is); few = omega arith }

pub returns-in-MutexCreate : goal.returns-in-MutexCreate
unfolding statement_count
returns-in-MutexCreate c = record { count = ap (λ (k : StatementKind). statement_count k) (sym c.in-MutexCreate.is); few = omega arith }

pub returns-in-MutexTake : goal.returns-in-MutexTake
unfolding statement_count
returns-in-MutexTake c = record { count = ap (λ (k : StatementKind). statement_count k) (sym c.in-MutexTake.is); few = omega arith }

pub returns-in-MutexRelease : goal.returns-in-MutexRelease
unfolding statement_count
returns-in-MutexRelease c = record { count = ap (λ (k : StatementKind). statement_count k) (sym c.in-MutexRelease.is); few = omega arith }

pub returns-in-MutexCeiling : goal.returns-in-MutexCeiling
unfolding statement_count
returns-in-MutexCeiling c = record { count = ap (λ (k : StatementKind). statement_count k) (sym c.in-MutexCeiling.is); few = omega arith }

pub returns-in-MbSend : goal.returns-in-MbSend
unfolding statement_count
returns-in-MbSend c = record { count = ap (λ (k : StatementKind). statement_count k) (sym c.in-MbSend.is); few = omega arith }

pub returns-in-MbUrgent : goal.returns-in-MbUrgent
unfolding statement_count
returns-in-MbUrgent c = record { count = ap (λ (k : StatementKind). statement_count k) (sym c.in-MbUrgent.is); few = omega arith }

pub returns-in-MbRecv : goal.returns-in-MbRecv
unfolding statement_count
returns-in-MbRecv c = record { count = ap (λ (k : StatementKind). statement_count k) (sym c.in-MbRecv.is); few = omega arith }

pub returns-in-MqSend : goal.returns-in-MqSend
unfolding statement_count
returns-in-MqSend c = record { count = ap (λ (k : StatementKind). statement_count k) (sym c.in-MqSend.is); few = omega arith }

pub returns-in-MqUrgent : goal.returns-in-MqUrgent
unfolding statement_count
returns-in-MqUrgent c = record { count = ap (λ (k : StatementKind). statement_count k) (sym c.in-MqUrgent.is); few = omega arith }

pub returns-in-MqRecv : goal.returns-in-MqRecv
unfolding statement_count
returns-in-MqRecv c = record { count = ap (λ (k : StatementKind). statement_count k) (sym c.in-MqRecv.is); few = omega arith }

pub returns-in-Delete : goal.returns-in-Delete
unfolding statement_count
returns-in-Delete c = record { count = ap (λ (k : StatementKind). statement_count k) (sym c.in-Delete.is); few = omega arith }

pub returns-in-TimerStart : goal.returns-in-TimerStart
unfolding statement_count
returns-in-TimerStart c = record { count = ap (λ (k : StatementKind). statement_count k) (sym c.in-TimerStart.is); few = omega arith }

pub returns-in-TimerStop : goal.returns-in-TimerStop
unfolding statement_count
returns-in-TimerStop c = record { count = ap (λ (k : StatementKind). statement_count k) (sym c.in-TimerStop.is); few = omega arith }

pub returns-in-TimerSet : goal.returns-in-TimerSet
unfolding statement_count
returns-in-TimerSet c = record { count = ap (λ (k : StatementKind). statement_count k) (sym c.in-TimerSet.is); few = omega arith }

pub returns-in-DevOpen : goal.returns-in-DevOpen
unfolding statement_count
returns-in-DevOpen c = record { count = ap (λ (k : StatementKind). statement_count k) (sym c.in-DevOpen.is); few = omega arith }

pub returns-in-DevClose : goal.returns-in-DevClose
unfolding statement_count
returns-in-DevClose c = record { count = ap (λ (k : StatementKind). statement_count k) (sym c.in-DevClose.is); few = omega arith }

pub returns-in-DevRead : goal.returns-in-DevRead
unfolding statement_count
returns-in-DevRead c = record { count = ap (λ (k : StatementKind). statement_count k) (sym c.in-DevRead.is); few = omega arith }

pub returns-in-DevWrite : goal.returns-in-DevWrite
unfolding statement_count
returns-in-DevWrite c = record { count = ap (λ (k : StatementKind). statement_count k) (sym c.in-DevWrite.is); few = omega arith }

pub returns-in-DevCtl : goal.returns-in-DevCtl
unfolding statement_count
returns-in-DevCtl c = record { count = ap (λ (k : StatementKind). statement_count k) (sym c.in-DevCtl.is); few = omega arith }

pub returns-in-PmRequest : goal.returns-in-PmRequest
unfolding statement_count
returns-in-PmRequest c = record { count = ap (λ (k : StatementKind). statement_count k) (sym c.in-PmRequest.is); few = omega arith }

pub returns-in-PmRelease : goal.returns-in-PmRelease
unfolding statement_count
returns-in-PmRelease c = record { count = ap (λ (k : StatementKind). statement_count k) (sym c.in-PmRelease.is); few = omega arith }

pub returns-in-PmRun : goal.returns-in-PmRun
unfolding statement_count
returns-in-PmRun c = record { count = ap (λ (k : StatementKind). statement_count k) (sym c.in-PmRun.is); few = omega arith }

pub returns-in-MpAlloc : goal.returns-in-MpAlloc
unfolding statement_count
returns-in-MpAlloc c = record { count = ap (λ (k : StatementKind). statement_count k) (sym c.in-MpAlloc.is); few = omega arith }

pub returns-in-MpFree : goal.returns-in-MpFree
unfolding statement_count
returns-in-MpFree c = record { count = ap (λ (k : StatementKind). statement_count k) (sym c.in-MpFree.is); few = omega arith }
