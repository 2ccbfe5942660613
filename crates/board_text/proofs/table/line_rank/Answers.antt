use Rattle.std.proofs.Common.{sym, ap}
use Rattle.rt_plain.specs.text.LineTable.{row}
use Rattle.rt_plain.specs.declared.kind.Kind.{Kind}
use Rattle.rt_plain.specs.declared.kind.LineKind.{LineKind}
use Rattle.board_text.proofs.table.line_rank.Goals as goal

pub returns-in-Board : goal.returns-in-Board
unfolding row
returns-in-Board c = ap (λ (k : LineKind). (row (Kind.Line k)).rank) (sym c.in-Board.is)

pub returns-in-Cores : goal.returns-in-Cores
unfolding row
returns-in-Cores c = ap (λ (k : LineKind). (row (Kind.Line k)).rank) (sym c.in-Cores.is)

pub returns-in-Levels : goal.returns-in-Levels
unfolding row
returns-in-Levels c = ap (λ (k : LineKind). (row (Kind.Line k)).rank) (sym c.in-Levels.is)

pub returns-in-Tickless : goal.returns-in-Tickless
unfolding row
returns-in-Tickless c = ap (λ (k : LineKind). (row (Kind.Line k)).rank) (sym c.in-Tickless.is)

pub returns-in-Tick0 : goal.returns-in-Tick0
unfolding row
returns-in-Tick0 c = ap (λ (k : LineKind). (row (Kind.Line k)).rank) (sym c.in-Tick0.is)

pub returns-in-Until : goal.returns-in-Until
unfolding row
returns-in-Until c = ap (λ (k : LineKind). (row (Kind.Line k)).rank) (sym c.in-Until.is)

pub returns-in-Entries : goal.returns-in-Entries
unfolding row
returns-in-Entries c = ap (λ (k : LineKind). (row (Kind.Line k)).rank) (sym c.in-Entries.is)

pub returns-in-LpMax : goal.returns-in-LpMax
unfolding row
returns-in-LpMax c = ap (λ (k : LineKind). (row (Kind.Line k)).rank) (sym c.in-LpMax.is)

pub returns-in-Thresh : goal.returns-in-Thresh
unfolding row
returns-in-Thresh c = ap (λ (k : LineKind). (row (Kind.Line k)).rank) (sym c.in-Thresh.is)

pub returns-in-LpClock : goal.returns-in-LpClock
unfolding row
returns-in-LpClock c = ap (λ (k : LineKind). (row (Kind.Line k)).rank) (sym c.in-LpClock.is)

pub returns-in-DefaultMode : goal.returns-in-DefaultMode
unfolding row
returns-in-DefaultMode c = ap (λ (k : LineKind). (row (Kind.Line k)).rank) (sym c.in-DefaultMode.is)

pub returns-in-Schedule : goal.returns-in-Schedule
unfolding row
returns-in-Schedule c = ap (λ (k : LineKind). (row (Kind.Line k)).rank) (sym c.in-Schedule.is)

pub returns-in-Shell : goal.returns-in-Shell
unfolding row
returns-in-Shell c = ap (λ (k : LineKind). (row (Kind.Line k)).rank) (sym c.in-Shell.is)

pub returns-in-Soft : goal.returns-in-Soft
unfolding row
returns-in-Soft c = ap (λ (k : LineKind). (row (Kind.Line k)).rank) (sym c.in-Soft.is)

pub returns-in-Limit : goal.returns-in-Limit
unfolding row
returns-in-Limit c = ap (λ (k : LineKind). (row (Kind.Line k)).rank) (sym c.in-Limit.is)

pub returns-in-Sem : goal.returns-in-Sem
unfolding row
returns-in-Sem c = ap (λ (k : LineKind). (row (Kind.Line k)).rank) (sym c.in-Sem.is)

pub returns-in-Event : goal.returns-in-Event
unfolding row
returns-in-Event c = ap (λ (k : LineKind). (row (Kind.Line k)).rank) (sym c.in-Event.is)

pub returns-in-Mutex : goal.returns-in-Mutex
unfolding row
returns-in-Mutex c = ap (λ (k : LineKind). (row (Kind.Line k)).rank) (sym c.in-Mutex.is)

pub returns-in-Mailbox : goal.returns-in-Mailbox
unfolding row
returns-in-Mailbox c = ap (λ (k : LineKind). (row (Kind.Line k)).rank) (sym c.in-Mailbox.is)

pub returns-in-Queue : goal.returns-in-Queue
unfolding row
returns-in-Queue c = ap (λ (k : LineKind). (row (Kind.Line k)).rank) (sym c.in-Queue.is)

pub returns-in-Pool : goal.returns-in-Pool
unfolding row
returns-in-Pool c = ap (λ (k : LineKind). (row (Kind.Line k)).rank) (sym c.in-Pool.is)

pub returns-in-Device : goal.returns-in-Device
unfolding row
returns-in-Device c = ap (λ (k : LineKind). (row (Kind.Line k)).rank) (sym c.in-Device.is)

pub returns-in-Timer : goal.returns-in-Timer
unfolding row
returns-in-Timer c = ap (λ (k : LineKind). (row (Kind.Line k)).rank) (sym c.in-Timer.is)

pub returns-in-Thread : goal.returns-in-Thread
unfolding row
returns-in-Thread c = ap (λ (k : LineKind). (row (Kind.Line k)).rank) (sym c.in-Thread.is)

pub returns-in-Arrive : goal.returns-in-Arrive
unfolding row
returns-in-Arrive c = ap (λ (k : LineKind). (row (Kind.Line k)).rank) (sym c.in-Arrive.is)
