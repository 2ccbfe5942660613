use Rattle.std.proofs.Common.{length, sym, ap, arith}
use Rattle.rt_plain.specs.text.LineTable.{row}
use Rattle.rt_plain.specs.declared.kind.Kind.{Kind}
use Rattle.rt_plain.specs.declared.kind.LineKind.{LineKind}
use Rattle.board_text.proofs.table.line_count.Goals as goal

pub returns-in-Board : goal.returns-in-Board
unfolding row
returns-in-Board c = record { count = ap (λ (k : LineKind). length (row (Kind.Line k)).fields) (sym c.in-Board.is); few = omega arith }

pub returns-in-Cores : goal.returns-in-Cores
unfolding row
returns-in-Cores c = record { count = ap (λ (k : LineKind). length (row (Kind.Line k)).fields) (sym c.in-Cores.is); few = omega arith }

pub returns-in-Levels : goal.returns-in-Levels
unfolding row
returns-in-Levels c = record { count = ap (λ (k : LineKind). length (row (Kind.Line k)).fields) (sym c.in-Levels.is); few = omega arith }

pub returns-in-Tickless : goal.returns-in-Tickless
unfolding row
returns-in-Tickless c = record { count = ap (λ (k : LineKind). length (row (Kind.Line k)).fields) (sym c.in-Tickless.is); few = omega arith }

pub returns-in-Tick0 : goal.returns-in-Tick0
unfolding row
returns-in-Tick0 c = record { count = ap (λ (k : LineKind). length (row (Kind.Line k)).fields) (sym c.in-Tick0.is); few = omega arith }

pub returns-in-Until : goal.returns-in-Until
unfolding row
returns-in-Until c = record { count = ap (λ (k : LineKind). length (row (Kind.Line k)).fields) (sym c.in-Until.is); few = omega arith }

pub returns-in-Entries : goal.returns-in-Entries
unfolding row
returns-in-Entries c = record { count = ap (λ (k : LineKind). length (row (Kind.Line k)).fields) (sym c.in-Entries.is); few = omega arith }

pub returns-in-LpMax : goal.returns-in-LpMax
unfolding row
returns-in-LpMax c = record { count = ap (λ (k : LineKind). length (row (Kind.Line k)).fields) (sym c.in-LpMax.is); few = omega arith }

pub returns-in-Thresh : goal.returns-in-Thresh
unfolding row
returns-in-Thresh c = record { count = ap (λ (k : LineKind). length (row (Kind.Line k)).fields) (sym c.in-Thresh.is); few = omega arith }

pub returns-in-LpClock : goal.returns-in-LpClock
unfolding row
returns-in-LpClock c = record { count = ap (λ (k : LineKind). length (row (Kind.Line k)).fields) (sym c.in-LpClock.is); few = omega arith }

pub returns-in-DefaultMode : goal.returns-in-DefaultMode
unfolding row
returns-in-DefaultMode c = record { count = ap (λ (k : LineKind). length (row (Kind.Line k)).fields) (sym c.in-DefaultMode.is); few = omega arith }

pub returns-in-Schedule : goal.returns-in-Schedule
unfolding row
returns-in-Schedule c = record { count = ap (λ (k : LineKind). length (row (Kind.Line k)).fields) (sym c.in-Schedule.is); few = omega arith }

pub returns-in-Shell : goal.returns-in-Shell
unfolding row
returns-in-Shell c = record { count = ap (λ (k : LineKind). length (row (Kind.Line k)).fields) (sym c.in-Shell.is); few = omega arith }

pub returns-in-Soft : goal.returns-in-Soft
unfolding row
returns-in-Soft c = record { count = ap (λ (k : LineKind). length (row (Kind.Line k)).fields) (sym c.in-Soft.is); few = omega arith }

pub returns-in-Limit : goal.returns-in-Limit
unfolding row
returns-in-Limit c = record { count = ap (λ (k : LineKind). length (row (Kind.Line k)).fields) (sym c.in-Limit.is); few = omega arith }

pub returns-in-Sem : goal.returns-in-Sem
unfolding row
returns-in-Sem c = record { count = ap (λ (k : LineKind). length (row (Kind.Line k)).fields) (sym c.in-Sem.is); few = omega arith }

pub returns-in-Event : goal.returns-in-Event
unfolding row
returns-in-Event c = record { count = ap (λ (k : LineKind). length (row (Kind.Line k)).fields) (sym c.in-Event.is); few = omega arith }

pub returns-in-Mutex : goal.returns-in-Mutex
unfolding row
returns-in-Mutex c = record { count = ap (λ (k : LineKind). length (row (Kind.Line k)).fields) (sym c.in-Mutex.is); few = omega arith }

pub returns-in-Mailbox : goal.returns-in-Mailbox
unfolding row
returns-in-Mailbox c = record { count = ap (λ (k : LineKind). length (row (Kind.Line k)).fields) (sym c.in-Mailbox.is); few = omega arith }

pub returns-in-Queue : goal.returns-in-Queue
unfolding row
returns-in-Queue c = record { count = ap (λ (k : LineKind). length (row (Kind.Line k)).fields) (sym c.in-Queue.is); few = omega arith }

pub returns-in-Pool : goal.returns-in-Pool
unfolding row
returns-in-Pool c = record { count = ap (λ (k : LineKind). length (row (Kind.Line k)).fields) (sym c.in-Pool.is); few = omega arith }

pub returns-in-Device : goal.returns-in-Device
unfolding row
returns-in-Device c = record { count = ap (λ (k : LineKind). length (row (Kind.Line k)).fields) (sym c.in-Device.is); few = omega arith }

pub returns-in-Timer : goal.returns-in-Timer
unfolding row
returns-in-Timer c = record { count = ap (λ (k : LineKind). length (row (Kind.Line k)).fields) (sym c.in-Timer.is); few = omega arith }

pub returns-in-Thread : goal.returns-in-Thread
unfolding row
returns-in-Thread c = record { count = ap (λ (k : LineKind). length (row (Kind.Line k)).fields) (sym c.in-Thread.is); few = omega arith }

pub returns-in-Arrive : goal.returns-in-Arrive
unfolding row
returns-in-Arrive c = record { count = ap (λ (k : LineKind). length (row (Kind.Line k)).fields) (sym c.in-Arrive.is); few = omega arith }
