use Rattle.rt_plain.specs.text.TraceRows.{CanShow}
use Rattle.rt_plain.proofs.shown.know_line.Goals as goal

pub returns-in-Run : goal.returns-in-Run
unfolding CanShow
returns-in-Run c = rw c.in-Run.is (c.know_name.ensures, tt)

pub returns-in-Out : goal.returns-in-Out
unfolding CanShow
returns-in-Out c = rw c.in-Out.is (c.know_name-in-Out.ensures, (tt, tt))

pub returns-in-Done : goal.returns-in-Done
unfolding CanShow
returns-in-Done c = rw c.in-Done.is (c.know_name-in-Done.ensures, (c.know_half.ensures, (tt, tt)))

pub returns-in-Again : goal.returns-in-Again
unfolding CanShow
returns-in-Again c = rw c.in-Again.is (c.know_name-in-Again.ensures, (c.know_half-in-Again.ensures, (tt, tt)))

pub returns-in-Wake : goal.returns-in-Wake
unfolding CanShow
returns-in-Wake c = rw c.in-Wake.is (c.know_name-in-Wake.ensures, (tt, tt))

pub returns-in-Cur : goal.returns-in-Cur
unfolding CanShow
returns-in-Cur c = rw (c.in-Cur.is, ← c.old.view_is, ← c.new.view_is) (c.know_name-in-Cur.ensures, ((c.know_byte.ensures, c.know_byte-in-Cur.ensures), tt))

pub returns-in-Fire : goal.returns-in-Fire
unfolding CanShow
returns-in-Fire c = rw c.in-Fire.is (c.know_name-in-Fire.ensures, (tt, tt))

pub returns-in-Timeout : goal.returns-in-Timeout
unfolding CanShow
returns-in-Timeout c = rw c.in-Timeout.is (c.know_name-in-Timeout.ensures, tt)

pub returns-in-Rx : goal.returns-in-Rx
unfolding CanShow
returns-in-Rx c = rw c.in-Rx.is (c.know_name-in-Rx.ensures, ((c.know_text.ensures, c.know_byte-in-Rx.ensures), tt))

pub returns-in-Tx : goal.returns-in-Tx
unfolding CanShow
returns-in-Tx c = rw c.in-Tx.is (c.know_name-in-Tx.ensures, (c.know_text-in-Tx.ensures, tt))

pub returns-in-Sleep : goal.returns-in-Sleep
unfolding CanShow
returns-in-Sleep c = rw c.in-Sleep.is (tt, (c.know_number.ensures, tt))

pub returns-in-Suspend : goal.returns-in-Suspend
unfolding CanShow
returns-in-Suspend c = rw c.in-Suspend.is (c.know_name-in-Suspend.ensures, tt)

pub returns-in-Resume : goal.returns-in-Resume
unfolding CanShow
returns-in-Resume c = rw c.in-Resume.is (c.know_name-in-Resume.ensures, tt)

pub returns-in-Tick : goal.returns-in-Tick
unfolding CanShow
returns-in-Tick c = rw c.in-Tick.is (c.know_number-in-Tick.ensures, tt)

pub returns-in-Print : goal.returns-in-Print
unfolding CanShow
returns-in-Print c = rw c.in-Print.is (c.know_text-in-Print.ensures, tt)

pub returns-in-Close : goal.returns-in-Close
unfolding CanShow
returns-in-Close c = rw c.in-Close.is (c.know_name-in-Close.ensures, tt)

pub returns-in-Own : goal.returns-in-Own
unfolding CanShow
returns-in-Own c = rw c.in-Own.is (c.know_name-in-Own.ensures, (c.know_name-in-Own-2.ensures, tt))

pub returns-in-Mode : goal.returns-in-Mode
unfolding CanShow
returns-in-Mode c = rw c.in-Mode.is (tt, tt)

pub returns-in-Work : goal.returns-in-Work
unfolding CanShow
returns-in-Work c = rw c.in-Work.is (c.know_name-in-Work.ensures, (tt, tt))

pub returns-in-Unwork : goal.returns-in-Unwork
unfolding CanShow
returns-in-Unwork c = rw c.in-Unwork.is (c.know_name-in-Unwork.ensures, tt)
