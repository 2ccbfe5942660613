use Rattle.std.proofs.Common.{sym, ap}
use Rattle.rt_plain.specs.declared.board_line.LimitClass.{LimitClass}
use Rattle.rt_plain.specs.text.BoardText.{with_limit}
use Rattle.board_text.proofs.draft.with_limit.Goals as goal

pub returns-in-Sem : goal.returns-in-Sem
returns-in-Sem c = ap (λ (k : LimitClass). with_limit c.args.limits k c.args.n) (sym c.in-Sem.is)

pub returns-in-Event : goal.returns-in-Event
returns-in-Event c = ap (λ (k : LimitClass). with_limit c.args.limits k c.args.n) (sym c.in-Event.is)

pub returns-in-Mutex : goal.returns-in-Mutex
returns-in-Mutex c = ap (λ (k : LimitClass). with_limit c.args.limits k c.args.n) (sym c.in-Mutex.is)
