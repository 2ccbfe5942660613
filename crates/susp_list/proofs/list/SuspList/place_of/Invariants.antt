use Rattle.susp_list.specs.Rows.{waiter}
use Rattle.susp_list.proofs.PlaceLemmas.{IsWalk}
use Rattle.susp_list.proofs.list.SuspList.place_of.Given as goal

abbrev pub invariant-loop : goal.invariant-loop
invariant-loop l = IsWalk l.self (waiter l.thread l.row) l.before l.counter
