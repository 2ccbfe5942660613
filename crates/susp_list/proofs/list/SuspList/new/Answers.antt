use Rattle.std.proofs.Common.{rules, ◌≡◌, replicate, None}
use Rattle.std.proofs.lemmas.Grind.{common_steps}
use Rattle.susp_list.proofs.TableLemmas.{ring_empty}
use Rattle.susp_list.proofs.list.SuspList.new.Goals as goal

pub invariant_of-result : goal.invariant_of-result
invariant_of-result c =
    let rows : c.in_ok-rows.rows.items ≡ replicate c.args.threads None = search (rules, common_steps) in
    rw (rows, c.in_ok-ring.ensures.next, c.in_ok-ring.ensures.prev) (ring_empty c.args.order c.args.threads)
