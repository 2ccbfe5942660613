use Rattle.std.proofs.Common.{Some, None}
use Rattle.rt_plain.specs.kernel.Ownership.{with_base, with_wait}
use Rattle.mutex_chain.proofs.TouchLemmas.{touched_cur, touches_member, touches_take, touches_release, touches_ceiling, touches_mutex_end, touches_thread_end}
use Rattle.mutex_chain.proofs.laws.edits_change_priorities_along_chains.Goals as goal

pub returns : goal.returns
returns c = record {
  kept = touched_cur;
  set_base = λ t base o. touches_member (with_base base) t o;
  take = touches_take;
  wait = λ t mutex at o. touches_member (with_wait (Some (record { mutex = mutex; number = at }))) t o;
  leave = λ t o. touches_member (with_wait None) t o;
  release = touches_release;
  set_ceiling = touches_ceiling;
  kill_mutex = touches_mutex_end;
  kill_thread = touches_thread_end;
}
