use Rattle.std.proofs.Common.{refl, sym, ap, ◌∙◌, subst, ◌<◌, ◌≡◌, ◌++◌, ◌∷◌, [], length, None, List, not, filter, eqb, true, false}
use Rattle.rt_plain.specs.kernel.Pick.{ReadyRow}
use Rattle.rt_plain.specs.kernel.Sound.{is_active}
use Rattle.rt_plain.specs.kernel.State.{Thread, Stage}
use Rattle.ready_set.specs.ReadyLists.{row_of, rows_without}
use Rattle.ready_list.proofs.OrderLemmas.{absent_without}
use Rattle.ready_list.specs.Ordered.{ReadySeen, has_row, with_rows}
use Rattle.kernel_tables.specs.Listed.{Holds, left, IsRelisted}
use Rattle.kernel_tables.specs.Ready.{IsReady, threads_in}
use Rattle.kernel_tables.specs.Tabled.{Tabled}
use Rattle.kernel_tables.specs.Repeated.{is_repeated}
use Rattle.kernel_tables.specs.Threads.{row_at, with_row, retried_row}
use Rattle.kernel_tables.specs.Tied.{IsTied}
use Rattle.kernel_tables.specs.WaitLists.{list_at}
use Rattle.kernel_tables.proofs.ListChangeLemmas.{relisted-shown}
use Rattle.kernel_tables.proofs.ReadyLemmas.{MayGo, absent, may-go-active, last-threads, left-threads, ready-out, ready-apart, shown-with}
use Rattle.kernel_tables.proofs.RetryLemmas.{repeated-idle}
use Rattle.kernel_tables.proofs.TableLemmas.{holds-tied, tied-left, tabled-same}
use Rattle.kernel_tables.proofs.tables.Tables.activate_to_retry.Goals as goal

pub leave_at-requires : goal.leave_at-requires
leave_at-requires c = subst (λ (stage : Stage). Holds c.self.inside.lists (list_at c.self.inside.lists.objects stage) c.args.t) (sym c.stage.ensures) (holds-tied c.self.inside.threads c.self.inside.lists c.args.t c.self.invariant.tied (subst (λ (k : Tabled). c.args.t < length k.threads) (sym c.self.view_is) c.requires.there))

there : (c : goal.After-core) → c.args.t < length c.self.inside.threads
there c = subst (λ (k : Tabled). c.args.t < length k.threads) (sym c.self.view_is) c.requires.there

-- the thread has left its list
gone : (c : goal.After-core) → IsRelisted c.self.inside.lists c.leave_at.new.self (list_at c.self.inside.lists.objects (row_at c.self.inside.threads c.args.t).stage) (left c.args.t)
gone c = subst (λ (stage : Stage). IsRelisted c.self.inside.lists c.leave_at.new.self (list_at c.self.inside.lists.objects stage) (left c.args.t)) c.stage.ensures c.leave_at.ensures

out : (c : goal.After-core) → has_row c.self.inside.ready.rows c.args.t ≡ false
out c = absent c.self.inside.threads c.self.inside.ready c.args.t c.self.invariant.ready (repeated-idle (row_at c.self.inside.threads c.args.t).stage (ap (λ (k : Tabled). is_repeated (row_at k.threads c.args.t).stage) c.self.view_is ∙ c.requires.waits))

goes : (c : goal.After-core) → MayGo c.retry.new.self c.self.inside.ready c.args.t c.base.result c.core.result
goes c = may-go-active c.self.inside.threads c.retry.new.self c.self.inside.ready c.args.t c.base.result c.core.result (retried_row c.args.due (row_at c.self.inside.threads c.args.t)) c.self.invariant.ready (there c) (out c) c.retry.ensures refl refl refl c.base.ensures c.core.ensures

pub add_tail-requires-clause-thread_below : goal.add_tail-requires-clause-thread_below
add_tail-requires-clause-thread_below c = (goes c).there

pub add_tail-requires-clause-prio_below : goal.add_tail-requires-clause-prio_below
add_tail-requires-clause-prio_below c = (goes c).level

pub add_tail-requires-clause-core_below : goal.add_tail-requires-clause-core_below
add_tail-requires-clause-core_below c = (goes c).binding

pub add_tail-requires-clause-absent : goal.add_tail-requires-clause-absent
add_tail-requires-clause-absent c = (goes c).out

out_then : (c : goal.After-add_tail) → has_row c.self.inside.ready.rows c.args.t ≡ false
out_then c = absent c.self.inside.threads c.self.inside.ready c.args.t c.self.invariant.ready (repeated-idle (row_at c.self.inside.threads c.args.t).stage (ap (λ (k : Tabled). is_repeated (row_at k.threads c.args.t).stage) c.self.view_is ∙ c.requires.waits))

gone_then : (c : goal.After-add_tail) → IsRelisted c.self.inside.lists c.leave_at.new.self (list_at c.self.inside.lists.objects (row_at c.self.inside.threads c.args.t).stage) (left c.args.t)
gone_then c = subst (λ (stage : Stage). IsRelisted c.self.inside.lists c.leave_at.new.self (list_at c.self.inside.lists.objects stage) (left c.args.t)) c.stage.ensures c.leave_at.ensures

there_then : (c : goal.After-add_tail) → c.args.t < length c.self.inside.threads
there_then c = subst (λ (k : Tabled). c.args.t < length k.threads) (sym c.self.view_is) c.requires.there

went : (c : goal.After-add_tail) → MayGo c.retry.new.self c.self.inside.ready c.args.t c.base.result c.core.result
went c = may-go-active c.self.inside.threads c.retry.new.self c.self.inside.ready c.args.t c.base.result c.core.result (retried_row c.args.due (row_at c.self.inside.threads c.args.t)) c.self.invariant.ready (there_then c) (out_then c) c.retry.ensures refl refl refl c.base.ensures c.core.ensures

pub invariant_of-self : goal.invariant_of-self
invariant_of-self c =
    let row : Thread = row_at c.self.inside.threads c.args.t in record {
      tied = subst (λ (rows : List Thread). IsTied rows c.leave_at.new.self) (sym c.retry.ensures) (tied-left c.self.inside.threads c.self.inside.lists c.leave_at.new.self c.args.t (retried_row c.args.due row) c.self.invariant.tied (there_then c) (gone_then c) refl);
      ready = subst (IsReady c.retry.new.self) (sym c.add_tail.ensures) (went c).last;
    }

pub returns : goal.returns
returns c =
    shown-with (with_row c.self.inside.threads c.args.t (retried_row c.args.due)) c.retry.new.self c.self.inside.lists c.leave_at.new.self c.self.inside.ready c.add_tail.new.self (c.self.inside.ready.rows ++ row_of c.args.t c.base.result c.core.result ∷ []) (threads_in c.self.inside.ready.rows ++ c.args.t ∷ [])
    (tabled-same (with_row c.self.inside.threads c.args.t (retried_row c.args.due)) c.retry.new.self c.self.inside.lists c.leave_at.new.self c.retry.ensures (relisted-shown c.self.inside.lists c.leave_at.new.self _ (left c.args.t) (gone_then c) (λ w. refl)))
    c.add_tail.ensures (last-threads c.self.inside.ready.rows (row_of c.args.t c.base.result c.core.result))
    ∙ ap (λ (k : Tabled). record k { threads = with_row k.threads c.args.t (retried_row c.args.due); ready = k.ready ++ c.args.t ∷ [] }) c.self.view_is
