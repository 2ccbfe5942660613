use Rattle.std.proofs.Common.{refl, sym, ap, ◌∙◌, subst, ◌<◌, ◌≡◌, ◌++◌, ◌∷◌, [], length, None, List, not, filter, eqb, true, false}
use Rattle.rt_plain.specs.kernel.Pick.{ReadyRow}
use Rattle.rt_plain.specs.kernel.Sound.{is_active}
use Rattle.rt_plain.specs.kernel.State.{Thread, Stage, Active, Closed, Suspended, is_among}
use Rattle.ready_set.specs.ReadyLists.{row_of, rows_without}
use Rattle.ready_list.proofs.OrderLemmas.{absent_without}
use Rattle.ready_list.specs.Ordered.{ReadySeen, has_row, with_rows}
use Rattle.kernel_tables.specs.Listed.{Holds, left, IsRelisted}
use Rattle.kernel_tables.specs.Ready.{IsReady, threads_in}
use Rattle.kernel_tables.specs.Tabled.{Tabled}
use Rattle.kernel_tables.specs.Threads.{row_at, with_row}
use Rattle.kernel_tables.specs.Tied.{IsTied}
use Rattle.kernel_tables.specs.WaitLists.{list_at}
use Rattle.kernel_tables.proofs.ListChangeLemmas.{relisted-shown}
use Rattle.kernel_tables.proofs.ReadyLemmas.{MayGo, absent, may-go-active, last-threads, left-threads, ready-out, ready-apart, shown-with}
use Rattle.kernel_tables.proofs.TableLemmas.{holds-tied, tied-left, tabled-same}
use Rattle.kernel_tables.proofs.tables.Tables.suspend.Goals as goal

pub leave_at-requires : goal.leave_at-requires
leave_at-requires c = subst (λ (stage : Stage). Holds c.self.inside.lists (list_at c.self.inside.lists.objects stage) c.args.t) (sym c.stage.ensures) (holds-tied c.self.inside.threads c.self.inside.lists c.args.t c.self.invariant.tied (subst (λ (k : Tabled). c.args.t < length k.threads) (sym c.self.view_is) c.requires))

there : (c : goal.After-remove) → c.args.t < length c.self.inside.threads
there c = subst (λ (k : Tabled). c.args.t < length k.threads) (sym c.self.view_is) c.requires

-- the thread has left its list
gone : (c : goal.After-remove) → IsRelisted c.self.inside.lists c.leave_at.new.self (list_at c.self.inside.lists.objects (row_at c.self.inside.threads c.args.t).stage) (left c.args.t)
gone c = subst (λ (stage : Stage). IsRelisted c.self.inside.lists c.leave_at.new.self (list_at c.self.inside.lists.objects stage) (left c.args.t)) c.stage.ensures c.leave_at.ensures

pub remove-requires : goal.remove-requires
remove-requires c = subst (λ n. c.args.t < n) (sym c.self.invariant.ready.count) (subst (λ (k : Tabled). c.args.t < length k.threads) (sym c.self.view_is) c.requires)

pub invariant_of-self : goal.invariant_of-self
invariant_of-self c =
    let row : Thread = row_at c.self.inside.threads c.args.t in
    let r : ReadySeen = c.self.inside.ready in
    let out : ReadySeen = with_rows r (rows_without r.rows c.args.t) in record {
      tied = subst (λ (rows : List Thread). IsTied rows c.leave_at.new.self) (sym c.stand.ensures) (tied-left c.self.inside.threads c.self.inside.lists c.leave_at.new.self c.args.t (record row { stage = Suspended }) c.self.invariant.tied (there c) (gone c) refl);
      ready = subst (IsReady c.stand.new.self) (sym c.remove.ensures) (subst (λ (rows : List Thread). IsReady rows out) (sym c.stand.ensures) (ready-apart c.self.inside.threads out c.args.t (record row { stage = Suspended }) (ready-out c.self.inside.threads r c.args.t c.self.invariant.ready) (there c) (absent_without r.rows c.args.t) (c.self.invariant.ready.within c.args.t (there c))));
    }

pub returns : goal.returns
returns c =
    shown-with (with_row c.self.inside.threads c.args.t (λ row. record row { stage = Suspended })) c.stand.new.self c.self.inside.lists c.leave_at.new.self c.self.inside.ready c.remove.new.self (rows_without c.self.inside.ready.rows c.args.t) (filter (λ u. not (eqb u c.args.t)) (threads_in c.self.inside.ready.rows))
    (tabled-same (with_row c.self.inside.threads c.args.t (λ row. record row { stage = Suspended })) c.stand.new.self c.self.inside.lists c.leave_at.new.self c.stand.ensures (relisted-shown c.self.inside.lists c.leave_at.new.self _ (left c.args.t) (gone c) (λ w. refl)))
    c.remove.ensures (left-threads c.self.inside.ready.rows c.args.t)
    ∙ ap (λ (k : Tabled). record k { threads = with_row k.threads c.args.t (λ row. record row { stage = Suspended }); ready = filter (λ u. not (eqb u c.args.t)) k.ready }) c.self.view_is
