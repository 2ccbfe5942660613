use Rattle.std.proofs.Common.{refl, sym, ap, ◌∙◌, subst, ◌<◌, length, List}
use Rattle.rt_plain.specs.kernel.State.{Thread, Stage}
use Rattle.kernel_tables.specs.Listed.{Holds, moved, IsRelisted}
use Rattle.kernel_tables.specs.Tabled.{Tabled, rebased}
use Rattle.kernel_tables.specs.Threads.{row_at, with_row}
use Rattle.kernel_tables.specs.Tied.{IsTied, tabled}
use Rattle.kernel_tables.specs.WaitLists.{list_at}
use Rattle.kernel_tables.proofs.ListChangeLemmas.{relisted-shown}
use Rattle.kernel_tables.proofs.TableLemmas.{holds-tied, tied-moved, tabled-same}
use Rattle.std.specs.Prelude.{if◌then◌else◌, ◌==◌}
use Rattle.ready_list.specs.Ordered.{with_rows, rows_moved}
use Rattle.kernel_tables.specs.Ready.{IsReady, with_ready}
use Rattle.kernel_tables.proofs.ReadyLemmas.{IsRebased, rebased-ready}
use Rattle.kernel_tables.proofs.tables.Tables.set_base.Goals as goal

pub reprio_at-requires : goal.reprio_at-requires
reprio_at-requires c = subst (λ (stage : Stage). Holds c.self.inside.lists (list_at c.self.inside.lists.objects stage) c.args.t) (sym c.stage.ensures) (holds-tied c.self.inside.threads c.self.inside.lists c.args.t c.self.invariant.tied (subst (λ (k : Tabled). c.args.t < length k.threads) (sym c.self.view_is) c.requires.there))

-- the thread has the new priority in its list
changed : (c : goal.After-set_base) → IsRelisted c.self.inside.lists c.reprio_at.new.self (list_at c.self.inside.lists.objects (row_at c.self.inside.threads c.args.t).stage) (moved c.args.t c.args.base)
changed c = subst (λ (stage : Stage). IsRelisted c.self.inside.lists c.reprio_at.new.self (list_at c.self.inside.lists.objects stage) (moved c.args.t c.args.base)) c.stage.ensures c.reprio_at.ensures

there : (c : goal.After-set_base) → c.args.t < length c.self.inside.threads
there c = subst (λ (k : Tabled). c.args.t < length k.threads) (sym c.self.view_is) c.requires.there

pub rebase-requires-clause-there : goal.rebase-requires-clause-there
rebase-requires-clause-there c = subst (λ n. c.args.t < n) (sym c.self.invariant.ready.count) (subst (λ (k : Tabled). c.args.t < length k.threads) (sym c.self.view_is) c.requires.there)

pub rebase-requires-clause-level : goal.rebase-requires-clause-level
rebase-requires-clause-level c = subst (λ (k : Tabled). c.args.base < k.levels) (sym c.self.view_is) c.requires.level

-- who is ready then
placed : (c : goal.After-set_base) → IsRebased c.self.inside.threads c.self.inside.ready c.rebase.new.ready c.args.t c.args.base
placed c =
    rebased-ready c.self.inside.threads c.self.inside.ready c.rebase.new.ready c.args.t c.args.base c.self.invariant.ready (there c) (subst (λ (k : Tabled). c.args.base < k.levels) (sym c.self.view_is) c.requires.level)
    (c.rebase.ensures ∙ ap (λ base. if base == c.args.base then c.self.inside.ready else with_rows c.self.inside.ready (rows_moved c.self.inside.ready.rows c.args.t c.args.base)) c.base.ensures)

pub invariant_of-self : goal.invariant_of-self
invariant_of-self c = record {
  tied = subst (λ (rows : List Thread). IsTied rows c.reprio_at.new.self) (sym c.set_base.ensures) (tied-moved c.self.inside.threads c.self.inside.lists c.reprio_at.new.self c.args.t c.args.base c.self.invariant.tied (there c) (changed c));
  ready = subst (λ (rows : List Thread). IsReady rows c.rebase.new.ready) (sym c.set_base.ensures) (placed c).ready;
}

pub returns : goal.returns
returns c =
    let new : List Thread = with_row c.self.inside.threads c.args.t (λ row. record row { base = c.args.base }) in
    let p = placed c in
    ap (λ (k : Tabled). with_ready k c.rebase.new.ready) (tabled-same new c.set_base.new.self c.self.inside.lists c.reprio_at.new.self c.set_base.ensures (relisted-shown c.self.inside.lists c.reprio_at.new.self _ (moved c.args.t c.args.base) (changed c) (λ w. refl)))
    ∙ (λ k. record (tabled new c.self.inside.lists) { ready = p.order k; cores = p.cores k; levels = p.levels k })
    ∙ ap (λ (k : Tabled). record k { threads = with_row k.threads c.args.t (λ row. record row { base = c.args.base }); ready = rebased k c.args.t c.args.base }) c.self.view_is
