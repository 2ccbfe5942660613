use Rattle.std.proofs.Common.{refl, sym, subst, ◌<◌, length, List, None}
use Rattle.rt_plain.specs.kernel.State.{Thread}
use Rattle.kernel_tables.specs.Ready.{IsReady}
use Rattle.kernel_tables.proofs.ReadyLemmas.{ready-kept}
use Rattle.kernel_tables.specs.Tabled.{Tabled}
use Rattle.kernel_tables.specs.Threads.{row_at}
use Rattle.kernel_tables.proofs.TableLemmas.{stage-kept}
use Rattle.kernel_tables.proofs.tables.Tables.take_retry.Goals as goal

pub invariant_of-self : goal.invariant_of-self
invariant_of-self c = record {
  tied =
      let there : c.args.t < length c.self.inside.threads = subst (λ (k : Tabled). c.args.t < length k.threads) (sym c.self.view_is) c.requires in
      rw c.take_retry.ensures.threads (stage-kept c.self.inside.threads c.self.inside.lists c.args.t (record (row_at c.self.inside.threads c.args.t) { retry = None }) c.self.invariant.tied there refl refl);
  ready = subst (λ (rows : List Thread). IsReady rows c.self.inside.ready) (sym c.take_retry.ensures.threads) (ready-kept c.self.inside.threads c.self.inside.ready c.args.t (record (row_at c.self.inside.threads c.args.t) { retry = None }) c.self.invariant.ready (subst (λ (k : Tabled). c.args.t < length k.threads) (sym c.self.view_is) c.requires) refl refl (λ active. active));
}
