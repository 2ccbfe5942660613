use Rattle.std.proofs.Common.{sym, ap, ◌∙◌, subst, ◌<◌, length, List, ℕ, not, filter, eqb}
use Rattle.ready_list.specs.Ordered.{ReadySeen}
use Rattle.kernel_tables.specs.Ready.{IsReady, with_ready}
use Rattle.kernel_tables.specs.Tabled.{Tabled}
use Rattle.kernel_tables.specs.Tied.{tabled}
use Rattle.kernel_tables.proofs.ReadyLemmas.{ready-out, left-threads}
use Rattle.kernel_tables.proofs.tables.Tables.leave_ready.Goals as goal

pub remove-requires : goal.remove-requires
remove-requires c = subst (λ n. c.args.t < n) (sym c.self.invariant.ready.count) (subst (λ (k : Tabled). c.args.t < length k.threads) (sym c.self.view_is) c.requires)

pub invariant_of-self : goal.invariant_of-self
invariant_of-self c = record {
  tied = c.self.invariant.tied;
  ready = subst (IsReady c.self.inside.threads) (sym c.remove.ensures) (ready-out c.self.inside.threads c.self.inside.ready c.args.t c.self.invariant.ready);
}

pub returns : goal.returns
returns c =
    let k : Tabled = with_ready (tabled c.self.inside.threads c.self.inside.lists) c.self.inside.ready in
    ap (with_ready (tabled c.self.inside.threads c.self.inside.lists)) c.remove.ensures
    ∙ ap (λ (ready : List ℕ). record k { ready = ready }) (left-threads c.self.inside.ready.rows c.args.t)
    ∙ ap (λ (old : Tabled). record old { ready = filter (λ u. not (eqb u c.args.t)) old.ready }) c.self.view_is
