use Rattle.std.proofs.Common.{ℕ, sym, ap, ◌∙◌, subst, ◌<◌, ◌≡◌, ◌++◌, ◌∷◌, [], length, List, false}
use Rattle.rt_plain.specs.kernel.Sound.{is_active}
use Rattle.rt_plain.specs.kernel.State.{is_among}
use Rattle.ready_set.specs.ReadyLists.{row_of}
use Rattle.ready_list.specs.Ordered.{has_row}
use Rattle.kernel_tables.specs.Ready.{IsReady, with_ready}
use Rattle.kernel_tables.specs.Tabled.{Tabled}
use Rattle.kernel_tables.specs.Threads.{row_at}
use Rattle.kernel_tables.specs.Tied.{tabled}
use Rattle.kernel_tables.proofs.ReadyLemmas.{MayGo, may-go, has-among}
use Rattle.kernel_tables.proofs.tables.Tables.enter_first.Goals as goal

goes : (c : goal.After-core) → MayGo c.self.inside.threads c.self.inside.ready c.args.t c.base.result c.core.result
goes c =
    may-go c.self.inside.threads c.self.inside.ready c.args.t c.base.result c.core.result c.self.invariant.ready (subst (λ (k : Tabled). c.args.t < length k.threads) (sym c.self.view_is) c.requires.there)
    (has-among c.self.inside.ready.rows c.args.t ∙ ap (λ (k : Tabled). is_among k.ready c.args.t) c.self.view_is ∙ c.requires.unready) (ap (λ (k : Tabled). is_active (row_at k.threads c.args.t).stage) c.self.view_is ∙ c.requires.active) c.base.ensures c.core.ensures

pub add_head-requires-clause-thread_below : goal.add_head-requires-clause-thread_below
add_head-requires-clause-thread_below c = (goes c).there

pub add_head-requires-clause-prio_below : goal.add_head-requires-clause-prio_below
add_head-requires-clause-prio_below c = (goes c).level

pub add_head-requires-clause-core_below : goal.add_head-requires-clause-core_below
add_head-requires-clause-core_below c = (goes c).binding

pub add_head-requires-clause-absent : goal.add_head-requires-clause-absent
add_head-requires-clause-absent c = (goes c).out

went : (c : goal.After-add_head) → MayGo c.self.inside.threads c.self.inside.ready c.args.t c.base.result c.core.result
went c =
    may-go c.self.inside.threads c.self.inside.ready c.args.t c.base.result c.core.result c.self.invariant.ready (subst (λ (k : Tabled). c.args.t < length k.threads) (sym c.self.view_is) c.requires.there)
    (has-among c.self.inside.ready.rows c.args.t ∙ ap (λ (k : Tabled). is_among k.ready c.args.t) c.self.view_is ∙ c.requires.unready) (ap (λ (k : Tabled). is_active (row_at k.threads c.args.t).stage) c.self.view_is ∙ c.requires.active) c.base.ensures c.core.ensures

pub invariant_of-self : goal.invariant_of-self
invariant_of-self c = record {
  tied = c.self.invariant.tied;
  ready = subst (IsReady c.self.inside.threads) (sym c.add_head.ensures) (went c).first;
}

pub returns : goal.returns
returns c =
    let k : Tabled = with_ready (tabled c.self.inside.threads c.self.inside.lists) c.self.inside.ready in
    ap (with_ready (tabled c.self.inside.threads c.self.inside.lists)) c.add_head.ensures
    ∙ ap (λ (old : Tabled). record old { ready = c.args.t ∷ old.ready }) c.self.view_is
