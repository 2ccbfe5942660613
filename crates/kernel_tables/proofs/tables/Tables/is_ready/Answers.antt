use Rattle.std.proofs.Common.{sym, ap, ◌∙◌, subst, ◌<◌, length}
use Rattle.rt_plain.specs.kernel.State.{is_among}
use Rattle.kernel_tables.specs.Tabled.{Tabled}
use Rattle.kernel_tables.proofs.ReadyLemmas.{has-among}
use Rattle.kernel_tables.proofs.tables.Tables.is_ready.Goals as goal

pub holds-requires : goal.holds-requires
holds-requires c = subst (λ n. c.args.t < n) (sym c.self.invariant.ready.count) (subst (λ (k : Tabled). c.args.t < length k.threads) (sym c.self.view_is) c.requires)

pub returns : goal.returns
returns c = c.holds.ensures.held ∙ has-among c.self.inside.ready.rows c.args.t ∙ ap (λ (k : Tabled). is_among k.ready c.args.t) c.self.view_is
