use Rattle.std.proofs.Common.{ℕ, ◌≡◌, sym, ap, ◌∙◌, subst, ◌<◌, length, List, Option, Some, None, map, IfSome, true}
use Rattle.rt_plain.specs.kernel.Pick.{ReadyRow, pick_among}
use Rattle.rt_plain.specs.kernel.State.{is_among}
use Rattle.kernel_tables.specs.Ready.{row_for}
use Rattle.kernel_tables.specs.Tabled.{Tabled}
use Rattle.kernel_tables.proofs.ReadyLemmas.{picked-there}
use Rattle.kernel_tables.proofs.tables.Tables.pick.Goals as goal

pub pick-requires : goal.pick-requires
pick-requires g c = subst (λ (k : Tabled). c.args.core < k.cores) (sym c.self.view_is) c.requires

pub returns-clause-thread : goal.returns-clause-thread
returns-clause-thread g c =
    c.pick.ensures.thread
    ∙ ap (λ (rows : List ReadyRow). pick_among rows c.args.core) c.self.invariant.ready.rows
    ∙ ap (λ (k : Tabled). pick_among (map (row_for k.threads) k.ready) c.args.core) c.self.view_is

pub returns-clause-there : goal.returns-clause-there
returns-clause-there g c = subst (λ (k : Tabled). IfSome c.pick.result (λ t. (t < length k.threads) × (is_among k.ready t ≡ true))) c.self.view_is (picked-there c.self.inside.threads c.self.inside.ready c.pick.result c.self.invariant.ready c.pick.ensures.ready)
