use Rattle.std.proofs.Common.{ap, refl, not}
use Rattle.std.specs.Prelude.{filter, ◌==◌}
use Rattle.rt_plain.specs.kernel.State.{Suspended}
use Rattle.kernel_tables.specs.Tabled.{Tabled}
use Rattle.mutex_tables.proofs.SeenLemmas.{inside-there, view-row}
use Rattle.mutex_tables.proofs.StageLemmas.{stage-keeps}
use Rattle.mutex_tables.proofs.tables.MutexTables.suspend.Goals as goal

pub suspend-requires : goal.suspend-requires
suspend-requires c = inside-there c.self.inside c.args.self.now c.args.t c.self.view_is c.requires.there

pub invariant_of-self : goal.invariant_of-self
invariant_of-self c =
    stage-keeps c.self.inside c.args.self.now c.args.t Suspended c.suspend.new.self c.self.view_is c.self.invariant c.requires.there c.requires.live c.requires.apart refl refl (ap (λ (x : Tabled). x.threads) c.suspend.ensures) (ap (λ (x : Tabled). x.levels) c.suspend.ensures)

pub returns : goal.returns
returns c = view-row c.self.inside c.suspend.new.self c.args.self.now c.args.t (λ row. record row { stage = Suspended }) (λ ready. filter (λ u. not (u == c.args.t)) ready) c.self.view_is c.self.invariant c.suspend.ensures (λ row base. refl)
