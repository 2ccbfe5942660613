use Rattle.std.proofs.Common.{◌∙◌, ◌++◌, ◌∷◌, [], ap, refl}
use Rattle.rt_plain.specs.kernel.State.{Active}
use Rattle.rt_plain.specs.kernel.Sound.{is_active}
use Rattle.kernel_tables.specs.Tabled.{Tabled}
use Rattle.mutex_tables.proofs.SeenLemmas.{inside-there, view-row}
use Rattle.mutex_tables.proofs.StageLemmas.{inside-stage, stage-keeps}
use Rattle.mutex_tables.proofs.tables.MutexTables.activate.Goals as goal

pub activate-requires-clause-there : goal.activate-requires-clause-there
activate-requires-clause-there c = inside-there c.self.inside c.args.self.now c.args.t c.self.view_is c.requires.there

pub activate-requires-clause-idle : goal.activate-requires-clause-idle
activate-requires-clause-idle c = ap is_active (inside-stage c.self.inside c.args.self.now c.args.t c.self.view_is c.self.invariant c.requires.there) ∙ c.requires.idle

pub invariant_of-self : goal.invariant_of-self
invariant_of-self c =
    stage-keeps c.self.inside c.args.self.now c.args.t Active c.activate.new.self c.self.view_is c.self.invariant c.requires.there c.requires.live c.requires.apart refl refl (ap (λ (x : Tabled). x.threads) c.activate.ensures) (ap (λ (x : Tabled). x.levels) c.activate.ensures)

pub returns : goal.returns
returns c = view-row c.self.inside c.activate.new.self c.args.self.now c.args.t (λ row. record row { stage = Active }) (λ ready. ready ++ c.args.t ∷ []) c.self.view_is c.self.invariant c.activate.ensures (λ row base. refl)
