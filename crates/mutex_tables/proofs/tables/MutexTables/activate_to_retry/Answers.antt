use Rattle.std.proofs.Common.{◌∙◌, ◌++◌, ◌∷◌, [], ap, refl}
use Rattle.kernel_tables.specs.Repeated.{is_repeated}
use Rattle.kernel_tables.specs.Tabled.{Tabled}
use Rattle.kernel_tables.specs.Threads.{retried_row}
use Rattle.mutex_tables.proofs.SeenLemmas.{inside-there, view-row}
use Rattle.mutex_tables.proofs.StageLemmas.{inside-stage, retried-keeps}
use Rattle.mutex_tables.proofs.tables.MutexTables.activate_to_retry.Goals as goal

pub activate_to_retry-requires-clause-there : goal.activate_to_retry-requires-clause-there
activate_to_retry-requires-clause-there c = inside-there c.self.inside c.args.self.now c.args.t c.self.view_is c.requires.there

pub activate_to_retry-requires-clause-waits : goal.activate_to_retry-requires-clause-waits
activate_to_retry-requires-clause-waits c = ap is_repeated (inside-stage c.self.inside c.args.self.now c.args.t c.self.view_is c.self.invariant c.requires.there) ∙ c.requires.waits

pub invariant_of-self : goal.invariant_of-self
invariant_of-self c =
    retried-keeps c.self.inside c.args.self.now c.args.t c.args.due c.activate_to_retry.new.self c.self.view_is c.self.invariant c.requires.there c.requires.waits (ap (λ (x : Tabled). x.threads) c.activate_to_retry.ensures) (ap (λ (x : Tabled). x.levels) c.activate_to_retry.ensures)

pub returns : goal.returns
returns c = view-row c.self.inside c.activate_to_retry.new.self c.args.self.now c.args.t (retried_row c.args.due) (λ ready. ready ++ c.args.t ∷ []) c.self.view_is c.self.invariant c.activate_to_retry.ensures (λ row base. refl)
