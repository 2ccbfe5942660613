use Rattle.std.proofs.Common.{◌∙◌, ◌∷◌, ap}
use Rattle.rt_plain.specs.kernel.Sound.{is_active}
use Rattle.rt_plain.specs.kernel.State.{is_among}
use Rattle.kernel_tables.specs.Tabled.{Tabled}
use Rattle.mutex_tables.specs.MutexTabled.{MutexTabled, seen}
use Rattle.mutex_tables.proofs.SeenLemmas.{inside-there, keeps-same}
use Rattle.mutex_tables.proofs.StageLemmas.{inside-stage}
use Rattle.mutex_tables.proofs.tables.MutexTables.enter_first.Goals as goal

pub enter_first-requires-clause-there : goal.enter_first-requires-clause-there
enter_first-requires-clause-there c = inside-there c.self.inside c.args.self.now c.args.t c.self.view_is c.requires.there

pub enter_first-requires-clause-active : goal.enter_first-requires-clause-active
enter_first-requires-clause-active c = ap is_active (inside-stage c.self.inside c.args.self.now c.args.t c.self.view_is c.self.invariant c.requires.there) ∙ c.requires.active

pub enter_first-requires-clause-unready : goal.enter_first-requires-clause-unready
enter_first-requires-clause-unready c = ap (λ (v : MutexTabled). is_among v.ready c.args.t) c.self.view_is ∙ c.requires.unready

pub invariant_of-self : goal.invariant_of-self
invariant_of-self c = keeps-same c.self.inside c.enter_first.new.self c.self.invariant (ap (λ (x : Tabled). x.threads) c.enter_first.ensures) (ap (λ (x : Tabled). x.levels) c.enter_first.ensures)

pub returns : goal.returns
returns c =
    ap (λ (x : Tabled). seen x c.self.inside.bases.items c.self.inside.names.mutex c.self.inside.graph) c.enter_first.ensures
    ∙ ap (λ (v : MutexTabled). record v { ready = c.args.t ∷ v.ready }) c.self.view_is
