use Rattle.std.proofs.Common.{◌∙◌, ap, refl}
use Rattle.rt_plain.specs.kernel.State.{Waiting, InCall, is_among}
use Rattle.kernel_tables.specs.Tabled.{Tabled}
use Rattle.mutex_tables.specs.MutexTabled.{MutexTabled}
use Rattle.mutex_tables.proofs.SeenLemmas.{inside-there, view-row}
use Rattle.mutex_tables.proofs.StageLemmas.{inside-knows, stage-keeps}
use Rattle.mutex_tables.proofs.tables.MutexTables.wait.Goals as goal

pub wait-requires-clause-there : goal.wait-requires-clause-there
wait-requires-clause-there c = inside-there c.self.inside c.args.self.now c.args.t c.self.view_is c.requires.there

pub wait-requires-clause-unready : goal.wait-requires-clause-unready
wait-requires-clause-unready c = ap (λ (x : MutexTabled). is_among x.ready c.args.t) c.self.view_is ∙ c.requires.unready

pub wait-requires-clause-known : goal.wait-requires-clause-known
wait-requires-clause-known c = inside-knows c.self.inside c.args.self.now c.args.call c.self.view_is ∙ c.requires.known

pub invariant_of-self : goal.invariant_of-self
invariant_of-self c =
    stage-keeps c.self.inside c.args.self.now c.args.t (Waiting (InCall c.args.call) c.args.at) c.wait.new.self c.self.view_is c.self.invariant c.requires.there c.requires.live c.requires.apart refl c.requires.other (ap (λ (x : Tabled). x.threads) c.wait.ensures) (ap (λ (x : Tabled). x.levels) c.wait.ensures)

pub returns : goal.returns
returns c = view-row c.self.inside c.wait.new.self c.args.self.now c.args.t (λ row. record row { stage = Waiting (InCall c.args.call) c.args.at }) (λ ready. ready) c.self.view_is c.self.invariant c.wait.ensures (λ row base. refl)
