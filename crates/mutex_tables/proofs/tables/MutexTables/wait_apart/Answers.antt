use Rattle.std.proofs.Common.{◌≡◌, ◌∙◌, ℕ, None, false, ap, refl}
use Rattle.rt_plain.specs.kernel.Priority.{awaited_mutex}
use Rattle.rt_plain.specs.kernel.State.{Awaited, Waiting, InCall, AtConsole, AtWorks, is_among}
use Rattle.kernel_tables.specs.Awaiting.{awaited_of}
use Rattle.kernel_tables.specs.Repeated.{is_in_call}
use Rattle.kernel_tables.specs.Tabled.{Tabled}
use Rattle.mutex_tables.specs.MutexTabled.{MutexTabled}
use Rattle.mutex_tables.proofs.SeenLemmas.{inside-there, view-row}
use Rattle.mutex_tables.proofs.StageLemmas.{stage-keeps}
use Rattle.mutex_tables.proofs.tables.MutexTables.wait_apart.Goals as goal

pub wait_apart-requires-clause-there : goal.wait_apart-requires-clause-there
wait_apart-requires-clause-there c = inside-there c.self.inside c.args.self.now c.args.t c.self.view_is c.requires.there

pub wait_apart-requires-clause-unready : goal.wait_apart-requires-clause-unready
wait_apart-requires-clause-unready c = ap (λ (x : MutexTabled). is_among x.ready c.args.t) c.self.view_is ∙ c.requires.unready

-- what is no call takes no mutex
mutexless : (what : Awaited) (number : ℕ) → is_in_call what ≡ false → awaited_mutex (Waiting what number) ≡ None
mutexless (InCall call) number apart = absurd cc
mutexless AtConsole number apart = refl
mutexless AtWorks number apart = refl

pub invariant_of-self : goal.invariant_of-self
invariant_of-self c =
    stage-keeps c.self.inside c.args.self.now c.args.t (Waiting (awaited_of c.args.what) c.args.at) c.wait_apart.new.self c.self.view_is c.self.invariant c.requires.there c.requires.live c.requires.idle refl (mutexless (awaited_of c.args.what) c.args.at c.requires.apart) (ap (λ (x : Tabled). x.threads) c.wait_apart.ensures) (ap (λ (x : Tabled). x.levels) c.wait_apart.ensures)

pub returns : goal.returns
returns c = view-row c.self.inside c.wait_apart.new.self c.args.self.now c.args.t (λ row. record row { stage = Waiting (awaited_of c.args.what) c.args.at }) (λ ready. ready) c.self.view_is c.self.invariant c.wait_apart.ensures (λ row base. refl)
