use Rattle.std.proofs.Common.{◌∙◌, ap}
use Rattle.std.specs.Option.{option_map}
use Rattle.ipc_counts.specs.Flags.{plain_want}
use Rattle.kernel_tables.specs.Tabled.{Tabled, events_received, flags_got, found_event}
use Rattle.mutex_tables.specs.MutexTabled.{MutexTabled}
use Rattle.mutex_tables.proofs.SeenLemmas.{keeps-same}
use Rattle.mutex_tables.proofs.ObjectLemmas.{seen_by}
use Rattle.mutex_tables.proofs.tables.MutexTables.receive.Goals as goal

pub invariant_of-self : goal.invariant_of-self
invariant_of-self c = keeps-same c.self.inside c.receive.new.self c.self.invariant (ap (λ (x : Tabled). x.threads) c.receive.ensures.state) (ap (λ (x : Tabled). x.levels) c.receive.ensures.state)

pub returns-clause-answer : goal.returns-clause-answer
returns-clause-answer c = c.receive.ensures.answer ∙ ap (λ (v : MutexTabled). option_map (flags_got (plain_want c.args.want)) (found_event v.events c.args.name.now)) c.self.view_is

pub returns-clause-state : goal.returns-clause-state
returns-clause-state c = ap (seen_by c.self.inside) c.receive.ensures.state ∙ ap (λ (v : MutexTabled). record v { events = events_received v.events (plain_want c.args.want) (found_event v.events c.args.name.now) }) c.self.view_is
