use Rattle.std.proofs.Common.{◌∙◌, ◌++◌, ◌∷◌, [], ap}
use Rattle.std.specs.Option.{option_map}
use Rattle.std.specs.Prelude.{slice_get}
use Rattle.kernel_tables.specs.Tabled.{Tabled, found_queue, message_answer, messages_put}
use Rattle.mutex_tables.specs.MutexTabled.{MutexTabled}
use Rattle.mutex_tables.proofs.SeenLemmas.{keeps-same}
use Rattle.mutex_tables.proofs.ObjectLemmas.{seen_by}
use Rattle.mutex_tables.proofs.tables.MutexTables.urgent_message.Goals as goal

pub invariant_of-self : goal.invariant_of-self
invariant_of-self c = keeps-same c.self.inside c.urgent_message.new.self c.self.invariant (ap (λ (x : Tabled). x.threads) c.urgent_message.ensures.state) (ap (λ (x : Tabled). x.levels) c.urgent_message.ensures.state)

pub returns-clause-answer : goal.returns-clause-answer
returns-clause-answer c = c.urgent_message.ensures.answer ∙ ap (λ (v : MutexTabled). option_map (message_answer c.args.text.now) (found_queue v.queues c.args.name.now)) c.self.view_is

pub returns-clause-state : goal.returns-clause-state
returns-clause-state c = ap (seen_by c.self.inside) c.urgent_message.ensures.state ∙ ap (λ (v : MutexTabled). record v { queues = messages_put v.queues c.args.text.now (λ messages. c.args.text.now ∷ messages) (found_queue v.queues c.args.name.now) }) c.self.view_is
