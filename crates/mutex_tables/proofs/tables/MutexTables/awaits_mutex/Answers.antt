use Rattle.std.proofs.Common.{ℕ, ap, ◌∙◌, Option, is_some}
use Rattle.mutex_tables.proofs.StopLemmas.{inside-member}
use Rattle.mutex_tables.proofs.ShownLemmas.{awaits-seen}
use Rattle.mutex_tables.proofs.tables.MutexTables.awaits_mutex.Goals as goal

pub waits-requires : goal.waits-requires
waits-requires c = inside-member c.self.inside c.args.self.now c.args.t c.self.view_is c.self.invariant c.requires.there c.requires.live

pub returns : goal.returns
returns c = c.is_some.ensures ∙ ap (λ (o : Option ℕ). is_some o) c.waits.ensures ∙ awaits-seen c.self.inside c.args.self.now c.args.t c.self.view_is c.self.invariant
