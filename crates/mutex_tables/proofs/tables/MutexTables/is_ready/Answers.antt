use Rattle.std.proofs.Common.{◌∙◌, ap}
use Rattle.rt_plain.specs.kernel.State.{is_among}
use Rattle.mutex_tables.specs.MutexTabled.{MutexTabled}
use Rattle.mutex_tables.proofs.SeenLemmas.{inside-there}
use Rattle.mutex_tables.proofs.tables.MutexTables.is_ready.Goals as goal

pub is_ready-requires : goal.is_ready-requires
is_ready-requires c = inside-there c.self.inside c.args.self.now c.args.t c.self.view_is c.requires

pub returns : goal.returns
returns c = c.is_ready.ensures ∙ ap (λ (v : MutexTabled). is_among v.ready c.args.t) c.self.view_is
