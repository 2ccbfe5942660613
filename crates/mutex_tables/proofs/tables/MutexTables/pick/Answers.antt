use Rattle.std.proofs.Common.{◌∙◌, ◌<◌, sym, subst}
use Rattle.mutex_tables.specs.MutexTabled.{MutexTabled}
use Rattle.mutex_tables.proofs.PickLemmas.{pick-seen, picked-seen}
use Rattle.mutex_tables.proofs.tables.MutexTables.pick.Goals as goal

pub pick-requires : goal.pick-requires
pick-requires g c = subst (λ (v : MutexTabled). c.args.core < v.cores) (sym c.self.view_is) c.requires.core

pub returns-clause-thread : goal.returns-clause-thread
returns-clause-thread g c = c.pick.ensures.thread ∙ pick-seen c.self.inside c.args.self.now c.args.core c.self.view_is c.self.invariant c.requires.live

pub returns-clause-there : goal.returns-clause-there
returns-clause-there g c = picked-seen c.self.inside c.args.self.now c.pick.result c.self.view_is c.pick.ensures.there
