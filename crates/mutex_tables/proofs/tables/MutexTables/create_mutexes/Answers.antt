use Rattle.std.proofs.Common.{ℕ, List, ap, ◌∙◌}
use Rattle.rt_plain.specs.kernel.State.{Mutex}
use Rattle.mutex_tables.proofs.CreateLemmas.{mutexes_more, mutexes_all}
use Rattle.mutex_tables.proofs.tables.MutexTables.create_mutexes.Goals as goal

pub loop-def-init : goal.loop-def-init
loop-def-init c = ap (λ (all : List Mutex). record c.args.self.now { mutexes = all }) c.requires.none

pub loop-def-preserved : goal.loop-def-preserved
loop-def-preserved c = mutexes_more c.args.self.now c.loop-def.self c.create_mutex.new.self c.args.defs.now c.loop-def.def-index c.def-item.result _ c.create_mutex.result c.requires c.loop-def.invariant c.loop-def-test.true c.def-item.is (ap (λ (n : List ℕ). record { name = n; ceiling = c.def-item.result.ceiling }) c.copy.ensures) c.create_mutex.ensures

pub returns : goal.returns
returns c = c.loop-def.invariant ∙ mutexes_all c.args.self.now c.args.defs.now c.loop-def.def-index c.loop-def-test.false
