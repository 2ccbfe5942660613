use Rattle.std.proofs.Common.{◌∙◌, ap, not}
use Rattle.std.specs.Prelude.{filter, ◌==◌}
use Rattle.kernel_tables.specs.Tabled.{Tabled}
use Rattle.mutex_tables.specs.MutexTabled.{MutexTabled, seen}
use Rattle.mutex_tables.proofs.SeenLemmas.{inside-there, keeps-same}
use Rattle.mutex_tables.proofs.tables.MutexTables.leave_ready.Goals as goal

pub leave_ready-requires : goal.leave_ready-requires
leave_ready-requires c = inside-there c.self.inside c.args.self.now c.args.t c.self.view_is c.requires

pub invariant_of-self : goal.invariant_of-self
invariant_of-self c = keeps-same c.self.inside c.leave_ready.new.self c.self.invariant (ap (λ (x : Tabled). x.threads) c.leave_ready.ensures) (ap (λ (x : Tabled). x.levels) c.leave_ready.ensures)

pub returns : goal.returns
returns c =
    ap (λ (x : Tabled). seen x c.self.inside.bases.items c.self.inside.names.mutex c.self.inside.graph) c.leave_ready.ensures
    ∙ ap (λ (v : MutexTabled). record v { ready = filter (λ u. not (u == c.args.t)) v.ready }) c.self.view_is
