use Rattle.std.proofs.Common.{refl, ap}
use Rattle.kernel_tables.specs.Threads.{row_at, with_vars}
use Rattle.kernel_tables.specs.Tabled.{Tabled}
use Rattle.mutex_tables.proofs.SeenLemmas.{inside-there, keeps-row, view-row}
use Rattle.mutex_tables.proofs.tables.MutexTables.set_vars.Goals as goal

pub set_vars-requires : goal.set_vars-requires
set_vars-requires c = inside-there c.self.inside c.args.self.now c.args.t c.self.view_is c.requires

pub invariant_of-self : goal.invariant_of-self
invariant_of-self c =
    let k = c.self.inside in
    keeps-row k.tables c.set_vars.new.self k.bases.items k.names.mutex k.graph c.args.t (with_vars c.args.vars (row_at k.tables.threads c.args.t)) c.self.invariant
    (inside-there k c.args.self.now c.args.t c.self.view_is c.requires) (ap (λ (x : Tabled). x.threads) c.set_vars.ensures) (ap (λ (x : Tabled). x.levels) c.set_vars.ensures)
    (record { base = refl; closed = refl; wait = refl; known = refl })

pub returns : goal.returns
returns c = view-row c.self.inside c.set_vars.new.self c.args.self.now c.args.t (with_vars c.args.vars) (λ ready. ready) c.self.view_is c.self.invariant c.set_vars.ensures (λ row base. refl)
