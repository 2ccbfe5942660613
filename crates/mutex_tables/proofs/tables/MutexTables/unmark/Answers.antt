use Rattle.std.proofs.Common.{false, refl, ap}
use Rattle.kernel_tables.specs.Threads.{row_at}
use Rattle.kernel_tables.specs.Tabled.{Tabled}
use Rattle.mutex_tables.proofs.SeenLemmas.{inside-there, keeps-row, view-row}
use Rattle.mutex_tables.proofs.tables.MutexTables.unmark.Goals as goal

pub unmark-requires : goal.unmark-requires
unmark-requires c = inside-there c.self.inside c.args.self.now c.args.t c.self.view_is c.requires

pub invariant_of-self : goal.invariant_of-self
invariant_of-self c =
    let k = c.self.inside in
    keeps-row k.tables c.unmark.new.self k.bases.items k.names.mutex k.graph c.args.t (record (row_at k.tables.threads c.args.t) { marked = false }) c.self.invariant
    (inside-there k c.args.self.now c.args.t c.self.view_is c.requires) (ap (λ (x : Tabled). x.threads) c.unmark.ensures) (ap (λ (x : Tabled). x.levels) c.unmark.ensures)
    (record { base = refl; closed = refl; wait = refl; known = refl })

pub returns : goal.returns
returns c = view-row c.self.inside c.unmark.new.self c.args.self.now c.args.t (λ row. record row { marked = false }) (λ ready. ready) c.self.view_is c.self.invariant c.unmark.ensures (λ row base. refl)
