use Rattle.std.proofs.Common.{ap}
use Rattle.rt_plain.specs.kernel.Ticks.{thread_after_slice}
use Rattle.kernel_tables.specs.Threads.{row_at}
use Rattle.kernel_tables.specs.Tabled.{Tabled}
use Rattle.mutex_tables.proofs.SeenLemmas.{inside-there, keeps-row, view-row}
use Rattle.mutex_tables.proofs.SliceLemmas.{slice-apart, slice-same}
use Rattle.mutex_tables.proofs.tables.MutexTables.fall.Goals as goal

pub fall-requires : goal.fall-requires
fall-requires c = inside-there c.self.inside c.args.self.now c.args.t c.self.view_is c.requires

pub invariant_of-self : goal.invariant_of-self
invariant_of-self c =
    let k = c.self.inside in
    keeps-row k.tables c.fall.new.self k.bases.items k.names.mutex k.graph c.args.t (thread_after_slice (row_at k.tables.threads c.args.t)) c.self.invariant
    (inside-there k c.args.self.now c.args.t c.self.view_is c.requires) (ap (λ (x : Tabled). x.threads) c.fall.ensures) (ap (λ (x : Tabled). x.levels) c.fall.ensures)
    (slice-same k.names.mutex.objects (row_at k.tables.threads c.args.t))

pub returns : goal.returns
returns c = view-row c.self.inside c.fall.new.self c.args.self.now c.args.t thread_after_slice (λ ready. ready) c.self.view_is c.self.invariant c.fall.ensures slice-apart
