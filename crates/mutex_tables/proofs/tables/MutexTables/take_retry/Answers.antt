use Rattle.std.proofs.Common.{refl, ap, sym, ◌∙◌, None, List}
use Rattle.rt_plain.specs.kernel.State.{Thread}
use Rattle.kernel_tables.specs.Threads.{row_at}
use Rattle.kernel_tables.specs.Tabled.{Tabled}
use Rattle.mutex_tables.proofs.SeenLemmas.{inside-there, inside-row, keeps-row, view-row}
use Rattle.mutex_tables.proofs.tables.MutexTables.take_retry.Goals as goal

pub take_retry-requires : goal.take_retry-requires
take_retry-requires c = inside-there c.self.inside c.args.self.now c.args.t c.self.view_is c.requires

pub invariant_of-self : goal.invariant_of-self
invariant_of-self c =
    let k = c.self.inside in
    keeps-row k.tables c.take_retry.new.self k.bases.items k.names.mutex k.graph c.args.t (record (row_at k.tables.threads c.args.t) { retry = None }) c.self.invariant
    (inside-there k c.args.self.now c.args.t c.self.view_is c.requires) (ap (λ (x : Tabled). x.threads) c.take_retry.ensures.state) (ap (λ (x : Tabled). x.levels) c.take_retry.ensures.state)
    (record { base = refl; closed = refl; wait = refl; known = refl })

pub returns-clause-state : goal.returns-clause-state
returns-clause-state c = view-row c.self.inside c.take_retry.new.self c.args.self.now c.args.t (λ row. record row { retry = None }) (λ ready. ready) c.self.view_is c.self.invariant c.take_retry.ensures.state (λ row base. refl)

pub returns-clause-retry : goal.returns-clause-retry
returns-clause-retry c = c.take_retry.ensures.retry ∙ sym (ap (λ (row : Thread). row.retry) (inside-row c.self.inside c.args.self.now c.args.t c.self.view_is c.self.invariant c.requires))
