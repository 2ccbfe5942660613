use Rattle.std.proofs.Common.{◌≡◌, List, ap, ◌∙◌}
use Rattle.rt_plain.specs.kernel.State.{Thread}
use Rattle.rt_plain.specs.kernel.Waiting.{head_of, takes_block}
use Rattle.kernel_tables.specs.Tabled.{line_of}
use Rattle.mutex_tables.proofs.BlockLemmas.{first-seen, first-there, first-waits}
use Rattle.mutex_tables.proofs.tables.MutexTables.first_for_block.Goals as goal

pub returns-clause-first : goal.returns-clause-first
returns-clause-first c =
    let p = takes_block c.args.pool.now in
    first-seen c.self.inside c.args.self.now c.args.order p c.first_for_block.result c.self.view_is c.self.invariant
    (c.first_for_block.ensures ∙ ap (λ (ts : List Thread). head_of (line_of ts c.args.order p)) c.threads.ensures)

pub returns-clause-waits : goal.returns-clause-waits
returns-clause-waits c =
    let p = takes_block c.args.pool.now in
    first-waits c.self.inside c.args.self.now c.args.order p c.first_for_block.result c.self.view_is
    (c.first_for_block.ensures ∙ ap (λ (ts : List Thread). head_of (line_of ts c.args.order p)) c.threads.ensures)

pub returns-clause-there : goal.returns-clause-there
returns-clause-there c =
    let p = takes_block c.args.pool.now in
    first-there c.args.self.now p c.first_for_block.result
    (first-waits c.self.inside c.args.self.now c.args.order p c.first_for_block.result c.self.view_is
    (c.first_for_block.ensures ∙ ap (λ (ts : List Thread). head_of (line_of ts c.args.order p)) c.threads.ensures))
