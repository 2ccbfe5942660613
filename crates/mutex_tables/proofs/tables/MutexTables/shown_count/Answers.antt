use Rattle.std.proofs.Common.{ℕ, ap, ◌∙◌, length, List}
use Rattle.rt_plain.specs.kernel.State.{Thread}
use Rattle.kernel_tables.specs.Shown.{shown}
use Rattle.mutex_tables.proofs.ShownLemmas.{shown-seen}
use Rattle.mutex_tables.proofs.tables.MutexTables.shown_count.Goals as goal

pub returns-clause-count : goal.returns-clause-count
returns-clause-count c = c.shown_count.ensures.count ∙ ap (λ (rows : List Thread). length (shown rows)) c.threads.ensures ∙ ap (λ (ts : List ℕ). length ts) (shown-seen c.self.inside c.args.self.now c.self.view_is)
