use Rattle.std.proofs.Common.{ap, ◌∙◌}
use Rattle.rt_plain.specs.kernel.Sleeps.{is_empty}
use Rattle.kernel_tables.specs.Tabled.{Tabled}
use Rattle.kernel_tables.proofs.ReadyLemmas.{none-among}
use Rattle.kernel_tables.proofs.tables.Tables.is_idle.Goals as goal

pub returns : goal.returns
returns c = c.is_empty.ensures ∙ none-among c.self.inside.ready.rows ∙ ap (λ (k : Tabled). is_empty k.ready) c.self.view_is
