use Rattle.std.proofs.Common.{Option, ap, ◌∙◌}
use Rattle.rt_plain.specs.kernel.Effects.{retry_of}
use Rattle.rt_plain.specs.kernel.State.{Active, Retry}
use Rattle.kernel_tables.specs.declared.stage.Stage.{Stage}
use Rattle.kernel_tables.specs.Threads.{plain_thread, retried_row, stage_of}
use Rattle.kernel_tables.proofs.ThreadLemmas.{written}
use Rattle.kernel_tables.proofs.threads.Threads.retry.Goals as goal

pub returns : goal.returns
returns c =
    written _ _ _ _ _ _ (retried_row c.args.due) c.self.view_is c.t.view_is c.requires.there c.index_mut-row.ensures.value
    (ap (λ (stage : Stage). record (plain_thread c.index_mut-row.result.now) { stage = stage_of stage; retry = c.retry-row.result }) c.replace-stage.ensures.after
    ∙ ap (λ (o : Option Retry). record (plain_thread c.index_mut-row.result.now) { stage = Active; retry = o }) (c.retry-row.ensures ∙ ap (λ (stage : Stage). retry_of (stage_of stage) c.args.due) c.replace-stage.ensures.value))
