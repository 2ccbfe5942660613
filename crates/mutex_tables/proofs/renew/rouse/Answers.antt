use Rattle.std.proofs.Common.{◌∙◌, ◌++◌, ◌∷◌, [], ap}
use Rattle.rt_plain.specs.kernel.State.{Active}
use Rattle.kernel_tables.specs.Tabled.{Tabled}
use Rattle.kernel_tables.specs.Threads.{with_row}
use Rattle.mutex_tables.proofs.RouseLemmas.{rouse-steps}
use Rattle.mutex_tables.proofs.renew.rouse.Goals as goal

pub returns : goal.returns
returns c =
    rouse-steps c.args.tables.now c.activate.new.self c.args.t c.args.prio c.args.code c.requires.there c.requires.unready
    (c.activate.ensures ∙ ap (λ (x : Tabled). record x { threads = with_row x.threads c.args.t (λ row. record row { stage = Active }); ready = x.ready ++ c.args.t ∷ [] })
    (c.set_code.ensures ∙ ap (λ (x : Tabled). record x { threads = with_row x.threads c.args.t (λ row. record row { code = c.args.code }) }) c.set_base.ensures))
