use Rattle.std.proofs.Common.{◌∙◌, ℕ, Some, ap, sym, map, length, slice_get, arith}
use Rattle.rt_plain.specs.declared.row.Row.{Row}
use Rattle.rt_plain.specs.kernel.Rows.{timer_row}
use Rattle.rt_plain.specs.kernel.State.{State}
use Rattle.kernel_timers.specs.Alarmed.{timer_at}
use Rattle.rt_kernel.specs.declared.kernel.Kernel.TheInside.{Inside}
use Rattle.rt_kernel.specs.PlainKernel.{PlainKernel}
use Rattle.rt_kernel.specs.View.{state_of}
use Rattle.rt_kernel.proofs.ViewLemmas.{timer_row_at}
use Rattle.rt_kernel.proofs.kernel.Kernel.timer_row.Goals as goal

-- the row of a timer, by the fields
abbrev row_of : ℕ → Inside → Row
row_of place k = timer_row k.board (state_of k.state) (timer_at k.state.armed.timers place)

pub returns : goal.returns
returns c =
    let s : State = state_of c.self.inside.state in
    ap (λ (k : PlainKernel). slice_get (map (timer_row k.board k.state) k.state.timers) c.args.place) (sym c.self.view_is)
    ∙ timer_row_at c.self.inside.board s c.args.place (omega (arith, c.requires, ap (λ (k : PlainKernel). length k.state.timers) c.self.view_is))
    ∙ ap Some (sym (c.row.ensures ∙ ap (row_of c.args.place) c.self-inside.view_is))
