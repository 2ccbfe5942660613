use Rattle.std.proofs.Common.{◌≡◌, ℕ, false, sym, ◌∙◌}
use Rattle.rt_plain.specs.kernel.State.{is_closed}
use Rattle.kernel_tables.specs.Threads.{row_at}
use Rattle.rt_kernel.specs.View.{state_of}
use Rattle.rt_kernel.proofs.NextCallLemmas.{if-some}
use Rattle.rt_kernel.proofs.PrioLemmas.{found_thread}
use Rattle.rt_kernel.proofs.state.State.find_thread.Goals as goal

pub returns-clause-live : goal.returns-clause-live
returns-clause-live c = if-some c.find.result (λ u. is_closed (row_at c.args.self.now.tables.threads u).stage ≡ false) (λ u is. (found_thread (state_of c.args.self.now) c.args.name.now u (sym c.find.ensures.found ∙ is)).1)
