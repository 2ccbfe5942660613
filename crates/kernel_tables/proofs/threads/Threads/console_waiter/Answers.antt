use Rattle.std.proofs.Common.{◌≡◌, sym, ap, ◌∙◌, None, Some, List, Option, ℕ, map}
use Rattle.std.specs.List.{position_from}
use Rattle.rt_plain.specs.kernel.DeviceCalls.{waits_at_console}
use Rattle.rt_plain.specs.kernel.State.{Thread}
use Rattle.kernel_tables.specs.declared.threads.Thread.{Thread as ThreadRow}
use Rattle.kernel_tables.specs.Threads.{plain_thread}
use Rattle.kernel_tables.proofs.ListLemmas.{position-map}
use Rattle.kernel_tables.proofs.threads.Threads.console_waiter.Goals as goal

seen : (items rows : List ThreadRow) (threads : List Thread) (o : Option ℕ) → items ≡ rows → map plain_thread rows ≡ threads → o ≡ position_from (λ (row : ThreadRow). waits_at_console (plain_thread row).stage) 0 items → o ≡ position_from (λ (row : Thread). waits_at_console row.stage) 0 threads
seen items rows threads o all view is =
    is ∙ sym (position-map plain_thread (λ (row : Thread). waits_at_console row.stage) 0 items) ∙ ap (λ xs. position_from (λ (row : Thread). waits_at_console row.stage) 0 (map plain_thread xs)) all ∙ ap (position_from (λ (row : Thread). waits_at_console row.stage) 0) view

pub returns-in_err-place-clause-found : goal.returns-in_err-place-clause-found
returns-in_err-place-clause-found c = c.from_residual.ensures ∙ seen c.deref.result.now c.self.inside.items.items c.args.self.now None c.deref.ensures.value c.self.view_is (sym c.in_err-place.was ∙ c.console_place.ensures.found)

pub returns-clause-found : goal.returns-clause-found
returns-clause-found c = seen c.deref.result.now c.self.inside.items.items c.args.self.now (Some c.in_ok-place.place) c.deref.ensures.value c.self.view_is (sym c.in_ok-place.was ∙ c.console_place.ensures.found)
