use Rattle.std.proofs.Common.{◌≡◌, sym, ap, ◌∙◌, None, Some, List, Option, ℕ, map}
use Rattle.std.specs.List.{position_from}
use Rattle.rt_plain.specs.kernel.State.{Thread}
use Rattle.kernel_tables.specs.declared.threads.Thread.{Thread as ThreadRow}
use Rattle.kernel_tables.specs.Threads.{plain_thread, is_found}
use Rattle.kernel_tables.proofs.ListLemmas.{position-map}
use Rattle.kernel_tables.proofs.threads.Threads.find.Goals as goal

seen : (name bytes : List ℕ) (items rows : List ThreadRow) (threads : List Thread) (o : Option ℕ) → bytes ≡ name → items ≡ rows → map plain_thread rows ≡ threads → o ≡ position_from (λ (row : ThreadRow). is_found bytes (plain_thread row)) 0 items → o ≡ position_from (is_found name) 0 threads
seen name bytes items rows threads o same all view is =
    is ∙ sym (position-map plain_thread (is_found bytes) 0 items) ∙ ap (λ xs. position_from (is_found bytes) 0 (map plain_thread xs)) all ∙ ap (position_from (is_found bytes) 0) view ∙ ap (λ n. position_from (is_found n) 0 threads) same

pub returns-in_err-place-clause-found : goal.returns-in_err-place-clause-found
returns-in_err-place-clause-found c = c.from_residual.ensures ∙ seen c.args.name.now c.bytes.result.now c.deref.result.now c.self.inside.items.items c.args.self.now None c.bytes.ensures.bytes c.deref.ensures.value c.self.view_is (sym c.in_err-place.was ∙ c.position.ensures.found)

pub returns-clause-found : goal.returns-clause-found
returns-clause-found c = seen c.args.name.now c.bytes.result.now c.deref.result.now c.self.inside.items.items c.args.self.now (Some c.in_ok-place.place) c.bytes.ensures.bytes c.deref.ensures.value c.self.view_is (sym c.in_ok-place.was ∙ c.position.ensures.found)
