-- The threads of a board before their first statements.
use Rattle.std.proofs.Common.{◌≡◌, ℕ, zero, suc, ◌+◌, ◌<◌, arith, List, [], ◌∷◌, ◌++◌, None, sym, ap, ◌∙◌, subst, length, map, take, get_or}
use Rattle.std.proofs.lemmas.List.{map_more, map-append}
use Rattle.rt_plain.specs.declared.board.ThreadDef.{ThreadDef}
use Rattle.rt_plain.specs.kernel.State.{Thread}
use Rattle.rt_plain.specs.kernel.Opening.{new_script_thread}
use Rattle.kernel_tables.specs.declared.threads.Thread.{Thread as ThreadRow}
use Rattle.kernel_tables.specs.Threads.{plain_thread}

-- a row more
pub rows_more : (rows : List ThreadRow) (defs : List ThreadDef) (i : ℕ) (def : ThreadDef) (row : ThreadRow) → i < length defs → def ≡ get_or defs i def → plain_thread row ≡ new_script_thread def → map plain_thread rows ≡ map new_script_thread (take i defs)
    → map plain_thread (rows ++ row ∷ []) ≡ map new_script_thread (take (i + 1) defs)
rows_more rows defs i def row there is same before =
    map-append plain_thread rows (row ∷ [])
    ∙ ap (λ (ts : List Thread). ts ++ plain_thread row ∷ []) before
    ∙ ap (λ (t : Thread). map new_script_thread (take i defs) ++ t ∷ []) (same ∙ ap new_script_thread is)
    ∙ sym (map_more new_script_thread defs i def there)
