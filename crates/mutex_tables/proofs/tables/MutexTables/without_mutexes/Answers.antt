use Rattle.std.proofs.Common.{ℕ, ◌≡◌, ◌∙◌, sym, ap, subst, [], List}
use Rattle.rt_plain.specs.declared.board.ThreadDef.{ThreadDef}
use Rattle.rt_plain.specs.PlainBoard.{PlainBoard}
use Rattle.rt_plain.specs.kernel.Ownership.{Ownership}
use Rattle.object_box.specs.Objects.{ClassObjects}
use Rattle.kernel_tables.specs.Opened.{first_tables}
use Rattle.kernel_tables.specs.Tabled.{Tabled}
use Rattle.mutex_tie.specs.Tie.{graph_of_threads}
use Rattle.mutex_tables.specs.Kept.{AreMutexTables}
use Rattle.mutex_tables.specs.MutexTabled.{seen}
use Rattle.mutex_tables.proofs.OpenLemmas.{bare-keeps, bare-seen, bases_in, first_threads}
use Rattle.mutex_tables.proofs.tables.MutexTables.without_mutexes.Goals as goal

pub invariant_of-result : goal.invariant_of-result
invariant_of-result c =
    let b : PlainBoard = c.args.board.now in
    let limit : ℕ = c.board.inside.limits.mutex in
    let defs : c.as_slice-defs.result.now ≡ b.threads = c.as_slice-defs.ensures ∙ ap (λ (x : PlainBoard). x.threads) c.board.view_is in
    let none : ClassObjects = record { limit = limit; objects = [] } in
    let graph : Ownership = graph_of_threads (first_threads b.threads) limit in
    subst (λ (k : Tabled). AreMutexTables k c.in_ok-bases.bases.items c.in_ok-names.names.mutex c.in_ok-graph.graph) (sym c.in_ok-tables.ensures)
    (subst (λ (bs : List ℕ). AreMutexTables (first_tables b) bs c.in_ok-names.names.mutex c.in_ok-graph.graph) (sym (c.in_ok-bases.ensures ∙ ap bases_in defs))
    (subst (λ (x : ClassObjects). AreMutexTables (first_tables b) (bases_in b.threads) x c.in_ok-graph.graph) (sym c.in_ok-names.ensures)
    (subst (λ (o : Ownership). AreMutexTables (first_tables b) (bases_in b.threads) none o) (sym (c.in_ok-graph.ensures ∙ ap (λ (ds : List ThreadDef). graph_of_threads (first_threads ds) limit) defs))
    (bare-keeps b limit c.requires))))

pub returns : goal.returns
returns c =
    let b : PlainBoard = c.args.board.now in
    let limit : ℕ = c.board.inside.limits.mutex in
    let defs : c.as_slice-defs.result.now ≡ b.threads = c.as_slice-defs.ensures ∙ ap (λ (x : PlainBoard). x.threads) c.board.view_is in
    ap (λ (k : Tabled). seen k c.in_ok-bases.bases.items c.in_ok-names.names.mutex c.in_ok-graph.graph) c.in_ok-tables.ensures
    ∙ ap (λ (bs : List ℕ). seen (first_tables b) bs c.in_ok-names.names.mutex c.in_ok-graph.graph) (c.in_ok-bases.ensures ∙ ap bases_in defs)
    ∙ ap (λ (x : ClassObjects). seen (first_tables b) (bases_in b.threads) x c.in_ok-graph.graph) c.in_ok-names.ensures
    ∙ ap (λ (o : Ownership). seen (first_tables b) (bases_in b.threads) (record { limit = limit; objects = [] }) o) (c.in_ok-graph.ensures ∙ ap (λ (ds : List ThreadDef). graph_of_threads (first_threads ds) limit) defs)
    ∙ ap (λ n. seen (first_tables b) (bases_in b.threads) (record { limit = n; objects = [] }) (graph_of_threads (first_threads b.threads) n)) (ap (λ (x : PlainBoard). x.limits.mutex) c.board.view_is)
    ∙ bare-seen b
