use Rattle.std.proofs.Common.{ℕ, ◌∙◌, ◌≤◌, ap, sym, subst, length}
use Rattle.std.proofs.lemmas.List.{length-map}
use Rattle.mutex_tie.specs.Tie.{plain_mutex}
use Rattle.mutex_tables.specs.MutexTabled.{MutexTabled}
use Rattle.mutex_tables.proofs.tables.MutexTables.mutex_count.Goals as goal

pub returns-clause-count : goal.returns-clause-count
returns-clause-count c =
    let k = c.self.inside in
    c.count.ensures.count ∙ sym (length-map k.names.mutex.objects (plain_mutex k.graph.ceilings)) ∙ ap (λ (v : MutexTabled). length v.mutexes) c.self.view_is

pub returns-clause-few : goal.returns-clause-few
returns-clause-few c = subst (λ (v : MutexTabled). c.count.result ≤ v.mutex_limit) c.self.view_is (subst (λ n. n ≤ c.self.inside.names.mutex.limit) (sym c.count.ensures.count) c.count.ensures.sound.few)
