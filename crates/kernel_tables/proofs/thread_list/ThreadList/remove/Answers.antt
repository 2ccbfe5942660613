use Rattle.std.proofs.Common.{rules, ◌==◌, not, ap, ◌∙◌, filter, ℕ}
use Rattle.std.proofs.lemmas.Fn.{filter_same}
use Rattle.kernel_tables.proofs.thread_list.ThreadList.remove.Goals as goal

pub returns-clause-list : goal.returns-clause-list
returns-clause-list c =
    filter_same _ (λ (u : ℕ). not (u == c.args.t)) _ (λ x b f k. search rules) _ _ c.retain.ensures.filtered
    ∙ ap (filter (λ (u : ℕ). not (u == c.args.t))) c.self.view_is
