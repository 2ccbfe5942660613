use Rattle.std.proofs.Common.{ℕ, ◌≡◌, ◌<◌, Option, Some, None, MatchOption, sym, subst}
use Rattle.std.specs.List.{All}
use Rattle.std.proofs.lemmas.List.Elements.{All-filter}
use Rattle.timer_skip.specs.Armed.{Armed, ArmedRow, without}
use Rattle.timer_skip_tests.proofs.tests.fire.Goals as goal

kept : (o : Option ℕ) (a b : Armed) → MatchOption o (b ≡ a) (λ timer. b ≡ record a { rows = without timer a.rows }) → (at : ℕ)
    → All (λ (row : ArmedRow). row.number < at) a.rows → All (λ (row : ArmedRow). row.number < at) b.rows
kept None a b e at h = subst (λ (x : Armed). All (λ (row : ArmedRow). row.number < at) x.rows) (sym e) h
kept (Some timer) a b e at h =
    subst (λ (x : Armed). All (λ (row : ArmedRow). row.number < at) x.rows) (sym e) (All-filter _ (λ (row : ArmedRow). row.number < at) a.rows h)

pub returns-clause-latest : goal.returns-clause-latest
returns-clause-latest g c = kept c.take_due.result c.args.timers.now c.take_due.new.self c.take_due.ensures.rows
