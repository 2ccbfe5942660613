use Rattle.std.proofs.Common.{ℕ, ◌≡◌, ◌<◌, sym, ap, ◌∙◌, subst, length, List, slice_get, Some}
use Rattle.rt_plain.specs.kernel.State.{Thread}
use Rattle.kernel_tables.specs.Shown.{shown}
use Rattle.mutex_tables.proofs.ShownLemmas.{count-seen, shown-seen}
use Rattle.mutex_tables.proofs.tables.MutexTables.shown_at.Goals as goal

pub shown_at-requires : goal.shown_at-requires
shown_at-requires c = subst (λ (ts : List ℕ). c.args.place < length ts) (sym (ap (λ (rows : List Thread). shown rows) c.threads.ensures ∙ shown-seen c.self.inside c.args.self.now c.self.view_is)) c.requires

pub returns-clause-is : goal.returns-clause-is
returns-clause-is c = subst (λ (ts : List ℕ). slice_get ts c.args.place ≡ Some c.shown_at.result) (ap (λ (rows : List Thread). shown rows) c.threads.ensures ∙ shown-seen c.self.inside c.args.self.now c.self.view_is) c.shown_at.ensures.is

pub returns-clause-there : goal.returns-clause-there
returns-clause-there c = subst (λ n. c.shown_at.result < n) (ap (λ (rows : List Thread). length rows) c.threads.ensures ∙ count-seen c.self.inside c.args.self.now c.self.view_is) c.shown_at.ensures.there
