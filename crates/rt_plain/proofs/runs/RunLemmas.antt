-- Runs: they go on by an entry, keep what each entry keeps, and a machine stays where its journal led.
use Rattle.std.proofs.Common.{ℕ, ◌+◌, ◌≤◌, length, arith, List, [], ◌∷◌, ◌++◌, refl, sym, ap, subst}
use Rattle.rt_plain.specs.declared.entry.Entry.{Entry}
use Rattle.rt_plain.specs.PlainBoard.{PlainBoard}
use Rattle.rt_plain.specs.kernel.State.{State}
use Rattle.rt_plain.specs.runs.Runs.{IsMade, IsRun}

-- a run goes on by one entry
pub IsRun-snoc : (b : PlainBoard) (old mid new : State) (journal : List Entry) (e : Entry) → IsRun b old journal mid → IsMade b mid e new → IsRun b old (journal ++ e ∷ []) new
IsRun-snoc b old mid new [] e run made = (new, subst (λ s. IsMade b s e new) run made, refl)
IsRun-snoc b old mid new (f ∷ journal) e run made = (run.0, run.1, IsRun-snoc b run.0 mid new journal e run.2 made)

-- what holds at the start and is kept by each entry holds at the end
pub IsRun-keeps : (b : PlainBoard) (P : State → Type 0) → ((s t : State) (e : Entry) → P s → IsMade b s e t → P t) → (old new : State) (journal : List Entry) → P old → IsRun b old journal new → P new
IsRun-keeps b P step old new [] p run = subst P (sym run) p
IsRun-keeps b P step old new (e ∷ journal) p run = IsRun-keeps b P step run.0 new journal (step old run.0 e p run.1) run.2

-- a number that an entry raises by one at most is no more than the entries say
pub IsRun-grows : (b : PlainBoard) (f : State → ℕ) → ((s t : State) (e : Entry) → IsMade b s e t → f t ≤ f s + 1) → (old new : State) (journal : List Entry) → IsRun b old journal new → f new ≤ f old + length journal
IsRun-grows b f step old new [] run = omega (arith, ap f run)
IsRun-grows b f step old new (e ∷ journal) run =
    omega (arith, step old run.0 e run.1, IsRun-grows b f step run.0 new journal run.2)
