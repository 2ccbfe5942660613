use Rattle.susp_list.proofs.TableLemmas.{first_is, first_held}
use Rattle.susp_list.proofs.list.SuspList.first.Goals as goal

pub returns-clause-first : goal.returns-clause-first
returns-clause-first c = rw (c.waiter_at.ensures, ← c.self.view_is) (first_is _ _ _ _ _ _ c.self.invariant c.index.ensures)

pub returns-clause-held : goal.returns-clause-held
returns-clause-held c = first_held c.args.self.now c.waiter_at.result (rw (c.waiter_at.ensures, ← c.self.view_is) (first_is _ _ _ _ _ _ c.self.invariant c.index.ensures))
