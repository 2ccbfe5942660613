use Rattle.std.proofs.Common.{ℕ, ◌≡◌, List, length}
use Rattle.rt_plain.specs.kernel.Ownership.{owned_in}
use Rattle.mutex_chain.specs.Noting.{AreNotes}
use Rattle.mutex_chain.specs.Owners.{IsSound}
use Rattle.mutex_chain.specs.Lines.{lines_of}
use Rattle.mutex_chain.specs.Ending.{AreBut}
use Rattle.mutex_chain.proofs.PassLemmas.{IsPassing}
use Rattle.mutex_chain.proofs.EndingLemmas.{IsGiving}
use Rattle.mutex_chain.proofs.ends.give_back.Given as goal

abbrev pub invariant-loop-mutex : goal.invariant-loop-mutex
invariant-loop-mutex g l =
    IsPassing l.thread l.fn.owners l.fn.passes l.owners l.curs.numbers.items l.passes × AreBut l.owners l.curs.numbers.items l.thread × IsSound l.owners × (l.out.threads ≡ l.fn.out.threads)
    × ((olds : List ℕ) → AreNotes olds l.initial.curs.numbers.items l.fn.out.changes → AreNotes olds l.curs.numbers.items l.out.changes)
    × (l.curs.lines.items ≡ lines_of l.owners l.curs.numbers.items)
    × IsGiving l.thread l.fn.owners l.owners l.passes.passes l.initial.steps l.steps

abbrev pub decreases-loop-mutex : goal.decreases-loop-mutex
decreases-loop-mutex g l = length (owned_in l.owners l.thread)
