use Rattle.std.proofs.Common.{◌∙◌, sym, ap, None}
use Rattle.std.proofs.lemmas.Option.{none-some}
use Rattle.rt_plain.specs.kernel.Ownership.{Ownership}
use Rattle.mutex_chain.specs.Lines.{lines_of}
use Rattle.mutex_chain.specs.Raising.{IsRaising}
use Rattle.mutex_chain.proofs.RaiseLemmas.{raised_all}
use Rattle.mutex_chain.proofs.StoredLemmas.{lines_empty}
use Rattle.mutex_chain.proofs.StrongLemmas.{empty_raises, empty_awaits}
use Rattle.mutex_chain.proofs.graph.MutexGraph.new.Goals as goal

pub invariant_of-result : goal.invariant_of-result
invariant_of-result c =
    let o = c.in_ok-owners.owners in
    let ns = c.in_ok-curs.curs.numbers.items in
    let raised : IsRaising c.in_ok-owners.owners c.in_ok-curs.curs.numbers.items None 256 =
    rw c.in_ok-curs.ensures.numbers (empty_raises c.args.threads c.args.mutexes o c.know_sound.ensures c.in_ok-owners.ensures) in
    record {
      sound = c.know_sound.ensures;
      owned = λ t m e. absurd (none-some m (sym (empty_awaits c.args.threads c.args.mutexes o t c.in_ok-owners.ensures) ∙ e));
      curs = raised_all o ns 256 raised;
      places = raised.places;
      lines = c.in_ok-curs.ensures.lines
          ∙ lines_empty c.args.threads c.args.mutexes 256 o (ap (λ (q : Ownership). q.members) c.in_ok-owners.ensures) (ap (λ (q : Ownership). q.ceilings) c.in_ok-owners.ensures)
          ∙ sym (ap (lines_of o) c.in_ok-curs.ensures.numbers);
    }
