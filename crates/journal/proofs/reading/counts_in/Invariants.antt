use Rattle.std.proofs.Common.{◌≡◌, drop, map}
use Rattle.rt_plain.specs.text.TraceRows.{are_counts, counts_in}
use Rattle.journal.proofs.reading.counts_in.Given as goal

abbrev pub invariant-loop-word : goal.invariant-loop-word
invariant-loop-word l = are_counts (counts_in (map (λ w. w.now) (drop l.word-index l.words))) ≡ are_counts (counts_in (map (λ w. w.now) l.words))
