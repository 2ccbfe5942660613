use Rattle.std.proofs.Common.{◌≡◌, ◌≤◌, ◌++◌, length, map, true}
use Rattle.rt_plain.specs.text.Splits.{words_from}
use Rattle.rt_plain.proofs.words.words_of.Given as goal

abbrev pub invariant-loop-place : goal.invariant-loop-place
invariant-loop-place l = (length l.rest ≤ length l.fn.line) × (map (λ w. w.now) l.words.items ++ words_from true l.rest ≡ words_from true l.fn.line)

abbrev pub decreases-loop-place : goal.decreases-loop-place
decreases-loop-place l = length l.rest
