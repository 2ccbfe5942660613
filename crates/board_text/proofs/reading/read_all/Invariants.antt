use Rattle.std.proofs.Common.{◌≡◌, ◌≤◌, ◌+◌, length}
use Rattle.rt_plain.specs.text.Splits.{lines_of}
use Rattle.rt_plain.specs.text.BoardText.{outcome, reading}
use Rattle.rt_plain.proofs.text.BoardLemmas.{IsSound}
use Rattle.board_text.specs.Drafts.{so_far}
use Rattle.board_text.proofs.reading.read_all.Given as goal

abbrev pub invariant-loop-rest : goal.invariant-loop-rest
invariant-loop-rest l = record {
  sound : IsSound (so_far l.draft);
  count : l.no + length l.rest ≤ length l.text + 1;
  so_far : outcome (so_far l.draft) l.no (lines_of l.rest) ≡ reading l.fn.text;
}

abbrev pub decreases-loop-rest : goal.decreases-loop-rest
decreases-loop-rest l = length l.rest
