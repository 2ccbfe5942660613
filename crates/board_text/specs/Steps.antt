-- What one line does to what was read so far.
use Rattle.std.specs.Prelude.{◌≡◌, ℕ, List, not, Ok, Err, IsTrue, ◌⊎◌}
use Rattle.rt_plain.specs.declared.board_line.BoardLine.{BoardLine}
use Rattle.rt_plain.specs.text.BoardText.{SoFar, judged, after, is_skipped}
use Rattle.board_text.specs.declared.fault.Refusal.{Refusal}

-- a line takes what was read so far to what is read with it
abbrev pub Passes : SoFar → List ℕ → SoFar → Type 0
Passes s bytes t = (IsTrue (is_skipped bytes) × (t ≡ s)) ⊎ (IsTrue (not (is_skipped bytes)) × ((l : BoardLine) × (judged s bytes ≡ Ok l) × (t ≡ after s l)))

-- a line stops the reading
abbrev pub Stops : SoFar → List ℕ → Refusal → Type 0
Stops s bytes Refusal.Memory = Unit {0}
Stops s bytes (Refusal.Line why) = IsTrue (not (is_skipped bytes)) × (judged s bytes ≡ Err why)
