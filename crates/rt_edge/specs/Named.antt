-- A name and what it holds.
use Rattle.std.specs.Prelude.{ℕ, List}

abbrev pub Named : Type 0
Named = List ℕ × List ℕ
