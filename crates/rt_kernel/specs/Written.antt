-- What the console shows at once.
use Rattle.std.specs.Prelude.{ℕ, Bool, true, false, List, [], ◌∷◌}
use Rattle.rt_plain.specs.declared.line.Line.{Line}

-- the line of a text that was written, where it was written to the console
abbrev pub written_lines : Bool → List ℕ → List Line
written_lines true text = Line.Print text ∷ []
written_lines false text = []
