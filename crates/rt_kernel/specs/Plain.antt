-- What a statement that is no call does.
use Rattle.std.specs.Prelude.{ℕ, ◌+◌, Bool, true, false, List, [], ◌∷◌, Some}
use Rattle.rt_base.specs.declared.codes.Code.{Code}
use Rattle.rt_plain.specs.declared.line.Line.{Line}
use Rattle.rt_plain.specs.declared.stmt.Stmt.{Stmt}
use Rattle.rt_plain.specs.kernel.State.{State, thread_at}
use Rattle.rt_plain.specs.kernel.Effects.{Effect, and_then, line_effect, name_of}
use Rattle.rt_plain.specs.kernel.Statements.{plain_effect, with_next}

-- whether it is no call
abbrev pub is_plain : Stmt → Bool
is_plain (Stmt.Do call) = false
is_plain _ = true

-- what a text shows on the console
abbrev pub printed : List ℕ → List Line
printed [] = []
printed (byte ∷ bytes) = Line.Print (byte ∷ bytes) ∷ []

-- the statement of a thread that comes next, no call: its line, and what it does
abbrev pub next_plain : List Stmt → ℕ → Stmt → State → Effect
next_plain script t stmt s = and_then (line_effect (with_next s t ((thread_at s t).next + 1)) (Line.Done (name_of s t) (thread_at s t).next (Some Code.Ok))) (plain_effect script t stmt)
