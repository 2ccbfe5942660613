-- What a line prints.
use Rattle.std.proofs.Common.{◌≡◌, ℕ, List, ◌++◌, refl, sym, append-nil}
use Rattle.rt_base.specs.declared.text.Text.{Text}
use Rattle.rt_plain.specs.declared.line.Line.{Line}
use Rattle.rt_plain.specs.text.Texts.{printed_by}

-- a line of another kind prints nothing
pub nothing-printed : (line : Line) (out : List ℕ) → ((t : Text) → line ≡ Line.Print t → ⊥) → out ≡ out ++ printed_by line
nothing-printed (Line.Print t) out h = absurd (h t refl)
nothing-printed _ out h = sym (append-nil out)
