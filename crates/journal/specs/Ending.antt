-- The end of a run, and its cut, as the code gives them.
use Rattle.std.specs.Prelude.{ℕ, Option, Some, None}
use Rattle.std.proofs.Common.{Bor}
use Rattle.rt_base.specs.declared.codes.Halt.{Halt}
use Rattle.rt_plain.specs.declared.entry.Cut.{Cut}
use Rattle.rt_plain.specs.text.Texts.{End}

-- the halt and its tick, by their names
abbrev pub ending : Option (Halt × ℕ) → Option End
ending None = None
ending (Some end) = Some (record { halt = end.0; tick = end.1 })

-- the cut behind a reference, where there is one
abbrev pub cut_of : Option (Bor Cut) → Option Cut
cut_of None = None
cut_of (Some cut) = Some cut.now
