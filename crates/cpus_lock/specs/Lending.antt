-- What a hold is once its value was lent.
use Rattle.std.specs.Prelude.{[]}
use Rattle.std.specs.Borrow.{Lends, Fml, RattleType, MutBor}
use mir.Syntax.{named}
use Rattle.cpus_lock.specs.declared.nested.Nested.{Ghosts}
use Rattle.cpus_lock.specs.Holds.{Hold}
use Rattle.cpus_lock.specs.contracts.held.Held.{the_row}

module _ (K : RattleType) (nested : Ghosts K.Denot) where
  -- the hold ends with the value that the borrow leaves, and is else as it was
  abbrev pub lends_value : MutBor (Hold K.Denot) → MutBor K.Denot → Fml
  lends_value s r = Lends (the_row (record { mir = named 1; lft = [] }) K nested) K s r (λ w. record { pass = s.now.pass; value = w; entered = s.now.entered })
