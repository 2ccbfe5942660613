-- What a reader returns, beside what the definitions read.
use Rattle.std.specs.Prelude.{◌≡◌, Result, Ok, Err}
use Rattle.rt_plain.specs.declared.why.Why.{Why}
use Rattle.board_text.specs.declared.fault.Refusal.{Refusal}

-- the refusal is the reason that was read, unless memory ran out
abbrev pub Fails : {A : Type 0} → Refusal → Result A Why → Type 0
Fails Refusal.Memory read = Unit {0}
Fails (Refusal.Line why) read = read ≡ Err why

-- what is returned is what was read, unless memory ran out
abbrev pub Gives : {A : Type 0} → Result A Refusal → Result A Why → Type 0
Gives (Ok x) read = read ≡ Ok x
Gives (Err e) read = Fails e read
