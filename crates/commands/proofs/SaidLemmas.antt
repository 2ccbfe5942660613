-- A line that was put, as far as a sink took it.
use Rattle.std.proofs.Common.{◌≡◌, ℕ, List, Option, Result, Ok, Err, OnOk, OnErr, take, length, sym, subst}
use Rattle.std.proofs.Math.Seq.{take-length}
use Rattle.rt_edge.specs.Counts.{Rose}
use Rattle.rt_edge.specs.Contents.{HasGrown}
use Rattle.rt_edge.specs.declared.sink.Failed.{Failed}
use Rattle.commands.specs.Asked.{HasSaid}

-- all of the line, or a front of it where the count rose
pub said : (result : Result Unit Failed) (old new : Option (List ℕ)) (faults faults' : ℕ) (put line : List ℕ) → put ≡ line
    → OnOk result (HasGrown old new put) → OnErr result ((n : ℕ) × HasGrown old new (take n put)) → OnErr result (Rose faults faults')
    → HasSaid old new faults faults' line
said (Ok u) old new faults faults' put line is grown front rose =
    subst (HasSaid old new faults faults') is
    (record { front = (length put, subst (HasGrown old new) (sym (take-length put)) grown); whole = λ steady. grown })
said (Err e) old new faults faults' put line is grown front rose =
    subst (HasSaid old new faults faults') is (record { front = front; whole = λ steady. absurd (steady rose) })
