-- A call with what follows from it.
use Rattle.rt_plain.specs.declared.stmt.Call.{Call}
use Rattle.rt_plain.specs.PlainBoard.{PlainBoard}
use Rattle.rt_plain.specs.kernel.State.{State}
use Rattle.rt_plain.specs.kernel.Calls.{outcome_of, settled_effect}
use Rattle.rt_plain.specs.kernel.Outcome.{By, Attempt, Outcome}

-- an outcome with what follows from it on the state before it: moved threads, the lines of changed priorities and of a changed mode
abbrev pub settled : PlainBoard → State → Outcome → Outcome
settled b s outcome = record { effect = settled_effect b s outcome.effect; answer = outcome.answer }

-- what a call does, with what follows from it
abbrev pub settled_outcome : PlainBoard → Call → State → By → Attempt → Outcome
settled_outcome b call s by attempt = settled b s (outcome_of b call s by attempt)
