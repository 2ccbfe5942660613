-- What a run with sleeps and the same run by single ticks have in common.
use Rattle.std.specs.Prelude.{◌≡◌, ℕ, ◌+◌, Bool, List, [], ◌∷◌, ◌++◌, Option, Some, None, filter_map}
use Rattle.rt_base.specs.declared.codes.Event.{Event}
use Rattle.rt_base.specs.declared.codes.Code.{Code}
use Rattle.rt_plain.specs.declared.entry.Entry.{Entry}
use Rattle.rt_plain.specs.declared.line.Line.{Line}
use Rattle.rt_plain.specs.PlainBoard.{PlainBoard}
use Rattle.rt_plain.specs.text.Texts.{console_of}
use Rattle.rt_plain.specs.runs.Runs.{Course}

-- the board with sleeps, or without
abbrev pub with_tickless : Bool → PlainBoard → PlainBoard
with_tickless tickless b = record b { tickless = tickless }

-- how many ticks an entry takes: one, those of a sleep, or none
abbrev pub ticks_of : Event → List Line → ℕ
ticks_of Event.Tick lines = 1
ticks_of (Event.Step core) (Line.Sleep mode ticks ∷ lines) = ticks
ticks_of (Event.Step core) _ = 0

-- a timer that fired, and at which moment
pub record Firing : Type 0 where
  pub moment : ℕ
  pub timer : List ℕ

-- the firing that a line shows
abbrev pub firing : ℕ → Line → Option Firing
firing moment (Line.Fire timer fired) = Some (record { moment = moment; timer = timer })
firing moment _ = None

-- the firings of entries, of which the first begins at a moment: those of an entry are at its end
abbrev pub firings_from : ℕ → List Entry → List Firing
firings_from moment [] = []
firings_from moment (e ∷ es) = let next = moment + ticks_of e.event e.lines in filter_map (firing next) e.lines ++ firings_from next es

-- all firings of a journal
abbrev pub firings_of : List Entry → List Firing
firings_of journal = firings_from 0 journal

-- a statement that was done, for the first time or again: when, where, by whom, which, and its answer
pub record Deed : Type 0 where
  pub moment : ℕ
  pub event : Event
  pub thread : List ℕ
  pub statement : ℕ
  pub answer : Option Code

-- the statement that a line shows
abbrev pub deed : ℕ → Event → Line → Option Deed
deed moment event (Line.Done thread k code) = Some (record { moment = moment; event = event; thread = thread; statement = k; answer = code })
deed moment event (Line.Again thread k code) = Some (record { moment = moment; event = event; thread = thread; statement = k; answer = code })
deed moment event _ = None

-- the statements of entries, of which the first begins at a moment
abbrev pub deeds_from : ℕ → List Entry → List Deed
deeds_from moment [] = []
deeds_from moment (e ∷ es) = filter_map (deed moment e.event) e.lines ++ deeds_from (moment + ticks_of e.event e.lines) es

-- all statements of a journal
abbrev pub deeds_of : List Entry → List Deed
deeds_of journal = deeds_from 0 journal

-- two runs print, fire and do the same, and halt alike
pub record SameBehaviour (a b : Course) : Type 0 where
  pub console : console_of a.journal ≡ console_of b.journal
  pub firings : firings_of a.journal ≡ firings_of b.journal
  pub deeds : deeds_of a.journal ≡ deeds_of b.journal
  pub halt : a.halt ≡ b.halt
  pub moment : a.state.moment ≡ b.state.moment
