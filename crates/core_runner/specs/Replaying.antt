-- Where the code that reads a trace stands in the pass over its lines.
use Rattle.std.specs.Prelude.{◌≡◌, ℕ, ◌≤◌, Bool, true, false, List, [], ◌∷◌, ◌++◌, Some, None, length, take, drop, is_some}
use Rattle.rt_base.specs.declared.codes.Halt.{Halt}
use Rattle.rt_plain.specs.declared.entry.Entry.{Entry}
use Rattle.rt_plain.specs.PlainBoard.{PlainBoard}
use Rattle.rt_plain.specs.runs.Runs.{is_over, is_event_of, halt_of}
use Rattle.rt_plain.specs.runs.Replays.{IsCutOf}
use Rattle.rt_plain.specs.runs.Agreement.{Reader, Read, Stop, On, is_late}
use Rattle.rt_plain.specs.runs.Agreement.{End as Ends}
use Rattle.rt_plain.specs.text.Texts.{with_newline, body_text}
use Rattle.kernel_step.specs.MachineSeen.{MachineSeen}
use Rattle.core_runner.specs.declared.trace_reader.Closing.{Closing}
use Rattle.core_runner.specs.declared.trace_reader.Next.{Next}
use Rattle.core_runner.specs.declared.trace_reader.TraceReader.{TraceReader}

-- the machine stands where the entries so far led
pub record IsOpen (m : MachineSeen) (entries : ℕ) (r : Reader) : Type 0 where
  pub all : entries ≡ length m.course.journal
  pub state : m.course.state ≡ r.state
  pub halt : m.course.halt ≡ m.course.state.halt

-- the entries so far met a limit, and the machine hasn't halted there
pub record IsFull (b : PlainBoard) (r : Reader) : Type 0 where
  pub over : is_over b r.done ≡ true
  pub going : halt_of b r.state ≡ None

-- an open reader, or a closed one
abbrev pub Stands : Bool → PlainBoard → MachineSeen → ℕ → Reader → Type 0
Stands false b m entries r = IsOpen m entries r
Stands true b m entries r = IsFull b r

-- the reader stands there in the pass, behind these bytes of the trace
pub record IsAt (b : PlainBoard) (front : List ℕ) (t : TraceReader) (r : Reader) : Type 0 where
  pub board : t.machine.board ≡ b
  pub some : t.entries ≤ length t.machine.course.journal
  pub done : r.done ≡ take t.entries t.machine.course.journal
  pub stands : Stands t.is_closed b t.machine t.entries r
  pub counted : r.counted ≡ is_some t.cut
  pub due : r.due ≡ drop t.at t.due
  pub text : front ++ r.due ≡ body_text r.done t.cut
  pub cut : IsCutOf b r.done t.cut

-- the machine has made an entry more than were read, and the header of it is read next
pub record HasMade (b : PlainBoard) (front : List ℕ) (t : TraceReader) (r : Reader) (e : Entry) : Type 0 where
  pub journal : t.machine.course.journal ≡ r.done ++ e ∷ []
  pub all : t.entries ≡ length r.done
  pub is_open : t.is_closed ≡ false
  pub event : is_event_of b e.event ≡ true
  pub going : is_over b r.done ≡ false
  pub counted : r.counted ≡ is_some t.cut
  pub due : r.due ≡ []
  pub text : front ≡ body_text r.done t.cut
  pub cut : IsCutOf b r.done t.cut

-- a machine that met a limit and hasn't halted, and what is left of it once its next step was tried
pub record IsClosedBy (old new : MachineSeen) : Type 0 where
  pub over : is_over old.board old.course.journal ≡ true
  pub going : halt_of old.board old.course.state ≡ None
  pub some : length old.course.journal ≤ length new.course.journal
  pub front : old.course.journal ≡ take (length old.course.journal) new.course.journal

-- how a machine stands behind an entry
abbrev pub Closes : MachineSeen → MachineSeen → Closing → Type 0
Closes old new Closing.Open = (is_late old.board old.course.journal old.course.state ≡ false) × (new.course ≡ old.course)
Closes old new Closing.Closed = (is_late old.board old.course.journal old.course.state ≡ false) × IsClosedBy old new
Closes old new Closing.Late = is_late old.board old.course.journal old.course.state ≡ true

-- the run has ended behind these bytes
pub record HasEnded (b : PlainBoard) (front : List ℕ) (t : TraceReader) (r : Reader) : Type 0 where
  pub done : t.machine.course.journal ≡ r.done
  pub state : t.machine.course.state ≡ r.state
  pub halt : Halt
  pub halted : t.machine.course.halt ≡ Some halt
  pub halt_is : halt_of b r.state ≡ Some halt
  pub text : front ≡ body_text r.done t.cut
  pub cut : IsCutOf b r.done t.cut

-- what the reader tells of a line is what the pass does with it
abbrev pub Follows : PlainBoard → List ℕ → List ℕ → Reader → Read → Next → TraceReader → Type 0
Follows b front line r Stop Next.Stop t = Unit {0}
Follows b front line r Stop Next.End t = ⊥
Follows b front line r Stop Next.On t = ⊥
Follows b front line r Ends Next.Stop t = ⊥
Follows b front line r Ends Next.End t = HasEnded b front t r
Follows b front line r Ends Next.On t = ⊥
Follows b front line r (On next) Next.Stop t = ⊥
Follows b front line r (On next) Next.End t = ⊥
Follows b front line r (On next) Next.On t = IsAt b (front ++ with_newline line) t next
