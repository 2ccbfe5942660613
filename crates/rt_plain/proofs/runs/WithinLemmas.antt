-- Runs within limits, stated along the run.
use Rattle.std.proofs.Common.{◌≡◌, List, [], ◌∷◌, ◌++◌, Bool, false, IsTrue, refl, sym, subst}
use Rattle.std.proofs.lemmas.List.{append_assoc, append-nil}
use Rattle.rt_base.specs.declared.codes.Event.{Event}
use Rattle.rt_plain.specs.declared.entry.Entry.{Entry}
use Rattle.rt_plain.specs.PlainBoard.{PlainBoard}
use Rattle.rt_plain.specs.kernel.State.{State}
use Rattle.rt_plain.specs.kernel.Sleeps.{Did, Made, Same, Halted}
use Rattle.rt_plain.specs.kernel.Steps.{happens}
use Rattle.rt_plain.specs.kernel.Opening.{open_state}
use Rattle.rt_plain.specs.runs.Runs.{IsMade, IsRunIn, Course, course_after, is_event_of}

pub IsRunIn-snoc : (over : List Entry → Bool) (b : PlainBoard) (done : List Entry) (old mid new : State) (journal : List Entry) (e : Entry) → IsRunIn over b done old journal mid → over (done ++ journal) ≡ false → IsMade b mid e new → IsRunIn over b done old (journal ++ e ∷ []) new
IsRunIn-snoc over b done old mid new [] e run going made = (new, subst (λ (j : List Entry). over j ≡ false) (append-nil done) going, subst (λ s. IsMade b s e new) run made, refl)
IsRunIn-snoc over b done old mid new (f ∷ journal) e run going made =
    (run.0, run.1, run.2, IsRunIn-snoc over b (done ++ f ∷ []) run.0 mid new journal e run.3 (subst (λ (j : List Entry). over j ≡ false) (sym (append_assoc done (f ∷ []) journal)) going) made)

-- one event of a run that goes on
pub course-within : (over : List Entry → Bool) (b : PlainBoard) (c : Course) (e : Event) (d : Did) → IsTrue (is_event_of b e) → over c.journal ≡ false → IsRunIn over b [] (open_state b) c.journal c.state → happens b c.state e ≡ d → IsRunIn over b [] (open_state b) (course_after b c e d).journal (course_after b c e d).state
course-within over b c e (Made s lines) core going run is = IsRunIn-snoc over b [] (open_state b) c.state s c.journal _ run going (core, is, refl)
course-within over b c e Same core going run is = run
course-within over b c e (Halted h) core going run is = run
