-- What follows from a thread's call, by the graph before it and the graph after it.
use Rattle.std.proofs.Common.{ℕ, ◌≡◌, Option, refl, sym, ap, ◌∙◌}
use Rattle.rt_base.specs.declared.codes.Code.{Code}
use Rattle.rt_plain.specs.declared.line.Line.{Line}
use Rattle.rt_plain.specs.PlainBoard.{PlainBoard}
use Rattle.rt_plain.specs.kernel.State.{State, Thread, thread_at, is_closed}
use Rattle.rt_plain.specs.kernel.Outcome.{Outcome, Answer, Answers, Waits}
use Rattle.rt_plain.specs.kernel.Statements.{call_effect, with_answer}
use Rattle.rt_plain.specs.kernel.Calls.{settled_effect}
use Rattle.rt_plain.specs.kernel.Ownership.{Ownership, changes}
use Rattle.rt_plain.proofs.kernel.TallyLemmas.{length-set_at}
use Rattle.object_box.specs.Objects.{ClassObjects}
use Rattle.mutex_tie.specs.Tie.{StandsFor}
use Rattle.mutex_tie.specs.Changes.{followed_effect, CameFrom, AreLive}
use Rattle.mutex_tie.proofs.ChangeLemmas.{settled-tied}
use Rattle.mutex_tie.proofs.EditLemmas.{stands-kept, stage-kept}

-- the answer of a call becomes the thread's last code
pub stands-answered : (s : State) (c : ClassObjects) (o : Ownership) (t : ℕ) (answer : Answer) → StandsFor s c o → StandsFor (with_answer t answer s) c o
stands-answered s c o t (Answers code) tie = stands-kept s (with_answer t (Answers code) s) c o t (record (thread_at s t) { code = code }) tie refl refl refl refl refl
stands-answered s c o t Waits tie = tie

came-answered : (before s : State) (t : ℕ) (answer : Answer) → CameFrom before s → CameFrom before (with_answer t answer s)
came-answered before s t (Answers code) came = record {
  size = came.size ∙ sym (length-set_at s.threads t row);
  ended = λ u h. came.ended u (ap is_closed (sym (stage-kept s.threads t u row refl)) ∙ h);
}
  where
    row : Thread
    row = record (thread_at s t) { code = code }
came-answered before s t Waits came = came

-- what follows from a call is by the changes between the graphs before and after it
pub call-settles : (b : PlainBoard) (s : State) (c d : ClassObjects) (o p : Ownership) (t : ℕ) (line : Option Code → Line) (x : Outcome) → StandsFor s c o → StandsFor x.effect.state d p → CameFrom s x.effect.state → AreLive (call_effect t line x).state
    → settled_effect b s (call_effect t line x) ≡ followed_effect b s (changes o p) (call_effect t line x)
call-settles b s c d o p t line x first last came live =
    settled-tied b s (call_effect t line x) c d o p first (stands-answered x.effect.state d p t x.answer last) (came-answered s x.effect.state t x.answer came) live
