-- What calls do, one after the other, and by an outcome that is the same.
use Rattle.std.proofs.Common.{◌≡◌, ℕ, ◌+◌, ◌≤◌, ◌++◌, List, arith, length, sym, ap, ◌∙◌, subst}
use Rattle.std.proofs.lemmas.List.{append_assoc}
use Rattle.rt_base.specs.Roomy.{Roomy}
use Rattle.rt_plain.specs.declared.line.Line.{Line}
use Rattle.rt_plain.specs.kernel.State.{State}
use Rattle.rt_plain.specs.kernel.Effects.{Effect, and_then}
use Rattle.rt_plain.specs.kernel.Outcome.{Outcome}
use Rattle.rt_kernel.specs.declared.answer.Answer.{Answer}
use Rattle.rt_kernel.specs.declared.state.State.{State as KernelState}
use Rattle.rt_kernel.specs.Does.{Does, Acts}
use Rattle.rt_kernel.specs.View.{state_of}

pub does_by : {old new : KernelState} {before after : Roomy Line} {answered : Answer} {most : ℕ} {o p : Outcome} → p ≡ o → Does old new before after answered most o → Does old new before after answered most p
does_by {old} {new} {before} {after} {answered} {most} same does = subst (Does old new before after answered most) (sym same) does

-- a call, and then an effect that takes no number
pub does-then : (old mid new : KernelState) (before after last : Roomy Line) (answered : Answer) (most more : ℕ) (outcome : Outcome) (next : State → Effect)
    → Does old mid before after answered most outcome → Acts mid new after last more (next (state_of mid)) → new.numbers ≡ mid.numbers → length last.items ≤ length before.items + most
    → Does old new before last answered most (record { effect = and_then outcome.effect next; answer = outcome.answer })
does-then old mid new before after last answered most more outcome next does acts same few = record {
  state = acts.state ∙ ap (λ (s : State). (next s).state) does.state;
  lines = acts.lines
      ∙ ap (λ (lines : List Line). lines ++ (next (state_of mid)).lines) does.lines
      ∙ append_assoc before.items outcome.effect.lines (next (state_of mid)).lines
      ∙ ap (λ (s : State). before.items ++ (outcome.effect.lines ++ (next s).lines)) does.state;
  answer = does.answer;
  limits = acts.limits ∙ does.limits;
  threads = acts.threads ∙ does.threads;
  numbers = omega (arith, same, does.numbers);
  few = few;
  out_room = acts.out_room ∙ does.out_room;
}
