use Rattle.std.proofs.Common.{◌≡◌, ℕ, ◌+◌, ◌<◌, List, ◌++◌, arith, sym, ap, ◌∙◌, length, drop, slice_get}
use Rattle.std.proofs.lemmas.List.{append_assoc, length-append}
use Rattle.std.proofs.lemmas.Option.{get_or_from_slice_get}
use Rattle.rt_base.specs.declared.codes.Code.{Code}
use Rattle.rt_plain.specs.declared.line.Line.{Line}
use Rattle.rt_plain.specs.kernel.State.{State}
use Rattle.rt_plain.specs.kernel.Effects.{Effect, and_then, each_effect}
use Rattle.rt_kernel.specs.View.{state_of}
use Rattle.rt_kernel.specs.Wake.{follow_effect}
use Rattle.rt_kernel.proofs.WakeLemmas.{each-next}
use Rattle.rt_kernel.proofs.state.State.follow_woken.Goals as goal

pub loop-i-preserved : goal.loop-i-preserved
loop-i-preserved c =
    let is = c.loop-i.invariant in
    let all : List (ℕ × ℕ) = c.args.self.now.woken in
    let i : ℕ = c.loop-i.i in
    let w : ℕ × ℕ = c.at-t.result in
    let s : State = state_of c.loop-i.self in
    let act : ℕ × ℕ → State → Effect = λ x. follow_effect Code.Ok x.0 in
    let within : i < length all = omega (arith, c.loop-i-test.true, c.len-i-end.ensures) in
    let next : each_effect act (drop i all) s ≡ and_then (act w s) (each_effect act (drop (i + 1) all)) = each-next act all i w s within ∙ ap (λ (x : ℕ × ℕ). and_then (act x s) (each_effect act (drop (i + 1) all))) (get_or_from_slice_get all i w w (ap (λ (ws : List (ℕ × ℕ)). slice_get ws i) (sym is.woken) ∙ c.at-t.ensures)) in
    record {
      woken = c.follow.ensures.woken ∙ is.woken;
      tables = c.follow.ensures.tables ∙ is.tables;
      numbers = c.follow.ensures.numbers ∙ is.numbers;
      count = omega (arith, ap length c.follow.ensures.lines, length-append c.loop-i.out.items (act w s).lines, is.count);
      room = c.follow.ensures.out_room ∙ is.room;
      state = ap (λ (u : State). (each_effect act (drop (i + 1) all) u).state) c.follow.ensures.state ∙ sym (ap (λ (e : Effect). e.state) next) ∙ is.state;
      lines = ap (λ (u : State). c.follow.new.out.items ++ (each_effect act (drop (i + 1) all) u).lines) c.follow.ensures.state
          ∙ ap (λ (lines : List Line). lines ++ (each_effect act (drop (i + 1) all) (act w s).state).lines) c.follow.ensures.lines
          ∙ append_assoc c.loop-i.out.items (act w s).lines (each_effect act (drop (i + 1) all) (act w s).state).lines
          ∙ sym (ap (λ (e : Effect). c.loop-i.out.items ++ e.lines) next)
          ∙ is.lines;
    }
