use Rattle.std.proofs.Common.{arith, length, ◌≡◌, ◌+◌, ◌∙◌, ◌∷◌, ◌++◌, sym, ap, refl, take, drop, []}
use Rattle.std.proofs.lemmas.List.{length-append}
use Rattle.susp_list.specs.Rows.{line}
use Rattle.mutex_chain.specs.Graph.{WokenList}
use Rattle.mutex_chain.proofs.StoredLemmas.{split_at, nothing_left}
use Rattle.mutex_chain.proofs.ends.list_line.Goals as goal

pub loop-preserved : goal.loop-preserved
loop-preserved g c =
    let t = c.in-Some.thread in
    let split = split_at (line c.args.list.now) c.loop.counter c.in-Some.thread (sym c.loop.invariant.2 ∙ c.in-Some.is) in (
      ap (λ (w : WokenList). w.threads) c.push.ensures ∙ c.loop.invariant.0,
      ap (λ (w : WokenList). w.woken) c.push.ensures ∙ ap (λ ws. ws ++ t ∷ []) c.loop.invariant.1 ∙ sym split.0,
      c.after-next.ensures.behind (take c.loop.counter (line c.args.list.now)) (drop (c.loop.counter + 1) (line c.args.list.now)) split.1,
      c.after-next.ensures.held,
      omega (arith, c.loop.invariant.4, c.tick-in-loop.ensures, ap (λ (w : WokenList). length w.woken) c.push.ensures, length-append c.loop.woken.woken (t ∷ [])),
    )

pub returns-in_default-clause-woken : goal.returns-in_default-clause-woken
returns-in_default-clause-woken g c =
    let all : c.loop.woken.woken ≡ line c.args.list.now = c.loop.invariant.1 ∙ nothing_left (line c.args.list.now) c.loop.counter (sym c.loop.invariant.2 ∙ c.in_default.is) in
    rw (← all, ← c.loop.invariant.0) refl

pub returns-in_default-clause-count : goal.returns-in_default-clause-count
returns-in_default-clause-count g c =
    let all : c.loop.woken.woken ≡ line c.args.list.now = c.loop.invariant.1 ∙ nothing_left (line c.args.list.now) c.loop.counter (sym c.loop.invariant.2 ∙ c.in_default.is) in
    omega (arith, c.loop.invariant.4, c.tick.ensures, c.tick-2.ensures, ap length all)
