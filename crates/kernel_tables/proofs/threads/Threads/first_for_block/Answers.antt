use Rattle.std.proofs.Common.{ℕ, suc, ◌≡◌, ◌+◌, ◌-◌, length, arith, sym, ap, ◌∙◌}
use Rattle.rt_plain.specs.kernel.Waiting.{Waiter, takes_block}
use Rattle.std.specs.Prelude.{Option}
use Rattle.kernel_tables.specs.Foremost.{nearer}
use Rattle.kernel_tables.specs.Tabled.{base_waiter}
use Rattle.kernel_tables.proofs.ForemostLemmas.{first_from, one-more}
use Rattle.kernel_tables.proofs.threads.Threads.first_for_block.Goals as goal

pub loop-i-preserved : goal.loop-i-preserved
loop-i-preserved c =
    let threads = c.args.self.now in
    let p = takes_block c.args.pool.now in
    let i = c.loop-i.i in
    let t : ℕ = c.len-count.result - (i + 1) in
    let same : c.len-count.result - 1 - i ≡ t = omega (arith, c.loop-i-test.true) in
    let next : c.len-count.result - i ≡ t + 1 = omega (arith, c.loop-i-test.true) in
    record {
      first =
          c.nearer-first.ensures
          ∙ ap (λ (o : Option Waiter). nearer c.args.order o c.loop-i.first) (c.block_waiter.ensures ∙ ap (base_waiter threads p) same)
          ∙ ap (nearer c.args.order (base_waiter threads p t)) (c.loop-i.invariant.first ∙ ap (λ (k : ℕ). first_from threads c.args.order p k i) next)
          ∙ sym (one-more threads c.args.order p t i)
          ∙ ap (first_from threads c.args.order p t) (let one : suc i ≡ i + 1 = omega arith in one);
      count = c.loop-i.invariant.count;
    }
