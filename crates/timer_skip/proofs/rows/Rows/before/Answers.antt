use Rattle.std.proofs.Common.{ℕ, ◌≡◌, ◌≢◌, ◌-◌, ◌<◌, ◌≤◌, None, length, get_or, set, get_or-set_same, get_or-set_other, length-set, sym, ap, ◌∙◌, subst, arith}
use native.Mathlib.Decide.{ℕ_discrete}
use mathlib.Core.Logic.{dite}
use Rattle.timer_skip.specs.Firing.{armed_row}
use Rattle.timer_skip.specs.Links.{IsStop}
use Rattle.timer_skip.proofs.Levels.{stop_from}
use Rattle.timer_skip.proofs.rows.Rows.before.Goals as goal

pub loop-level-preserved : goal.loop-level-preserved
loop-level-preserved g c =
    let r = c.args.self.now in
    let row = armed_row c.args.self.now.tick c.args.row.now in
    let level = c.loop-level.level - 1 in
    let stop = c.walk-from.ensures in
    let less : level < length c.loop-level.before = omega (arith, c.loop-level.invariant.long, c.loop-level.invariant.within, c.loop-level-test.true) in
    record {
      within = omega (arith, c.loop-level.invariant.within);
      long = length-set c.loop-level.before level c.walk-from.result ∙ c.loop-level.invariant.long;
      from = λ below is. stop_from r below row c.walk-from.result (subst (λ n. IsStop r n row c.walk-from.result) (sym is) stop);
      stops = λ other low some. dite (ℕ_discrete other level)
          (λ same.
          let here : get_or (set c.loop-level.before level c.walk-from.result) other None ≡ c.walk-from.result =
          ap (λ n. get_or (set c.loop-level.before level c.walk-from.result) n None) same ∙ get_or-set_same c.loop-level.before level c.walk-from.result None less in
          subst (IsStop r other row) (sym here) (subst (λ n. IsStop r n row c.walk-from.result) (sym same) stop))
          (λ unlike.
          subst (IsStop r other row) (sym (get_or-set_other c.loop-level.before level other c.walk-from.result None unlike)) (c.loop-level.invariant.stops other (let high : c.loop-level.level ≤ other = above c.loop-level.level other low unlike in high) some));
    }
  where
    above : (n other : ℕ) → n - 1 ≤ other → other ≢ n - 1 → n ≤ other
    above n other low unlike = omega (arith, low, unlike)
