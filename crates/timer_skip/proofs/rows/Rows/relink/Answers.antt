use Rattle.std.proofs.Common.{ℕ, ◌≡◌, ◌≢◌, ◌<◌, ◌≤◌, None, get_or, sym, subst, arith}
use native.Mathlib.Decide.{ℕ_discrete}
use mathlib.Core.Logic.{dite}
use Rattle.timer_skip.specs.declared.rows.Rows.{Rows}
use Rattle.timer_skip.specs.Links.{SameLevel, SameRest, IsRelinked}
use Rattle.timer_skip.proofs.Changes.{relinked_before, relinked_after, same_level, same_rest}
use Rattle.timer_skip.proofs.rows.Rows.relink.Goals as goal
use Rattle.timer_skip.proofs.rows.Rows.relink.Goals.{then-level-top, else-level-top}

pub loop-level-preserved : goal.loop-level-preserved
loop-level-preserved g c =
    let old : Rows g.row.L = c.args.self.now in
    let mid : Rows g.row.L = c.loop-level.self in
    let new : Rows g.row.L = c.if-level-top.self in
    let k = c.loop-level.level in
    let i = c.loop-level.invariant in
    elim c.if-level-top.branch [
      | then-level-top w ↦ (
          let within : k ≤ c.args.top = omega (arith, w.if-level-top.true) in
          let is : w.set_link.new.self ≡ new = sym w.self-is in
          let link = subst (λ (s : Rows g.row.L). IsRelinked mid s k (get_or c.args.lasts.now k None) (get_or c.args.links.now k None)) is w.set_link.ensures.link in
          let levels : (other : ℕ) → other ≢ k → SameLevel mid new other = subst (λ (s : Rows g.row.L). (other : ℕ) → other ≢ k → SameLevel mid s other) is w.set_link.ensures.levels in
          record {
            low = λ level below low. dite (ℕ_discrete level k)
                (λ same. subst (λ n. IsRelinked old new n (get_or c.args.lasts.now n None) (get_or c.args.links.now n None)) (sym same)
                (relinked_after old mid new k (get_or c.args.lasts.now k None) (get_or c.args.links.now k None) (i.later k (omega arith)) link))
                (λ other. relinked_before old mid new level (get_or c.args.lasts.now level None) (get_or c.args.links.now level None) (i.low level (omega (arith, below, other)) low) (levels level other));
            later = λ level from. same_level old mid new level (i.later level (omega (arith, from))) (levels level (omega (arith, from)));
            high = λ level above. same_level old mid new level (i.high level above) (levels level (omega (arith, above, within)));
            rest = same_rest old mid new i.rest (subst (λ (s : Rows g.row.L). SameRest mid s) is w.set_link.ensures.rest);
          })
      | else-level-top w ↦ (
          let above : c.args.top < k = omega (arith, w.if-level-top.false) in
          let is : mid ≡ new = sym w.self-is in
          record {
            low = λ level below low. subst (λ (s : Rows g.row.L). IsRelinked old s level (get_or c.args.lasts.now level None) (get_or c.args.links.now level None)) is (i.low level (omega (arith, below, low, above)) low);
            later = λ level from. subst (λ (s : Rows g.row.L). SameLevel old s level) is (i.later level (omega (arith, from)));
            high = λ level higher. subst (λ (s : Rows g.row.L). SameLevel old s level) is (i.high level higher);
            rest = subst (λ (s : Rows g.row.L). SameRest old s) is i.rest;
          })
    ]
