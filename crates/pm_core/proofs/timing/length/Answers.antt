use Rattle.std.proofs.Common.{◌≡◌, ℕ, Bool, true, false, Some, None, min, cond, unwrap_or, refl, sym, ap, ◌∙◌}
use Rattle.std.specs.Bool.{then_some}
use Rattle.rt_plain.specs.kernel.LpClock.{ticks_ahead}
use Rattle.pm_core.specs.Moments.{long_enough}
use Rattle.pm_core.proofs.Lengths.{length_to-computed}
use Rattle.pm_core.proofs.timing.length.Goals as goal

then_some-cond : (b : Bool) (n : ℕ) → then_some b n ≡ cond b (Some n) None
then_some-cond true n = refl
then_some-cond false n = refl

pub returns : goal.returns
returns c = λ dues arrivals due arrival.
    let k = c.args.clock.now in
    let ahead : c.min-ahead.result ≡ min (min (min c.args.lpmax c.args.until) (unwrap_or c.args.next_due c.args.lpmax)) (unwrap_or c.args.next_arrival c.args.lpmax) =
    c.min-ahead.ensures ∙ ap (λ n. min n c.unwrap_or-arrival.result) (c.min-2.ensures ∙ ap (λ n. min n c.unwrap_or-due.result) c.min.ensures)
    ∙ ap (λ n. min (min (min c.args.lpmax c.args.until) n) c.unwrap_or-arrival.result) c.unwrap_or-due.ensures
    ∙ ap (λ n. min (min (min c.args.lpmax c.args.until) (unwrap_or c.args.next_due c.args.lpmax)) n) c.unwrap_or-arrival.ensures in
    let whole = length_to-computed dues arrivals
    c.args.next_due c.args.next_arrival k.moment c.args.until c.args.lpmax
    c.requires.until_ahead c.requires.due_ahead c.requires.arrival_ahead c.requires.longest
    due arrival in
    c.then_some.ensures ∙ then_some-cond _ _ ∙ ap (long_enough c.args.thresh) (c.set-ticks.ensures.ticks ∙ ap (ticks_ahead k.h k.q k.moment) (ahead ∙ sym whole))
