use Rattle.std.proofs.Common.{◌*◌, ◌∙◌, ap, sym}
use Rattle.rt_base.specs.declared.codes.RunMode.{RunMode}
use Rattle.rt_plain.specs.runs.Schedules.{round_count}
use Rattle.core_runner.specs.Moves.{drawn_steps, turn_steps}
use Rattle.core_runner.proofs.PlaceLemmas.{period}
use Rattle.core_runner.proofs.place.Place.begin_period.Goals as goal

pub returns : goal.returns
returns c = λ s mode.
    let b = c.args.board.now in
    period b _ s c.requires.spent
    (c.period_steps-draws.ensures.drawn ∙ ap (λ (m : RunMode). drawn_steps b.schedule (round_count m * b.cores)) (sym mode))
    (c.period_steps-draws.ensures.in_turn ∙ ap (λ (m : RunMode). turn_steps b.schedule (round_count m * b.cores)) (sym mode))
