use Rattle.std.proofs.Common.{◌≡◌, ◌∙◌, true, false, refl, ap, sym, subst, arith}
use Rattle.rt_plain.specs.PlainBoard.{PlainBoard}
use Rattle.rt_plain.specs.kernel.Opening.{open_state}
use Rattle.rt_plain.specs.runs.Runs.{Course}
use Rattle.rt_plain.specs.runs.Schedules.{is_stopped, listed_of, listed_place, most_turns, words_of}
use Rattle.core_runner.specs.Limits.{over_by}
use Rattle.core_runner.specs.Places.{plain_place}
use Rattle.core_runner.proofs.RunLemmas.{on_way-opened, on_way-turn, on_way-stopped}
use Rattle.core_runner.proofs.turns.drive.Goals as goal

pub loop-turns-init : goal.loop-turns-init
loop-turns-init g c =
    let b = c.args.machine.now.board in
    on_way-opened (over_by c.args.within b) b c.args.machine.now _ _ refl c.requires.opened
    (subst (λ (x : PlainBoard). plain_place x c.opened-place.result ≡ listed_place x x.schedule (listed_of x.schedule) (open_state b) (words_of x.schedule)) c.board-2.ensures
    (c.opened-place.ensures (open_state b) (sym (c.run_mode.ensures ∙ ap (λ (x : Course). x.state.run_mode) c.requires.opened))))
    (c.most_turns-turns.ensures ∙ ap (λ (x : PlainBoard). most_turns x (listed_of x.schedule)) c.board-3.ensures)

pub returns-then-has_stopped-clause-run : goal.returns-then-has_stopped-clause-run
returns-then-has_stopped-clause-run g c =
    let way = c.loop-turns.invariant in
    let stopped = sym c.has_stopped.ensures ∙ c.if-has_stopped.true in
    on_way-stopped _ _ c.loop-turns.machine _ _ way (subst (λ (b : PlainBoard). is_stopped (over_by c.args.within b) c.loop-turns.machine.course ≡ true) way.board stopped)

pub loop-turns-preserved : goal.loop-turns-preserved
loop-turns-preserved g c =
    let way = c.loop-turns.invariant in
    let going = sym c.has_stopped.ensures ∙ c.if-has_stopped.false in
    on_way-turn _ _ c.loop-turns.machine _ c.loop-turns.place _ c.loop-turns.turns way (omega (arith, c.loop-turns-test.true)) (subst (λ (b : PlainBoard). is_stopped (over_by c.args.within b) c.loop-turns.machine.course ≡ false) way.board going) c.in_ok-turn.ensures.turned c.in_ok-turn.ensures.board
