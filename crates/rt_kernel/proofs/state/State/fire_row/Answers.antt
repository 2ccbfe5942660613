use Rattle.std.proofs.Common.{◌≡◌, ◌+◌, ◌-◌, ◌<◌, ◌≤◌, ℕ, arith, length, ap, sym, ◌∙◌, subst}
use Rattle.rt_plain.specs.kernel.State.{State, OfThread}
use Rattle.kernel_timers.specs.Alarmed.{alarm_of, names_of, timer_at}
use Rattle.rt_kernel.specs.Actions.{MayAct}
use Rattle.rt_kernel.specs.View.{state_of}
use Rattle.rt_kernel.proofs.DoesLemmas.{does_by}
use Rattle.rt_kernel.proofs.TimerFireLemmas.{does_more, thread_fires, timer_fires, timer_place}
use Rattle.rt_kernel.proofs.state.State.fire_row.Goals as goal

pub returns-then-no-lt256-clause-acts : goal.returns-then-no-lt256-clause-acts
returns-then-no-lt256-clause-acts g c =
    let s : State = state_of c.args.self.now in
    let same : c.no.inside.0 ≡ c.args.no = c.no.view_is in
    does_by (thread_fires c.args.board.now s (alarm_of (names_of s.timers) c.args.no) c.no.inside.0 (c.know_timers.ensures.threads c.args.no (omega (arith, c.if-no-lt256.true, same)) ∙ ap (λ n. OfThread n) (sym same)) c.know_waits.ensures)
    (does_more 2 (2 + length c.args.self.now.tables.threads) (omega arith) c.fire.ensures.acts)

pub returns-else-no-lt256-clause-acts : goal.returns-else-no-lt256-clause-acts
returns-else-no-lt256-clause-acts g c =
    let s : State = state_of c.args.self.now in
    let who : ℕ = c.no.inside.0 in
    let same : who ≡ c.args.no = c.no.view_is in
    let high : 256 ≤ who = omega (arith, c.if-no-lt256.false) in
    let within : who < 256 + length s.timers = omega (arith, c.requires.there, same) in
    let there : who - 256 < length s.timers = omega (arith, within, high) in
    let may : MayAct (timer_at s.timers (who - 256)) = subst (λ (n : ℕ). MayAct (timer_at s.timers (n - 256))) (sym same) (c.requires.timer (omega (arith, high, same))) in
    does_by (timer_fires c.args.board.now s (alarm_of (names_of s.timers) c.args.no) (timer_at s.timers (who - 256)) (ap (alarm_of (names_of s.timers)) (sym same) ∙ timer_place s who high within c.know_timers.ensures.numbered) (c.know_timers.ensures.own (who - 256) there).found may.hard) c.fire_timer.ensures.acts
