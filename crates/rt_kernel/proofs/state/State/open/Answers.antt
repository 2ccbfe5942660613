use Rattle.std.proofs.Common.{◌≡◌, ◌∙◌, List, ap, refl}
use Rattle.kernel_cores.specs.PlainCores.{idle_cores}
use Rattle.kernel_timers.specs.Alarmed.{AlarmsSeen}
use Rattle.kernel_timers.specs.Arming.{opened as opened_timers, started}
use Rattle.pm_core.specs.Votes.{PlainVotes}
use Rattle.rt_base.specs.declared.codes.RunMode.{RunMode}
use Rattle.rt_plain.specs.PlainBoard.{PlainBoard}
use Rattle.rt_plain.specs.declared.board.TimerDef.{TimerDef}
use Rattle.rt_kernel.specs.declared.state.State.{State as KernelState}
use Rattle.rt_kernel.proofs.OpenLemmas.{opened}
use Rattle.rt_kernel.proofs.state.State.open.Goals as goal

pub returns-clause-state : goal.returns-clause-state
returns-clause-state c =
    let first : KernelState = record { numbers = c.start-numbers.result; tables = c.in_ok-tables.tables; cores = c.in_ok-cores.cores; armed = c.start-numbers.new.self; devices = c.in_ok-devices.devices; pools = c.in_ok-pools.pools; votes = c.new-votes.result; run_mode = RunMode.Normal; waited = c.in_ok-waited.waited; woken = c.in_ok-woken.woken; told = c.in_ok-told.told } in
    let defs : c.as_slice.result.now ≡ c.args.board.now.timers = c.as_slice.ensures ∙ ap (λ (b : PlainBoard). b.timers) c.board.view_is in
    let later : c.as_slice-2.result.now ≡ c.args.board.now.timers = c.as_slice-2.ensures ∙ ap (λ (b : PlainBoard). b.timers) c.board.view_is in
    let armed : c.start-numbers.new.self ≡ record (opened_timers c.args.board.now.timers) { rows = (started c.args.board.now.timers).rows } =
    c.start-numbers.ensures.rows ∙ ap (λ (a : AlarmsSeen). record a { rows = (started c.as_slice-2.result.now).rows }) (c.in_ok-armed.ensures ∙ ap opened_timers defs) ∙ ap (λ (ds : List TimerDef). record (opened_timers c.args.board.now.timers) { rows = (started ds).rows }) later in
    opened c.args.board.now first c.requires (c.start-numbers.ensures.numbers ∙ ap (λ (ds : List TimerDef). (started ds).numbers) later) c.in_ok-tables.ensures (c.in_ok-cores.ensures ∙ ap (λ (b : PlainBoard). idle_cores b.cores) c.board.view_is) armed c.in_ok-devices.ensures c.in_ok-pools.ensures (ap (λ (v : PlainVotes). v.votes) c.new-votes.ensures) refl
