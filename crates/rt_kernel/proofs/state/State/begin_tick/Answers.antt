use Rattle.std.proofs.Common.{ℕ, ◌+◌, ◌<◌, ◌≤◌, arith, List, Option, None, refl, sym, ap, ◌∙◌, length, fold, drop, slice_index_or}
use Rattle.std.proofs.lemmas.List.{drop_all}
use Rattle.rt_plain.specs.kernel.State.{State}
use Rattle.rt_plain.specs.kernel.Ticks.{with_slice_used}
use Rattle.kernel_cores.specs.PlainCores.{PlainCores}
use Rattle.kernel_timers.specs.Alarmed.{AlarmsSeen}
use Rattle.rt_kernel.specs.View.{state_of}
use Rattle.rt_kernel.proofs.TickLemmas.{slice-next, runs-there}
use Rattle.rt_kernel.proofs.state.State.begin_tick.Goals as goal

pub loop-core-init : goal.loop-core-init
loop-core-init c = record {
  cores = refl;
  limits = refl;
  threads = refl;
  state = ap (λ (a : AlarmsSeen). fold with_slice_used (state_of (record c.args.self.now { armed = a })) c.args.self.now.cores.running) c.advance.ensures;
}

pub use_slice-requires-clause-core : goal.use_slice-requires-clause-core
use_slice-requires-clause-core c = omega (arith, c.loop-core-test.true, c.requires.cores, ap (λ (k : PlainCores). length k.running) c.loop-core.invariant.cores)

pub use_slice-requires-clause-running : goal.use_slice-requires-clause-running
use_slice-requires-clause-running c = runs-there c.args.self.now c.loop-core.self c.loop-core.core c.loop-core.invariant.cores c.loop-core.invariant.threads c.requires.running

pub loop-core-preserved : goal.loop-core-preserved
loop-core-preserved c =
    let is = c.loop-core.invariant in
    let running : List (Option ℕ) = c.args.self.now.cores.running in
    let core : ℕ = c.loop-core.core in
    let s : State = state_of c.loop-core.self in
    let within : core < length running = omega (arith, c.loop-core-test.true, c.requires.cores) in
    record {
      cores = c.use_slice.ensures.cores ∙ is.cores;
      limits = c.use_slice.ensures.limits ∙ is.limits;
      threads = c.use_slice.ensures.threads ∙ is.threads;
      state =
          ap (λ (u : State). fold with_slice_used u (drop (core + 1) running)) c.use_slice.ensures.state
          ∙ ap (λ (k : PlainCores). fold with_slice_used (with_slice_used s (slice_index_or k.running core None)) (drop (core + 1) running)) is.cores
          ∙ sym (slice-next running core s within)
          ∙ is.state;
    }

pub returns-clause-state : goal.returns-clause-state
returns-clause-state c =
    let running : List (Option ℕ) = c.args.self.now.cores.running in
    let past : length running ≤ c.loop-core.core = omega (arith, c.loop-core-test.false, c.requires.cores) in
    ap (λ (rs : List (Option ℕ)). fold with_slice_used (state_of c.loop-core.self) rs) (sym (drop_all c.loop-core.core running past)) ∙ c.loop-core.invariant.state
