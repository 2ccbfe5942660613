use Rattle.std.proofs.Common.{◌≡◌, length, drop, fold}
use Rattle.rt_plain.specs.kernel.Ticks.{next_tick_state, with_slice_used}
use Rattle.rt_kernel.specs.Limits.{limits_of}
use Rattle.rt_kernel.specs.View.{state_of}
use Rattle.rt_kernel.proofs.state.State.begin_tick.Given as goal

-- what is left does the rest of all
abbrev pub invariant-loop-core : goal.invariant-loop-core
invariant-loop-core l = record {
  cores : l.self.cores ≡ l.fn.self.cores;
  limits : limits_of l.self.tables ≡ limits_of l.fn.self.tables;
  threads : length l.self.tables.threads ≡ length l.fn.self.tables.threads;
  state : fold with_slice_used (state_of l.self) (drop l.core l.fn.self.cores.running) ≡ next_tick_state (state_of l.fn.self);
}
