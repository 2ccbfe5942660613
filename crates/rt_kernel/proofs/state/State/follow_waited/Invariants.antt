use Rattle.std.proofs.Common.{◌≡◌, ◌+◌, ◌++◌, length, drop}
use Rattle.rt_base.specs.declared.codes.Code.{Code}
use Rattle.rt_plain.specs.kernel.Effects.{each_effect}
use Rattle.rt_kernel.specs.View.{state_of}
use Rattle.rt_kernel.specs.Wake.{follow_effect}
use Rattle.rt_kernel.proofs.state.State.follow_waited.Given as goal

-- what is left does the rest of all
abbrev pub invariant-loop-i : goal.invariant-loop-i
invariant-loop-i l = record {
  waited : l.self.waited ≡ l.fn.self.waited;
  tables : l.self.tables ≡ l.fn.self.tables;
  numbers : l.self.numbers ≡ l.fn.self.numbers;
  count : length l.out.items ≡ length l.fn.out.items + l.i;
  room : l.out.room ≡ l.fn.out.room;
  state : (each_effect (follow_effect Code.Error) (drop l.i l.fn.self.waited) (state_of l.self)).state ≡ (each_effect (follow_effect Code.Error) l.fn.self.waited (state_of l.fn.self)).state;
  lines : l.out.items ++ (each_effect (follow_effect Code.Error) (drop l.i l.fn.self.waited) (state_of l.self)).lines ≡ l.fn.out.items ++ (each_effect (follow_effect Code.Error) l.fn.self.waited (state_of l.fn.self)).lines;
}
