use Rattle.std.proofs.Common.{◌≡◌, ◌+◌, ◌++◌, length, drop}
use Rattle.rt_base.specs.declared.codes.Code.{Code}
use Rattle.rt_plain.specs.kernel.Effects.{each_effect}
use Rattle.rt_kernel.specs.View.{state_of}
use Rattle.rt_kernel.specs.Wake.{follow_effect}
use Rattle.rt_kernel.proofs.state.State.follow_woken.Given as goal

-- what is left does the rest of all
abbrev pub invariant-loop-i : goal.invariant-loop-i
invariant-loop-i l = record {
  woken : l.self.woken ≡ l.fn.self.woken;
  tables : l.self.tables ≡ l.fn.self.tables;
  numbers : l.self.numbers ≡ l.fn.self.numbers;
  count : length l.out.items ≡ length l.fn.out.items + l.i;
  room : l.out.room ≡ l.fn.out.room;
  state : (each_effect (λ w. follow_effect Code.Ok w.0) (drop l.i l.fn.self.woken) (state_of l.self)).state ≡ (each_effect (λ w. follow_effect Code.Ok w.0) l.fn.self.woken (state_of l.fn.self)).state;
  lines : l.out.items ++ (each_effect (λ w. follow_effect Code.Ok w.0) (drop l.i l.fn.self.woken) (state_of l.self)).lines ≡ l.fn.out.items ++ (each_effect (λ w. follow_effect Code.Ok w.0) l.fn.self.woken (state_of l.fn.self)).lines;
}
