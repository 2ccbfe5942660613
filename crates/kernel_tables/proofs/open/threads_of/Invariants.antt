use Rattle.std.proofs.Common.{◌≡◌, ◌≤◌, length, take, map}
use Rattle.std.specs.Prelude.{vec_len, vec_capacity}
use Rattle.rt_plain.specs.kernel.Opening.{new_script_thread}
use Rattle.kernel_tables.specs.Threads.{plain_thread}
use Rattle.kernel_tables.proofs.open.threads_of.Given as goal

abbrev pub invariant-loop-def : goal.invariant-loop-def
invariant-loop-def l = record { kept : map plain_thread l.threads.items ≡ map new_script_thread (take l.def-index l.defs); len : vec_len l.threads ≡ l.def-index; room : length l.defs ≤ vec_capacity l.threads }
