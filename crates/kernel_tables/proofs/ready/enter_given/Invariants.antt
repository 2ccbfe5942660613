use Rattle.std.proofs.Common.{ℕ, ◌≡◌, ◌++◌, map, take}
use Rattle.ready_list.specs.Ordered.{with_rows}
use Rattle.kernel_tables.specs.Ready.{row_for}
use Rattle.kernel_tables.proofs.ready.enter_given.Given as goal

-- those so far
abbrev pub invariant-loop-i : goal.invariant-loop-i
invariant-loop-i l = l.ready ≡ with_rows l.initial.ready (l.initial.ready.rows ++ map (row_for l.threads) (take l.i (map (λ (w : ℕ × ℕ). w.0) l.woken)))
