use Rattle.std.proofs.Common.{◌≡◌, ℕ, drop, map}
use Rattle.rt_base.specs.declared.codes.Code.{Code}
use Rattle.mutex_tables.specs.Mutexes.{MayWakeAll, roused_all}
use Rattle.mutex_tables.proofs.close.wake_passed.Given as goal

-- the threads that are left lead to what all of them lead to
abbrev pub invariant-loop-i : goal.invariant-loop-i
invariant-loop-i l = record { same : roused_all l.tables l.graph Code.Ok (map (λ (p : ℕ × ℕ). p.1) (drop l.i l.passes)) ≡ roused_all l.fn.tables l.graph Code.Ok (map (λ (p : ℕ × ℕ). p.1) l.passes); may : MayWakeAll l.tables l.graph (map (λ (p : ℕ × ℕ). p.1) (drop l.i l.passes)) }
