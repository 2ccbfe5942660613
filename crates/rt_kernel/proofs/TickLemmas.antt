-- The slices of the threads that run, one core after the other.
use Rattle.std.proofs.Common.{◌≡◌, ℕ, suc, ◌+◌, ◌<◌, arith, List, Option, Some, None, sym, ap, ◌∙◌, subst, length, fold, drop, slice_index_or}
use Rattle.std.specs.Prelude.{IfSome}
use Rattle.std.proofs.Math.Seq.{drop-cons}
use Rattle.rt_plain.specs.kernel.State.{State, running_on}
use Rattle.rt_plain.specs.kernel.Ticks.{with_slice_used}
use Rattle.kernel_cores.specs.PlainCores.{PlainCores}
use Rattle.rt_kernel.specs.declared.state.State.{State as KernelState}
use Rattle.rt_kernel.specs.View.{state_of}
use Rattle.rt_kernel.proofs.NextCallLemmas.{if-some}

-- what is left is the slice of the next core's thread, and then the rest
pub slice-next : (running : List (Option ℕ)) (core : ℕ) (s : State) → core < length running → fold with_slice_used s (drop core running) ≡ fold with_slice_used (with_slice_used s (slice_index_or running core None)) (drop (core + 1) running)
slice-next running core s there =
    let next : suc core ≡ core + 1 = omega arith in
    ap (λ (rs : List (Option ℕ)). fold with_slice_used s rs) (drop-cons running core None there) ∙ ap (λ n. fold with_slice_used (with_slice_used s (slice_index_or running core None)) (drop n running)) next

-- a thread that runs is there, also after others' slices have fallen
pub runs-there : (old now : KernelState) (core : ℕ) → now.cores ≡ old.cores → length now.tables.threads ≡ length old.tables.threads → ((core r : ℕ) → running_on (state_of old) core ≡ Some r → r < length old.tables.threads) → IfSome (running_on (state_of now) core) (λ r. r < length now.tables.threads)
runs-there old now core cores threads there = if-some (running_on (state_of now) core) (λ r. r < length now.tables.threads) (λ r is. subst (λ n. r < n) (sym threads) (there core r (ap (λ (c : PlainCores). slice_index_or c.running core None) (sym cores) ∙ is)))
