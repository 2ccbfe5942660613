-- A tick of the slice leaves where a thread stands.
use Rattle.std.proofs.Common.{◌≡◌, ◌-◌, List, Bool, true, false, refl}
use Rattle.std.specs.Prelude.{if◌then◌else◌, ◌==◌}
use Rattle.rt_plain.specs.kernel.State.{Thread}
use Rattle.rt_plain.specs.kernel.Ticks.{thread_after_slice}
use Rattle.object_box.specs.declared.object.Object.{Object}
use Rattle.mutex_tables.proofs.BaseLemmas.{IsApart}
use Rattle.mutex_tables.proofs.SeenLemmas.{IsSameFor}

abbrev sliced : Bool → Thread → Thread
sliced used row = if used then record row { left = row.slice; marked = true } else record row { left = row.left - 1 }

pub slice-apart : IsApart thread_after_slice
slice-apart row base = by_test (row.left - 1 == 0)
  where
    by_test : (d : Bool) → record (sliced d row) { base = base } ≡ sliced d (record row { base = base })
    by_test true = refl
    by_test false = refl

pub slice-same : (objects : List Object) (row : Thread) → IsSameFor objects (thread_after_slice row) row
slice-same objects row = by_test (row.left - 1 == 0)
  where
    by_test : (d : Bool) → IsSameFor objects (sliced d row) row
    by_test true = record { base = refl; closed = refl; wait = refl; known = refl }
    by_test false = record { base = refl; closed = refl; wait = refl; known = refl }
