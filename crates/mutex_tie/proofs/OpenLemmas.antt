-- Before there is a mutex.
use Rattle.std.proofs.Common.{ℕ, ◌≡◌, ◌<◌, zero, suc, List, [], None, true, false, refl, arith, replicate}
use Rattle.std.specs.Prelude.{slice_index_or}
use Rattle.std.proofs.lemmas.List.{length-replicate}
use Rattle.std.proofs.lemmas.List.Elements.{All-nil}
use Rattle.rt_plain.specs.kernel.State.{Thread, no_thread}
use Rattle.rt_plain.specs.kernel.Ownership.{Taken}
use Rattle.object_box.specs.declared.object.Object.{Object}
use Rattle.object_box.specs.Objects.{has_number}
use Rattle.mutex_chain.specs.Owners.{is_ceiling}
use Rattle.mutex_tie.specs.Tie.{graph_of_threads, knows_mutex, IsGraphOf}

no-ceiling : (n i : ℕ) → is_ceiling (slice_index_or (replicate n None) i None) ≡ false
no-ceiling zero i = refl
no-ceiling (suc n) zero = refl
no-ceiling (suc n) (suc i) = no-ceiling n i

pub owned-begins : (threads : List Thread) (limit : ℕ) → ((t : ℕ) → knows_mutex [] (slice_index_or threads t no_thread).stage ≡ true) → IsGraphOf threads (record { limit = limit; objects = [] }) (graph_of_threads threads limit)
owned-begins threads limit known = record {
  members = refl;
  places = length-replicate limit None;
  sound = record { few = omega arith; below = All-nil (λ (x : Object). x.no < limit); numbers = λ i j d lt within. absurd (omega (arith, within)); names = λ i j d lt within. absurd (omega (arith, within)) };
  there = no-ceiling limit;
  taken = All-nil (λ (h : Taken). has_number [] h.mutex ≡ true);
  once = λ i j d lt within. absurd (omega (arith, within));
  known = known;
}
