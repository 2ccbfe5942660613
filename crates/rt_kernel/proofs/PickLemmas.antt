-- Threads that are ready haven't ended.
use Rattle.std.proofs.Common.{◌≡◌, ℕ, ◌<◌, ◌||◌, List, [], ◌∷◌, Bool, true, false, refl, eqb, length, ap, ◌∙◌}
use Rattle.std.specs.List.{AllByRecursion}
use Rattle.std.proofs.lemmas.Bool.{eq-eqb}
use Rattle.rt_plain.specs.kernel.State.{is_among, is_closed}
use Rattle.rt_plain.specs.kernel.Sound.{is_active}
use Rattle.rt_plain.proofs.kernel.Invariant.{active-open, is-there}
use Rattle.kernel_tables.specs.Threads.{row_at}
use Rattle.mutex_tables.specs.MutexTabled.{MutexTabled, plain_state}
use Rattle.mutex_tie.specs.Changes.{AreLive}
use Rattle.rt_kernel.specs.Mutexes.{AreActive}

or-right : (c : Bool) → c || true ≡ true
or-right true = refl
or-right false = refl

or-left : (c d : Bool) → c ≡ true → c || d ≡ true
or-left c d e = ap (λ x. x || d) e

-- threads that are active are there, and haven't ended
all-live : (k : MutexTabled) (ts : List ℕ) → ((u : ℕ) → is_among ts u ≡ true → is_active (row_at k.threads u).stage ≡ true) → AllByRecursion (λ t. (t < length k.threads) × (is_closed (row_at k.threads t).stage ≡ false)) ts
all-live k [] active = tt
all-live k (t ∷ ts) active =
    let live : is_closed (row_at k.threads t).stage ≡ false = active-open (row_at k.threads t).stage (active t (or-left (eqb t t) (is_among ts t) (eq-eqb t t refl))) in
    ((is-there k.threads t live, live), all-live k ts (λ u among. active u (ap (λ c. eqb t u || c) among ∙ or-right (eqb t u))))

pub ready-live : (k : MutexTabled) → AreActive k → AreLive (plain_state k)
ready-live k active = all-live k k.ready active

pub ruleset picks = (ready-live)
