-- Who runs next goes by current priorities.
use Rattle.std.proofs.Common.{ℕ, ◌≡◌, ◌<◌, List, [], ◌∷◌, Option, Some, None, IfSome, true, false, refl, sym, ap, ◌∙◌, subst, length, map}
use Rattle.std.specs.List.{AllByRecursion}
use Rattle.rt_plain.specs.kernel.State.{Thread, is_closed, is_among}
use Rattle.rt_plain.specs.kernel.Pick.{ReadyRow, pick, pick_among, ready_row}
use Rattle.kernel_tables.specs.Ready.{row_for}
use Rattle.kernel_tables.specs.Threads.{row_at}
use Rattle.mutex_tie.specs.Changes.{AreLive}
use Rattle.mutex_tables.specs.declared.tables.MutexTables.TheInside.{Inside}
use Rattle.mutex_tables.specs.MutexTabled.{MutexTabled, plain_state}
use Rattle.mutex_tables.proofs.BaseLemmas.{length-based}
use Rattle.mutex_tables.proofs.SeenLemmas.{view_of, Keeps, inside-cur, inside-row}

rows-seen : (k : Inside) (v : MutexTabled) (ts : List ℕ) → view_of k ≡ v → Keeps k → AllByRecursion (λ t. (t < length v.threads) × (is_closed (row_at v.threads t).stage ≡ false)) ts → map (row_for k.tables.threads) ts ≡ map (ready_row (plain_state v)) ts
rows-seen k v [] is keeps all = refl
rows-seen k v (t ∷ ts) is keeps (this, all) =
    ap (λ (r : ReadyRow). r ∷ map (row_for k.tables.threads) ts) row
    ∙ ap (λ (rs : List ReadyRow). ready_row (plain_state v) t ∷ rs) (rows-seen k v ts is keeps all)
  where
    prio : (row_at k.tables.threads t).base ≡ (ready_row (plain_state v) t).prio
    prio = inside-cur k v t is keeps this.0 this.1

    core : (row_at k.tables.threads t).core ≡ (row_at v.threads t).core
    core = sym (ap (λ (r : Thread). r.core) (inside-row k v t is keeps this.0))

    row : row_for k.tables.threads t ≡ ready_row (plain_state v) t
    row = λ j. record { thread = t; prio = prio j; core = core j }

pub pick-seen : (k : Inside) (v : MutexTabled) (core : ℕ) → view_of k ≡ v → Keeps k → AreLive (plain_state v) → pick_among (map (row_for k.tables.threads) k.tables.ready) core ≡ pick (plain_state v) core
pick-seen k v core is keeps live =
    ap (λ (x : MutexTabled). pick_among (map (row_for k.tables.threads) x.ready) core) is
    ∙ ap (λ (rows : List ReadyRow). pick_among rows core) (rows-seen k v v.ready is keeps live)

pub picked-seen : (k : Inside) (v : MutexTabled) (picked : Option ℕ) → view_of k ≡ v → IfSome picked (λ t. (t < length k.tables.threads) × (is_among k.tables.ready t ≡ true)) → IfSome picked (λ t. (t < length v.threads) × (is_among v.ready t ≡ true))
picked-seen k v None is there = tt
picked-seen k v (Some t) is there = (
  subst (λ (x : MutexTabled). t < length x.threads) is (subst (λ n. t < n) (sym (length-based k.bases.items k.tables.threads)) there.0),
  subst (λ (x : MutexTabled). is_among x.ready t ≡ true) is there.1,
)
