-- An edit of the graph, after which the lists get the new current priorities.
use Rattle.std.proofs.Common.{ℕ, ◌≡◌, ◌<◌, ◌⊎◌, inl, arith, List, Option, Some, None, Bool, true, false, not, refl, sym, ap, ◌∙◌, subst, length, slice_index, slice_set, eqb}
use Rattle.std.specs.Prelude.{if◌then◌else◌}
use Rattle.std.proofs.lemmas.Bool.{eqb-true, eqb-false}
use Rattle.std.proofs.lemmas.List.{length-set}
use Rattle.rt_plain.specs.kernel.State.{State, Thread, is_closed, is_among}
use Rattle.rt_plain.specs.kernel.Ownership.{Ownership, Member, MutexWait, CurChange, member_at, is_there, cur_in, base_edit, changes}
use Rattle.rt_plain.proofs.kernel.TallyLemmas.{here-set, other-set}
use Rattle.object_box.specs.declared.object.Object.{Object}
use Rattle.object_box.specs.Objects.{ClassObjects}
use Rattle.kernel_tables.specs.Tabled.{Tabled}
use Rattle.kernel_tables.specs.Threads.{row_at, with_row}
use Rattle.mutex_chain.specs.Graph.{ChangeList}
use Rattle.mutex_tie.specs.Tie.{IsGraphOf, StandsFor, member_of, wait_in}
use Rattle.mutex_tie.specs.Changes.{CameFrom, new_curs}
use Rattle.mutex_tie.proofs.NewCurLemmas.{changes-tied}
use Rattle.mutex_tie.proofs.WakeLemmas.{stands-based}
use Rattle.mutex_tables.specs.declared.tables.MutexTables.TheInside.{Inside}
use Rattle.mutex_tables.specs.MutexTabled.{MutexTabled, based, seen, plain_state}
use Rattle.mutex_tables.specs.Kept.{AreMutexTables}
use Rattle.mutex_tables.specs.Moved.{moved_behind, renewed, AreWithin}
use Rattle.mutex_tables.proofs.BaseLemmas.{length-based, based-stage, based-rebased}
use Rattle.mutex_tables.proofs.SeenLemmas.{view_of, Keeps, inside-stands}
use Rattle.mutex_tables.proofs.RenewLemmas.{AreNear, member-at, members-count, changes-within, renewed-length, renewed-rest, renewed-based, renewed-seen, renewed-current, renewed-ready}

-- the tables in which all is done but that the lists follow
pub record MayFollow (before : List ℕ) (k : Tabled) (bases : List ℕ) (c : ClassObjects) (o p : Ownership) : Type 0 where
  pub sized : length bases ≡ length k.threads
  pub levels : (t : ℕ) → t < length bases → slice_index bases t < k.levels
  pub graph : IsGraphOf (based bases k.threads) c p
  pub near : (t : ℕ) → t < length k.threads → is_closed (row_at k.threads t).stage ≡ false
      → (((row_at k.threads t).base ≡ cur_in o t) × (is_among k.ready t ≡ is_among before t)) ⊎ (((row_at k.threads t).base ≡ cur_in p t) × (is_among before t ≡ false))
  pub was : (t : ℕ) → t < length k.threads → is_closed (row_at k.threads t).stage ≡ false → is_there (member_at o t) ≡ true

abbrev made_of : Bool → ℕ → Option MutexWait → Option Member
made_of closed base wait = if closed then None else Some (record { base = base; wait = wait })

there-open : (objects : List Object) (row : Thread) → is_there (member_of objects row) ≡ not (is_closed row.stage)
there-open objects row = by_test (is_closed row.stage)
  where
    by_test : (d : Bool) → is_there (made_of d row.base (wait_in objects row.stage)) ≡ not d
    by_test true = refl
    by_test false = refl

-- a thread is in the graph till it ends
pub graph-there : (k : Tabled) (bases : List ℕ) (c : ClassObjects) (o : Ownership) (t : ℕ) → IsGraphOf (based bases k.threads) c o → is_there (member_at o t) ≡ not (is_closed (row_at k.threads t).stage)
graph-there k bases c o t tied =
    ap is_there (member-at (based bases k.threads) c o t tied)
    ∙ there-open c.objects (row_at (based bases k.threads) t)
    ∙ ap (λ s. not (is_closed s)) (based-stage bases k.threads t)

near-of : (before : List ℕ) (k : Tabled) (bases : List ℕ) (c : ClassObjects) (o p : Ownership) → MayFollow before k bases c o p → AreNear before k o p
near-of before k bases c o p f = record {
  sized = members-count (based bases k.threads) c p f.graph ∙ length-based bases k.threads;
  near = f.near;
  was = f.was;
  is = λ t there. graph-there k bases c p t f.graph;
}

pub follow-within : (before : List ℕ) (k : Tabled) (bases : List ℕ) (c : ClassObjects) (o p : Ownership) → MayFollow before k bases c o p → AreWithin k (changes o p)
follow-within before k bases c o p f = changes-within k bases c o p f.sized f.levels f.graph

pub follow-keeps : (before : List ℕ) (k : Tabled) (bases : List ℕ) (c : ClassObjects) (o p : Ownership) → MayFollow before k bases c o p → AreMutexTables (renewed k (changes o p)) bases c p
follow-keeps before k bases c o p f = record {
  sized = f.sized ∙ sym (renewed-length k (changes o p));
  levels = λ t below. subst (λ n. slice_index bases t < n) (sym (ap (λ (x : Tabled). x.levels) (renewed-rest k (changes o p)))) (f.levels t below);
  graph = subst (λ (rows : List Thread). IsGraphOf rows c p) (sym (renewed-based bases k (changes o p) f.sized)) f.graph;
  current = renewed-current before o p k (near-of before k bases c o p f);
}

pub follow-seen : (before : List ℕ) (k : Tabled) (bases : List ℕ) (c : ClassObjects) (o p : Ownership) → MayFollow before k bases c o p
    → seen (renewed k (changes o p)) bases c p ≡ record (seen k bases c p) { ready = moved_behind before (changes o p) k.ready }
follow-seen before k bases c o p f =
    renewed-seen bases c p k (changes o p) f.sized
    ∙ ap (λ (ready : List ℕ). record (seen k bases c p) { ready = ready }) (renewed-ready before o p k (near-of before k bases c o p f))

-- the changes are by what contracts see before and after
pub follow-changes : (i : Inside) (v : MutexTabled) (k : Tabled) (bases : List ℕ) (c : ClassObjects) (p : Ownership) → view_of i ≡ v → Keeps i → MayFollow v.ready k bases c i.graph p
    → length k.threads ≡ length i.tables.threads → ((t : ℕ) → is_closed (row_at k.threads t).stage ≡ false → is_closed (row_at i.tables.threads t).stage ≡ false)
    → changes i.graph p ≡ new_curs (plain_state v) (plain_state (seen (renewed k (changes i.graph p)) bases c p))
follow-changes i v k bases c p is keeps f size ended =
    changes-tied (plain_state (view_of i)) (plain_state (seen new bases c p)) i.names.mutex c i.graph p (inside-stands i keeps) after came
    ∙ ap (λ (x : MutexTabled). new_curs (plain_state x) (plain_state (seen new bases c p))) is
  where
    new : Tabled
    new = renewed k (changes i.graph p)

    kept : AreMutexTables new bases c p
    kept = follow-keeps v.ready k bases c i.graph p f

    after : StandsFor (plain_state (seen new bases c p)) c p
    after = record { owned = kept.graph; mutexes = refl; holdings = refl }

    stages : (t : ℕ) → (row_at (based bases new.threads) t).stage ≡ (row_at k.threads t).stage
    stages t = ap (λ (rows : List Thread). (row_at rows t).stage) (renewed-based bases k (changes i.graph p) f.sized) ∙ based-stage bases k.threads t

    came : CameFrom (plain_state (view_of i)) (plain_state (seen new bases c p))
    came = record {
      size = length-based i.bases.items i.tables.threads ∙ sym size ∙ sym (renewed-length k (changes i.graph p)) ∙ sym (length-based bases new.threads);
      ended = λ t live. ap is_closed (based-stage i.bases.items i.tables.threads t) ∙ ended t (ap is_closed (sym (stages t)) ∙ live);
    }

-- the tables as code leaves them are those
pub follow-keeps-by : (new k : Tabled) (bases bases_now : List ℕ) (c : ClassObjects) (o p now : Ownership) → new ≡ renewed k (changes o p) → bases_now ≡ bases → now ≡ p → AreMutexTables (renewed k (changes o p)) bases c p → AreMutexTables new bases_now c now
follow-keeps-by new k bases bases_now c o p now tables same graph keeps =
    subst (λ (x : Tabled). AreMutexTables x bases_now c now) (sym tables)
    (subst (λ (bs : List ℕ). AreMutexTables (renewed k (changes o p)) bs c now) (sym same)
    (subst (λ (x : Ownership). AreMutexTables (renewed k (changes o p)) bases c x) (sym graph) keeps))

pub follow-seen-by : (new k : Tabled) (bases bases_now : List ℕ) (c : ClassObjects) (o p now : Ownership) → new ≡ renewed k (changes o p) → bases_now ≡ bases → now ≡ p → seen new bases_now c now ≡ seen (renewed k (changes o p)) bases c p
follow-seen-by new k bases bases_now c o p now tables same graph =
    ap (λ (x : Tabled). seen x bases_now c now) tables
    ∙ ap (λ (bs : List ℕ). seen (renewed k (changes o p)) bs c now) same
    ∙ ap (λ (x : Ownership). seen (renewed k (changes o p)) bases c x) graph

-- the tables by the list of changes that the graph filled
pub renewed-by-list : (new k : Tabled) (cs : List CurChange) (before after : ChangeList) (o p now : Ownership) → new ≡ renewed k cs → cs ≡ after.changes → after ≡ record before { changes = changes o now } → now ≡ p → new ≡ renewed k (changes o p)
renewed-by-list new k cs before after o p now tables slice list graph = tables ∙ ap (renewed k) (slice ∙ ap (λ (x : ChangeList). x.changes) list ∙ ap (changes o) graph)

-- the list of changes is by what contracts see
pub follow-list : (before after : ChangeList) (o p now : Ownership) (v w x : MutexTabled) → after ≡ record before { changes = changes o now } → now ≡ p → changes o p ≡ new_curs (plain_state v) (plain_state w) → x ≡ w → after ≡ record before { changes = new_curs (plain_state v) (plain_state x) }
follow-list before after o p now v w x list graph changed same =
    list
    ∙ ap (λ (cs : List CurChange). record before { changes = cs }) (ap (changes o) graph ∙ changed ∙ sym (ap (λ (y : MutexTabled). new_curs (plain_state v) (plain_state y)) same))

-- another base priority

pub base-follows : (k : Inside) (t base : ℕ) → Keeps k → t < length k.tables.threads → is_closed (row_at k.tables.threads t).stage ≡ false → base < k.tables.levels → MayFollow k.tables.ready k.tables (slice_set k.bases.items t base) k.names.mutex k.graph (base_edit t base k.graph)
base-follows k t base keeps there live level = record {
  sized = length-set k.bases.items t base ∙ keeps.sized;
  levels = λ u low. by_case u low (eqb u t) refl;
  graph = subst (λ (rows : List Thread). IsGraphOf rows k.names.mutex (base_edit t base k.graph)) (sym (based-rebased k.bases.items k.tables.threads t base keeps.sized)) stands.owned;
  near = λ u low lives. inl (keeps.current u low lives, refl);
  was = λ u low lives. graph-there k.tables k.bases.items k.names.mutex k.graph u keeps.graph ∙ ap not lives;
}
  where
    s : State
    s = plain_state (view_of k)

    after : State
    after = record s { threads = with_row s.threads t (λ row. record row { base = base }) }

    stands : StandsFor after k.names.mutex (base_edit t base k.graph)
    stands = stands-based s after k.names.mutex k.graph t base (inside-stands k keeps) (ap is_closed (based-stage k.bases.items k.tables.threads t) ∙ live) refl refl refl

    by_case : (u : ℕ) → u < length (slice_set k.bases.items t base) → (d : Bool) → eqb u t ≡ d → slice_index (slice_set k.bases.items t base) u < k.tables.levels
    by_case u low true is = subst (λ n. n < k.tables.levels) (sym (ap (λ v. slice_index (slice_set k.bases.items t base) v) (eqb-true u t is) ∙ here-set k.bases.items t base 0 (omega (arith, there, keeps.sized)))) level
    by_case u low false is = subst (λ n. n < k.tables.levels) (sym (other-set k.bases.items t u base 0 (eqb-false u t is))) (keeps.levels u (omega (arith, low, length-set k.bases.items t base)))

pub base-seen : (k : Inside) (v : MutexTabled) (t base : ℕ) → view_of k ≡ v → Keeps k → t < length k.tables.threads → is_closed (row_at k.tables.threads t).stage ≡ false → base < k.tables.levels
    → seen (renewed k.tables (changes k.graph (base_edit t base k.graph))) (slice_set k.bases.items t base) k.names.mutex (base_edit t base k.graph)
    ≡ record v { threads = with_row v.threads t (λ row. record row { base = base }); ready = moved_behind v.ready (changes k.graph (base_edit t base k.graph)) v.ready }
base-seen k v t base is keeps there live level =
    follow-seen k.tables.ready k.tables (slice_set k.bases.items t base) k.names.mutex k.graph (base_edit t base k.graph) (base-follows k t base keeps there live level)
    ∙ ap (λ (rows : List Thread). record (view_of k) { threads = rows; ready = moved_behind k.tables.ready (changes k.graph (base_edit t base k.graph)) k.tables.ready }) (based-rebased k.bases.items k.tables.threads t base keeps.sized)
    ∙ ap (λ (x : MutexTabled). record x { threads = with_row x.threads t (λ row. record row { base = base }); ready = moved_behind x.ready (changes k.graph (base_edit t base k.graph)) x.ready }) is
