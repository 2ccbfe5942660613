-- A thread stops waiting for a mutex.
use Rattle.std.proofs.Common.{ℕ, ◌≡◌, ◌≢◌, ◌<◌, ◌≤◌, ◌++◌, ◌∷◌, [], arith, List, Option, Some, None, Bool, true, false, not, refl, sym, ap, ◌∙◌, subst, length, is_some, eqb}
use Rattle.std.specs.Option.{option_map}
use Rattle.std.proofs.lemmas.Bool.{false≢true, eqb-true, eqb-false}
use Rattle.std.proofs.lemmas.Option.{none-some}
use Rattle.std.proofs.lemmas.List.{length-set}
use Rattle.rt_base.specs.declared.codes.Code.{Code}
use Rattle.rt_plain.specs.declared.stmt.Call.{Call}
use Rattle.rt_plain.specs.kernel.State.{Thread, Stage, Active, Waiting, InCall, is_closed, is_among}
use Rattle.rt_plain.specs.kernel.Sound.{is_active}
use Rattle.rt_plain.specs.kernel.Priority.{awaited_mutex}
use Rattle.rt_plain.specs.kernel.Ownership.{Ownership, MutexWait, awaited_in, cur_in, is_there, member_at, leave_edit, changes}
use Rattle.object_box.specs.declared.object.Object.{Object}
use Rattle.object_box.specs.Objects.{number_of}
use Rattle.kernel_tables.specs.Tabled.{Tabled, woken_row}
use Rattle.kernel_tables.specs.Threads.{row_at, with_row}
use Rattle.mutex_tie.specs.Tie.{IsGraphOf, wait_in, wait_for, knows_mutex}
use Rattle.mutex_tie.specs.Changes.{new_curs}
use Rattle.mutex_tie.proofs.HoldingLemmas.{wait-tied}
use Rattle.mutex_tables.specs.declared.tables.MutexTables.TheInside.{Inside}
use Rattle.mutex_tables.specs.MutexTabled.{MutexTabled, based, seen, plain_state}
use Rattle.mutex_tables.specs.Kept.{AreMutexTables}
use Rattle.mutex_tables.specs.Moved.{AreWithin, moved_behind, renewed, roused}
use Rattle.mutex_tables.proofs.BaseLemmas.{length-based, based-row, based-stage}
use Rattle.mutex_tables.proofs.SeenLemmas.{view_of, Keeps, inside-there, inside-stands}
use Rattle.mutex_tables.proofs.StageLemmas.{inside-stage}
use Rattle.mutex_tables.proofs.RenewLemmas.{members-count, cur-below}
use Rattle.mutex_tables.proofs.FollowLemmas.{MayFollow, graph-there, follow-within, follow-keeps, follow-seen, follow-changes}
use Rattle.mutex_tables.proofs.RouseLemmas.{rouse-follows, roused-based, roused-here, roused-other, stands-stopped}

-- who waits for a mutex hasn't ended and isn't active
pub waiting-open : (stage : Stage) → awaited_mutex stage ≢ None → (is_closed stage ≡ false) × (is_active stage ≡ false)
waiting-open (Waiting what number) some = (refl, refl)
waiting-open _ some = absurd (some refl)

awaited-there : (objects : List Object) (stage : Stage) → knows_mutex objects stage ≡ true → awaited_mutex stage ≢ None → option_map (λ (w : MutexWait). w.mutex) (wait_in objects stage) ≢ None
awaited-there objects (Waiting (InCall (Call.MutexTake name timeout)) number) known some = by_number (number_of objects name) known
  where
    by_number : (n : Option ℕ) → is_some n ≡ true → option_map (λ (w : MutexWait). w.mutex) (wait_for number n) ≢ None
    by_number None is e = false≢true is
    by_number (Some i) is e = none-some i (sym e)
awaited-there objects _ known some = absurd (some refl)

-- it waits in the graph
pub inside-waits : (k : Inside) (v : MutexTabled) (t : ℕ) → view_of k ≡ v → Keeps k → awaited_mutex (row_at v.threads t).stage ≢ None → awaited_in k.graph t ≢ None
inside-waits k v t is keeps some none = awaited-there k.names.mutex.objects stage (keeps.graph.known t) (λ e. some (ap (λ (x : MutexTabled). awaited_mutex (row_at x.threads t).stage) (sym is) ∙ e)) (ap (option_map (λ (w : MutexWait). w.mutex)) (sym (wait-tied (plain_state (view_of k)) k.names.mutex k.graph t (inside-stands k keeps))) ∙ none)
  where
    stage : Stage
    stage = (row_at (view_of k).threads t).stage

-- a thread that hasn't ended is in the graph
pub inside-member : (k : Inside) (v : MutexTabled) (t : ℕ) → view_of k ≡ v → Keeps k → t < length v.threads → is_closed (row_at v.threads t).stage ≡ false → is_there (member_at k.graph t) ≡ true
inside-member k v t is keeps there live = graph-there k.tables k.bases.items k.names.mutex k.graph t keeps.graph ∙ ap (λ (s : Stage). not (is_closed s)) (inside-stage k v t is keeps there) ∙ ap not live

-- the lists of changes have room for the graph
pub inside-room : (k : Inside) (v : MutexTabled) (room : ℕ) → view_of k ≡ v → Keeps k → length v.threads ≤ room → length k.graph.members ≤ room
inside-room k v room is keeps fits = omega (arith, fits, members-count (based k.bases.items k.tables.threads) k.names.mutex k.graph keeps.graph, ap (λ (x : MutexTabled). length x.threads) is)

-- what an end of a wait for a mutex leaves
module _ (k : Inside) (v : MutexTabled) (t : ℕ) (code : Code) (is : view_of k ≡ v) (keeps : Keeps k) (there : t < length v.threads) (some : awaited_mutex (row_at v.threads t).stage ≢ None) (out : is_among v.ready t ≡ false) where
  here : t < length k.tables.threads
  here = inside-there k v t is there

  live : is_closed (row_at k.tables.threads t).stage ≡ false
  live = ap is_closed (inside-stage k v t is keeps there) ∙ (waiting-open (row_at v.threads t).stage some).0

  abbrev pub after : Ownership
  after = leave_edit t k.graph

  abbrev pub woken : Tabled
  woken = roused k.tables t code (cur_in after t)

  graph : IsGraphOf (based k.bases.items woken.threads) k.names.mutex after
  graph =
      subst (λ (rows : List Thread). IsGraphOf rows k.names.mutex after) (sym (roused-based k.bases.items k.tables t (cur_in after t) code keeps.sized here))
      (stands-stopped (plain_state (view_of k)) k.names.mutex k.graph t code (inside-stands k keeps) (ap is_closed (based-stage k.bases.items k.tables.threads t) ∙ live)).owned

  follows : MayFollow v.ready woken k.bases.items k.names.mutex k.graph after
  follows =
      subst (λ (ready : List ℕ). MayFollow ready woken k.bases.items k.names.mutex k.graph after) (ap (λ (x : MutexTabled). x.ready) is)
      (rouse-follows k.tables k.bases.items k.names.mutex k.graph after t code keeps.sized keeps.levels keeps.current keeps.graph here live (ap (λ (x : MutexTabled). is_among x.ready t) is ∙ out) graph)

  pub stop-within : AreWithin woken (changes k.graph after)
  stop-within = follow-within v.ready woken k.bases.items k.names.mutex k.graph after follows

  pub stop-keeps : AreMutexTables (renewed woken (changes k.graph after)) k.bases.items k.names.mutex after
  stop-keeps = follow-keeps v.ready woken k.bases.items k.names.mutex k.graph after follows

  pub stop-seen : seen (renewed woken (changes k.graph after)) k.bases.items k.names.mutex after ≡ record v { threads = with_row v.threads t (woken_row code); ready = moved_behind v.ready (changes k.graph after) (v.ready ++ t ∷ []) }
  stop-seen =
      follow-seen v.ready woken k.bases.items k.names.mutex k.graph after follows
      ∙ ap (λ (rows : List Thread). record (view_of k) { threads = rows; ready = moved_behind v.ready (changes k.graph after) (k.tables.ready ++ t ∷ []) }) (roused-based k.bases.items k.tables t (cur_in after t) code keeps.sized here)
      ∙ ap (λ (x : MutexTabled). record x { threads = with_row x.threads t (woken_row code); ready = moved_behind v.ready (changes k.graph after) (x.ready ++ t ∷ []) }) is

  open_before : (u : ℕ) → is_closed (row_at woken.threads u).stage ≡ false → is_closed (row_at k.tables.threads u).stage ≡ false
  open_before u opens = by_case (eqb u t) refl
    where
      by_case : (d : Bool) → eqb u t ≡ d → is_closed (row_at k.tables.threads u).stage ≡ false
      by_case true same = ap (λ w. is_closed (row_at k.tables.threads w).stage) (eqb-true u t same) ∙ live
      by_case false apart = ap (λ (r : Thread). is_closed r.stage) (sym (roused-other k.tables t (cur_in after t) u code (eqb-false u t apart))) ∙ opens

  pub stop-changes : changes k.graph after ≡ new_curs (plain_state v) (plain_state (seen (renewed woken (changes k.graph after)) k.bases.items k.names.mutex after))
  stop-changes = follow-changes k v woken k.bases.items k.names.mutex after is keeps follows (length-set k.tables.threads t (record (row_at k.tables.threads t) { base = cur_in after t; code = code; stage = Active })) open_before

  -- it is in the graph still
  pub stop-member : is_there (member_at after t) ≡ true
  stop-member = graph-there woken k.bases.items k.names.mutex after t graph ∙ ap (λ (r : Thread). not (is_closed r.stage)) (roused-here k.tables t (cur_in after t) code here)

  -- its new priority is one of the levels
  pub stop-level : cur_in after t < k.tables.levels
  stop-level = cur-below (based k.bases.items woken.threads) k.names.mutex after t k.tables.levels graph low stop-member base
    where
      size : length woken.threads ≡ length k.tables.threads
      size = length-set k.tables.threads t (record (row_at k.tables.threads t) { base = cur_in after t; code = code; stage = Active })

      low : t < length (based k.bases.items woken.threads)
      low = omega (arith, here, length-based k.bases.items woken.threads, size)

      base : (row_at (based k.bases.items woken.threads) t).base < k.tables.levels
      base = subst (λ (r : Thread). r.base < k.tables.levels) (sym (based-row k.bases.items woken.threads t (keeps.sized ∙ sym size) (omega (arith, here, size)))) (keeps.levels t (omega (arith, here, keeps.sized)))
