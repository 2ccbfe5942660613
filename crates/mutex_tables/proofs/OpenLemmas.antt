-- The tables as a board opens, without a mutex.
use Rattle.std.proofs.Common.{ℕ, zero, suc, ◌≡◌, ◌<◌, ◌≤◌, arith, List, [], ◌∷◌, Option, Some, None, Bool, true, false, refl, sym, ap, ◌∙◌, subst, length, map, slice_index, slice_index_or, slice_set, get_or, replicate}
use Rattle.std.specs.Prelude.{if◌then◌else◌, Result, Ok, Err, IfOk}
use Rattle.rt_base.specs.declared.codes.Class.{Class}
use Rattle.object_box.specs.declared.limits.ClassLimits.{ClassLimits}
use Rattle.object_box.specs.Classes.{AllObjects, of_class, limit_of}
use Rattle.std.specs.List.{AllByRecursion}
use Rattle.std.specs.Option.{option_and_then}
use Rattle.std.proofs.lemmas.Option.{none-some}
use Rattle.std.proofs.lemmas.List.{length-map}
use Rattle.rt_plain.specs.declared.board.ThreadDef.{ThreadDef}
use Rattle.rt_plain.specs.PlainBoard.{PlainBoard}
use Rattle.rt_plain.specs.kernel.State.{Thread, Initial, Active, no_thread, is_closed}
use Rattle.rt_plain.specs.kernel.Opening.{new_script_thread}
use Rattle.rt_plain.specs.kernel.Ownership.{Ownership, Member, base_of, cur_in, graph_in, owner_in, awaited_in}
use Rattle.ready_set.specs.ReadyLists.{IsBinding}
use Rattle.kernel_tables.specs.Opened.{MayOpen, first_tables}
use Rattle.kernel_tables.specs.Threads.{row_at}
use Rattle.mutex_chain.specs.Owners.{blocker_in}
use Rattle.mutex_chain.proofs.CurLemmas.{blocker_same, graph_urgency, length-map_range}
use Rattle.mutex_chain.proofs.LawLemmas.{own_cur}
use Rattle.mutex_tie.specs.Tie.{graph_of_threads, member_of, wait_in, knows_mutex, IsGraphOf}
use Rattle.mutex_tie.proofs.OpenLemmas.{owned-begins}
use Rattle.mutex_tables.specs.Kept.{AreMutexTables}
use Rattle.mutex_tables.specs.MutexTabled.{based, seen}
use Rattle.mutex_tables.specs.Opened.{bare}
use Rattle.mutex_tables.proofs.RenewLemmas.{member-at}

-- the threads come one after the other

abbrev pub member_for : ThreadDef → Option Member
member_for def = Some (record { base = def.prio; wait = None })

-- so many of the threads of a board, and places for the others
abbrev pub filled : ℕ → List ThreadDef → List (Option Member)
filled n [] = []
filled zero (def ∷ defs) = None ∷ filled zero defs
filled (suc n) (def ∷ defs) = member_for def ∷ filled n defs

pub filled-begins : (defs : List ThreadDef) → replicate (length defs) None ≡ filled zero defs
filled-begins [] = refl
filled-begins (def ∷ defs) = ap (λ (ms : List (Option Member)). None ∷ ms) (filled-begins defs)

pub filled-length : (n : ℕ) (defs : List ThreadDef) → length (filled n defs) ≡ length defs
filled-length n [] = refl
filled-length zero (def ∷ defs) = ap suc (filled-length zero defs)
filled-length (suc n) (def ∷ defs) = ap suc (filled-length n defs)

pub filled-none : (n : ℕ) (defs : List ThreadDef) → slice_index_or (filled n defs) n None ≡ None
filled-none n [] = refl
filled-none zero (def ∷ defs) = refl
filled-none (suc n) (def ∷ defs) = filled-none n defs

pub filled-more : (n : ℕ) (defs : List ThreadDef) (d : ThreadDef) → n < length defs → slice_set (filled n defs) n (member_for (get_or defs n d)) ≡ filled (suc n) defs
filled-more n [] d low = absurd (omega (arith, low))
filled-more zero (def ∷ defs) d low = refl
filled-more (suc n) (def ∷ defs) d low = ap (λ (ms : List (Option Member)). member_for def ∷ ms) (filled-more n defs d (omega (arith, low)))

pub filled-all : (n : ℕ) (defs : List ThreadDef) → length defs ≤ n → filled n defs ≡ map member_for defs
filled-all n [] le = refl
filled-all zero (def ∷ defs) le = absurd (omega (arith, le))
filled-all (suc n) (def ∷ defs) le = ap (λ (ms : List (Option Member)). member_for def ∷ ms) (filled-all n defs (omega (arith, le)))

opened-member : (def : ThreadDef) → member_for def ≡ member_of [] (new_script_thread def)
opened-member def = by_test def.started
  where
    by_test : (b : Bool) → member_for def ≡ (if is_closed (if b then Active else Initial) then None else Some (record { base = def.prio; wait = wait_in [] (if b then Active else Initial) }))
    by_test true = refl
    by_test false = refl

pub opened-members : (defs : List ThreadDef) → map member_for defs ≡ map (member_of []) (map new_script_thread defs)
opened-members [] = refl
opened-members (def ∷ defs) = ap (λ (m : Option Member). m ∷ map member_for defs) (opened-member def) ∙ ap (λ (ms : List (Option Member)). member_of [] (new_script_thread def) ∷ ms) (opened-members defs)

-- what is kept then

abbrev pub bases_in : List ThreadDef → List ℕ
bases_in defs = map (λ (def : ThreadDef). def.prio) defs

abbrev pub first_threads : List ThreadDef → List Thread
first_threads defs = map new_script_thread defs

based-opened : (defs : List ThreadDef) → based (bases_in defs) (first_threads defs) ≡ first_threads defs
based-opened [] = refl
based-opened (def ∷ defs) = ap (λ (rows : List Thread). new_script_thread def ∷ rows) (based-opened defs)

opened-base : (defs : List ThreadDef) (t : ℕ) → (row_at (first_threads defs) t).base ≡ slice_index (bases_in defs) t
opened-base [] t = refl
opened-base (def ∷ defs) zero = refl
opened-base (def ∷ defs) (suc t) = opened-base defs t

opened-below : (levels cores : ℕ) (defs : List ThreadDef) (t : ℕ) → AllByRecursion (λ (def : ThreadDef). (def.prio < levels) × IsBinding cores def.core) defs → t < length (bases_in defs) → slice_index (bases_in defs) t < levels
opened-below levels cores [] t all low = absurd (omega (arith, low))
opened-below levels cores (def ∷ defs) zero (this, all) low = this.0
opened-below levels cores (def ∷ defs) (suc t) (this, all) low = opened-below levels cores defs t all (omega (arith, low))

opened-known : (defs : List ThreadDef) (t : ℕ) → knows_mutex [] (slice_index_or (first_threads defs) t no_thread).stage ≡ true
opened-known [] t = refl
opened-known (def ∷ defs) zero = by_test def.started
  where
    by_test : (b : Bool) → knows_mutex [] (if b then Active else Initial) ≡ true
    by_test true = refl
    by_test false = refl
opened-known (def ∷ defs) (suc t) = opened-known defs t

-- where nobody owns a mutex, each thread is as urgent as its base
abbrev unowned : List (Option Member) → List (Option ℕ) → Ownership
unowned members ceilings = record { members = members; ceilings = ceilings; taken = [] }

cur-unowned : (members : List (Option Member)) (ceilings : List (Option ℕ)) (t : ℕ) → t < length members → cur_in (unowned members ceilings) t ≡ base_of (slice_index_or members t None)
cur-unowned members ceilings t there =
    own_cur (graph_in o) t (omega (arith, there, length-map_range (blocker_in o) 0 (length members))) (λ x e. none-some t (sym (nobody (awaited_in o x)) ∙ sym (blocker_same o x) ∙ e))
    ∙ graph_urgency o t there
  where
    o : Ownership
    o = unowned members ceilings

    nobody : (m : Option ℕ) → option_and_then (owner_in o) m ≡ None
    nobody None = refl
    nobody (Some m) = refl

graph-opened : (defs : List ThreadDef) (limit : ℕ) → IsGraphOf (first_threads defs) (record { limit = limit; objects = [] }) (graph_of_threads (first_threads defs) limit)
graph-opened defs limit = owned-begins (first_threads defs) limit (opened-known defs)

abbrev made_of : Bool → ℕ → Option Member
made_of closed base = if closed then None else Some (record { base = base; wait = None })

pub bare-keeps : (b : PlainBoard) (limit : ℕ) → MayOpen b → AreMutexTables (first_tables b) (bases_in b.threads) (record { limit = limit; objects = [] }) (graph_of_threads (first_threads b.threads) limit)
bare-keeps b limit may = record {
  sized = length-map b.threads (λ (def : ThreadDef). def.prio) ∙ sym (length-map b.threads new_script_thread);
  levels = λ t low. opened-below b.levels b.cores b.threads t may.threads low;
  graph = subst (λ (rows : List Thread). IsGraphOf rows (record { limit = limit; objects = [] }) (graph_of_threads (first_threads b.threads) limit)) (sym (based-opened b.threads)) (graph-opened b.threads limit);
  current = λ t low live. sym (
      cur-unowned (map (member_of []) (first_threads b.threads)) (replicate limit None) t (omega (arith, low, length-map (first_threads b.threads) (member_of [])))
      ∙ ap base_of (member-at (first_threads b.threads) (record { limit = limit; objects = [] }) (graph_of_threads (first_threads b.threads) limit) t (graph-opened b.threads limit))
      ∙ ap base_of (ap (λ d. if d then None else Some (record { base = (row_at (first_threads b.threads) t).base; wait = wait_in [] (row_at (first_threads b.threads) t).stage })) live)
      );
}

pub bare-seen : (b : PlainBoard) → seen (first_tables b) (bases_in b.threads) (record { limit = b.limits.mutex; objects = [] }) (graph_of_threads (first_threads b.threads) b.limits.mutex) ≡ bare b
bare-seen b = ap (λ (rows : List Thread). record (bare b) { threads = rows }) (based-opened b.threads)

-- the class of mutexes among all classes without objects
pub names-ok : {E : Type 0} (limits : ClassLimits) (r : Result AllObjects E) → IfOk r (λ (a : AllObjects). (class : Class) → of_class class a ≡ record { limit = limit_of class limits; objects = [] }) → IfOk r (λ (a : AllObjects). a.mutex ≡ record { limit = limits.mutex; objects = [] })
names-ok limits (Ok a) empty = empty Class.Mutex
names-ok limits (Err e) empty = tt
