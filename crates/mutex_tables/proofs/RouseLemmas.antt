-- A thread whose wait ends is active, with its new current priority.
use Rattle.std.proofs.Common.{ℕ, zero, suc, ◌≡◌, ◌≢◌, ◌<◌, arith, List, [], ◌∷◌, ◌++◌, Option, None, Bool, true, false, not, ◌||◌, refl, sym, ap, ◌∙◌, subst, length, slice_index, slice_set, eqb, ◌⊎◌, inl, inr}
use Rattle.std.specs.Prelude.{filter, ◌==◌, if◌then◌else◌}
use Rattle.std.specs.Option.{option_map}
use Rattle.std.proofs.lemmas.Bool.{eqb-true, eqb-false, ne_eqb}
use Rattle.std.proofs.lemmas.List.{length-set}
use Rattle.rt_base.specs.declared.codes.Code.{Code}
use Rattle.rt_plain.specs.kernel.State.{State, Thread, Active, no_thread, thread_at, is_closed, is_among}
use Rattle.rt_plain.specs.kernel.Ownership.{Ownership, Member, member_at, with_member, with_wait, cur_in, leave_edit}
use Rattle.rt_plain.proofs.kernel.TallyLemmas.{here-set, other-set}
use Rattle.object_box.specs.Objects.{ClassObjects}
use Rattle.kernel_tables.specs.Tabled.{Tabled, moved_last, rebased, woken_row}
use Rattle.kernel_tables.specs.Threads.{row_at, with_row}
use Rattle.mutex_chain.proofs.TouchLemmas.{among_append}
use Rattle.mutex_tie.specs.Tie.{IsGraphOf, StandsFor, member_of}
use Rattle.mutex_tie.proofs.HoldingLemmas.{member-tied}
use Rattle.mutex_tie.proofs.EditLemmas.{member_if, stands-row}
use Rattle.mutex_tables.specs.MutexTabled.{based}
use Rattle.mutex_tables.specs.Kept.{AreCurrent}
use Rattle.mutex_tables.specs.Moved.{roused}
use Rattle.mutex_tables.proofs.BaseLemmas.{based-row, based-written}
use Rattle.mutex_tables.proofs.FollowLemmas.{MayFollow, graph-there}

pub set-set : (rows : List Thread) (t : ℕ) (one other : Thread) → slice_set (slice_set rows t one) t other ≡ slice_set rows t other
set-set [] t one other = refl
set-set (r ∷ rows) zero one other = refl
set-set (r ∷ rows) (suc t) one other = ap (λ (rs : List Thread). r ∷ rs) (set-set rows t one other)

rebased-out : (k : Tabled) (t base : ℕ) → is_among k.ready t ≡ false → rebased k t base ≡ k.ready
rebased-out k t base out = ap (λ (xs : List ℕ). if (row_at k.threads t).base == base then k.ready else xs) stays ∙ by_test ((row_at k.threads t).base == base)
  where
    stays : moved_last k.ready t ≡ k.ready
    stays = ap (λ d. if d then filter (λ u. not (u == t)) k.ready ++ t ∷ [] else k.ready) out

    by_test : (d : Bool) → (if d then k.ready else k.ready) ≡ k.ready
    by_test true = refl
    by_test false = refl

-- first the priority, then the code, and then the place
pub rouse-steps : (k new : Tabled) (t prio : ℕ) (code : Code) → t < length k.threads → is_among k.ready t ≡ false
    → new ≡ record k { threads = with_row (with_row (with_row k.threads t (λ row. record row { base = prio })) t (λ row. record row { code = code })) t (λ row. record row { stage = Active }); ready = rebased k t prio ++ t ∷ [] }
    → new ≡ roused k t code prio
rouse-steps k new t prio code there out is =
    is
    ∙ ap (λ (ready : List ℕ). record k { threads = with_row (with_row rows t (λ row. record row { code = code })) t (λ row. record row { stage = Active }); ready = ready ++ t ∷ [] }) (rebased-out k t prio out)
    ∙ ap (λ (rs : List Thread). record k { threads = with_row rs t (λ row. record row { stage = Active }); ready = k.ready ++ t ∷ [] }) (twice row there)
    ∙ ap (λ (rs : List Thread). record k { threads = rs; ready = k.ready ++ t ∷ [] }) (again (record row { code = code }) there)
  where
    row : Thread
    row = record (row_at k.threads t) { base = prio }

    rows : List Thread
    rows = slice_set k.threads t row

    twice : (r : Thread) → t < length k.threads → with_row (slice_set k.threads t r) t (λ x. record x { code = code }) ≡ slice_set k.threads t (record r { code = code })
    twice r low = ap (λ (x : Thread). slice_set (slice_set k.threads t r) t (record x { code = code })) (here-set k.threads t r no_thread low) ∙ set-set k.threads t r (record r { code = code })

    again : (r : Thread) → t < length k.threads → with_row (slice_set k.threads t r) t (λ x. record x { stage = Active }) ≡ slice_set k.threads t (record r { stage = Active })
    again r low = ap (λ (x : Thread). slice_set (slice_set k.threads t r) t (record x { stage = Active })) (here-set k.threads t r no_thread low) ∙ set-set k.threads t r (record r { stage = Active })

pub roused-based : (bases : List ℕ) (k : Tabled) (t prio : ℕ) (code : Code) → length bases ≡ length k.threads → t < length k.threads → based bases (roused k t code prio).threads ≡ with_row (based bases k.threads) t (woken_row code)
roused-based bases k t prio code same there =
    based-written bases k.threads t (record (row_at k.threads t) { base = prio; code = code; stage = Active }) same
    ∙ ap (λ (r : Thread). slice_set (based bases k.threads) t (woken_row code r)) (sym (based-row bases k.threads t same there))

-- a thread that hasn't ended waits no more, in the graph
pub stands-stopped : (s : State) (c : ClassObjects) (o : Ownership) (t : ℕ) (code : Code) → StandsFor s c o → is_closed (thread_at s t).stage ≡ false → StandsFor (record s { threads = slice_set s.threads t (woken_row code (thread_at s t)) }) c (leave_edit t o)
stands-stopped s c o t code tie lives =
    subst (λ (m : Option Member). StandsFor after c (with_member o t m)) same (stands-row s after c o t row tie refl refl refl refl)
  where
    row : Thread
    row = woken_row code (thread_at s t)

    after : State
    after = record s { threads = slice_set s.threads t row }

    same : member_of c.objects row ≡ option_map (with_wait None) (member_at o t)
    same = sym (ap (option_map (with_wait None)) (member-tied s c o t tie) ∙ ap (λ d. option_map (with_wait None) (member_if d c.objects (thread_at s t))) lives)

pub among-last : (ready : List ℕ) (t u : ℕ) → t ≢ u → is_among (ready ++ t ∷ []) u ≡ is_among ready u
among-last ready t u apart = among_append ready (t ∷ []) u ∙ ap (λ b. is_among ready u || (b || false)) (ne_eqb t u apart) ∙ or-false (is_among ready u)
  where
    or-false : (b : Bool) → b || false ≡ b
    or-false true = refl
    or-false false = refl

-- the rows of the threads after one of them was roused
pub roused-here : (k : Tabled) (t prio : ℕ) (code : Code) → t < length k.threads → row_at (roused k t code prio).threads t ≡ record (row_at k.threads t) { base = prio; code = code; stage = Active }
roused-here k t prio code there = here-set k.threads t (record (row_at k.threads t) { base = prio; code = code; stage = Active }) no_thread there

pub roused-other : (k : Tabled) (t prio u : ℕ) (code : Code) → u ≢ t → row_at (roused k t code prio).threads u ≡ row_at k.threads u
roused-other k t prio u code apart = other-set k.threads t u (record (row_at k.threads t) { base = prio; code = code; stage = Active }) no_thread apart

-- the lists may follow where one thread was roused that is in the graph as it was, and goes by its new current priority
pub rouse-follows : (k : Tabled) (bases : List ℕ) (c : ClassObjects) (o p : Ownership) (t : ℕ) (code : Code) → length bases ≡ length k.threads → ((u : ℕ) → u < length bases → slice_index bases u < k.levels) → AreCurrent k o → IsGraphOf (based bases k.threads) c o
    → t < length k.threads → is_closed (row_at k.threads t).stage ≡ false → is_among k.ready t ≡ false → IsGraphOf (based bases (roused k t code (cur_in p t)).threads) c p
    → MayFollow k.ready (roused k t code (cur_in p t)) bases c o p
rouse-follows k bases c o p t code sized levels current tied there live out graph = record {
  sized = sized ∙ sym (length-set k.threads t (record (row_at k.threads t) { base = cur_in p t; code = code; stage = Active }));
  levels = levels;
  graph = graph;
  near = λ u low opens. near u low opens (eqb u t) refl;
  was = λ u low opens. graph-there k bases c o u tied ∙ ap not (was u opens (eqb u t) refl);
} where
  new : Tabled
  new = roused k t code (cur_in p t)

  was : (u : ℕ) → is_closed (row_at new.threads u).stage ≡ false → (d : Bool) → eqb u t ≡ d → is_closed (row_at k.threads u).stage ≡ false
  was u opens true is = ap (λ v. is_closed (row_at k.threads v).stage) (eqb-true u t is) ∙ live
  was u opens false is = ap (λ (r : Thread). is_closed r.stage) (sym (roused-other k t (cur_in p t) u code (eqb-false u t is))) ∙ opens

  near : (u : ℕ) → u < length new.threads → is_closed (row_at new.threads u).stage ≡ false → (d : Bool) → eqb u t ≡ d
      → (((row_at new.threads u).base ≡ cur_in o u) × (is_among new.ready u ≡ is_among k.ready u)) ⊎ (((row_at new.threads u).base ≡ cur_in p u) × (is_among k.ready u ≡ false))
  near u low opens true is =
      let same : t ≡ u = sym (eqb-true u t is) in
      inr (subst (λ v. (row_at new.threads v).base ≡ cur_in p v) same (ap (λ (r : Thread). r.base) (roused-here k t (cur_in p t) code there)), subst (λ v. is_among k.ready v ≡ false) same out)
  near u low opens false is =
      let apart : u ≢ t = eqb-false u t is in
      let size : length new.threads ≡ length k.threads = length-set k.threads t (record (row_at k.threads t) { base = cur_in p t; code = code; stage = Active }) in
      inl (
        ap (λ (r : Thread). r.base) (roused-other k t (cur_in p t) u code apart) ∙ current u (omega (arith, low, size)) (was u opens false is),
        among-last k.ready t u (λ e. apart (sym e)),
      )
