-- The numbers while a thread that is gone gives back its mutexes, and what that counts.
use Rattle.std.proofs.Common.{ℕ, ◌≡◌, ◌≢◌, ◌+◌, ◌*◌, ◌<◌, ◌≤◌, zero, suc, List, [], ◌∷◌, ◌++◌, length, map, get_or, Bool, true, false, cond, ◌||◌, eqb, Option, Some, None, refl, sym, ap, ◌∙◌, arith, ◌⊎◌, inl, inr, ⊎_elim, get_or-set_same, get_or-set_other}
use Rattle.std.specs.Prelude.{filter, slice_set, slice_index, ◌==◌}
use Rattle.std.specs.List.{sum_by, range_with_len, list_any}
use Rattle.std.specs.Option.{option_map, option_and_then}
use Rattle.std.proofs.Math.ListN.{length-set}
use Rattle.std.proofs.lemmas.Bool.{cases_eq, eqb-true, eq-eqb, ne_eqb, false≢true, or_cases, or_left, or_right}
use Rattle.std.proofs.lemmas.Option.{none-some}
use Rattle.std.proofs.lemmas.List.FromFn.{fill_by_all}
use Rattle.rt_plain.specs.kernel.State.{is_among}
use Rattle.rt_plain.specs.kernel.Priority.{Graph, reach, blocker_of}
use Rattle.rt_plain.specs.kernel.Waiting.{head_of}
use Rattle.rt_plain.specs.kernel.Ownership.{Ownership, MutexWait, Taken, Pass, member_at, with_wait, graph_in, awaited_in, owned_in, owner_in, taken_of, first_in, cur_in, member_urgency, leave_edit, with_mutex_free, pass_edit_to, passes_of}
use Rattle.rt_plain.specs.kernel.Weight.{chain, weight_of, moment_weight, edit_size, end_touches}
use Rattle.mutex_chain.specs.Graph.{PassList, pair_of, passed_to}
use Rattle.mutex_chain.specs.Owners.{IsSound, blocker_in, has_thread}
use Rattle.mutex_chain.specs.Raising.{LeadsTo}
use Rattle.mutex_chain.specs.Renewing.{AreAside, IsLeast}
use Rattle.mutex_chain.specs.Walks.{curs_of}
use Rattle.mutex_chain.specs.Lines.{lines_of}
use Rattle.mutex_chain.specs.Costs.{chain_sum}
use Rattle.mutex_chain.specs.Ending.{AreBut, pass_cost, held_weight, passed_sum}
use Rattle.mutex_chain.proofs.BoundLemmas.{chain_one, chain_moment, left_chain}
use Rattle.mutex_chain.proofs.ChainLemmas.{any_of, in_chain, leads_itself, leads_here, graph_size}
use Rattle.mutex_chain.proofs.ChangeLemmas.{cur_small}
use Rattle.mutex_chain.proofs.CostLemmas.{sum_le, sum_less}
use Rattle.mutex_chain.proofs.CurLemmas.{blocker_same, blocker_within}
use Rattle.mutex_chain.proofs.EditLemmas.{first_awaits}
use Rattle.mutex_chain.proofs.FirstsLemmas.{blocked_there}
use Rattle.mutex_chain.proofs.LawLemmas.{meets_in, reach_among, itself, only, went_on}
use Rattle.mutex_chain.proofs.KeepLemmas.{keeps_pass}
use Rattle.mutex_chain.proofs.OwnerLemmas.{others}
use Rattle.mutex_chain.proofs.PassLemmas.{first_waits, waits_there, still_gone, fewer_owned}
use Rattle.mutex_chain.proofs.OwnedLemmas.{awaited_within}
use Rattle.mutex_chain.proofs.RaiseLemmas.{below_cur_in, owner_more}
use Rattle.mutex_chain.proofs.ReachLemmas.{hits_on, hits_end}
use Rattle.mutex_chain.proofs.StoredLemmas.{lines_set_idle, idle_wait, absent_wait, leave_here, leave_other}
use Rattle.mutex_chain.proofs.StrongLemmas.{own_more, waiter_within}
use Rattle.mutex_chain.proofs.TouchLemmas.{free_owned, touches_pass, touched_cur, among_append}

-- who is gone waits on nothing
pub gone_idle : (o : Ownership) (t : ℕ) → has_thread o t ≡ false → awaited_in o t ≡ None
gone_idle o t gone = ap (option_map (λ (w : MutexWait). w.mutex)) (absent_wait (member_at o t) gone)

pub idle_blocker : (o : Ownership) (t : ℕ) → awaited_in o t ≡ None → blocker_in o t ≡ None
idle_blocker o t e = ap (option_and_then (owner_in o)) e

-- the least number is the current priority of a thread that waits for nobody, where those of its waiters are right
pub least_cur : (o : Ownership) (ns : List ℕ) (t least : ℕ) → IsSound o → t < length o.members → awaited_in o t ≡ None → ((x : ℕ) → blocker_in o x ≡ Some t → slice_index ns x ≡ cur_in o x)
    → IsLeast o ns t least → least ≡ cur_in o t
least_cur o ns t least s h idle right l = antisym least (cur_in o t) low high
  where
    antisym : (a b : ℕ) → a ≤ b → b ≤ a → a ≡ b
    antisym a b x y = omega arith

    free : (u : ℕ) → blocker_in o t ≡ Some u → ⊥
    free u e = none-some u (sym (idle_blocker o t idle) ∙ e)

    high : cur_in o t ≤ least
    high = by_case l.reached
      where
        by_case : (least ≡ member_urgency o t) ⊎ ((x : ℕ) × (blocker_in o x ≡ Some t) × (least ≡ slice_index ns x)) → cur_in o t ≤ least
        by_case (inl e) = omega (arith, own_more o t h)
        by_case (inr w) =
            let same : slice_index ns w.0 ≡ cur_in o w.0 = right w.0 w.1 in
            let is : least ≡ slice_index ns w.0 = w.2 in
            omega (arith, owner_more o w.0 t s (waiter_within o w.0 t w.1) w.1)

    number : ℕ → ℕ
    number y = cond (eqb y t) least (cur_in o y)

    here : (y : ℕ) → y ≡ t → cond (eqb y t) least (cur_in o y) ≡ least
    here y e = ap (λ b. cond b least (cur_in o y)) (eq-eqb y t e)

    there : (y : ℕ) → y ≢ t → cond (eqb y t) least (cur_in o y) ≡ cur_in o y
    there y ne = ap (λ b. cond b least (cur_in o y)) (ne_eqb y t ne)

    own : (y : ℕ) → y < length o.members → (y ≡ t) ⊎ (y ≢ t) → cond (eqb y t) least (cur_in o y) ≤ member_urgency o y
    own y k (inl e) =
        let same : member_urgency o y ≡ member_urgency o t = ap (member_urgency o) e in
        omega (arith, here y e, l.own)
    own y k (inr ne) = omega (arith, there y ne, own_more o y k)

    edge : (x u : ℕ) → blocker_in o x ≡ Some u → (x ≡ t) ⊎ (x ≢ t) → (u ≡ t) ⊎ (u ≢ t) → cond (eqb u t) least (cur_in o u) ≤ cond (eqb x t) least (cur_in o x)
    edge x u e (inl f) w = absurd (free u (sym (ap (blocker_in o) f) ∙ e))
    edge x u e (inr ne) (inl f) =
        let waits : blocker_in o x ≡ Some t = e ∙ ap Some f in
        omega (arith, there x ne, here u f, l.edges x waits, right x waits)
    edge x u e (inr ne) (inr other) = omega (arith, there x ne, there u other, owner_more o x u s (waiter_within o x u e) e)

    low : least ≤ cur_in o t
    low =
        let below : number t ≤ cur_in o t = below_cur_in o number (λ y k. own y k (cases_eq y t)) (λ x u e. edge x u e (cases_eq x t) (cases_eq u t)) t h in
        omega (arith, below, here t refl)

-- who waits for another has a byte's number
pub waiters_small : (o : Ownership) (ns : List ℕ) (t : ℕ) → IsSound o → ((x : ℕ) → blocker_in o x ≡ Some t → slice_index ns x ≡ cur_in o x) → (x : ℕ) → blocker_in o x ≡ Some t → slice_index ns x ≤ 255
waiters_small o ns t s right x e = omega (arith, right x e, cur_small o x s (blocked_there o x t e))

-- the numbers that are right but at one thread become right
pub but_all : (o : Ownership) (ns : List ℕ) (t : ℕ) → t < length o.members → AreBut o ns t → slice_set ns t (cur_in o t) ≡ curs_of o
unfolding curs_of
but_all o ns t h b = fill_by_all (cur_in o) (slice_set ns t (cur_in o t)) (length o.members) 0 (length-set ns t (cur_in o t) ∙ b.places) (λ k j. at k j (cases_eq k t))
  where
    at : (k : ℕ) → k < length o.members → (k ≡ t) ⊎ (k ≢ t) → get_or (slice_set ns t (cur_in o t)) k 0 ≡ cur_in o k
    at k j (inl e) =
        let place : t < length ns = omega (arith, b.places) in
        ap (λ i. get_or (slice_set ns t (cur_in o t)) i 0) e ∙ get_or-set_same ns t (cur_in o t) 0 place ∙ sym (ap (cur_in o) e)
    at k j (inr ne) = get_or-set_other ns t k (cur_in o t) 0 ne ∙ b.right k j ne

-- the wait lists are then those of the current priorities already, where that thread waits on nothing
pub but_lines : (o : Ownership) (ns : List ℕ) (t : ℕ) → t < length o.members → awaited_in o t ≡ None → AreBut o ns t → lines_of o ns ≡ lines_of o (curs_of o)
but_lines o ns t h idle b = lines_set_idle o ns t (cur_in o t) (idle_wait o t idle) ∙ ap (lines_of o) (but_all o ns t h b)

-- whoever waits for that thread has its number
pub but_waiters : (o : Ownership) (ns : List ℕ) (t : ℕ) → awaited_in o t ≡ None → AreBut o ns t → (x : ℕ) → blocker_in o x ≡ Some t → slice_index ns x ≡ cur_in o x
but_waiters o ns t idle b x e = b.right x (waiter_within o x t e) (λ f. none-some t (sym (idle_blocker o t idle) ∙ ap (blocker_in o) (sym f) ∙ e))

-- a chain that ends with one thread, or with the next one
end_only : (k : ℕ) (g : Graph) (y v : ℕ) → blocker_of g v ≡ None → meets_in k g y v ≡ true → y ≡ v
end_only k g y v e m = only y v (sym (hits_end k (blocker_of g) (y ∷ []) v e) ∙ m)

end_next : (k : ℕ) (g : Graph) (y w t : ℕ) → blocker_of g w ≡ Some t → blocker_of g t ≡ None → meets_in k g y w ≡ true → (y ≡ w) ⊎ (y ≡ t)
end_next zero g y w t e f m = inl (only y w m)
end_next (suc k) g y w t e f m = ⊎_elim (λ h. inl (only y w h)) further (or_cases (is_among (y ∷ []) w) (hits_on (λ v. meets_in k g y v) (blocker_of g w)) m)
  where
    further : hits_on (λ v. meets_in k g y v) (blocker_of g w) ≡ true → (y ≡ w) ⊎ (y ≡ t)
    further n =
        let met = went_on (λ v. meets_in k g y v) (blocker_of g w) n in
        let same : t ≡ met.0 = some_is t met.0 (sym e ∙ met.1) in
        inr (end_only k g y t f (ap (meets_in k g y) same ∙ met.2))
      where
        some_is : (a b : ℕ) → Some a ≡ Some b → a ≡ b
        some_is a b q = cc

not_true : (b : Bool) → (b ≡ true → ⊥) → b ≡ false
not_true true f = absurd (f refl)
not_true false f = refl

-- nobody but itself has a thread in its reach that waits for nobody
away_end : (o : Ownership) (y t : ℕ) → y < length o.members → t < length o.members → blocker_in o t ≡ None → y ≢ t → is_among (reach (graph_in o) y) t ≡ false
away_end o y t h k e ne =
    not_true (is_among (reach (graph_in o) y) t)
    (λ m. ne (end_only (length (graph_in o).blockers) (graph_in o) y t (blocker_same o t ∙ e) (sym (reach_among (graph_in o) y t (omega (arith, graph_size o)) (omega (arith, graph_size o))) ∙ m)))

away_next : (o : Ownership) (y w t : ℕ) → y < length o.members → w < length o.members → blocker_in o w ≡ Some t → blocker_in o t ≡ None → y ≢ w → y ≢ t → is_among (reach (graph_in o) y) w ≡ false
away_next o y w t h k e f ne other =
    not_true (is_among (reach (graph_in o) y) w)
    (λ m. ⊎_elim ne other (end_next (length (graph_in o).blockers) (graph_in o) y w t (blocker_same o w ∙ e) (blocker_same o t ∙ f)
    (sym (reach_among (graph_in o) y w (omega (arith, graph_size o)) (omega (arith, graph_size o))) ∙ m)))

owner_row : (o : Ownership) (m t : ℕ) → owner_in o m ≡ Some t → (h : Taken) × (taken_of o m ≡ Some h) × (h.owner ≡ t)
owner_row o m t e = by_row (taken_of o m) refl e
  where
    by_row : (r : Option Taken) → taken_of o m ≡ r → option_map (λ (h : Taken). h.owner) r ≡ Some t → (h : Taken) × (taken_of o m ≡ Some h) × (h.owner ≡ t)
    by_row None f k = absurd (none-some t k)
    by_row (Some h) f k = let same : h.owner ≡ t = cc in (h, f, same)

pub got_idle : (o : Ownership) (m w : ℕ) → w < length o.members → awaited_in (pass_edit_to m (Some w) o) w ≡ None
got_idle o m w h = ap (option_map (λ (v : MutexWait). v.mutex)) (leave_here o w h)

-- where a gone thread's mutex passes, the current priorities of all others but its waiter's stay
pub passed_cur : (o : Ownership) (t m : ℕ) (first : Option ℕ) (y : ℕ) → IsSound o → has_thread o t ≡ false → t < length o.members → owner_in o m ≡ Some t → first ≡ first_in o m
    → y < length o.members → y ≢ t → ((w : ℕ) → first ≡ Some w → y ≢ w) → cur_in o y ≡ cur_in (pass_edit_to m first o) y
passed_cur o t m None y s gone h owner at inside ne other =
    let row = owner_row o m t owner in
    touched_cur (t ∷ []) o (with_mutex_free m o) y (touches_pass t m None row.0 o s.once row.1 row.2) inside
    (λ x e. let same : t ≡ x = only t x e in ap (is_among (reach (graph_in o) y)) (sym same) ∙ away_end o y t inside h (idle_blocker o t (gone_idle o t gone)) ne)
    (λ x e. let same : t ≡ x = only t x e in ap (is_among (reach (graph_in (with_mutex_free m o)) y)) (sym same)
    ∙ away_end (with_mutex_free m o) y t inside h (idle_blocker (with_mutex_free m o) t (gone_idle (with_mutex_free m o) t gone)) ne)
passed_cur o t m (Some w) y s gone h owner at inside ne other =
    let row = owner_row o m t owner in
    touched_cur (t ∷ w ∷ []) o (pass_edit_to m (Some w) o) y (touches_pass t m (Some w) row.0 o s.once row.1 row.2) inside
    (λ x e. before x (or_cases (eqb t x) (is_among (w ∷ []) x) e)) (λ x e. after x (or_cases (eqb t x) (is_among (w ∷ []) x) e))
  where
    waits : awaited_in o w ≡ Some m
    waits = first_awaits o m w (sym at)

    within : w < length o.members
    within = awaited_within o w m waits

    size : length (pass_edit_to m (Some w) o).members ≡ length o.members
    size = sym (keeps_pass m (Some w) o).size

    before : (x : ℕ) → (eqb t x ≡ true) ⊎ (is_among (w ∷ []) x ≡ true) → is_among (reach (graph_in o) y) x ≡ false
    before x (inl e) = ap (is_among (reach (graph_in o) y)) (sym (eqb-true t x e)) ∙ away_end o y t inside h (idle_blocker o t (gone_idle o t gone)) ne
    before x (inr e) =
        ap (is_among (reach (graph_in o) y)) (sym (only w x e))
        ∙ away_next o y w t inside within (ap (option_and_then (owner_in o)) waits ∙ owner) (idle_blocker o t (gone_idle o t gone)) (other w refl) ne

    after : (x : ℕ) → (eqb t x ≡ true) ⊎ (is_among (w ∷ []) x ≡ true) → is_among (reach (graph_in (pass_edit_to m (Some w) o)) y) x ≡ false
    after x (inl e) =
        ap (is_among (reach (graph_in (pass_edit_to m (Some w) o)) y)) (sym (eqb-true t x e))
        ∙ away_end (pass_edit_to m (Some w) o) y t (omega (arith, inside, size)) (omega (arith, h, size))
        (idle_blocker (pass_edit_to m (Some w) o) t (gone_idle (pass_edit_to m (Some w) o) t (still_gone o t m (Some w) gone))) ne
    after x (inr e) =
        ap (is_among (reach (graph_in (pass_edit_to m (Some w) o)) y)) (sym (only w x e))
        ∙ away_end (pass_edit_to m (Some w) o) y w (omega (arith, inside, size)) (omega (arith, within, size)) (idle_blocker (pass_edit_to m (Some w) o) w (got_idle o m w within)) (other w refl)

-- so the numbers of all but the gone thread's stay right
pub free_but : (o : Ownership) (t m : ℕ) (ns : List ℕ) → IsSound o → has_thread o t ≡ false → t < length o.members → owner_in o m ≡ Some t → None ≡ first_in o m → AreBut o ns t → AreBut (with_mutex_free m o) ns t
free_but o t m ns s gone h owner at b = record {
  places = b.places;
  right = λ x k ne. b.right x k ne ∙ passed_cur o t m None x s gone h owner at k ne (λ w e. absurd (none-some w e));
}

pub pass_right : (o : Ownership) (t m w : ℕ) (ns : List ℕ) → IsSound o → has_thread o t ≡ false → t < length o.members → owner_in o m ≡ Some t → Some w ≡ first_in o m → AreBut o ns t
    → (x : ℕ) → x < length o.members → x ≢ t → x ≢ w → slice_index ns x ≡ cur_in (pass_edit_to m (Some w) o) x
pass_right o t m w ns s gone h owner at b x k ne other =
    b.right x k ne ∙ passed_cur o t m (Some w) x s gone h owner at k ne (λ v e. let same : w ≡ v = cc in λ f. other (f ∙ sym same))

pub pass_waiters : (o : Ownership) (t m w : ℕ) (ns : List ℕ) → IsSound o → has_thread o t ≡ false → t < length o.members → owner_in o m ≡ Some t → Some w ≡ first_in o m → AreBut o ns t
    → (x : ℕ) → blocker_in (pass_edit_to m (Some w) o) x ≡ Some w → slice_index ns x ≡ cur_in (pass_edit_to m (Some w) o) x
pass_waiters o t m w ns s gone h owner at b x e =
    pass_right o t m w ns s gone h owner at b x (omega (arith, waiter_within (pass_edit_to m (Some w) o) x w e, (keeps_pass m (Some w) o).size))
    (λ f. none-some w (sym (idle_blocker (pass_edit_to m (Some w) o) t (gone_idle (pass_edit_to m (Some w) o) t (still_gone o t m (Some w) gone))) ∙ ap (blocker_in (pass_edit_to m (Some w) o)) (sym f) ∙ e))
    (λ f. none-some w (sym (idle_blocker (pass_edit_to m (Some w) o) w (got_idle o m w within)) ∙ ap (blocker_in (pass_edit_to m (Some w) o)) (sym f) ∙ e))
  where
    within : w < length o.members
    within = awaited_within o w m (first_awaits o m w (sym at))

pub pass_but : (o : Ownership) (t m w : ℕ) (ns : List ℕ) → IsSound o → has_thread o t ≡ false → t < length o.members → owner_in o m ≡ Some t → Some w ≡ first_in o m → AreBut o ns t
    → AreBut (pass_edit_to m (Some w) o) (slice_set ns w (cur_in (pass_edit_to m (Some w) o) w)) t
pass_but o t m w ns s gone h owner at b = record {
  places = length-set ns w (cur_in (pass_edit_to m (Some w) o) w) ∙ b.places ∙ (keeps_pass m (Some w) o).size;
  right = λ x k ne. right x (omega (arith, k, (keeps_pass m (Some w) o).size)) ne (cases_eq x w);
}
  where
    within : w < length o.members
    within = awaited_within o w m (first_awaits o m w (sym at))

    right : (x : ℕ) → x < length o.members → x ≢ t → (x ≡ w) ⊎ (x ≢ w) → get_or (slice_set ns w (cur_in (pass_edit_to m (Some w) o) w)) x 0 ≡ cur_in (pass_edit_to m (Some w) o) x
    right x k ne (inl e) =
        let place : w < length ns = omega (arith, within, b.places) in
        ap (λ i. get_or (slice_set ns w (cur_in (pass_edit_to m (Some w) o) w)) i 0) e ∙ get_or-set_same ns w (cur_in (pass_edit_to m (Some w) o) w) 0 place ∙ sym (ap (cur_in (pass_edit_to m (Some w) o)) e)
    right x k ne (inr other) = get_or-set_other ns w x (cur_in (pass_edit_to m (Some w) o) w) 0 other ∙ pass_right o t m w ns s gone h owner at b x k ne other

-- the numbers before a thread is gone that has left its wait
pub gone_but : (p : Ownership) (ns : List ℕ) (t : ℕ) → awaited_in p t ≡ None → AreAside p ns (Some t) → AreBut p ns t
gone_but p ns t idle a = record {
  places = a.places;
  right = λ x h ne. a.right (λ y. eqb y t) (record {
    first = λ y e. let same : t ≡ y = cc in eq-eqb y t (sym same);
    on = λ x y e f. absurd (none-some y (sym (idle_blocker p t idle) ∙ ap (blocker_in p) (sym (eqb-true x t e)) ∙ f));
  }) x h (ne_eqb x t ne);
}

-- what is counted while the mutexes are given back: two for each, and four for each who got one and each mutex that it has then
pub record IsGiving (t : ℕ) (begin : Ownership) (o : Ownership) (ps : List (ℕ × ℕ)) (begun now : ℕ) : Type 0 where
  pub idle : (y : ℕ) → is_among (map (λ p. p.1) ps) y ≡ true → (awaited_in o y ≡ None) × (y ≢ t)
  pub count : now + 2 * length (owned_in o t) ≤ begun + 2 * length (owned_in begin t) + 4 * passed_sum o ps

pub giving_begins : (t : ℕ) (o : Ownership) (begun : ℕ) → IsGiving t o o [] begun begun
giving_begins t o begun = record {
  idle = λ y e. absurd (false≢true e);
  count = omega arith;
}

length-seconds : (ps : List (ℕ × ℕ)) (m w : ℕ) → map (λ (p : ℕ × ℕ). p.1) (ps ++ (m, w) ∷ []) ≡ map (λ (p : ℕ × ℕ). p.1) ps ++ w ∷ []
length-seconds [] m w = refl
length-seconds (p ∷ ps) m w = ap (λ l. p.1 ∷ l) (length-seconds ps m w)

free_sum : (o : Ownership) (t m : ℕ) (ps : List (ℕ × ℕ)) → IsSound o → owner_in o m ≡ Some t → ((y : ℕ) → is_among (map (λ p. p.1) ps) y ≡ true → y ≢ t) → passed_sum o ps ≤ passed_sum (with_mutex_free m o) ps
free_sum o t m ps s owner off =
    let row = owner_row o m t owner in
    sum_le (held_weight o) (held_weight (with_mutex_free m o)) (λ y. is_among (map (λ p. p.1) ps) y) (λ y. is_among (map (λ p. p.1) ps) y) 0 (length o.members)
    (λ x low high e. (e, omega (arith, ap length (free_owned m x row.0 o.taken s.once row.1 (λ f. off x e (sym f ∙ row.2))))))

pass_sum : (o : Ownership) (t m w : ℕ) (ps : List (ℕ × ℕ)) → IsSound o → has_thread o t ≡ false → owner_in o m ≡ Some t → Some w ≡ first_in o m
    → ((y : ℕ) → is_among (map (λ p. p.1) ps) y ≡ true → (awaited_in o y ≡ None) × (y ≢ t)) → passed_sum o ps + held_weight (pass_edit_to m (Some w) o) w ≤ passed_sum (pass_edit_to m (Some w) o) (ps ++ (m, w) ∷ [])
pass_sum o t m w ps s gone owner at idle =
    let row = owner_row o m t owner in
    let kept : sum_by (held_weight o) (filter (λ y. is_among (map (λ p. p.1) ps) y) (range_with_len 0 (length o.members))) ≤ sum_by (held_weight (pass_edit_to m (Some w) o)) (filter (λ y. is_among (map (λ p. p.1) ps) y) (range_with_len 0 (length o.members))) =
    sum_le (held_weight o) (held_weight (pass_edit_to m (Some w) o)) (λ y. is_among (map (λ p. p.1) ps) y) (λ y. is_among (map (λ p. p.1) ps) y) 0 (length o.members)
    (λ x low high e. (e, omega (arith, ap length (owned x e row)))) in
    let more : sum_by (held_weight (pass_edit_to m (Some w) o)) (filter (λ y. is_among (map (λ p. p.1) ps) y) (range_with_len 0 (length o.members))) + held_weight (pass_edit_to m (Some w) o) w
    ≤ sum_by (held_weight (pass_edit_to m (Some w) o)) (filter (λ y. is_among (map (λ p. p.1) (ps ++ (m, w) ∷ [])) y) (range_with_len 0 (length o.members))) =
    sum_less (held_weight (pass_edit_to m (Some w) o)) (λ y. is_among (map (λ p. p.1) ps) y) (λ y. is_among (map (λ p. p.1) (ps ++ (m, w) ∷ [])) y) w 0 (length o.members) (omega arith) (omega (arith, within))
    (not_true (is_among (map (λ p. p.1) ps) w) (λ e. none-some m (sym (idle w e).0 ∙ waits)))
    (parts w ∙ or_right (is_among (map (λ p. p.1) ps) w) (is_among (w ∷ []) w) (itself w)) (λ y e. parts y ∙ or_left (is_among (map (λ p. p.1) ps) y) (is_among (w ∷ []) y) e) in
    let range : sum_by (held_weight (pass_edit_to m (Some w) o)) (filter (λ y. is_among (map (λ p. p.1) (ps ++ (m, w) ∷ [])) y) (range_with_len 0 (length o.members))) ≡ passed_sum (pass_edit_to m (Some w) o) (ps ++ (m, w) ∷ []) =
    ap (λ n. sum_by (held_weight (pass_edit_to m (Some w) o)) (filter (λ y. is_among (map (λ p. p.1) (ps ++ (m, w) ∷ [])) y) (range_with_len 0 n))) (keeps_pass m (Some w) o).size in
    omega (arith, kept, more, range)
  where
    waits : awaited_in o w ≡ Some m
    waits = first_awaits o m w (sym at)

    within : w < length o.members
    within = awaited_within o w m waits

    parts : (y : ℕ) → is_among (map (λ (p : ℕ × ℕ). p.1) (ps ++ (m, w) ∷ [])) y ≡ is_among (map (λ (p : ℕ × ℕ). p.1) ps) y || is_among (w ∷ []) y
    parts y = ap (λ l. is_among l y) (length-seconds ps m w) ∙ among_append (map (λ (p : ℕ × ℕ). p.1) ps) (w ∷ []) y

    owned : (x : ℕ) → is_among (map (λ (p : ℕ × ℕ). p.1) ps) x ≡ true → (h : Taken) × (taken_of o m ≡ Some h) × (h.owner ≡ t) → owned_in (pass_edit_to m (Some w) o) x ≡ owned_in o x
    owned x e row =
        ap (λ b. map (λ (h : Taken). h.mutex) (cond b (record { mutex = m; owner = w; hold = 1 } ∷ filter (λ h. h.owner == x) (others m o.taken)) (filter (λ h. h.owner == x) (others m o.taken))))
        (ne_eqb w x (λ f. none-some m (sym (idle x e).0 ∙ ap (awaited_in o) (sym f) ∙ waits)))
        ∙ free_owned m x row.0 o.taken s.once row.1 (λ f. (idle x e).1 (sym f ∙ row.2))

pub giving_step : (t m : ℕ) (begin o : Ownership) (first : Option ℕ) (p : PassList) (begun now new : ℕ) → IsSound o → has_thread o t ≡ false → head_of (owned_in o t) ≡ Some m → owner_in o m ≡ Some t → first ≡ first_in o m
    → IsGiving t begin o p.passes begun now → new ≤ now + (2 + pass_cost (pass_edit_to m first o) first) → IsGiving t begin (pass_edit_to m first o) (passed_to m first p).passes begun new
giving_step t m begin o None p begun now new s gone head owner at g more = record {
  idle = g.idle;
  count = omega (arith, g.count, more, fewer_owned o t m None s gone at head, free_sum o t m p.passes s owner (λ y e. (g.idle y e).1));
}
giving_step t m begin o (Some w) p begun now new s gone head owner at g more = record {
  idle = λ y e. idle y (or_cases (is_among (map (λ (p : ℕ × ℕ). p.1) p.passes) y) (is_among (w ∷ []) y) (sym (parts y) ∙ e));
  count = omega (arith, g.count, more, fewer_owned o t m (Some w) s gone at head, pass_sum o t m w p.passes s gone owner at g.idle);
}
  where
    waits : awaited_in o w ≡ Some m
    waits = first_awaits o m w (sym at)

    within : w < length o.members
    within = awaited_within o w m waits

    parts : (y : ℕ) → is_among (map (λ (p : ℕ × ℕ). p.1) (p.passes ++ (m, w) ∷ [])) y ≡ is_among (map (λ (p : ℕ × ℕ). p.1) p.passes) y || is_among (w ∷ []) y
    parts y = ap (λ l. is_among l y) (length-seconds p.passes m w) ∙ among_append (map (λ (p : ℕ × ℕ). p.1) p.passes) (w ∷ []) y

    there : has_thread o w ≡ true
    there = waits_there (member_at o w) (first_waits o m w (sym at))

    idle : (y : ℕ) → (is_among (map (λ (p : ℕ × ℕ). p.1) p.passes) y ≡ true) ⊎ (is_among (w ∷ []) y ≡ true) → (awaited_in (pass_edit_to m (Some w) o) y ≡ None) × (y ≢ t)
    idle y (inl e) =
        let other : y ≢ w = λ f. none-some m (sym (g.idle y e).0 ∙ ap (awaited_in o) f ∙ waits) in
        (ap (option_map (λ (v : MutexWait). v.mutex)) (leave_other o w y other) ∙ (g.idle y e).0, (g.idle y e).1)
    idle y (inr e) =
        let same : w ≡ y = only w y e in
        (ap (awaited_in (pass_edit_to m (Some w) o)) (sym same) ∙ got_idle o m w within, λ f. false≢true (sym gone ∙ ap (has_thread o) (sym (same ∙ f)) ∙ there))

seconds_of : (ps : List Pass) → map (λ (p : ℕ × ℕ). p.1) (map pair_of ps) ≡ map (λ (p : Pass). p.thread) ps
seconds_of [] = refl
seconds_of (p ∷ ps) = ap (λ l. p.thread ∷ l) (seconds_of ps)

-- those who got a mutex weigh in the moment after the end
passed_weight : (o p : Ownership) (t : ℕ) → IsSound p → passed_sum p (map pair_of (passes_of t o)) ≤ moment_weight p (end_touches o t)
passed_weight o p t s =
    sum_le (held_weight p) (weight_of p) (λ y. is_among (map (λ p. p.1) (map pair_of (passes_of t o))) y) (λ y. list_any (λ u. is_among (chain (graph_in p) u) y) (end_touches o t)) 0 (length p.members)
    (λ x low high e. (stands x (omega arith) e, omega arith))
  where
    stands : (x : ℕ) → x < length p.members → is_among (map (λ (p : ℕ × ℕ). p.1) (map pair_of (passes_of t o))) x ≡ true → list_any (λ u. is_among (chain (graph_in p) u) x) (end_touches o t) ≡ true
    stands x h e =
        let small : x < length (graph_in p).blockers = omega (arith, graph_size p) in
        any_of (λ u. is_among (chain (graph_in p) u) x) (end_touches o t) x
        (or_right (eqb t x) (is_among (map (λ p. p.thread) (passes_of t o)) x) (sym (ap (λ l. is_among l x) (seconds_of (passes_of t o))) ∙ e))
        (in_chain (graph_in p) x x (λ y v f. omega (arith, graph_size p, blocker_within p y v s (sym (blocker_same p y) ∙ f))) small (leads_itself p x))

-- the end of a thread: it leaves its wait, the chain of whom it waited for is computed anew, and its mutexes are given back
pub thread_end_bound : (o q p : Ownership) (t : ℕ) (from : Option ℕ) (old begun left new : ℕ) → IsSound o → IsSound p → t < length o.members → q ≡ leave_edit t o → from ≡ blocker_in o t
    → begun ≤ old + 3 → (from ≡ None → left ≡ begun) → ((u : ℕ) → u < length q.members → LeadsTo q u from → left ≤ begun + (6 * chain_sum (weight_of q) q u + 2))
    → new ≤ left + (2 * length (owned_in o t) + 4 * passed_sum p (map pair_of (passes_of t o)) + 2) → new + 1 ≤ old + 8 * edit_size o p (end_touches o t)
thread_end_bound o q p t from old begun left new s k h at blocker first nobody cost more =
    omega (
      arith,
      first,
      more,
      walk,
      chain_one (weight_of o) o t h,
      chain_moment o (end_touches o t) t s (or_left (eqb t t) (is_among (map (λ p. p.thread) (passes_of t o)) t) (eq-eqb t t refl)) h,
      passed_weight o p t k,
    )
  where
    by_from : (r : Option ℕ) → from ≡ r → left ≤ begun + (6 * chain_sum (weight_of o) o t + 2)
    by_from None e = omega (arith, nobody e)
    by_from (Some v) e =
        let waits : blocker_in o t ≡ Some v = sym blocker ∙ e in
        let size : length q.members ≡ length o.members = ap (λ (r : Ownership). length r.members) at ∙ length-set o.members t (option_map (with_wait None) (member_at o t)) in
        let after : v < length q.members = omega (arith, size, blocker_within o t v s waits) in
        let less : chain_sum (weight_of q) q v ≤ chain_sum (weight_of o) o t = rw at (left_chain o t v s h waits) in
        omega (arith, cost v after (rw e (leads_here q v after)), less)

    walk : left ≤ begun + (6 * chain_sum (weight_of o) o t + 2)
    walk = by_from from refl
