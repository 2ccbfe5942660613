-- The levels of a skip list: how far a walk along one has come, and what stands on each once a node is put in or taken out.
use Rattle.std.proofs.Common.{ℕ, ◌≡◌, ◌≢◌, ◌+◌, ◌<◌, ◌≤◌, List, [], ◌∷◌, ◌++◌, length, Bool, true, false, nat_lt, Option, Some, None, refl, sym, ap, ◌∙◌, subst, arith, set, get_or, get_or-set_other, get_or-set_same, append_assoc, length-append, length-set}
use Rattle.std.specs.List.{AllByRecursion}
use Rattle.std.specs.Option.{option_map}
use Rattle.std.proofs.lemmas.Bool.{cond-true, cond-false}
use Rattle.std.proofs.lemmas.Bool.Decides.{nat_tests}
use Rattle.std.proofs.lemmas.List.{length-map}
use native.Mathlib.Decide.{ℕ_discrete}
use mathlib.Core.Logic.{dite}
use Rattle.slab.specs.Slab.{slab_len}
use Rattle.timer_skip.specs.declared.rows.Rows.{Rows}
use Rattle.timer_skip.specs.Armed.{ArmedRow, is_row_of}
use Rattle.timer_skip.specs.Firing.{sooner, FiresBefore, IsInOrder, IsLine, IsAnew, put_row, take_out}
use Rattle.timer_skip.specs.Links.{Slot, slot_at, Entry, entry_of, entry_at, first_link, entries, rows_of, line, count, is_on, on_level, IsChain, IsIn, key_of, Links, IsLinked, next_of, link_on, is_before, IsFrom, IsEnd, last_key, IsBehind, IsStop, AreStops, with_next, first_after}
use Rattle.timer_skip.proofs.Lines.{IsLine-put_row, IsLine-take_out, fits}
use Rattle.timer_skip.proofs.Chains.{Each-front, Each-rest, Each-push, Each-more, Each-both, Each-of_rows, Each-on_level, Each-one, on_level-append, on_level-lowest, length-on_level, IsInOrder-on_level, IsIn-below, IsIn-front, walk-is, IsBacked, backed, HaveOwnKeys, own_keys, rest_chain, chain_same, relinked, own_front, last_apart, last_key-push, has_last, split, in_middle, in_more, in_less, fire_before, sooner_before, fires_sooner, not_sooner, level_part, is_numbered, Found, key_of-front, key_of-other, take_out-split, others_behind, rest_in_order, own_rest, decide, with_next-entry}

-- how far a walk along a level has come
pub record Reached {L : ℕ} (r : Rows L) (level : ℕ) (row : ArmedRow) (last : Option ℕ) (steps : ℕ) : Type 0 where
  pub front : List Entry
  pub rest : List Entry
  pub parts : on_level level (entries r) ≡ front ++ rest
  pub ends : last_key front ≡ last
  pub before : AllByRecursion (λ (e : Entry). sooner e.row row ≡ true) front
  pub far : steps ≤ length front

module _ {L : ℕ} where
  level_order : (r : Rows L) (level : ℕ) → IsLinked r → IsInOrder (rows_of (on_level level (entries r)))
  level_order r level h = IsInOrder-on_level level (entries r) h.in_order.in_order

  pub reached_first : (r : Rows L) (level : ℕ) (row : ArmedRow) (from : Option ℕ) → IsLinked r → IsFrom r level row from → Reached r level row from 0
  reached_first r level row None h k = record { front = []; rest = on_level level (entries r); parts = refl; ends = refl; before = tt; far = omega arith }
  reached_first r level row (Some key) h k =
      let e = k.0 in
      let p = split e (on_level level (entries r)) k.1 in
      let ordered : IsInOrder (rows_of (p.0 ++ e ∷ p.1)) = subst (λ es. IsInOrder (rows_of es)) p.2 (level_order r level h) in
      record {
        front = p.0 ++ e ∷ [];
        rest = p.1;
        parts = p.2 ∙ sym (append_assoc p.0 (e ∷ []) p.1);
        ends = last_key-push p.0 e ∙ ap Some k.2;
        before = Each-push (λ (f : Entry). sooner f.row row ≡ true) p.0 e
            (Each-more (λ (f : Entry). FiresBefore f.row e.row) (λ (f : Entry). sooner f.row row ≡ true) (λ f b. sooner_before f.row e.row row b k.3) p.0 (fire_before p.0 e p.1 ordered)) k.3;
        far = omega arith;
      }

  behind_front : (r : Rows L) (level : ℕ) (front rest : List Entry) (last : Option ℕ) → level < L → IsLinked r → on_level level (entries r) ≡ front ++ rest → last_key front ≡ last → IsChain (slot_at r level) (link_on r level last) rest
  behind_front r level front rest last less h parts ends =
      subst (λ l. IsChain (slot_at r level) (link_on r level l) rest) ends
      (rest_chain (slot_at r level) (first_link r level) front rest (subst (λ es. IsChain (slot_at r level) (first_link r level) es) parts (h.chain level less)))

  pub reached_more : (r : Rows L) (level : ℕ) (row : ArmedRow) (last : Option ℕ) (steps key : ℕ) → level < L → IsLinked r → Reached r level row last steps → link_on r level last ≡ Some key
      → is_before row (slot_at r level key) → Reached r level row (Some key) (steps + 1)
  reached_more r level row last steps key less h w link k = by_rest w.rest w.parts (behind_front r level w.front w.rest last less h w.parts w.ends)
    where
      by_rest : (rest : List Entry) → on_level level (entries r) ≡ w.front ++ rest → IsChain (slot_at r level) (link_on r level last) rest → Reached r level row (Some key) (steps + 1)
      by_rest [] parts c = cc
      by_rest (e ∷ rest) parts c =
          let same : e.key ≡ key = (let both : Some key ≡ Some e.key = sym link ∙ c.0 in cc) in
          let there : slot_at r level key ≡ Some (record { row = e.row; top = e.top; next = c.1 }) = ap (slot_at r level) (sym same) ∙ c.2 in
          let b : sooner e.row row ≡ true = subst (is_before row) there k in
          record {
            front = w.front ++ e ∷ [];
            rest = rest;
            parts = parts ∙ sym (append_assoc w.front (e ∷ []) rest);
            ends = last_key-push w.front e ∙ ap Some same;
            before = Each-push (λ (f : Entry). sooner f.row row ≡ true) w.front e w.before b;
            far = omega (arith, length-append w.front (e ∷ []), w.far);
          }

  pub stop_at_end : (r : Rows L) (level : ℕ) (row : ArmedRow) (last : Option ℕ) (steps : ℕ) → level < L → IsLinked r → Reached r level row last steps → IsEnd r level row last → IsStop r level row last
  stop_at_end r level row last steps less h w end = record { front = w.front; rest = w.rest; parts = w.parts; ends = w.ends; before = w.before; behind = by_rest w.rest (behind_front r level w.front w.rest last less h w.parts w.ends) }
    where
      by_rest : (rest : List Entry) → IsChain (slot_at r level) (link_on r level last) rest → IsBehind row rest
      by_rest [] c = tt
      by_rest (e ∷ rest) c = end e.key (record { row = e.row; top = e.top; next = c.1 }) c.0 c.2

  pub few : (r : Rows L) → IsLinked r → length (entries r) ≤ count r
  few r h = omega (arith, length-map (entries r) (λ (e : Entry). e.row), fits (count r) (line r) h.in_order)

  pub stop_at_last : (r : Rows L) (level : ℕ) (row : ArmedRow) (last : Option ℕ) (steps : ℕ) → IsLinked r → Reached r level row last steps → count r ≤ steps → IsStop r level row last
  stop_at_last r level row last steps h w all = record { front = w.front; rest = w.rest; parts = w.parts; ends = w.ends; before = w.before; behind = by_rest w.rest w.parts }
    where
      by_rest : (rest : List Entry) → on_level level (entries r) ≡ w.front ++ rest → IsBehind row rest
      by_rest [] parts = tt
      by_rest (e ∷ rest) parts = absurd (omega (arith, few r h, length-on_level level (entries r), ap length parts, length-append w.front (e ∷ rest), w.far, all))

  -- where a walk along a level stops, one along the level below begins
  pub stop_from : (r : Rows L) (level : ℕ) (row : ArmedRow) (last : Option ℕ) → IsStop r (level + 1) row last → IsFrom r level row last
  stop_from r level row None w = tt
  stop_from r level row (Some key) w =
      let l = has_last key w.front w.ends in
      let one : IsIn l.last (on_level (level + 1) (entries r)) = subst (IsIn l.last) (sym w.parts) (IsIn-front l.last w.front w.rest l.one) in
      (l.last, IsIn-below level l.last (entries r) one, l.is, Each-one (λ (e : Entry). sooner e.row row ≡ true) l.last w.front w.before l.one)

-- what is found of a skip list

pub record After {L : ℕ} (r : Rows L) (rows : List ArmedRow) : Type 0 where
  pub linked : IsLinked r
  pub line : line r ≡ rows

module _ {L : ℕ} where
  linked_by : (r : Rows L) (es : List Entry) → Links r es → entries r ≡ es
  linked_by r es h =
      walk-is (slot_at r 0) r.nodes.capacity (first_link r 0) es (subst (λ fs. IsChain (slot_at r 0) (first_link r 0) fs) (on_level-lowest es) (h.chain 0 h.some_level))
      (omega (arith, length-map es (λ (e : Entry). e.row), fits (length r.places.items) (rows_of es) h.in_order, h.room))

  pub after : (r : Rows L) (es : List Entry) (rows : List ArmedRow) → Links r es → rows_of es ≡ rows → After r rows
  after r es rows h is = let same = linked_by r es h in record { linked = subst (Links r) (sym same) h; line = ap rows_of same ∙ is }

-- a node more

-- what an insertion leaves of a level that the node is on
pub record IsPut {L : ℕ} (r r' : Rows L) (level : ℕ) (e : Entry) (last : Option ℕ) : Type 0 where
  pub put : slot_at r' level e.key ≡ Some (record { row = e.row; top = e.top; next = link_on r level last })
  pub changed : (k : ℕ) → k ≢ e.key → last ≡ Some k → slot_at r' level k ≡ with_next (Some e.key) (slot_at r level k)
  pub others : (k : ℕ) → k ≢ e.key → (last ≡ Some k → ⊥) → slot_at r' level k ≡ slot_at r level k
  pub first : first_link r' level ≡ first_after last (Some e.key) (first_link r level)

-- a level is as before but for a node that isn't on it
pub record IsApart {L : ℕ} (r r' : Rows L) (level key : ℕ) : Type 0 where
  pub others : (k : ℕ) → k ≢ key → slot_at r' level k ≡ slot_at r level k
  pub first : first_link r' level ≡ first_link r level

-- what an insertion leaves
pub record IsInserted {L : ℕ} (r r' : Rows L) (e : Entry) (lasts : List (Option ℕ)) : Type 0 where
  pub vacant : (level : ℕ) → slot_at r level e.key ≡ None
  pub low : (level : ℕ) → level < L → level ≤ e.top → IsPut r r' level e (get_or lasts level None)
  pub high : (level : ℕ) → e.top < level → IsApart r r' level e.key
  pub places : r'.places.items ≡ set r.places.items e.row.timer (Some e.key)
  pub tick : r'.tick ≡ r.tick
  pub capacity : r'.nodes.capacity ≡ r.nodes.capacity
  pub counted : slab_len r'.nodes ≡ slab_len r.nodes + 1

anew_first : (row r : ArmedRow) → IsAnew row r → sooner r row ≡ true → nat_lt row.left r.left ≡ false
anew_first row r a h = let later = a.later in grind (arith, nat_tests)

anew_behind : (row r : ArmedRow) → IsAnew row r → sooner r row ≡ false → nat_lt row.left r.left ≡ true
anew_behind row r a h = let later = a.later in grind (arith, nat_tests)

-- a new row stands where the nodes before it end
put_row-stop : (x : Entry) (front rest : List Entry) → AllByRecursion (IsAnew x.row) (rows_of (front ++ rest)) → AllByRecursion (λ (e : Entry). sooner e.row x.row ≡ true) front → IsBehind x.row rest
    → rows_of (front ++ x ∷ rest) ≡ put_row x.row (rows_of (front ++ rest))
put_row-stop x [] [] a b c = refl
put_row-stop x [] (e ∷ rest) a b c = sym (cond-true (nat_lt x.row.left e.row.left) _ _ (anew_behind x.row e.row a.0 c))
put_row-stop x (e ∷ front) rest a b c = ap (λ l. e.row ∷ l) (put_row-stop x front rest a.1 b.1 c) ∙ sym (cond-false (nat_lt x.row.left e.row.left) _ _ (anew_first x.row e.row a.0 b.0))

-- a node that is there has another key than one that isn't
is_other : (at : ℕ → Option Slot) (key : ℕ) (e : Entry) → at key ≡ None → entry_at at e.key ≡ Some e → e.key ≢ key
is_other at key e vacant there = λ same. (let none : entry_at at e.key ≡ None = ap (option_map (entry_of e.key)) (ap at same ∙ vacant) in let no_row : ⊥ = cc in no_row)

last_there : (at : ℕ → Option Slot) (key k : ℕ) (front : List Entry) → at key ≡ None → IsBacked at front → last_key front ≡ Some k → k ≢ key
last_there at key k front vacant b is =
    let l = has_last k front is in
    let other = is_other at key l.last vacant (Each-one (λ (e : Entry). entry_at at e.key ≡ Some e) l.last front b l.one) in
    λ same. other (l.is ∙ same)

-- a node that is on a level, among those of it
on_level-with : (level : ℕ) (front : List Entry) (e : Entry) (rest : List Entry) → is_on level e ≡ true → on_level level (front ++ e ∷ rest) ≡ on_level level front ++ e ∷ on_level level rest
on_level-with level front e rest on = on_level-append level front (e ∷ rest) ∙ ap (λ l. on_level level front ++ l) (cond-true (is_on level e) _ _ on)

on_level-without : (level : ℕ) (front : List Entry) (e : Entry) (rest : List Entry) → is_on level e ≡ false → on_level level (front ++ e ∷ rest) ≡ on_level level (front ++ rest)
on_level-without level front e rest off = on_level-append level front (e ∷ rest) ∙ ap (λ l. on_level level front ++ l) (cond-false (is_on level e) _ _ off) ∙ sym (on_level-append level front rest)

-- a level is up to a node's top, or above it
by_top : {X : Type 0} (level : ℕ) (e : Entry) → (level ≤ e.top → is_on level e ≡ true → X) → (e.top < level → is_on level e ≡ false → X) → X
by_top {X} level e low high = by_test (is_on level e) refl
  where
    by_test : (b : Bool) → is_on level e ≡ b → X
    by_test true is = low (grind (arith, nat_tests, is)) is
    by_test false is = high (grind (arith, nat_tests, is)) is

module _ {L : ℕ} where
  -- a chain with a node more
  put_chain : (r r' : Rows L) (level : ℕ) (e : Entry) (last : Option ℕ) (f g : List Entry) → IsChain (slot_at r level) (first_link r level) (f ++ g) → IsInOrder (rows_of (f ++ g))
      → slot_at r level e.key ≡ None → last_key f ≡ last → IsPut r r' level e last → IsChain (slot_at r' level) (first_link r' level) (f ++ e ∷ g)
  put_chain r r' level e last f g chain order vacant ends p =
      let at = slot_at r level in
      let at' = slot_at r' level in
      let there : IsBacked at (f ++ g) = backed at (first_link r level) (f ++ g) chain in
      let own : HaveOwnKeys (f ++ g) = own_keys at (f ++ g) there order in
      let rest_there = Each-rest (λ (x : Entry). entry_at at x.key ≡ Some x) f g there in
      let front_there = Each-front (λ (x : Entry). entry_at at x.key ≡ Some x) f g there in
      let same_rest : AllByRecursion (λ (x : Entry). at' x.key ≡ at x.key) g =
      Each-both (λ (x : Entry). last_key f ≡ Some x.key → ⊥) (λ (x : Entry). entry_at at x.key ≡ Some x) (λ (x : Entry). at' x.key ≡ at x.key)
      (λ x k t. p.others x.key (is_other at e.key x vacant t) (λ is. k (ends ∙ is))) g (last_apart f g own) rest_there in
      let same_front : AllByRecursion (λ (x : Entry). (last_key f ≡ Some x.key → ⊥) → at' x.key ≡ at x.key) f =
      Each-more (λ (x : Entry). entry_at at x.key ≡ Some x) (λ (x : Entry). (last_key f ≡ Some x.key → ⊥) → at' x.key ≡ at x.key)
      (λ x t k. p.others x.key (is_other at e.key x vacant t) (λ is. k (ends ∙ is))) f front_there in
      let changed : (k : ℕ) → last_key f ≡ Some k → at' k ≡ with_next (Some e.key) (at k) =
      λ k is. p.changed k (last_there at e.key k f vacant front_there is) (sym ends ∙ is) in
      let behind : IsChain at (link_on r level last) g = subst (λ l. IsChain at (link_on r level l) g) ends (rest_chain at (first_link r level) f g chain) in
      let tail : IsChain at' (Some e.key) (e ∷ g) = (refl, link_on r level last, p.put, chain_same at at' (link_on r level last) g same_rest behind) in
      relinked at at' (first_link r level) (first_link r' level) (Some e.key) f g (e ∷ g) chain (own_front f g own) (p.first ∙ ap (λ l. first_after l (Some e.key) (first_link r level)) (sym ends)) changed same_front tail

  pub inserted : (r r' : Rows L) (e : Entry) (lasts : List (Option ℕ)) → IsLinked r → AreStops r e.row lasts → IsInserted r r' e lasts → e.row.timer < count r → e.row.left ≤ 2147483647
      → AllByRecursion (IsAnew e.row) (line r) → After r' (put_row e.row (line r))
  inserted r r' e lasts h stops p below near fresh =
      let w = stops 0 h.some_level in
      let row = e.row in
      let parts : entries r ≡ w.front ++ w.rest = sym (on_level-lowest (entries r)) ∙ w.parts in
      let order : IsInOrder (rows_of (w.front ++ w.rest)) = subst (λ es. IsInOrder (rows_of es)) parts h.in_order.in_order in
      let anew : AllByRecursion (IsAnew row) (rows_of (w.front ++ w.rest)) = subst (λ es. AllByRecursion (IsAnew row) (rows_of es)) parts fresh in
      let es' : List Entry = w.front ++ e ∷ w.rest in
      let rows : rows_of es' ≡ put_row row (line r) = put_row-stop e w.front w.rest anew w.before w.behind ∙ ap (λ es. put_row row (rows_of es)) (sym parts) in
      let p0 = p.low 0 h.some_level (omega arith) in
      after r' es' (put_row row (line r)) record {
        some_level = h.some_level;
        tick = subst (λ n. n < 4294967296) (sym p.tick) h.tick;
        chain = λ level less. by_top level e
            (λ low on.
            let v = stops level less in
            let same = level_part level row w.front w.rest v.front v.rest order w.before w.behind (ap (on_level level) (sym parts) ∙ v.parts) v.before v.behind in
            let chain : IsChain (slot_at r level) (first_link r level) (v.front ++ v.rest) = subst (λ es. IsChain (slot_at r level) (first_link r level) es) v.parts (h.chain level less) in
            let ordered : IsInOrder (rows_of (v.front ++ v.rest)) = subst (λ es. IsInOrder (rows_of es)) v.parts (IsInOrder-on_level level (entries r) h.in_order.in_order) in
            let all : v.front ++ e ∷ v.rest ≡ on_level level es' = ap (λ l. l ++ e ∷ v.rest) same.0 ∙ ap (λ l. on_level level w.front ++ e ∷ l) same.1 ∙ sym (on_level-with level w.front e w.rest on) in
            subst (λ es. IsChain (slot_at r' level) (first_link r' level) es) all
            (put_chain r r' level e (get_or lasts level None) v.front v.rest chain ordered (p.vacant level) v.ends (p.low level less low)))
            (λ high off.
            let q = p.high level high in
            let all : on_level level (entries r) ≡ on_level level es' = ap (on_level level) parts ∙ sym (on_level-without level w.front e w.rest off) in
            let chain = h.chain level less in
            let apart : AllByRecursion (λ (x : Entry). slot_at r' level x.key ≡ slot_at r level x.key) (on_level level (entries r)) =
            Each-more (λ (x : Entry). entry_at (slot_at r level) x.key ≡ Some x) (λ (x : Entry). slot_at r' level x.key ≡ slot_at r level x.key)
            (λ x t. q.others x.key (is_other (slot_at r level) e.key x (p.vacant level) t)) (on_level level (entries r)) (backed (slot_at r level) (first_link r level) (on_level level (entries r)) chain) in
            subst (λ es. IsChain (slot_at r' level) (first_link r' level) es) all
            (subst (λ l. IsChain (slot_at r' level) l (on_level level (entries r))) (sym q.first)
            (chain_same (slot_at r level) (slot_at r' level) (first_link r level) (on_level level (entries r)) apart chain)));
        in_order = subst (IsLine (length r'.places.items)) (sym rows) (subst (λ n. IsLine n (put_row row (line r))) (sym (ap length p.places ∙ length-set r.places.items row.timer (Some e.key))) (IsLine-put_row (count r) row (line r) below near fresh h.in_order));
        counted = omega (arith, p.counted, h.counted, ap length parts, length-append w.front w.rest, length-append w.front (e ∷ w.rest));
        room = omega (arith, ap length p.places, length-set r.places.items row.timer (Some e.key), p.capacity, h.room);
        each = λ k x is. dite (ℕ_discrete k e.key)
            (λ same.
            let mine : Some x ≡ Some e = sym is ∙ ap (entry_at (slot_at r' 0)) same ∙ ap (option_map (entry_of e.key)) p0.put in
            let it : e ≡ x = cc in
            subst (λ y. IsIn y es') it (in_middle w.front e w.rest))
            (λ other.
            let old : entry_at (slot_at r' 0) k ≡ entry_at (slot_at r 0) k = decide (get_or lasts 0 None) k
            (λ it. ap (option_map (entry_of k)) (p0.changed k other it) ∙ with_next-entry k (Some e.key) (slot_at r 0 k))
            (λ isnt. ap (option_map (entry_of k)) (p0.others k other isnt)) in
            in_more x w.front e w.rest (subst (IsIn x) parts (h.each k x (sym old ∙ is))));
        placed = λ timer less. ap (λ (l : List (Option ℕ)). get_or l timer None) p.places ∙ dite (ℕ_discrete timer row.timer)
            (λ same.
            let behind : AllByRecursion (λ (x : Entry). x.row.timer ≢ timer) w.front =
            Each-more (λ (x : Entry). IsAnew row x.row) (λ (x : Entry). x.row.timer ≢ timer) (λ x a. λ is. a.other_timer (is ∙ same)) w.front (Each-front (λ (x : Entry). IsAnew row x.row) w.front w.rest (Each-of_rows (IsAnew row) (w.front ++ w.rest) anew)) in
            ap (λ n. get_or (set r.places.items row.timer (Some e.key)) n None) same ∙ get_or-set_same r.places.items row.timer (Some e.key) None below
            ∙ sym (key_of-front timer w.front (e ∷ w.rest) behind ∙ cond-true (is_row_of timer row) _ _ (is_numbered timer row (sym same))))
            (λ other.
            get_or-set_other r.places.items row.timer timer (Some e.key) None other
            ∙ h.placed timer (omega (arith, less, ap length p.places, length-set r.places.items row.timer (Some e.key))) ∙ ap (key_of timer) parts ∙ sym (key_of-other timer w.front e w.rest (λ is. other (sym is))));
      } rows

-- a node less

-- what a removal leaves of a level that the node was on
pub record IsCut {L : ℕ} (r r' : Rows L) (level key : ℕ) (last : Option ℕ) : Type 0 where
  pub changed : (k : ℕ) → k ≢ key → last ≡ Some k → slot_at r' level k ≡ with_next (next_of (slot_at r level key)) (slot_at r level k)
  pub others : (k : ℕ) → k ≢ key → (last ≡ Some k → ⊥) → slot_at r' level k ≡ slot_at r level k
  pub first : first_link r' level ≡ first_after last (next_of (slot_at r level key)) (first_link r level)

-- what is left where a node is taken out
pub record IsRemoved {L : ℕ} (r r' : Rows L) (timer : ℕ) (e : Entry) (lasts : List (Option ℕ)) : Type 0 where
  pub gone : slot_at r' 0 e.key ≡ None
  pub low : (level : ℕ) → level < L → level ≤ e.top → IsCut r r' level e.key (get_or lasts level None)
  pub high : (level : ℕ) → e.top < level → IsApart r r' level e.key
  pub places : r'.places.items ≡ set r.places.items timer None
  pub tick : r'.tick ≡ r.tick
  pub capacity : r'.nodes.capacity ≡ r.nodes.capacity
  pub counted : slab_len r'.nodes + 1 ≡ slab_len r.nodes

last_other : (key k : ℕ) (front : List Entry) → AllByRecursion (λ (f : Entry). f.key ≢ key) front → last_key front ≡ Some k → k ≢ key
last_other key k front h is =
    let l = has_last k front is in
    let other = Each-one (λ (f : Entry). f.key ≢ key) l.last front h l.one in
    λ same. other (l.is ∙ same)

module _ {L : ℕ} where
  -- a chain with a node less
  cut_chain : (r r' : Rows L) (level : ℕ) (e : Entry) (last : Option ℕ) (f g : List Entry) → IsChain (slot_at r level) (first_link r level) (f ++ e ∷ g) → IsInOrder (rows_of (f ++ e ∷ g))
      → last_key f ≡ last → IsCut r r' level e.key last → IsChain (slot_at r' level) (first_link r' level) (f ++ g)
  cut_chain r r' level e last f g chain order ends p =
      let at = slot_at r level in
      let at' = slot_at r' level in
      let own : HaveOwnKeys (f ++ e ∷ g) = own_keys at (f ++ e ∷ g) (backed at (first_link r level) (f ++ e ∷ g) chain) order in
      let apart = own_rest f e g own in
      let tail = rest_chain at (first_link r level) f (e ∷ g) chain in
      let next : IsChain at (next_of (at e.key)) g = subst (λ l. IsChain at l g) (sym (ap next_of tail.2)) tail.3 in
      let same_rest : AllByRecursion (λ (x : Entry). at' x.key ≡ at x.key) g =
      Each-both (λ (x : Entry). last_key f ≡ Some x.key → ⊥) (λ (x : Entry). x.key ≢ e.key) (λ (x : Entry). at' x.key ≡ at x.key)
      (λ x k other. p.others x.key other (λ is. k (ends ∙ is))) g (last_apart f (e ∷ g) own).1 apart.1 in
      let same_front : AllByRecursion (λ (x : Entry). (last_key f ≡ Some x.key → ⊥) → at' x.key ≡ at x.key) f =
      Each-more (λ (x : Entry). x.key ≢ e.key) (λ (x : Entry). (last_key f ≡ Some x.key → ⊥) → at' x.key ≡ at x.key) (λ x other k. p.others x.key other (λ is. k (ends ∙ is))) f apart.0 in
      let changed : (k : ℕ) → last_key f ≡ Some k → at' k ≡ with_next (next_of (at e.key)) (at k) =
      λ k is. p.changed k (last_other e.key k f apart.0 is) (sym ends ∙ is) in
      relinked at at' (first_link r level) (first_link r' level) (next_of (at e.key)) f (e ∷ g) g chain (own_front f (e ∷ g) own)
      (p.first ∙ ap (λ l. first_after l (next_of (at e.key)) (first_link r level)) (sym ends)) changed same_front (chain_same at at' (next_of (at e.key)) g same_rest next)

  pub removed : (r r' : Rows L) (timer key : ℕ) (lasts : List (Option ℕ)) → IsLinked r → (f : Found (slot_at r 0) timer key (entries r)) → AreStops r f.entry.row lasts → IsRemoved r r' timer f.entry lasts → timer < count r
      → After r' (take_out timer (line r))
  removed r r' timer key lasts h f stops p below =
      let e = f.entry in
      let s = split e (entries r) f.one in
      let w = stops 0 h.some_level in
      let ordered : IsInOrder (rows_of (s.0 ++ e ∷ s.1)) = subst (λ es. IsInOrder (rows_of es)) s.2 h.in_order.in_order in
      let soon : AllByRecursion (λ (g : Entry). sooner g.row e.row ≡ true) s.0 =
      Each-more (λ (g : Entry). FiresBefore g.row e.row) (λ (g : Entry). sooner g.row e.row ≡ true) (λ g k. fires_sooner g.row e.row k) s.0 (fire_before s.0 e s.1 ordered) in
      let front = s.0 in
      let rest = s.1 in
      let parts : entries r ≡ front ++ e ∷ rest = s.2 in
      let es' : List Entry = front ++ rest in
      let keys : HaveOwnKeys (front ++ e ∷ rest) =
      own_keys (slot_at r 0) (front ++ e ∷ rest) (backed (slot_at r 0) (first_link r 0) (front ++ e ∷ rest) (subst (λ es. IsChain (slot_at r 0) (first_link r 0) es) (on_level-lowest (entries r) ∙ parts) (h.chain 0 h.some_level))) ordered in
      let apart = own_rest front e rest keys in
      let unlike : AllByRecursion (λ (g : Entry). g.row.timer ≢ timer) front =
      Each-more (λ (g : Entry). FiresBefore g.row e.row) (λ (g : Entry). g.row.timer ≢ timer) (λ g k. λ is. k.other_timer (is ∙ sym f.is)) front (fire_before front e rest ordered) in
      let rows : rows_of es' ≡ take_out timer (line r) = take_out-split timer front e rest unlike f.is ∙ ap (λ es. take_out timer (rows_of es)) (sym parts) in
      let p0 = p.low 0 h.some_level (omega arith) in
      after r' es' (take_out timer (line r)) record {
        some_level = h.some_level;
        tick = subst (λ n. n < 4294967296) (sym p.tick) h.tick;
        chain = λ level less. by_top level e
            (λ low on.
            let v = stops level less in
            let same = level_part level e.row front (e ∷ rest) v.front v.rest ordered soon (not_sooner e.row) (ap (on_level level) (sym parts) ∙ v.parts) v.before v.behind in
            let with : on_level level (entries r) ≡ on_level level front ++ e ∷ on_level level rest = ap (on_level level) parts ∙ on_level-with level front e rest on in
            let chain : IsChain (slot_at r level) (first_link r level) (on_level level front ++ e ∷ on_level level rest) = subst (λ es. IsChain (slot_at r level) (first_link r level) es) with (h.chain level less) in
            let order : IsInOrder (rows_of (on_level level front ++ e ∷ on_level level rest)) = subst (λ es. IsInOrder (rows_of es)) with (IsInOrder-on_level level (entries r) h.in_order.in_order) in
            subst (λ es. IsChain (slot_at r' level) (first_link r' level) es) (sym (on_level-append level front rest))
            (cut_chain r r' level e (get_or lasts level None) (on_level level front) (on_level level rest) chain order (ap last_key (sym same.0) ∙ v.ends) (p.low level less low)))
            (λ high off.
            let q = p.high level high in
            let all : on_level level (entries r) ≡ on_level level es' = ap (on_level level) parts ∙ on_level-without level front e rest off in
            let chain : IsChain (slot_at r level) (first_link r level) (on_level level es') = subst (λ es. IsChain (slot_at r level) (first_link r level) es) all (h.chain level less) in
            let others : AllByRecursion (λ (x : Entry). x.key ≢ e.key) (on_level level es') = Each-on_level (λ (x : Entry). x.key ≢ e.key) level es' (Each-joined (λ (x : Entry). x.key ≢ e.key) front rest apart.0 apart.1) in
            let same : AllByRecursion (λ (x : Entry). slot_at r' level x.key ≡ slot_at r level x.key) (on_level level es') =
            Each-more (λ (x : Entry). x.key ≢ e.key) (λ (x : Entry). slot_at r' level x.key ≡ slot_at r level x.key) (λ x other. q.others x.key other) (on_level level es') others in
            subst (λ l. IsChain (slot_at r' level) l (on_level level es')) (sym q.first)
            (chain_same (slot_at r level) (slot_at r' level) (first_link r level) (on_level level es') same chain));
        in_order = subst (IsLine (length r'.places.items)) (sym rows) (subst (λ n. IsLine n (take_out timer (line r))) (sym (ap length p.places ∙ length-set r.places.items timer None)) (IsLine-take_out (count r) timer (line r) h.in_order));
        counted = omega (arith, p.counted, h.counted, ap length parts, length-append front rest, length-append front (e ∷ rest));
        room = omega (arith, ap length p.places, length-set r.places.items timer None, p.capacity, h.room);
        each = λ k x is. dite (ℕ_discrete k e.key)
            (λ same. absurd (let none : entry_at (slot_at r' 0) k ≡ None = ap (option_map (entry_of k)) (ap (slot_at r' 0) same ∙ p.gone) in let no_row : ⊥ = cc in no_row))
            (λ other.
            let old : entry_at (slot_at r' 0) k ≡ entry_at (slot_at r 0) k = decide (get_or lasts 0 None) k
            (λ it. ap (option_map (entry_of k)) (p0.changed k other it) ∙ with_next-entry k (next_of (slot_at r 0 e.key)) (slot_at r 0 k))
            (λ isnt. ap (option_map (entry_of k)) (p0.others k other isnt)) in
            let there : entry_at (slot_at r 0) k ≡ Some x = sym old ∙ is in
            in_less x front e rest (λ same. other (sym (key_found (slot_at r 0) k x there) ∙ ap (λ (g : Entry). g.key) same)) (subst (IsIn x) parts (h.each k x there)));
        placed = λ t less. ap (λ (l : List (Option ℕ)). get_or l t None) p.places ∙ dite (ℕ_discrete t timer)
            (λ same.
            ap (λ n. get_or (set r.places.items timer None) n None) same ∙ get_or-set_same r.places.items timer None None below
            ∙ sym (ap (λ n. key_of n es') same ∙ key_of-front timer front rest unlike ∙ others_behind timer e rest f.is (rest_in_order front e rest ordered)))
            (λ other.
            get_or-set_other r.places.items timer t None None other
            ∙ h.placed t (omega (arith, less, ap length p.places, length-set r.places.items timer None)) ∙ ap (key_of t) parts ∙ key_of-other t front e rest (λ is. other (sym is ∙ f.is)));
      } rows
    where
      Each-joined : (P : Entry → Type 0) (front rest : List Entry) → AllByRecursion P front → AllByRecursion P rest → AllByRecursion P (front ++ rest)
      Each-joined P [] rest a b = b
      Each-joined P (x ∷ front) rest a b = (a.0, Each-joined P front rest a.1 b)

      key_found : (at : ℕ → Option Slot) (k : ℕ) (x : Entry) → entry_at at k ≡ Some x → x.key ≡ k
      key_found at k x is = by_slot (at k) is
        where
          by_slot : (s : Option Slot) → option_map (entry_of k) s ≡ Some x → x.key ≡ k
          by_slot None e = (let none : ⊥ = cc in absurd none)
          by_slot (Some s) e = let same : x ≡ entry_of k s = cc in ap (λ (y : Entry). y.key) same
