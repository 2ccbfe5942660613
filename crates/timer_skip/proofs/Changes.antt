-- What the steps of the skip list's calls come to.
use Rattle.std.proofs.Common.{inl, inr, zero, suc, ℕ, ◌≡◌, ◌≢◌, ◌+◌, ◌<◌, ◌≤◌, List, [], ◌∷◌, ◌++◌, length, map, Bool, true, false, cond, Option, Some, None, refl, sym, ap, ◌∙◌, subst, arith, set, get_or, replicate, count_by, is_some}
use Rattle.std.specs.List.{AllByRecursion}
use Rattle.std.specs.Option.{option_map}
use Rattle.std.proofs.lemmas.Bool.{false≢true, cases_lt}
use Rattle.std.proofs.lemmas.List.{length-map, length-replicate, get_or-replicate}
use Rattle.std.proofs.lemmas.Nat.{mod_below}
use Rattle.slab.specs.Slab.{Slab, slab_len, get, Updates, HasRoomFor}
use Rattle.timer_skip.specs.declared.node.Node.{Node}
use Rattle.timer_skip.specs.declared.row.Row.{Row}
use Rattle.timer_skip.specs.declared.rows.Rows.{Rows}
use Rattle.timer_skip.specs.Armed.{ArmedRow, is_row_of, left_of, row_after, tick_after}
use Rattle.timer_skip.specs.Firing.{armed_row, sooner, IsLine, IsAnew, put_row, take_out}
use Rattle.timer_skip.specs.Links.{Slot, slot_of, slot_at, Entry, entry_of, entry_at, first_link, entries, rows_of, line, count, is_on, on_level, IsChain, IsIn, key_of, IsLinked, next_of, IsStop, AreStops, AreLinks, SameLevel, SameRest, with_next, first_after, IsRelinked, AreRelinked}
use Rattle.timer_skip.proofs.Lines.{has_room, IsLine-after}
use Rattle.timer_skip.proofs.Chains.{backed, Each-front, Each-one, Each-of_rows, Each-on_level, on_level-lowest, has_last, not_sooner, Found, found, none_beyond}
use Rattle.timer_skip.proofs.Levels.{After, after, IsInserted, inserted, IsRemoved, removed}
use Rattle.timer_skip.proofs.Wraps.{left-later}

no_keys : ℕ → List (Option ℕ)
no_keys n = replicate n None

none_at : (n place : ℕ) → get_or (no_keys n) place None ≡ None
unfolding no_keys
none_at zero place = refl
none_at (suc n) zero = refl
none_at (suc n) (suc place) = none_at n place

-- one change of a level after another

module _ {L : ℕ} where
  pub relinked_before : (a b c : Rows L) (level : ℕ) (from to : Option ℕ) → IsRelinked a b level from to → SameLevel b c level → IsRelinked a c level from to
  relinked_before a b c level from to h s = record {
    first = s.first ∙ h.first;
    changed = λ k is. s.slots k ∙ h.changed k is;
    others = λ k other. s.slots k ∙ h.others k other;
  }

  pub relinked_after : (a b c : Rows L) (level : ℕ) (from to : Option ℕ) → SameLevel a b level → IsRelinked b c level from to → IsRelinked a c level from to
  relinked_after a b c level from to s h = record {
    first = h.first ∙ ap (first_after from to) s.first;
    changed = λ k is. h.changed k is ∙ ap (with_next to) (s.slots k);
    others = λ k other. h.others k other ∙ s.slots k;
  }

  pub same_level : (a b c : Rows L) (level : ℕ) → SameLevel a b level → SameLevel b c level → SameLevel a c level
  same_level a b c level s t = record { slots = λ k. t.slots k ∙ s.slots k; first = t.first ∙ s.first }

  pub same_rest : (a b c : Rows L) → SameRest a b → SameRest b c → SameRest a c
  same_rest a b c s t = record { places = t.places ∙ s.places; tick = t.tick ∙ s.tick; capacity = t.capacity ∙ s.capacity; counted = t.counted ∙ s.counted }

  same_slots : (a b : Rows L) → a.nodes ≡ b.nodes → a.tick ≡ b.tick → (level k : ℕ) → slot_at a level k ≡ slot_at b level k
  same_slots a b nodes tick level k = ap (λ (n : Slab (Node L)). slot_of a.tick level (get n k)) nodes ∙ ap (λ t. slot_of t level (get b.nodes k)) tick

  same_first : (a b : Rows L) → a.heads ≡ b.heads → (level : ℕ) → first_link a level ≡ first_link b level
  same_first a b heads level = ap (λ (l : List (Option ℕ)). get_or l level None) heads

  -- what is found of a node
  pub entry_of_node : (r : Rows L) (level key : ℕ) (node : Node L) → get r.nodes key ≡ Some node
      → (let e : Entry = record { key = key; row = armed_row r.tick node.row; top = node.top } in entry_at (slot_at r level) key ≡ Some e)
  entry_of_node r level key node is = ap (λ n. option_map (entry_of key) (slot_of r.tick level n)) is

  pub found_in : (r : Rows L) (timer key : ℕ) → IsLinked r → key_of timer (entries r) ≡ Some key → Found (slot_at r 0) timer key (entries r)
  found_in r timer key h e =
      found (slot_at r 0) timer key (entries r) (backed (slot_at r 0) (first_link r 0) (entries r) (subst (λ es. IsChain (slot_at r 0) (first_link r 0) es) (on_level-lowest (entries r)) (h.chain 0 h.some_level))) e

  -- a timer's key leads to a node
  pub node_there : (r : Rows L) (timer key : ℕ) → IsLinked r → key_of timer (entries r) ≡ Some key → get r.nodes key ≡ None → ⊥
  node_there r timer key h e none =
      let f = found_in r timer key h e in
      let nothing : entry_at (slot_at r 0) key ≡ None = ap (λ n. option_map (entry_of key) (slot_of r.tick 0 n)) none in
      let there : entry_at (slot_at r 0) key ≡ Some f.entry = f.there in
      let no_row : ⊥ = cc in no_row

  -- which is the timer's
  pub entry_found : (r : Rows L) (timer key : ℕ) (node : Node L) (h : IsLinked r) (e : key_of timer (entries r) ≡ Some key) → get r.nodes key ≡ Some node
      → (let x : Entry = record { key = key; row = armed_row r.tick node.row; top = node.top } in x ≡ (found_in r timer key h e).entry)
  entry_found r timer key node h e there =
      let f = found_in r timer key h e in
      let x : Entry = record { key = key; row = armed_row r.tick node.row; top = node.top } in
      let one : entry_at (slot_at r 0) key ≡ Some x = entry_of_node r 0 key node there in
      let two : entry_at (slot_at r 0) key ≡ Some f.entry = f.there in
      let both : x ≡ f.entry = cc in both

  pub left_found : (r : Rows L) (timer key : ℕ) (node : Node L) → IsLinked r → key_of timer (entries r) ≡ Some key → get r.nodes key ≡ Some node
      → Some (armed_row r.tick node.row).left ≡ left_of timer (line r)
  left_found r timer key node h e there =
      ap (λ (x : Entry). Some x.row.left) (entry_found r timer key node h e there) ∙ sym (ap (option_map (λ (row : ArmedRow). row.left)) (found_in r timer key h e).first)

  pub timer_below : (r : Rows L) (timer key : ℕ) → IsLinked r → key_of timer (entries r) ≡ Some key → timer < count r
  timer_below r timer key h e = elim (cases_lt timer (count r)) as (λ _. timer < count r)
      [ inl less ↦ less | inr more ↦ (let none = none_beyond timer (count r) (entries r) h.in_order.below more in absurd (let no_key : ⊥ = cc in no_key)) ]

  pub is_room : (r : Rows L) (row : ArmedRow) → IsLinked r → row.timer < count r → row.left ≤ 2147483647 → AllByRecursion (IsAnew row) (line r) → HasRoomFor r.nodes 1
  is_room r row h below near fresh = omega (arith, has_room (count r) row (line r) below near fresh h.in_order, h.counted, h.room, length-map (entries r) (λ (e : Entry). e.row))

  -- the last node before a row is there
  stop_there : (r : Rows L) (level : ℕ) (row : ArmedRow) (key : ℕ) → level < L → IsLinked r → IsStop r level row (Some key)
      → (x : Entry) × (entry_at (slot_at r level) key ≡ Some x) × (sooner x.row row ≡ true)
  stop_there r level row key less h w =
      let l = has_last key w.front w.ends in
      let chain : IsChain (slot_at r level) (first_link r level) (w.front ++ w.rest) = subst (λ es. IsChain (slot_at r level) (first_link r level) es) w.parts (h.chain level less) in
      let there = Each-front (λ (e : Entry). entry_at (slot_at r level) e.key ≡ Some e) w.front w.rest (backed (slot_at r level) (first_link r level) (w.front ++ w.rest) chain) in (
        l.last,
        sym (ap (entry_at (slot_at r level)) l.is) ∙ Each-one (λ (e : Entry). entry_at (slot_at r level) e.key ≡ Some e) l.last w.front there l.one,
        Each-one (λ (e : Entry). sooner e.row row ≡ true) l.last w.front w.before l.one,
      )

  -- so it isn't a new one, nor one of the row itself
  stop_not_new : (r : Rows L) (level : ℕ) (row : ArmedRow) (key : ℕ) (last : Option ℕ) → level < L → IsLinked r → IsStop r level row last → get r.nodes key ≡ None → last ≡ Some key → ⊥
  stop_not_new r level row key last less h w vacant is =
      let s = stop_there r level row key less h (subst (IsStop r level row) is w) in
      let none : entry_at (slot_at r level) key ≡ None = ap (λ n. option_map (entry_of key) (slot_of r.tick level n)) vacant in
      let there : entry_at (slot_at r level) key ≡ Some s.0 = s.1 in
      let no_row : ⊥ = cc in no_row

  stop_not_own : (r : Rows L) (level : ℕ) (key : ℕ) (node : Node L) (last : Option ℕ) → level < L → IsLinked r → IsStop r level (armed_row r.tick node.row) last → get r.nodes key ≡ Some node → last ≡ Some key → ⊥
  stop_not_own r level key node last less h w there is =
      let row = armed_row r.tick node.row in
      let s = stop_there r level row key less h (subst (IsStop r level row) is w) in
      let mine = entry_of_node r level key node there in
      let same : Some s.0 ≡ Some (let e : Entry = record { key = key; row = row; top = node.top } in e) = sym s.1 ∙ mine in
      let it : s.0 ≡ (let e : Entry = record { key = key; row = row; top = node.top } in e) = cc in
      false≢true (sym (not_sooner row) ∙ ap (λ (x : Entry). sooner x.row row) (sym it) ∙ s.2)

  -- what the steps of an insertion come to
  pub inserted_by : (r r1 r2 r' : Rows L) (node : Node L) (key : ℕ) (lasts links : List (Option ℕ)) → IsLinked r → AreStops r (armed_row r.tick node.row) lasts → AreLinks r lasts links
      → node.links ≡ links → get r.nodes key ≡ None → Updates r.nodes r1.nodes key (Some node) → slab_len r1.nodes ≡ slab_len r.nodes + 1 → r1.nodes.capacity ≡ r.nodes.capacity
      → r1.tick ≡ r.tick → r1.heads ≡ r.heads → r1.places ≡ r.places → AreRelinked r1 r2 node.top lasts (replicate L (Some key))
      → r'.nodes ≡ r2.nodes → r'.heads ≡ r2.heads → r'.tick ≡ r2.tick → r'.places.items ≡ set r2.places.items node.row.no (Some key)
      → IsInserted r r' (let e : Entry = record { key = key; row = armed_row r.tick node.row; top = node.top } in e) lasts
  inserted_by r r1 r2 r' node key lasts links h stops are links_are vacant up len cap tick1 heads1 places1 re nodes2 heads2 tick2 places2 =
      let row = armed_row r.tick node.row in
      let at1 : (level k : ℕ) → k ≢ key → slot_at r1 level k ≡ slot_at r level k =
      λ level k other. ap (λ n. slot_of r1.tick level n) (up.others k other) ∙ ap (λ t. slot_of t level (get r.nodes k)) tick1 in
      let put1 : (level : ℕ) → slot_at r1 level key ≡ slot_of r.tick level (Some node) =
      λ level. ap (λ n. slot_of r1.tick level n) up.changed ∙ ap (λ t. slot_of t level (Some node)) tick1 in
      let at2 : (level k : ℕ) → slot_at r' level k ≡ slot_at r2 level k = same_slots r' r2 nodes2 tick2 in
      record {
        vacant = λ level. ap (slot_of r.tick level) vacant;
        low = λ level less low.
            let to : get_or (replicate L (Some key)) level None ≡ Some key = get_or-replicate L level (Some key) None less in
            let s : IsRelinked r1 r2 level (get_or lasts level None) (Some key) = subst (IsRelinked r1 r2 level (get_or lasts level None)) to (re.low level less low) in
            record {
              put = at2 level key ∙ s.others key (stop_not_new r level row key (get_or lasts level None) less h (stops level less) vacant) ∙ put1 level
                  ∙ ap (λ n. Some (let t : Slot = record { row = row; top = node.top; next = n } in t)) (ap (λ (l : List (Option ℕ)). get_or l level None) links_are ∙ are level less);
              changed = λ k other is. at2 level k ∙ s.changed k is ∙ ap (with_next (Some key)) (at1 level k other);
              others = λ k other isnt. at2 level k ∙ s.others k isnt ∙ at1 level k other;
              first = same_first r' r2 heads2 level ∙ s.first ∙ ap (first_after (get_or lasts level None) (Some key)) (same_first r1 r heads1 level);
            };
        high = λ level high.
            let s = re.high level high in
            record {
              others = λ k other. at2 level k ∙ s.slots k ∙ at1 level k other;
              first = same_first r' r2 heads2 level ∙ s.first ∙ same_first r1 r heads1 level;
            };
        places = places2 ∙ ap (λ v. set v.items node.row.no (Some key)) (re.rest.places ∙ places1);
        tick = tick2 ∙ re.rest.tick ∙ tick1;
        capacity = ap (λ (n : Slab (Node L)). n.capacity) nodes2 ∙ re.rest.capacity ∙ cap;
        counted = ap (λ (n : Slab (Node L)). slab_len n) nodes2 ∙ re.rest.counted ∙ len;
      }

  -- the whole insertion of a row
  pub inserted_row : (r r1 r2 r' : Rows L) (node : Node L) (key : ℕ) (lasts links : List (Option ℕ)) (row : ArmedRow) → IsLinked r → armed_row r.tick node.row ≡ row
      → AreStops r (armed_row r.tick node.row) lasts → AreLinks r lasts links
      → node.links ≡ links → get r.nodes key ≡ None → Updates r.nodes r1.nodes key (Some node) → slab_len r1.nodes ≡ slab_len r.nodes + 1 → r1.nodes.capacity ≡ r.nodes.capacity
      → r1.tick ≡ r.tick → r1.heads ≡ r.heads → r1.places ≡ r.places → AreRelinked r1 r2 node.top lasts (replicate L (Some key))
      → r'.nodes ≡ r2.nodes → r'.heads ≡ r2.heads → r'.tick ≡ r2.tick → r'.places.items ≡ set r2.places.items node.row.no (Some key)
      → row.timer < count r → row.left ≤ 2147483647 → AllByRecursion (IsAnew row) (line r) → After r' (put_row row (line r))
  inserted_row r r1 r2 r' node key lasts links row h is stops are links_are vacant up len cap tick1 heads1 places1 re nodes2 heads2 tick2 places2 below near fresh =
      let e : Entry = record { key = key; row = armed_row r.tick node.row; top = node.top } in
      let p = inserted_by r r1 r2 r' node key lasts links h stops are links_are vacant up len cap tick1 heads1 places1 re nodes2 heads2 tick2 places2 in
      subst (λ (a : ArmedRow). After r' (put_row a (line r))) is
      (inserted r r' e lasts h stops p (subst (λ (a : ArmedRow). a.timer < count r) (sym is) below) (subst (λ (a : ArmedRow). a.left ≤ 2147483647) (sym is) near) (subst (λ (a : ArmedRow). AllByRecursion (IsAnew a) (line r)) (sym is) fresh))

  -- what the steps of a removal come to
  pub removed_by : (r r1 r2 r' : Rows L) (timer key : ℕ) (node : Node L) (lasts : List (Option ℕ)) → IsLinked r → AreStops r (armed_row r.tick node.row) lasts
      → get r.nodes key ≡ Some node → Updates r.nodes r1.nodes key None → slab_len r1.nodes + 1 ≡ slab_len r.nodes → r1.nodes.capacity ≡ r.nodes.capacity
      → r1.tick ≡ r.tick → r1.heads ≡ r.heads → r1.places ≡ r.places → AreRelinked r1 r2 node.top lasts node.links
      → r'.nodes ≡ r2.nodes → r'.heads ≡ r2.heads → r'.tick ≡ r2.tick → r'.places.items ≡ set r2.places.items timer None
      → IsRemoved r r' timer (let e : Entry = record { key = key; row = armed_row r.tick node.row; top = node.top } in e) lasts
  removed_by r r1 r2 r' timer key node lasts h stops there up len cap tick1 heads1 places1 re nodes2 heads2 tick2 places2 =
      let at1 : (level k : ℕ) → k ≢ key → slot_at r1 level k ≡ slot_at r level k =
      λ level k other. ap (λ n. slot_of r1.tick level n) (up.others k other) ∙ ap (λ t. slot_of t level (get r.nodes k)) tick1 in
      let at2 : (level k : ℕ) → slot_at r' level k ≡ slot_at r2 level k = same_slots r' r2 nodes2 tick2 in
      let next : (level : ℕ) → get_or node.links level None ≡ next_of (slot_at r level key) = λ level. sym (ap (λ n. next_of (slot_of r.tick level n)) there) in
      let own : (level : ℕ) → level < L → get_or lasts level None ≡ Some key → ⊥ = λ level less. stop_not_own r level key node (get_or lasts level None) less h (stops level less) there in
      let cut : (level : ℕ) → level < L → level ≤ node.top → IsRelinked r1 r2 level (get_or lasts level None) (next_of (slot_at r level key)) =
      λ level less low. subst (IsRelinked r1 r2 level (get_or lasts level None)) (next level) (re.low level less low) in
      record {
        gone = at2 0 key ∙ (cut 0 h.some_level (omega arith)).others key (own 0 h.some_level) ∙ ap (λ n. slot_of r1.tick 0 n) up.changed;
        low = λ level less low.
            let s = cut level less low in
            record {
              changed = λ k other is. at2 level k ∙ s.changed k is ∙ ap (with_next (next_of (slot_at r level key))) (at1 level k other);
              others = λ k other isnt. at2 level k ∙ s.others k isnt ∙ at1 level k other;
              first = same_first r' r2 heads2 level ∙ s.first ∙ ap (first_after (get_or lasts level None) (next_of (slot_at r level key))) (same_first r1 r heads1 level);
            };
        high = λ level high.
            let s = re.high level high in
            record {
              others = λ k other. at2 level k ∙ s.slots k ∙ at1 level k other;
              first = same_first r' r2 heads2 level ∙ s.first ∙ same_first r1 r heads1 level;
            };
        places = places2 ∙ ap (λ v. set v.items timer None) (re.rest.places ∙ places1);
        tick = tick2 ∙ re.rest.tick ∙ tick1;
        capacity = ap (λ (n : Slab (Node L)). n.capacity) nodes2 ∙ re.rest.capacity ∙ cap;
        counted = omega (arith, ap (λ (n : Slab (Node L)). slab_len n) nodes2, re.rest.counted, len);
      }

  -- the whole removal of a timer's node
  pub removed_node : (r r' : Rows L) (timer key : ℕ) (node : Node L) (lasts : List (Option ℕ)) → IsLinked r → key_of timer (entries r) ≡ Some key → get r.nodes key ≡ Some node → AreStops r (armed_row r.tick node.row) lasts
      → IsRemoved r r' timer (let e : Entry = record { key = key; row = armed_row r.tick node.row; top = node.top } in e) lasts → After r' (take_out timer (line r))
  removed_node r r' timer key node lasts h is there stops p =
      let f = found_in r timer key h is in
      let e = entry_found r timer key node h is there in
      removed r r' timer key lasts h f (subst (λ (x : Entry). AreStops r x.row lasts) e stops) (subst (λ (x : Entry). IsRemoved r r' timer x lasts) e p) (timer_below r timer key h is)

  -- a list without a node
  pub none_linked : (r : Rows L) (n : ℕ) → 0 < L → r.tick < 4294967296 → r.heads ≡ replicate L None → r.nodes.slots ≡ [] → n ≤ r.nodes.capacity → r.places.items ≡ replicate n None → After r []
  unfolding no_keys
  none_linked r n some tick none empty room places =
      let es : List Entry = [] in
      after r es [] record {
        some_level = some;
        tick = tick;
        chain = λ level less. ap (λ (l : List (Option ℕ)). get_or l level None) none ∙ none_at L level;
        in_order = record { in_order = tt; below = tt; near = tt };
        counted = ap (λ (s : List (Option (Node L))). count_by is_some s) empty;
        room = omega (arith, ap length places, length-replicate {A = Option ℕ} n None, room);
        each = λ key x e. absurd (let none_there : entry_at (slot_at r 0) key ≡ None = ap (λ (s : List (Option (Node L))). option_map (entry_of key) (slot_of r.tick 0 (get_or s key None))) empty in let no_row : ⊥ = cc in no_row);
        placed = λ timer less. ap (λ (l : List (Option ℕ)). get_or l timer None) places ∙ none_at n timer;
      } refl

-- some ticks later

abbrev entry_after : ℕ → Entry → Entry
entry_after n e = record e { row = row_after n e.row }

on_level-after : (n level : ℕ) (es : List Entry) → on_level level (map (entry_after n) es) ≡ map (entry_after n) (on_level level es)
on_level-after n level [] = refl
on_level-after n level (e ∷ es) = by_test (is_on level e) (on_level-after n level es)
  where
    by_test : (b : Bool) → on_level level (map (entry_after n) es) ≡ map (entry_after n) (on_level level es)
        → cond b (entry_after n e ∷ on_level level (map (entry_after n) es)) (on_level level (map (entry_after n) es)) ≡ map (entry_after n) (cond b (e ∷ on_level level es) (on_level level es))
    by_test true k = ap (λ l. entry_after n e ∷ l) k
    by_test false k = k

rows_of-after : (n : ℕ) (es : List Entry) → rows_of (map (entry_after n) es) ≡ map (row_after n) (rows_of es)
rows_of-after n [] = refl
rows_of-after n (e ∷ es) = ap (λ l. row_after n e.row ∷ l) (rows_of-after n es)

key_of-after : (n timer : ℕ) (es : List Entry) → key_of timer es ≡ key_of timer (map (entry_after n) es)
key_of-after n timer [] = refl
key_of-after n timer (e ∷ es) = ap (λ o. cond (is_row_of timer e.row) (Some e.key) o) (key_of-after n timer es)

IsIn-after : (n : ℕ) (x : Entry) (es : List Entry) → IsIn x es → IsIn (entry_after n x) (map (entry_after n) es)
IsIn-after n x [] h = absurd h
IsIn-after n x (e ∷ es) h = elim h as (λ _. IsIn (entry_after n x) (map (entry_after n) (e ∷ es))) [ inl same ↦ inl (ap (entry_after n) same) | inr more ↦ inr (IsIn-after n x es more) ]

-- a node's row so many ticks later, where as many are left
row_later : (n tick : ℕ) (row : Row) → tick < 4294967296 → n < 4294967296 → n ≤ (armed_row tick row).left → armed_row (tick_after tick n) row ≡ row_after n (armed_row tick row)
row_later n tick row t k ahead = ap (λ l. (let a : ArmedRow = record { left = l; number = row.at; timer = row.no } in a)) (left-later row.due tick n t k ahead)

chain_after : (n : ℕ) (at at' : ℕ → Option Slot) (link : Option ℕ) (es : List Entry) → AllByRecursion (λ (e : Entry). n ≤ e.row.left) es
    → ((k : ℕ) (s : Slot) → at k ≡ Some s → n ≤ s.row.left → at' k ≡ Some (record s { row = row_after n s.row })) → IsChain at link es → IsChain at' link (map (entry_after n) es)
chain_after n at at' link [] all later h = h
chain_after n at at' link (e ∷ es) all later h = (h.0, h.1, later e.key (record { row = e.row; top = e.top; next = h.1 }) h.2 all.0, chain_after n at at' h.1 es all.1 later h.3)

module _ {L : ℕ} where
  slot_later : (r r' : Rows L) (n level k : ℕ) (s : Slot) → r.tick < 4294967296 → n < 4294967296 → r'.nodes ≡ r.nodes → r'.tick ≡ tick_after r.tick n
      → slot_at r level k ≡ Some s → n ≤ s.row.left → slot_at r' level k ≡ Some (record s { row = row_after n s.row })
  slot_later r r' n level k s t few nodes tick is ahead =
      ap (λ (a : Slab (Node L)). slot_of r'.tick level (get a k)) nodes ∙ ap (λ u. slot_of u level (get r.nodes k)) tick ∙ by_node (get r.nodes k) is
    where
      by_node : (d : Option (Node L)) → slot_of r.tick level d ≡ Some s → slot_of (tick_after r.tick n) level d ≡ Some (record s { row = row_after n s.row })
      by_node None e = (let none : ⊥ = cc in absurd none)
      by_node (Some d) e =
          let t0 : Slot = record { row = armed_row r.tick d.row; top = d.top; next = get_or d.links level None } in
          let same : t0 ≡ s = cc in
          let less : n ≤ (armed_row r.tick d.row).left = subst (λ (u : Slot). n ≤ u.row.left) (sym same) ahead in
          ap (λ a. Some (let u : Slot = record { row = a; top = d.top; next = get_or d.links level None } in u)) (row_later n r.tick d.row t few less)
          ∙ ap (λ (u : Slot). Some (let v : Slot = record u { row = row_after n u.row } in v)) same

  pub advanced : (r r' : Rows L) (n : ℕ) → IsLinked r → n < 4294967296 → AllByRecursion (λ (row : ArmedRow). n ≤ row.left) (line r)
      → r'.nodes ≡ r.nodes → r'.heads ≡ r.heads → r'.places ≡ r.places → r'.tick ≡ tick_after r.tick n → After r' (map (row_after n) (line r))
  advanced r r' n h few ahead nodes heads places tick =
      let es = entries r in
      let es' = map (entry_after n) es in
      let all : AllByRecursion (λ (e : Entry). n ≤ e.row.left) es = Each-of_rows (λ (row : ArmedRow). n ≤ row.left) es ahead in
      after r' es' (map (row_after n) (line r)) record {
        some_level = h.some_level;
        tick = subst (λ t. t < 4294967296) (sym tick) (mod_below (r.tick + n) 4294967296 (omega arith));
        chain = λ level less.
            subst (λ l. IsChain (slot_at r' level) (first_link r' level) l) (sym (on_level-after n level es))
            (subst (λ l. IsChain (slot_at r' level) l (map (entry_after n) (on_level level es))) (sym (ap (λ (l : List (Option ℕ)). get_or l level None) heads))
            (chain_after n (slot_at r level) (slot_at r' level) (first_link r level) (on_level level es) (Each-on_level (λ (e : Entry). n ≤ e.row.left) level es all)
            (λ k s is left. slot_later r r' n level k s h.tick few nodes tick is left) (h.chain level less)));
        in_order = subst (IsLine (length r'.places.items)) (sym (rows_of-after n es)) (subst (λ c. IsLine c (map (row_after n) (line r))) (sym (ap (λ v. length v.items) places)) (IsLine-after (count r) n (line r) ahead h.in_order));
        counted = ap (λ (a : Slab (Node L)). slab_len a) nodes ∙ h.counted ∙ sym (length-map es (entry_after n));
        room = omega (arith, ap (λ v. length v.items) places, ap (λ (a : Slab (Node L)). a.capacity) nodes, h.room);
        each = λ k x is. in_later k x is (slot_at r 0 k) refl;
        placed = λ timer less. ap (λ v. get_or v.items timer None) places ∙ h.placed timer (omega (arith, less, ap (λ v. length v.items) places)) ∙ key_of-after n timer es;
      } (rows_of-after n es)
    where
      in_later : (k : ℕ) (x : Entry) → entry_at (slot_at r' 0) k ≡ Some x → (o : Option Slot) → slot_at r 0 k ≡ o → IsIn x (map (entry_after n) (entries r))
      in_later k x is None e =
          let gone : entry_at (slot_at r' 0) k ≡ None = ap (option_map (entry_of k)) (nothing k e) in
          absurd (let none : ⊥ = cc in none)
        where
          nothing : (k : ℕ) → slot_at r 0 k ≡ None → slot_at r' 0 k ≡ None
          nothing k e = ap (λ (a : Slab (Node L)). slot_of r'.tick 0 (get a k)) nodes ∙ by_node (get r.nodes k) e
            where
              by_node : (d : Option (Node L)) → slot_of r.tick 0 d ≡ None → slot_of r'.tick 0 d ≡ None
              by_node None e = refl
              by_node (Some d) e = (let none : ⊥ = cc in absurd none)
      in_later k x is (Some s) e =
          let one : IsIn (entry_of k s) (entries r) = h.each k (entry_of k s) (ap (option_map (entry_of k)) e) in
          let left : n ≤ s.row.left = Each-one (λ (y : Entry). n ≤ y.row.left) (entry_of k s) (entries r) (Each-of_rows (λ (row : ArmedRow). n ≤ row.left) (entries r) ahead) one in
          let later = slot_later r r' n 0 k s h.tick few nodes tick e left in
          let same : Some x ≡ Some (entry_after n (entry_of k s)) = sym is ∙ ap (option_map (entry_of k)) later in
          let it : entry_after n (entry_of k s) ≡ x = cc in
          subst (λ y. IsIn y (map (entry_after n) (entries r))) it (IsIn-after n (entry_of k s) (entries r) one)
