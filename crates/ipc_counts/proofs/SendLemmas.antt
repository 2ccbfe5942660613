-- The walk of a send over the waiters.
use Rattle.std.proofs.Common.{ℕ, ◌≡◌, ◌≢◌, ◌+◌, ◌<◌, ◌≤◌, zero, suc, List, [], ◌∷◌, ◌++◌, length, map, set, get_or, Option, Some, None, Bool, true, false, cond, refl, sym, ap, subst, ◌∙◌, arith, length-append, length-set, inl, inr, ◌⊎◌}
use Rattle.std.specs.Prelude.{slice_get, filter, fold, bit_and, bit_or, IfSome}
use Rattle.std.proofs.lemmas.Grind.{fold-append}
use Rattle.std.proofs.lemmas.List.{append_assoc, append-nil, length-map, length_push, map_push, nil_from_length}
use Rattle.std.proofs.lemmas.Option.{slice_get_within, none-some, same_Some, slice_get-get_or}
use Rattle.rt_plain.specs.kernel.Waiting.{head_of}
use Rattle.rt_plain.specs.kernel.EventCalls.{Want as PlainWant, Wanting, is_satisfied, flags_after, satisfied_waiters, flags_left}
use Rattle.susp_list.specs.declared.row.Row.{Row}
use Rattle.susp_list.specs.Rows.{Waits, line, holds, is_waiting}
use Rattle.ipc_counts.specs.declared.want.Want.{Want}
use Rattle.ipc_counts.specs.Flags.{Flagged, Woken, plain_want}
use Rattle.ipc_counts.specs.Released.{without}
use Rattle.ipc_counts.specs.Sent.{want_at, wanting_of, wanting, woken_by, rows_without, sent}

get-set_other : {X : Type 0} → (xs : List X) (i j : ℕ) (y : X) → j ≢ i → slice_get (set xs i y) j ≡ slice_get xs j
get-set_other [] i j y h = refl
get-set_other (x ∷ xs) zero zero y h = absurd (h refl)
get-set_other (x ∷ xs) zero (suc j) y h = refl
get-set_other (x ∷ xs) (suc i) zero y h = refl
get-set_other (x ∷ xs) (suc i) (suc j) y h = get-set_other xs i j y (λ e. h (ap suc e))

-- those of the threads passed who are satisfied
abbrev pub passed : List Want → ℕ → List ℕ → List Wanting
passed wants flags done = satisfied_waiters flags (map (wanting_of wants) done)

-- a woken thread with the flags that it gets
abbrev got_by : ℕ → Wanting → ℕ × ℕ
got_by flags w = (w.thread, bit_and flags w.want.mask)

-- the flags after one more was satisfied
abbrev cleared_by : ℕ → Wanting → ℕ
cleared_by left w = flags_after left w.want

-- the walk has passed some threads, of whom those who weren't satisfied are kept
pub record IsSending (e : Flagged) (flags : ℕ) (threads : ℕ) (w : Waits) (wants : List Want) (woken : Woken) (left : ℕ) (next : Option ℕ) (counter : ℕ) : Type 0 where
  pub done : List ℕ
  pub rest : List ℕ
  pub kept : List ℕ
  pub whole : line e.waiters ≡ done ++ rest
  pub parts : line w ≡ kept ++ rest
  pub next_is : next ≡ head_of rest
  pub held : IfSome next (λ t. holds w t ≡ true)
  pub waiters_is : w ≡ record e.waiters { rows = rows_without e.waiters.rows (passed e.wants flags done) }
  pub wants_is : wants ≡ e.wants
  pub woken_is : woken ≡ record { threads = threads; woken = woken_by flags (map (wanting_of e.wants) done) }
  pub left_is : left ≡ flags_left flags (map (wanting_of e.wants) done)
  pub counted : length done ≡ counter

length-rows_without : (rows : List (Option Row)) (ws : List Wanting) → length (rows_without rows ws) ≡ length rows
length-rows_without rows [] = refl
length-rows_without rows (w ∷ ws) = length-rows_without (set rows w.thread None) ws ∙ length-set rows w.thread None

rows_without-push : (rows : List (Option Row)) (ws : List Wanting) (w : Wanting) → rows_without rows (ws ++ w ∷ []) ≡ set (rows_without rows ws) w.thread None
rows_without-push rows [] w = refl
rows_without-push rows (v ∷ ws) w = rows_without-push (set rows v.thread None) ws w

length-filter_le : (p : Wanting → Bool) (ws : List Wanting) → length (filter p ws) ≤ length ws
length-filter_le p [] = omega arith
length-filter_le p (w ∷ ws) = by_test (p w) (length-filter_le p ws)
  where
    by_test : (b : Bool) → length (filter p ws) ≤ length ws → length (cond b (w ∷ filter p ws) (filter p ws)) ≤ length (w ∷ ws)
    by_test true h = omega arith
    by_test false h = omega arith

passed-more : (wants : List Want) (flags : ℕ) (done : List ℕ) (t : ℕ) (b : Bool) → is_satisfied flags (want_at (slice_get wants t)) ≡ b
    → passed wants flags (done ++ t ∷ []) ≡ passed wants flags done ++ cond b (wanting_of wants t ∷ []) []
passed-more wants flags [] t b e = ap (λ c. cond c (wanting_of wants t ∷ []) []) e
passed-more wants flags (x ∷ done) t b e = by_test (is_satisfied flags (want_at (slice_get wants x))) (passed-more wants flags done t b e)
  where
    by_test : (c : Bool) → passed wants flags (done ++ t ∷ []) ≡ passed wants flags done ++ cond b (wanting_of wants t ∷ []) []
        → cond c (wanting_of wants x ∷ passed wants flags (done ++ t ∷ [])) (passed wants flags (done ++ t ∷ []))
        ≡ cond c (wanting_of wants x ∷ passed wants flags done) (passed wants flags done) ++ cond b (wanting_of wants t ∷ []) []
    by_test true r = ap (λ l. wanting_of wants x ∷ l) r
    by_test false r = r

-- the list begins with its first
record Begins (t : ℕ) (l : List ℕ) : Type 0 where
  others : List ℕ
  is : l ≡ t ∷ others

begins : (t : ℕ) (l : List ℕ) → Some t ≡ head_of l → Begins t l
begins t [] e = absurd (none-some t (sym e))
begins t (x ∷ l) e = record { others = l; is = ap (λ u. u ∷ l) (sym (same_Some t x e)) }

pub start : (e : Flagged) (flags threads : ℕ) (woken : Woken) (next : Option ℕ) → next ≡ head_of (line e.waiters) → IfSome next (λ t. holds e.waiters t ≡ true) → woken ≡ record { threads = threads; woken = [] }
    → IsSending e flags threads e.waiters e.wants woken flags next 0
start e flags threads woken next first held none = record {
  done = [];
  rest = line e.waiters;
  kept = [];
  whole = refl;
  parts = refl;
  next_is = first;
  held = held;
  waiters_is = refl;
  wants_is = refl;
  woken_is = none;
  left_is = refl;
  counted = refl;
}

module _ (e : Flagged) (flags threads : ℕ) (w : Waits) (wants : List Want) (woken : Woken) (left : ℕ) (next : Option ℕ) (counter : ℕ) where
  pub there : (t : ℕ) → next ≡ Some t → IsSending e flags threads w wants woken left next counter → holds w t ≡ true
  there t at s = subst (λ o. IfSome o (λ t. holds w t ≡ true)) at s.held

  pub rows_len : IsSending e flags threads w wants woken left next counter → length w.rows ≡ length e.waiters.rows
  rows_len s = ap (λ (v : Waits). length v.rows) s.waiters_is ∙ length-rows_without e.waiters.rows (passed e.wants flags s.done)

  -- a thread that waits has a want
  pub want_there : (t : ℕ) → next ≡ Some t → length e.wants ≡ length e.waiters.rows → IsSending e flags threads w wants woken left next counter → t < length wants
  want_there t at same s =
      let h : t < length w.rows = held_within w.rows t (there t at s) in
      omega (arith, h, rows_len s, same, ap length s.wants_is)
    where
      held_at : (rows : List (Option Row)) (t : ℕ) (g : Option (Option Row)) → slice_get rows t ≡ g → is_waiting g ≡ true → t < length rows
      held_at rows t None e h = absurd (bad h)
        where
          bad : false ≡ true → ⊥
          bad e = cc
      held_at rows t (Some x) e h = slice_get_within rows t x e

      held_within : (rows : List (Option Row)) (t : ℕ) → is_waiting (slice_get rows t) ≡ true → t < length rows
      held_within rows t h = held_at rows t (slice_get rows t) refl h

  -- there is room for one more
  pub room : counter < length (line e.waiters) → length (line e.waiters) ≤ length e.waiters.rows → length e.waiters.rows ≤ threads → IsSending e flags threads w wants woken left next counter
      → length woken.woken < woken.threads
  room more within enough s =
      omega (
        arith,
        ap (λ (v : Woken). length v.woken) s.woken_is,
        ap (λ (v : Woken). v.threads) s.woken_is,
        length-map {B = ℕ × ℕ} (passed e.wants flags s.done) (λ (v : Wanting). (v.thread, bit_and flags v.want.mask)),
        length-filter_le (λ v. is_satisfied flags v.want) (map (wanting_of e.wants) s.done),
        length-map s.done (wanting_of e.wants),
        s.counted,
      )

  module _ (t : ℕ) (want : Want) (further : Option ℕ) (at : next ≡ Some t) (inside : t < length wants) (read : want ≡ get_or wants t want) (s : IsSending e flags threads w wants woken left next counter)
      (behind : (front rest : List ℕ) → line w ≡ front ++ t ∷ rest → further ≡ head_of rest) where
    its_want : want_at (slice_get e.wants t) ≡ plain_want want
    its_want =
        ap (λ (l : List Want). want_at (slice_get l t)) (sym s.wants_is) ∙ ap want_at (slice_get-get_or wants t want inside) ∙ ap plain_want (sym read)

    open_rest : Begins t s.rest
    open_rest = begins t s.rest (sym at ∙ s.next_is)

    split_line : line w ≡ s.kept ++ t ∷ open_rest.others
    split_line = s.parts ∙ ap (λ l. s.kept ++ l) open_rest.is

    all : line e.waiters ≡ (s.done ++ t ∷ []) ++ open_rest.others
    all = s.whole ∙ ap (λ l. s.done ++ l) open_rest.is ∙ sym (append_assoc s.done (t ∷ []) open_rest.others)

    -- one who isn't satisfied is kept
    pub keep : is_satisfied flags (plain_want want) ≡ false → IfSome further (λ u. holds w u ≡ true) → IsSending e flags threads w wants woken left further (counter + 1)
    keep unmet held =
        let same : passed e.wants flags (s.done ++ t ∷ []) ≡ passed e.wants flags s.done =
        passed-more e.wants flags s.done t false (ap (is_satisfied flags) its_want ∙ unmet) ∙ append-nil (passed e.wants flags s.done) in
        record {
          done = s.done ++ t ∷ [];
          rest = open_rest.others;
          kept = s.kept ++ t ∷ [];
          whole = all;
          parts = split_line ∙ sym (append_assoc s.kept (t ∷ []) open_rest.others);
          next_is = behind s.kept open_rest.others split_line;
          held = held;
          waiters_is = s.waiters_is ∙ ap (λ ws. record e.waiters { rows = rows_without e.waiters.rows ws }) (sym same);
          wants_is = s.wants_is;
          woken_is = s.woken_is ∙ ap (λ ws. record { threads = threads; woken = map (λ v. (v.thread, bit_and flags v.want.mask)) ws }) (sym same);
          left_is = s.left_is ∙ ap (λ ws. fold (λ left v. flags_after left v.want) flags ws) (sym same);
          counted = length_push s.done t ∙ ap (λ n. n + 1) s.counted;
        }

    -- one who is satisfied leaves
    pub wake : is_satisfied flags (plain_want want) ≡ true → IfSome further (λ u. holds w u ≡ true) → IfSome further (λ u. u ≢ t)
        → (new : Waits) → new ≡ without w t → ((front rest : List ℕ) → line w ≡ front ++ t ∷ rest → line new ≡ front ++ rest)
        → (more : Woken) → more ≡ record woken { woken = woken.woken ++ (t, bit_and flags want.mask) ∷ [] }
        → IsSending e flags threads new wants more (flags_after left (plain_want want)) further (counter + 1)
    wake met held other new new_is closed more more_is =
        let got : passed e.wants flags (s.done ++ t ∷ []) ≡ passed e.wants flags s.done ++ wanting_of e.wants t ∷ [] =
        passed-more e.wants flags s.done t true (ap (is_satisfied flags) its_want ∙ met) in
        record {
          done = s.done ++ t ∷ [];
          rest = open_rest.others;
          kept = s.kept;
          whole = all;
          parts = closed s.kept open_rest.others split_line;
          next_is = behind s.kept open_rest.others split_line;
          held = still further held other;
          waiters_is = new_is ∙ ap (λ v. without v t) s.waiters_is
              ∙ ap (λ rows. record e.waiters { rows = rows }) (sym (ap (rows_without e.waiters.rows) got ∙ rows_without-push e.waiters.rows (passed e.wants flags s.done) (wanting_of e.wants t)));
          wants_is = s.wants_is;
          woken_is = more_is ∙ ap (λ (v : Woken). record v { woken = v.woken ++ (t, bit_and flags want.mask) ∷ [] }) s.woken_is
              ∙ ap (λ l. record { threads = threads; woken = l }) (sym (ap (map (got_by flags)) got ∙ map_push (got_by flags) (passed e.wants flags s.done) (wanting_of e.wants t)
              ∙ ap (λ (p : PlainWant). map (got_by flags) (passed e.wants flags s.done) ++ (t, bit_and flags p.mask) ∷ []) its_want));
          left_is = ap (λ n. flags_after n (plain_want want)) s.left_is ∙ ap (λ p. flags_after (fold cleared_by flags (passed e.wants flags s.done)) p) (sym its_want)
              ∙ sym (ap (fold cleared_by flags) got ∙ fold-append cleared_by flags (passed e.wants flags s.done) (wanting_of e.wants t ∷ []));
          counted = length_push s.done t ∙ ap (λ n. n + 1) s.counted;
        }
      where
        still : (o : Option ℕ) → IfSome o (λ u. holds w u ≡ true) → IfSome o (λ u. u ≢ t) → IfSome o (λ u. holds new u ≡ true)
        still None h k = tt
        still (Some u) h k = ap (λ (v : Waits). holds v u) new_is ∙ ap is_waiting (get-set_other w.rows t u None k) ∙ h

  -- all were passed
  pub over : (next ≡ None) ⊎ (length (line e.waiters) ≤ counter) → (s : IsSending e flags threads w wants woken left next counter) → line e.waiters ≡ s.done
  over end s = s.whole ∙ ap (λ l. s.done ++ l) (none end) ∙ append-nil s.done
    where
      by_head : (l : List ℕ) → None ≡ head_of l → l ≡ []
      by_head [] e = refl
      by_head (x ∷ l) e = absurd (none-some x e)

      none : (next ≡ None) ⊎ (length (line e.waiters) ≤ counter) → s.rest ≡ []
      none (inl e) = by_head s.rest (sym e ∙ s.next_is)
      none (inr h) = nil_from_length s.rest (omega (arith, h, ap length s.whole, length-append s.done s.rest, s.counted))

  -- what the walk has done when all were passed
  pub finished : (mask : ℕ) → flags ≡ bit_or e.flags mask → (s : IsSending e flags threads w wants woken left next counter) → line e.waiters ≡ s.done
      → (record { flags = left; waiters = w; wants = wants } ≡ sent e mask) × (woken ≡ record { threads = threads; woken = woken_by (bit_or e.flags mask) (wanting e) })
  finished mask is s at =
      let state : ℕ → List ℕ → Flagged = λ f l. record e {
        flags = flags_left f (map (wanting_of e.wants) l);
        waiters = record e.waiters { rows = rows_without e.waiters.rows (passed e.wants f l) };
      } in
      let got : ℕ → List ℕ → Woken = λ f l. record { threads = threads; woken = woken_by f (map (wanting_of e.wants) l) } in
      let now : record { flags = left; waiters = w; wants = wants } ≡ state flags s.done = λ i. record { flags = s.left_is i; waiters = s.waiters_is i; wants = s.wants_is i } in (
        now ∙ ap (state flags) (sym at) ∙ ap (λ f. state f (line e.waiters)) is,
        s.woken_is ∙ ap (got flags) (sym at) ∙ ap (λ f. got f (line e.waiters)) is,
      )
