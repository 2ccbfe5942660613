-- The walk from the end of a wait list to the place of a new waiter.
use Rattle.std.proofs.Common.{ℕ, ◌≡◌, ◌+◌, ◌<◌, ◌≤◌, List, [], ◌∷◌, ◌++◌, length, get_or, Some, true, false, refl, sym, ap, subst, ◌∙◌, arith, length-append, inl, inr, ◌⊎◌}
use Rattle.std.proofs.lemmas.Bool.{cases_lt}
use Rattle.std.proofs.lemmas.List.{append_assoc, append-nil, nil_from_length, length-map}
use Rattle.std.proofs.lemmas.Option.{none-some, get_or_from_slice_get}
use Rattle.rt_base.specs.declared.codes.WaitOrder.{WaitOrder}
use Rattle.rt_plain.specs.kernel.Waiting.{Waiter, stands_before, put_in_order, in_order}
use Rattle.susp_list.specs.Rows.{Waits, waiters, line}
use Rattle.susp_list.specs.Links.{IsRing, IsPlace, IsLinkedBack, threads_of, last_or}
use Rattle.susp_list.proofs.LinkLemmas.{at_back, end_back}
use Rattle.susp_list.proofs.OrderLemmas.{Each, IsStanding-in_order, IsBeforeFirst, IsAfterLast, put_between, IsStanding}
use Rattle.susp_list.proofs.TableLemmas.{given, HasRow, Each-standing, given-past, Distinct-waiters, threads_split}

-- the walk has come to a number, and passed those behind it
pub record IsWalk (w : Waits) (new : Waiter) (before passed : ℕ) : Type 0 where
  pub front : List Waiter
  pub rest : List Waiter
  pub parts : in_order w.order (waiters w) ≡ front ++ rest
  pub last : before ≡ last_or (length w.rows) (threads_of front)
  pub passed_is : length rest ≡ passed
  pub below : IsBeforeFirst w.order new rest

-- the last of a front, and its row
pub record HasLast (rows : Waits) (front : List Waiter) (before : ℕ) : Type 0 where
  pub ini : List Waiter
  pub end : Waiter
  pub is : front ≡ ini ++ end ∷ []
  pub thread : end.thread ≡ before
  pub row : given rows.rows before ≡ Some end

record Ended (l : List Waiter) : Type 0 where
  ini : List Waiter
  end : Waiter
  is : l ≡ ini ++ end ∷ []

ended : (w : Waiter) (l : List Waiter) → Ended (w ∷ l)
ended w [] = record { ini = []; end = w; is = refl }
ended w (v ∷ l) = let e = ended v l in record { ini = w ∷ e.ini; end = e.end; is = ap (λ m. w ∷ m) e.is }

last_snoc : (root : ℕ) (l : List Waiter) (w : Waiter) → last_or root (threads_of (l ++ w ∷ [])) ≡ w.thread
last_snoc root [] w = refl
last_snoc root (v ∷ l) w = last_snoc v.thread l w

Each-at : (P : Waiter → Type 0) (a : List Waiter) (w : Waiter) (b : List Waiter) → Each P (a ++ w ∷ b) → P w
Each-at P [] w b h = h.0
Each-at P (v ∷ a) w b h = Each-at P a w b h.1

after_snoc : (o : WaitOrder) (new : Waiter) (l : List Waiter) (w : Waiter) → stands_before o new w ≡ false → IsAfterLast o new (l ++ w ∷ [])
after_snoc o new [] w h = h
after_snoc o new (v ∷ []) w h = h
after_snoc o new (v ∷ u ∷ l) w h = after_snoc o new (u ∷ l) w h

pub walk_start : (w : Waits) (new : Waiter) (next prev : List ℕ) (root len before : ℕ) → IsRing w next prev root len → before ≡ get_or prev root before → IsWalk w new before 0
walk_start w new next prev root len before ring e = record {
  front = in_order w.order (waiters w);
  rest = [];
  parts = sym (append-nil (in_order w.order (waiters w)));
  last = e ∙ get_or_from_slice_get prev root (last_or root (line w)) before (end_back prev root (line w) root ring.back) ∙ ap (λ r. last_or r (line w)) ring.root_is;
  passed_is = refl;
  below = tt;
}

-- while not all were passed, the walk is at a waiter
pub walk_last : (w : Waits) (new : Waiter) (next prev : List ℕ) (root len before passed : ℕ) → IsRing w next prev root len → passed < len → (walk : IsWalk w new before passed) → HasLast w walk.front before
walk_last w new next prev root len before passed ring h walk = by_front walk.front walk.parts walk.last
  where
    short : in_order w.order (waiters w) ≡ walk.rest → ⊥
    short e = omega (arith, h, ring.counted, length-map (in_order w.order (waiters w)) (λ (v : Waiter). v.thread), ap length e, walk.passed_is)

    by_front : (front : List Waiter) → in_order w.order (waiters w) ≡ front ++ walk.rest → before ≡ last_or (length w.rows) (threads_of front) → HasLast w front before
    by_front [] parts at = absurd (short parts)
    by_front (v ∷ l) parts at =
        let e = ended v l in
        let thread : e.end.thread ≡ before = sym (at ∙ ap (λ m. last_or (length w.rows) (threads_of m)) e.is ∙ last_snoc (length w.rows) e.ini e.end) in
        let whole : in_order w.order (waiters w) ≡ e.ini ++ e.end ∷ walk.rest = parts ∙ ap (λ m. m ++ walk.rest) e.is ∙ append_assoc e.ini (e.end ∷ []) walk.rest in
        let there : HasRow w.rows e.end = Each-at (HasRow w.rows) e.ini e.end walk.rest (subst (λ m. Each (HasRow w.rows) m) whole (Each-standing w.order w.rows)) in
        record { ini = e.ini; end = e.end; is = e.is; thread = thread; row = subst (λ t. given w.rows t ≡ Some e.end) thread there }

pub last_within : (w : Waits) (front : List Waiter) (before : ℕ) → HasLast w front before → before < length w.rows
last_within w front before at = by_size (cases_lt before (length w.rows))
  where
    by_size : (before < length w.rows) ⊎ (length w.rows ≤ before) → before < length w.rows
    by_size (inl h) = h
    by_size (inr h) = absurd (none-some at.end (sym (given-past w.rows before h) ∙ at.row))

place_of : (w : Waits) (new : Waiter) (before passed : ℕ) → (walk : IsWalk w new before passed) → IsAfterLast w.order new walk.front → IsPlace w new before
place_of w new before passed walk after = record {
  front = walk.front;
  rest = walk.rest;
  old_line = walk.parts;
  new_line = ap (put_in_order w.order new) walk.parts
      ∙ put_between w.order new walk.front walk.rest (subst (IsStanding w.order) walk.parts (IsStanding-in_order w.order (waiters w) (Distinct-waiters w.order w.rows))) after walk.below;
  last = walk.last;
}

-- the new waiter doesn't stand before the one that the walk is at
pub walk_stop : (w : Waits) (new : Waiter) (before passed : ℕ) → (walk : IsWalk w new before passed) → (at : HasLast w walk.front before) → stands_before w.order new at.end ≡ false → IsPlace w new before
walk_stop w new before passed walk at h =
    place_of w new before passed walk (subst (IsAfterLast w.order new) (sym at.is) (after_snoc w.order new at.ini at.end h))

-- all were passed
pub walk_end : (w : Waits) (new : Waiter) (next prev : List ℕ) (root len before passed : ℕ) → IsRing w next prev root len → len ≤ passed → IsWalk w new before passed → IsPlace w new before
walk_end w new next prev root len before passed ring h walk =
    let whole : length (in_order w.order (waiters w)) ≡ length walk.front + length walk.rest = ap length walk.parts ∙ length-append walk.front walk.rest in
    let lined : length (line w) ≡ length (in_order w.order (waiters w)) = length-map (in_order w.order (waiters w)) (λ (v : Waiter). v.thread) in
    let none : walk.front ≡ [] = nil_from_length walk.front (omega (arith, h, ring.counted, walk.passed_is)) in
    place_of w new before passed walk (subst (IsAfterLast w.order new) (sym none) tt)

-- the new waiter stands before the one that the walk is at
pub walk_step : (w : Waits) (new : Waiter) (next prev : List ℕ) (root len before passed further : ℕ) → IsRing w next prev root len → (walk : IsWalk w new before passed) → (at : HasLast w walk.front before)
    → stands_before w.order new at.end ≡ true → further ≡ get_or prev before further → IsWalk w new further (passed + 1)
walk_step w new next prev root len before passed further ring walk at h e =
    let whole : in_order w.order (waiters w) ≡ at.ini ++ at.end ∷ walk.rest = walk.parts ∙ ap (λ m. m ++ walk.rest) at.is ∙ append_assoc at.ini (at.end ∷ []) walk.rest in
    let lined : line w ≡ threads_of at.ini ++ at.end.thread ∷ threads_of walk.rest = ap threads_of whole ∙ threads_split at.ini (at.end ∷ walk.rest) in
    let back : IsLinkedBack prev root (threads_of at.ini ++ at.end.thread ∷ threads_of walk.rest) root = subst (λ l. IsLinkedBack prev root l root) lined ring.back in
    record {
      front = at.ini;
      rest = at.end ∷ walk.rest;
      parts = whole;
      last = e ∙ ap (λ t. get_or prev t further) (sym at.thread)
          ∙ get_or_from_slice_get prev at.end.thread (last_or root (threads_of at.ini)) further (at_back prev root (threads_of at.ini) at.end.thread (threads_of walk.rest) root back)
          ∙ ap (λ r. last_or r (threads_of at.ini)) ring.root_is;
      passed_is = omega (arith, walk.passed_is);
      below = h;
    }
