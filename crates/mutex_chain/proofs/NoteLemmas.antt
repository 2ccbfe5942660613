-- Notes of the numbers before an edit, and the changes that they become.
use Rattle.std.proofs.Common.{ℕ, ◌≡◌, ◌≢◌, ◌+◌, ◌<◌, ◌≤◌, zero, suc, List, [], ◌∷◌, length, map, get_or, Bool, true, false, not, cond, ◌&&◌, ◌||◌, eqb, Option, Some, None, refl, sym, ap, ◌∙◌, arith, ◌⊎◌, inl, inr, get_or-set_other}
use Rattle.std.specs.Prelude.{slice_set, slice_index, slice_get, min, filter}
use Rattle.std.specs.List.{filter_map, range_with_len, cons_option}
use Rattle.std.proofs.Math.ListN.{length-set}
use Rattle.std.proofs.lemmas.Bool.{cases_eq, cases_lt, eq-eqb, ne_eqb, lt-ltb, le-ltb, false≢true}
use Rattle.std.proofs.lemmas.Option.{none-some}
use Rattle.std.proofs.lemmas.List.Edits.{length-insert}
use Rattle.rt_plain.specs.kernel.Ownership.{Ownership, CurChange, cur_in, changes, change_at}
use Rattle.mutex_chain.specs.Owners.{IsSound, has_thread}
use Rattle.mutex_chain.specs.Graph.{ChangeList, Keeps}
use Rattle.mutex_chain.specs.Walks.{curs_of}
use Rattle.mutex_chain.specs.Raising.{place_among, put_change}
use Rattle.mutex_chain.specs.Noting.{note_of, is_note_of, has_note, with_note, noted_at, noted, AreNotes, AreSmall, HasNotes, HasSmallNotes, settled_note, settled}
use Rattle.mutex_chain.proofs.CurLemmas.{cur_at, length-curs}
use Rattle.mutex_chain.proofs.ChangeLemmas.{cur_small, filter_map_range}
use Rattle.mutex_chain.proofs.RenewLemmas.{small_cur}
use Rattle.mutex_chain.proofs.PutLemmas.{AreNamed, place_among_within, put_some, few, fewer}

note_named : (met : ℕ → Bool) (olds : List ℕ) → AreNamed (noted_at met olds)
note_named met olds t c e = by_test (met t) e
  where
    by_test : (b : Bool) → cond {A = Option CurChange} b (Some (note_of t (slice_index olds t))) None ≡ Some c → c.thread ≡ t
    by_test true f = let same : note_of t (slice_index olds t) ≡ c = cc in sym (ap (λ (d : CurChange). d.thread) same)
    by_test false f = absurd (none-some c f)

-- a thread with a note in a range has it in the list
noted_there : (f : ℕ → Option CurChange) (d : CurChange) (x a n : ℕ) → AreNamed f → f x ≡ Some d → a ≤ x → x < a + n → has_note x (filter_map f (range_with_len a n)) ≡ true
noted_there f d x a zero named e low high = absurd (omega arith)
noted_there f d x a (suc n) named e low high = by_place (cases_eq x a) (λ k. noted_there f d x (a + 1) n named e k (omega arith))
  where
    here : (c : CurChange) (cs : List CurChange) → c.thread ≡ x → has_note x (c ∷ cs) ≡ true
    here c cs k =
        ap (λ b. is_note_of x (slice_get (c ∷ cs) (cond b (suc (place_among x cs)) 0))) (le-ltb c.thread x (omega arith))
        ∙ eq-eqb c.thread x k

    by_row : (r : Option CurChange) → f a ≡ r → a < x → has_note x (filter_map f (range_with_len (a + 1) n)) ≡ true → has_note x (cons_option r (filter_map f (range_with_len (a + 1) n))) ≡ true
    by_row None k less again = again
    by_row (Some c) k less again =
        let first : c.thread ≡ a = named a c k in
        ap (λ b. is_note_of x (slice_get (c ∷ filter_map f (range_with_len (a + 1) n)) (cond b (suc (place_among x (filter_map f (range_with_len (a + 1) n)))) 0))) (lt-ltb c.thread x (omega arith))
        ∙ again

    by_place : (x ≡ a) ⊎ (x ≢ a) → (a + 1 ≤ x → has_note x (filter_map f (range_with_len (a + 1) n)) ≡ true) → has_note x (filter_map f (range_with_len a (suc n))) ≡ true
    by_place (inl same) again =
        ap (λ r. has_note x (cons_option r (filter_map f (range_with_len (a + 1) n)))) (sym (ap f same) ∙ e)
        ∙ here d (filter_map f (range_with_len (a + 1) n)) (named x d e)
    by_place (inr ne) again = by_row (f a) refl (omega arith) (again (omega arith))

-- one without has none there
noted_not : (f : ℕ → Option CurChange) (x a n : ℕ) → AreNamed f → f x ≡ None → has_note x (filter_map f (range_with_len a n)) ≡ false
noted_not f x a zero named e = refl
noted_not f x a (suc n) named e = by_row (f a) refl (noted_not f x (a + 1) n named e)
  where
    by_size : (c : CurChange) (cs : List CurChange) → c.thread ≢ x → (c.thread < x) ⊎ (x ≤ c.thread) → has_note x cs ≡ false → has_note x (c ∷ cs) ≡ false
    by_size c cs ne (inl k) again = ap (λ b. is_note_of x (slice_get (c ∷ cs) (cond b (suc (place_among x cs)) 0))) (lt-ltb c.thread x k) ∙ again
    by_size c cs ne (inr k) again = ap (λ b. is_note_of x (slice_get (c ∷ cs) (cond b (suc (place_among x cs)) 0))) (le-ltb c.thread x k) ∙ ne_eqb c.thread x ne

    by_row : (r : Option CurChange) → f a ≡ r → has_note x (filter_map f (range_with_len (a + 1) n)) ≡ false → has_note x (cons_option r (filter_map f (range_with_len (a + 1) n))) ≡ false
    by_row None k again = again
    by_row (Some c) k again =
        let at : c.thread ≡ a = named a c k in
        by_size c (filter_map f (range_with_len (a + 1) n)) (λ s. none-some c (sym e ∙ ap f (sym s ∙ at) ∙ k)) (cases_lt c.thread x) again

-- the numbers before are those of now, and nobody was met
pub notes_begin : (numbers : List ℕ) → AreNotes numbers numbers []
notes_begin numbers = record { met = λ t. false; places = refl; list = nothing (length numbers) 0; rest = λ t h e. refl }
  where
    nothing : (n a : ℕ) → [] ≡ filter_map (noted_at (λ t. false) numbers) (range_with_len a n)
    nothing zero a = refl
    nothing (suc n) a = nothing n (a + 1)

pub has_notes_begin : (numbers : List ℕ) {size : ℕ} → length numbers ≡ size → HasNotes size numbers []
has_notes_begin numbers e = record { olds = numbers; places = e; are = notes_begin numbers }

pub has_small_begin : (numbers : List ℕ) {size : ℕ} → length numbers ≡ size → AreSmall numbers → HasSmallNotes size numbers []
has_small_begin numbers e small = record { olds = numbers; places = e; small = small; are = notes_begin numbers }

-- small notes after an edit that keeps notes
pub small_on : (size more : ℕ) (numbers news : List ℕ) (notes after : List CurChange) → more ≡ size → HasSmallNotes size numbers notes
    → ((olds : List ℕ) → AreSmall olds → AreNotes olds numbers notes → AreNotes olds news after) → HasSmallNotes more news after
small_on size more numbers news notes after e h f = record { olds = h.olds; places = h.places ∙ sym e; small = h.small; are = f h.olds h.small h.are }

-- there is room for one note more of a thread of the table
pub notes_room : (olds numbers : List ℕ) (notes : List CurChange) (x old : ℕ) → AreNotes olds numbers notes → x < length olds → length (with_note x old notes) ≤ length olds
notes_room olds numbers notes x old a h = by_met (a.met x) refl
  where
    all : (ns : List CurChange) (b : Bool) → has_note x ns ≡ b → (b ≡ true → length ns ≤ length olds) → (b ≡ false → length (put_change (Some (note_of x old)) ns) ≤ length olds)
        → length (with_note x old ns) ≤ length olds
    all ns true e k l = rw e (k refl)
    all ns false e k l = rw e (l refl)

    few_notes : length notes ≤ length olds
    few_notes = rw a.list (few (noted_at a.met olds) 0 (length olds))

    by_met : (b : Bool) → a.met x ≡ b → length (with_note x old notes) ≤ length olds
    by_met true e =
        let row : noted_at a.met olds x ≡ Some (note_of x (slice_index olds x)) = ap (λ b. cond {A = Option CurChange} b (Some (note_of x (slice_index olds x))) None) e in
        let there : has_note x notes ≡ true = ap (has_note x) a.list ∙ noted_there (noted_at a.met olds) (note_of x (slice_index olds x)) x 0 (length olds) (note_named a.met olds) row (omega arith) (omega arith) in
        all notes true there (λ k. few_notes) (λ k. absurd (false≢true (sym k)))
    by_met false e =
        let row : noted_at a.met olds x ≡ None = ap (λ b. cond {A = Option CurChange} b (Some (note_of x (slice_index olds x))) None) e in
        let there : has_note x notes ≡ false = ap (has_note x) a.list ∙ noted_not (noted_at a.met olds) x 0 (length olds) (note_named a.met olds) row in
        let more : length notes < length olds = rw a.list (fewer (noted_at a.met olds) x 0 (length olds) (omega arith) (omega arith) row) in
        all notes false there (λ k. absurd (false≢true k)) (λ k. put_len notes more)
      where
        put_len : (ns : List CurChange) → length ns < length olds → length (put_change (Some (note_of x old)) ns) ≤ length olds
        put_len ns k = omega (arith, length-insert ns (place_among x ns) (note_of x old) (place_among_within x ns))

-- the number of a thread is noted, and then changes
pub notes_step : (olds numbers : List ℕ) (notes : List CurChange) (x number : ℕ) → AreNotes olds numbers notes → x < length olds
    → AreNotes olds (slice_set numbers x number) (with_note x (slice_index numbers x) notes)
notes_step olds numbers notes x number a h = record {
  met = λ t. a.met t || eqb t x;
  places = length-set numbers x number ∙ a.places;
  list = list (a.met x) refl;
  rest = λ t k e. rest t k e (a.met t) refl (cases_eq t x);
}
  where
    more : ℕ → Bool
    more t = a.met t || eqb t x

    same : (t : ℕ) → t ≢ x → noted_at a.met olds t ≡ noted_at (λ t. a.met t || eqb t x) olds t
    same t ne = ap (λ b. cond {A = Option CurChange} b (Some (note_of t (slice_index olds t))) None) (by_test (a.met t) (ne_eqb t x ne))
      where
        by_test : (b : Bool) → eqb t x ≡ false → b ≡ b || eqb t x
        by_test true e = refl
        by_test false e = sym e

    or_true : (b c : Bool) → c ≡ true → b || c ≡ true
    or_true true c e = refl
    or_true false c e = e

    here : noted_at (λ t. a.met t || eqb t x) olds x ≡ Some (note_of x (slice_index olds x))
    here = ap (λ b. cond {A = Option CurChange} b (Some (note_of x (slice_index olds x))) None) (or_true (a.met x) (eqb x x) (eq-eqb x x refl))

    list : (b : Bool) → a.met x ≡ b → with_note x (slice_index numbers x) notes ≡ noted (λ t. a.met t || eqb t x) olds
    list true e =
        let row : noted_at a.met olds x ≡ Some (note_of x (slice_index olds x)) = ap (λ b. cond {A = Option CurChange} b (Some (note_of x (slice_index olds x))) None) e in
        let there : has_note x notes ≡ true = ap (has_note x) a.list ∙ noted_there (noted_at a.met olds) (note_of x (slice_index olds x)) x 0 (length olds) (note_named a.met olds) row (omega arith) (omega arith) in
        ap (λ b. cond b notes (put_change (Some (note_of x (slice_index numbers x))) notes)) there
        ∙ a.list
        ∙ filter_map_range (noted_at a.met olds) (noted_at (λ t. a.met t || eqb t x) olds) 0 (length olds) (λ t low high. everywhere t row (cases_eq t x))
      where
        everywhere : (t : ℕ) → noted_at a.met olds x ≡ Some (note_of x (slice_index olds x)) → (t ≡ x) ⊎ (t ≢ x) → noted_at a.met olds t ≡ noted_at (λ t. a.met t || eqb t x) olds t
        everywhere t row (inl k) = ap (noted_at a.met olds) k ∙ row ∙ sym here ∙ sym (ap (noted_at (λ t. a.met t || eqb t x) olds) k)
        everywhere t row (inr ne) = same t ne
    list false e =
        let row : noted_at a.met olds x ≡ None = ap (λ b. cond {A = Option CurChange} b (Some (note_of x (slice_index olds x))) None) e in
        let there : has_note x notes ≡ false = ap (has_note x) a.list ∙ noted_not (noted_at a.met olds) x 0 (length olds) (note_named a.met olds) row in
        ap (λ b. cond b notes (put_change (Some (note_of x (slice_index numbers x))) notes)) there
        ∙ ap (λ n. put_change (Some (note_of x n)) notes) (a.rest x h e)
        ∙ ap (put_change (Some (note_of x (slice_index olds x)))) a.list
        ∙ put_some (noted_at a.met olds) (noted_at (λ t. a.met t || eqb t x) olds) (note_of x (slice_index olds x)) x 0 (length olds) (note_named a.met olds) refl (omega arith) (omega arith) row here same

    rest : (t : ℕ) → t < length olds → a.met t || eqb t x ≡ false → (b : Bool) → a.met t ≡ b → (t ≡ x) ⊎ (t ≢ x) → get_or (slice_set numbers x number) t 0 ≡ slice_index olds t
    rest t k e true f w = absurd (false≢true (sym e ∙ ap (λ b. b || eqb t x) f))
    rest t k e false f (inl s) = absurd (false≢true (sym e ∙ ap (λ b. b || eqb t x) f ∙ eq-eqb t x s))
    rest t k e false f (inr ne) = get_or-set_other numbers x t number 0 ne ∙ a.rest t k f

-- the numbers of threads without a note are others that are the same
pub notes_same : (olds numbers news : List ℕ) (notes : List CurChange) → AreNotes olds numbers notes → AreSmall olds → length news ≡ length numbers
    → ((t : ℕ) → t < length olds → (slice_index numbers t ≡ 257) ⊎ (slice_index numbers t ≡ slice_index news t)) → AreNotes olds news notes
notes_same olds numbers news notes a small long same = record {
  met = a.met;
  places = long ∙ a.places;
  list = a.list;
  rest = λ t h e. by_case t h (a.rest t h e) (same t h);
}
  where
    by_case : (t : ℕ) → t < length olds → slice_index numbers t ≡ slice_index olds t → (slice_index numbers t ≡ 257) ⊎ (slice_index numbers t ≡ slice_index news t) → slice_index news t ≡ slice_index olds t
    by_case t h e (inl f) = absurd (omega (arith, small t h))
    by_case t h e (inr f) = sym f ∙ e

abbrev kept_if : Bool → CurChange → Option CurChange
kept_if b c = cond {A = Option CurChange} b (Some c) None

-- what is left of a list of which each is changed and some are dropped
filtered : (f : CurChange → CurChange) (q : CurChange → Bool) (g h : ℕ → Option CurChange) (a n : ℕ)
    → ((t : ℕ) → a ≤ t → t < a + n → (g t ≡ None) × (h t ≡ None) ⊎ ((c : CurChange) × (g t ≡ Some c) × (h t ≡ kept_if (q (f c)) (f c))))
    → filter q (map f (filter_map g (range_with_len a n))) ≡ filter_map h (range_with_len a n)
filtered f q g h a zero each = refl
filtered f q g h a (suc n) each = by_row (each a (omega arith) (omega arith)) (filtered f q g h (a + 1) n (λ t low high. each t (omega arith) (omega arith)))
  where
    rest : List CurChange
    rest = filter_map g (range_with_len (a + 1) n)

    by_test : (c : CurChange) (b : Bool) (xs : List CurChange) → cond b (c ∷ xs) xs ≡ cons_option (kept_if b c) xs
    by_test c true xs = refl
    by_test c false xs = refl

    by_row : (g a ≡ None) × (h a ≡ None) ⊎ ((c : CurChange) × (g a ≡ Some c) × (h a ≡ kept_if (q (f c)) (f c)))
        → filter q (map f (filter_map g (range_with_len (a + 1) n))) ≡ filter_map h (range_with_len (a + 1) n)
        → filter q (map f (cons_option (g a) (filter_map g (range_with_len (a + 1) n)))) ≡ cons_option (h a) (filter_map h (range_with_len (a + 1) n))
    by_row (inl w) again = ap (λ r. filter q (map f (cons_option r (filter_map g (range_with_len (a + 1) n))))) w.0 ∙ again ∙ sym (ap (λ r. cons_option r (filter_map h (range_with_len (a + 1) n))) w.1)
    by_row (inr w) again =
        ap (λ r. filter q (map f (cons_option r (filter_map g (range_with_len (a + 1) n))))) w.1
        ∙ by_test (f w.0) (q (f w.0)) (filter q (map f (filter_map g (range_with_len (a + 1) n))))
        ∙ ap (cons_option (kept_if (q (f w.0)) (f w.0))) again
        ∙ sym (ap (λ r. cons_option r (filter_map h (range_with_len (a + 1) n))) w.2)

-- the notes become the changes of an edit
pub notes_settle : (o p : Ownership) (numbers : List ℕ) (notes : List CurChange) → IsSound o → IsSound p → Keeps o p → numbers ≡ curs_of p → AreNotes (curs_of o) numbers notes
    → settled p numbers notes ≡ changes o p
notes_settle o p numbers notes s k keeps now a =
    let long : length (curs_of o) ≡ length p.members = length-curs o ∙ keeps.size in
    ap (settled p numbers) a.list
    ∙ ap (λ n. settled p numbers (filter_map (noted_at a.met (curs_of o)) (range_with_len 0 n))) long
    ∙ filtered (settled_note p numbers) (λ c. not (eqb c.old c.new)) (noted_at a.met (curs_of o)) (change_at o p) 0 (length p.members) (λ t low high. each t (omega arith) (a.met t) refl)
  where
    no_difference : (b c : Bool) (d : Bool) → d ≡ true → (x : CurChange) → cond {A = Option CurChange} (b && (c && not d)) (Some x) None ≡ None
    no_difference true true true e x = refl
    no_difference true true false e x = absurd (false≢true e)
    no_difference true false d e x = refl
    no_difference false c d e x = refl

    each : (t : ℕ) → t < length p.members → (b : Bool) → a.met t ≡ b
        → (noted_at a.met (curs_of o) t ≡ None) × (change_at o p t ≡ None)
        ⊎ ((c : CurChange) × (noted_at a.met (curs_of o) t ≡ Some c) × (change_at o p t ≡ kept_if (not (eqb (settled_note p numbers c).old (settled_note p numbers c).new)) (settled_note p numbers c)))
    each t h false e =
        let inside : t < length o.members = omega (arith, keeps.size) in
        let within : t < length (curs_of o) = omega (arith, length-curs o) in
        let before : slice_index numbers t ≡ cur_in o t = a.rest t within e ∙ cur_at o t inside in
        let after : slice_index numbers t ≡ cur_in p t = ap (λ ns. slice_index ns t) now ∙ cur_at p t h in
        let same : cur_in o t ≡ cur_in p t = sym before ∙ after in
        inl (
          ap (λ b. cond {A = Option CurChange} b (Some (note_of t (slice_index (curs_of o) t))) None) e,
          no_difference (has_thread o t) (has_thread p t) (eqb (cur_in o t) (cur_in p t)) (eq-eqb (cur_in o t) (cur_in p t) same) (record { thread = t; old = cur_in o t; new = cur_in p t }),
        )
    each t h true e =
        let inside : t < length o.members = omega (arith, keeps.size) in
        let before : slice_index (curs_of o) t ≡ cur_in o t = cur_at o t inside in
        let after : slice_index numbers t ≡ cur_in p t = ap (λ ns. slice_index ns t) now ∙ cur_at p t h in
        inr (
          note_of t (cur_in o t),
          ap (λ b. cond {A = Option CurChange} b (Some (note_of t (slice_index (curs_of o) t))) None) e ∙ ap (λ n. Some (note_of t n)) before,
          by_there (has_thread p t) refl after,
        )
      where
        gone : (b : Bool) (x : CurChange) → cond {A = Option CurChange} (b && (false && not (eqb (cur_in o t) (cur_in p t)))) (Some x) None ≡ None
        gone true x = refl
        gone false x = refl

        by_there : (b : Bool) → has_thread p t ≡ b → slice_index numbers t ≡ cur_in p t
            → change_at o p t ≡ kept_if (not (eqb (settled_note p numbers (note_of t (cur_in o t))).old (settled_note p numbers (note_of t (cur_in o t))).new)) (settled_note p numbers (note_of t (cur_in o t)))
        by_there false f after =
            let note : settled_note p numbers (note_of t (cur_in o t)) ≡ note_of t (cur_in o t) =
            ap (λ b. cond b (record { thread = t; old = min (cur_in o t) 255; new = min (slice_index numbers t) 255 }) (note_of t (cur_in o t))) f in
            ap (λ b. cond {A = Option CurChange} (has_thread o t && (b && not (eqb (cur_in o t) (cur_in p t)))) (Some (record { thread = t; old = cur_in o t; new = cur_in p t })) None) f
            ∙ gone (has_thread o t) (record { thread = t; old = cur_in o t; new = cur_in p t })
            ∙ sym (ap (λ c. kept_if (not (eqb c.old c.new)) c) note ∙ ap (λ b. kept_if (not b) (note_of t (cur_in o t))) (eq-eqb (min (cur_in o t) 255) (min (cur_in o t) 255) refl))
        by_there true f after =
            let there : has_thread o t ≡ true = keeps.there t f in
            let old : min (cur_in o t) 255 ≡ cur_in o t = omega (arith, cur_small o t s there) in
            let new : min (slice_index numbers t) 255 ≡ cur_in p t = omega (arith, cur_small p t k f) in
            let note : settled_note p numbers (note_of t (cur_in o t)) ≡ record { thread = t; old = cur_in o t; new = cur_in p t } =
            ap (λ b. cond b (record { thread = t; old = min (cur_in o t) 255; new = min (slice_index numbers t) 255 }) (note_of t (cur_in o t))) f
            ∙ ap (λ n. record { thread = t; old = n; new = min (slice_index numbers t) 255 }) old
            ∙ ap (λ n. record { thread = t; old = cur_in o t; new = n }) new in
            ap (λ b. cond {A = Option CurChange} (b && (has_thread p t && not (eqb (cur_in o t) (cur_in p t)))) (Some (record { thread = t; old = cur_in o t; new = cur_in p t })) None) there
            ∙ ap (λ b. cond {A = Option CurChange} (b && not (eqb (cur_in o t) (cur_in p t))) (Some (record { thread = t; old = cur_in o t; new = cur_in p t })) None) f
            ∙ sym (ap (λ c. kept_if (not (eqb c.old c.new)) c) note)

-- current priorities are below the mark
pub curs_small : (o : Ownership) (numbers : List ℕ) → IsSound o → numbers ≡ curs_of o → AreSmall numbers
curs_small o numbers s at = rw at (λ t h. let within : t < length o.members = omega (arith, length-curs o) in omega (arith, cur_at o t within, small_cur o t s within))

abbrev changes_in : ℕ → List CurChange → ChangeList
changes_in n cs = record { threads = n; changes = cs }

pub same_list : (a b : ℕ) (xs ys : List CurChange) → a ≡ b → xs ≡ ys → changes_in a xs ≡ changes_in b ys
same_list a b xs ys e f = ap (λ n. changes_in n xs) e ∙ ap (changes_in b) f
