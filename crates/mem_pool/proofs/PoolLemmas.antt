-- What is kept of a pool's fields, as blocks are given and freed.
use Rattle.std.proofs.Common.{ℕ, ◌≡◌, ◌+◌, ◌*◌, ◌<◌, ◌≤◌, zero, suc, Bool, true, false, cond, not, eqb, List, [], ◌∷◌, ◌++◌, length, replicate, Option, Some, None, count_by, slice_get, get_or, set, sym, refl, ap, ◌∙◌, subst, inl, inr, arith, length-set, get_or-set_same, get_or-set_other}
use Rattle.std.specs.Prelude.{is_some, ◌≢◌, nat_lt, reverse}
use Rattle.std.specs.Int.{bit_at}
use Rattle.std.specs.List.{find, range_with_len}
use Rattle.std.specs.Option.{option_map}
use Rattle.std.proofs.lemmas.List.{length-replicate, length_push, get_or_past}
use Rattle.std.proofs.lemmas.List.Sums.{sum_by-cons, sum_by_push, sum_by-set}
use Rattle.std.proofs.lemmas.List.Folds.{sum_by-replicate}
use Rattle.std.proofs.lemmas.Nat.{mul-le}
use Rattle.std.proofs.lemmas.Option.{slice_get_within, slice_get-get_or, get_or_from_slice_get, same_Some}
use Rattle.std.proofs.lemmas.Bool.{false≢true, eqb-true, eq-eqb, ne_eqb, cond-true, cond-false, cases_eq, cases_lt, cases_Bool, lt-ltb, le-ltb}
use Rattle.rt_plain.specs.kernel.Waiting.{first_of}
use Rattle.susp_list.specs.Rows.{Waits, waiters}
use Rattle.mem_pool.specs.Bits.{IsLeast, IsLowest}
use Rattle.mem_pool.specs.Frees.{IsBack, IsFreed, IsHanded, IsPassed, without}
use Rattle.mem_pool.specs.Pools.{PoolBlocks, IsKept, after_alloc, free_bit, free_block, holder_of, holds_block, is_free, last_block, others, place_of, times_held, with_block_held}

-- ---- what a search finds

slice_get_past : (xs : List (Option ℕ)) (i : ℕ) → length xs ≤ i → slice_get xs i ≡ None
slice_get_past [] i past = refl
slice_get_past (x ∷ xs) zero past = absurd (omega (arith, past))
slice_get_past (x ∷ xs) (suc i) past = slice_get_past xs i (omega (arith, past))

find_passes : {X : Type 0} (test : X → Bool) (xs : List X) (x : X) → find test xs ≡ Some x → test x ≡ true
find_passes test [] x e = absurd (let never : None ≡ Some x = e in cc)
find_passes test (y ∷ ys) x e =
    elim (cases_Bool (test y)) [
      | inl hit ↦ subst (λ w. test w ≡ true) (same_Some y x (sym (cond-true (test y) (Some y) (find test ys) hit) ∙ e)) hit
      | inr miss ↦ find_passes test ys x (sym (cond-false (test y) (Some y) (find test ys) miss) ∙ e)
    ]

find_first : (test : ℕ → Bool) (n a b : ℕ) → a ≤ b → b < a + n → test b ≡ true → ((j : ℕ) → j < b → test j ≡ false) → find test (range_with_len a n) ≡ Some b
find_first test zero a b low high hit miss = absurd (omega (arith, low, high))
find_first test (suc n) a b low high hit miss =
    elim (cases_eq a b) [
      | inl e ↦ cond-true (test a) (Some a) (find test (range_with_len (a + 1) n)) (ap test e ∙ hit) ∙ ap Some e
      | inr e ↦
          let less : a < b = omega (arith, low, e) in
          cond-false (test a) (Some a) (find test (range_with_len (a + 1) n)) (miss a less)
          ∙ find_first test n (a + 1) b (omega (arith, less)) (omega (arith, high)) hit miss
    ]

find_nothing : (test : ℕ → Bool) (n a : ℕ) → ((j : ℕ) → j < a + n → test j ≡ false) → find test (range_with_len a n) ≡ None
find_nothing test zero a miss = refl
find_nothing test (suc n) a miss =
    cond-false (test a) (Some a) (find test (range_with_len (a + 1) n)) (miss a (omega arith))
    ∙ find_nothing test n (a + 1) (λ j below. miss j (omega (arith, below)))

-- ---- counts of a block among the held ones

one_if : (b : Bool) → b ≡ true → ◌≡◌ {A = ℕ} (cond b 1 0) 1
one_if true e = refl
one_if false e = absurd (false≢true e)

none_if : (b : Bool) → b ≡ false → ◌≡◌ {A = ℕ} (cond b 1 0) 0
none_if false e = refl
none_if true e = absurd (false≢true (sym e))

count_cons : (k x : ℕ) (xs : List ℕ) → count_by (λ other. eqb other k) (x ∷ xs) ≡ cond (eqb x k) 1 0 + count_by (λ other. eqb other k) xs
count_cons k x xs = sum_by-cons (λ other. cond (eqb other k) 1 0) x xs

count_push : (k b : ℕ) (xs : List ℕ) → count_by (λ other. eqb other k) (xs ++ b ∷ []) ≡ count_by (λ other. eqb other k) xs + cond (eqb b k) 1 0
count_push k b xs = sum_by_push (λ other. cond (eqb other k) 1 0) xs b

goes : (b x : ℕ) (xs : List ℕ) → eqb x b ≡ true → others b (x ∷ xs) ≡ others b xs
goes b x xs e = cond-false (not (eqb x b)) (x ∷ others b xs) (others b xs) (ap not e)

stays : (b x : ℕ) (xs : List ℕ) → eqb x b ≡ false → others b (x ∷ xs) ≡ x ∷ others b xs
stays b x xs e = cond-true (not (eqb x b)) (x ∷ others b xs) (others b xs) (ap not e)

-- taken out, it is there no more
count_out : (b : ℕ) (xs : List ℕ) → count_by (λ other. eqb other b) (others b xs) ≡ 0
count_out b [] = refl
count_out b (x ∷ xs) =
    elim (cases_Bool (eqb x b)) [
      | inl e ↦ ap (count_by (λ other. eqb other b)) (goes b x xs e) ∙ count_out b xs
      | inr e ↦ ap (count_by (λ other. eqb other b)) (stays b x xs e) ∙ omega (arith, none_if (eqb x b) e, count_out b xs, count_cons b x (others b xs))
    ]

-- and the others are there as often as they were
count_other : (b k : ℕ) (xs : List ℕ) → (k ≡ b → ⊥) → count_by (λ other. eqb other k) (others b xs) ≡ count_by (λ other. eqb other k) xs
count_other b k [] apart = refl
count_other b k (x ∷ xs) apart =
    elim (cases_Bool (eqb x b)) [
      | inl e ↦
          ap (count_by (λ other. eqb other k)) (goes b x xs e)
          ∙ omega (arith, count_cons k x xs, count_other b k xs apart, none_if (eqb x k) (ne_eqb x k (λ same. apart (sym same ∙ eqb-true x b e))))
      | inr e ↦ ap (count_by (λ other. eqb other k)) (stays b x xs e) ∙ omega (arith, count_cons k x xs, count_cons k x (others b xs), count_other b k xs apart)
    ]

length_others : (b : ℕ) (xs : List ℕ) → length (others b xs) + count_by (λ other. eqb other b) xs ≡ length xs
length_others b [] = refl
length_others b (x ∷ xs) =
    elim (cases_Bool (eqb x b)) [
      | inl e ↦ omega (arith, ap length (goes b x xs e), one_if (eqb x b) e, length_others b xs, count_cons b x xs)
      | inr e ↦ omega (arith, ap length (stays b x xs e), none_if (eqb x b) e, length_others b xs, count_cons b x xs)
    ]

others_absent : (b : ℕ) (xs : List ℕ) → count_by (λ other. eqb other b) xs ≡ 0 → others b xs ≡ xs
others_absent b [] e = refl
others_absent b (x ∷ xs) e =
    elim (cases_Bool (eqb x b)) [
      | inl here ↦ absurd (omega (arith, e, one_if (eqb x b) here, count_cons b x xs))
      | inr off ↦ stays b x xs off ∙ ap (λ ys. x ∷ ys) (others_absent b xs (omega (arith, e, count_cons b x xs)))
    ]

-- ---- blocks and their holders

is_one_free : (o : Option (Option ℕ)) → free_bit o ≡ 1 → o ≡ Some None
is_one_free None e = absurd (omega (arith, e))
is_one_free (Some None) e = refl
is_one_free (Some (Some t)) e = absurd (omega (arith, e))

is_not_free : (o : Option ℕ) → free_bit (Some o) ≡ 0 → is_free o ≡ false
is_not_free None e = absurd (omega (arith, e))
is_not_free (Some t) e = refl

from_holds : (t : ℕ) (o : Option ℕ) → holds_block t o ≡ true → o ≡ Some t
from_holds t None e = absurd (false≢true e)
from_holds t (Some u) e = ap Some (eqb-true u t e)

pub there : (blocks : List (Option ℕ)) (b t : ℕ) → get_or blocks b None ≡ Some t → b < length blocks
there blocks b t e =
    elim (cases_lt b (length blocks)) [
      | inl less ↦ less
      | inr more ↦ absurd (let never : None ≡ Some t = sym (get_or_past blocks b None more) ∙ e in cc)
    ]

get_set_same : (xs : List (Option ℕ)) (i : ℕ) (y : Option ℕ) → i < length xs → slice_get (set xs i y) i ≡ Some y
get_set_same xs i y below = slice_get-get_or (set xs i y) i y (omega (arith, length-set xs i y, below)) ∙ ap Some (get_or-set_same xs i y y below)

get_set_other : (xs : List (Option ℕ)) (i j : ℕ) (y : Option ℕ) → (j ≡ i → ⊥) → slice_get (set xs i y) j ≡ slice_get xs j
get_set_other [] i j y apart = refl
get_set_other (x ∷ xs) zero zero y apart = absurd (apart refl)
get_set_other (x ∷ xs) zero (suc j) y apart = refl
get_set_other (x ∷ xs) (suc i) zero y apart = refl
get_set_other (x ∷ xs) (suc i) (suc j) y apart = get_set_other xs i j y (λ e. apart (ap suc e))

abbrev free_one : Option ℕ → ℕ
free_one holder = cond (is_free holder) 1 0

free_counts : (blocks : List (Option ℕ)) (b : ℕ) (now : Option ℕ) → b < length blocks
    → count_by is_free (set blocks b now) + free_one (get_or blocks b None) ≡ count_by is_free blocks + free_one now
free_counts blocks b now below = sum_by-set free_one blocks b now None below

-- what an edit of one block keeps
listed_so : (blocks : List (Option ℕ)) (held held' : List ℕ) (b : ℕ) (now : Option ℕ) → b < length blocks
    → ((k : ℕ) → count_by (λ other. eqb other k) held ≡ times_held (get_or blocks k None))
    → count_by (λ other. eqb other b) held' ≡ times_held now
    → ((k : ℕ) → (k ≡ b → ⊥) → count_by (λ other. eqb other k) held' ≡ count_by (λ other. eqb other k) held)
    → (k : ℕ) → count_by (λ other. eqb other k) held' ≡ times_held (get_or (set blocks b now) k None)
listed_so blocks held held' b now below were here elsewhere k =
    elim (cases_eq k b) [
      | inl e ↦
          ap (λ i. count_by (λ other. eqb other i) held') e ∙ here
          ∙ sym (ap times_held (ap (λ i. get_or (set blocks b now) i None) e ∙ get_or-set_same blocks b now None below))
      | inr e ↦ elsewhere k e ∙ were k ∙ sym (ap times_held (get_or-set_other blocks b k now None e))
    ]

mapped_so : (blocks : List (Option ℕ)) (word word' b : ℕ) (now : Option ℕ) → b < length blocks
    → ((k : ℕ) → k < 64 → bit_at word k ≡ free_bit (slice_get blocks k))
    → bit_at word' b ≡ free_bit (Some now)
    → ((k : ℕ) → k < 64 → (k ≡ b → ⊥) → bit_at word' k ≡ bit_at word k)
    → (k : ℕ) → k < 64 → bit_at word' k ≡ free_bit (slice_get (set blocks b now) k)
mapped_so blocks word word' b now below were here elsewhere k small =
    elim (cases_eq k b) [
      | inl e ↦
          ap (bit_at word') e ∙ here
          ∙ sym (ap free_bit (ap (slice_get (set blocks b now)) e ∙ get_set_same blocks b now below))
      | inr e ↦ elsewhere k small e ∙ were k small ∙ sym (ap free_bit (get_set_other blocks b k now e))
    ]

-- there is room for one more held block, where one is free or was held till now
pub room_left : (blocks : List (Option ℕ)) (word : ℕ) (held : List ℕ) (room b : ℕ) → IsKept blocks word held room → slice_get blocks b ≡ Some None → length held < room
room_left blocks word held room b h is_none =
    let below = slice_get_within blocks b None is_none in
    let was : get_or blocks b None ≡ None = get_or_from_slice_get blocks b None None is_none in
    omega (arith, h.sound.all_told, h.roomy, free_counts blocks b (Some 0) below, ap free_one was)

pub room_again : (blocks : List (Option ℕ)) (word : ℕ) (held : List ℕ) (room b t : ℕ) → IsKept blocks word held room → get_or blocks b None ≡ Some t
    → length (others b held) < room
room_again blocks word held room b t h was =
    let one_held : count_by (λ other. eqb other b) held ≡ 1 = h.sound.listed b ∙ ap times_held was in
    omega (arith, length_others b held, one_held, h.sound.all_told, h.roomy)

-- a thread holds a block that was free
pub kept_alloc : (blocks : List (Option ℕ)) (word word' : ℕ) (held : List ℕ) (room room' b t : ℕ) → IsKept blocks word held room
    → slice_get blocks b ≡ Some None → room' ≡ room → bit_at word' b ≡ 0 → ((k : ℕ) → k < 64 → k ≢ b → bit_at word' k ≡ bit_at word k)
    → IsKept (set blocks b (Some t)) word' (held ++ b ∷ []) room'
kept_alloc blocks word word' held room room' b t h is_none er here elsewhere =
    let below = slice_get_within blocks b None is_none in
    let was : get_or blocks b None ≡ None = get_or_from_slice_get blocks b None None is_none in
    let none_held : count_by (λ other. eqb other b) held ≡ 0 = h.sound.listed b ∙ ap times_held was in
    record {
      few = omega (arith, length-set blocks b (Some t), h.few);
      roomy = omega (arith, length-set blocks b (Some t), h.roomy, er);
      mapped = mapped_so blocks word word' b (Some t) below h.mapped here elsewhere;
      sound = record {
        listed = listed_so blocks held (held ++ b ∷ []) b (Some t) below h.sound.listed
            (omega (arith, count_push b b held, none_held, one_if (eqb b b) (eq-eqb b b refl)))
            (λ k apart. omega (arith, count_push k b held, none_if (eqb b k) (ne_eqb b k (λ e. apart (sym e)))));
        all_told = omega (arith, length_push held b, length-set blocks b (Some t), h.sound.all_told, free_counts blocks b (Some t) below, ap free_one was);
      };
    }

-- a held block is free
pub kept_back : (blocks : List (Option ℕ)) (word word' : ℕ) (held : List ℕ) (room room' b t : ℕ) → IsKept blocks word held room
    → get_or blocks b None ≡ Some t → room' ≡ room → bit_at word' b ≡ 1 → ((k : ℕ) → k ≢ b → bit_at word' k ≡ bit_at word k)
    → IsKept (set blocks b None) word' (others b held) room'
kept_back blocks word word' held room room' b t h was er here elsewhere =
    let below = there blocks b t was in
    let one_held : count_by (λ other. eqb other b) held ≡ 1 = h.sound.listed b ∙ ap times_held was in
    record {
      few = omega (arith, length-set blocks b None, h.few);
      roomy = omega (arith, length-set blocks b None, h.roomy, er);
      mapped = mapped_so blocks word word' b None below h.mapped here (λ k _ apart. elsewhere k apart);
      sound = record {
        listed = listed_so blocks held (others b held) b None below h.sound.listed (count_out b held) (λ k apart. count_other b k held apart);
        all_told = omega (arith, length_others b held, one_held, length-set blocks b None, h.sound.all_told, free_counts blocks b None below, ap free_one was);
      };
    }

-- a held block has another holder
pub kept_passed : (blocks : List (Option ℕ)) (word : ℕ) (held : List ℕ) (room room' b t u : ℕ) → IsKept blocks word held room
    → get_or blocks b None ≡ Some t → room' ≡ room
    → IsKept (set blocks b (Some u)) word (others b held ++ b ∷ []) room'
kept_passed blocks word held room room' b t u h was er =
    let below = there blocks b t was in
    let one_held : count_by (λ other. eqb other b) held ≡ 1 = h.sound.listed b ∙ ap times_held was in
    let was_there : slice_get blocks b ≡ Some (Some t) = slice_get-get_or blocks b None below ∙ ap Some was in
    record {
      few = omega (arith, length-set blocks b (Some u), h.few);
      roomy = omega (arith, length-set blocks b (Some u), h.roomy, er);
      mapped = mapped_so blocks word word b (Some u) below h.mapped (h.mapped b (omega (arith, below, h.few)) ∙ ap free_bit was_there) (λ k _ _. refl);
      sound = record {
        listed = listed_so blocks held (others b held ++ b ∷ []) b (Some u) below h.sound.listed
            (omega (arith, count_push b b (others b held), count_out b held, one_if (eqb b b) (eq-eqb b b refl)))
            (λ k apart. omega (arith, count_push k b (others b held), count_other b k held apart, none_if (eqb b k) (ne_eqb b k (λ e. apart (sym e)))));
        all_told = omega (arith, length_push (others b held) b, length_others b held, one_held, length-set blocks b (Some u), h.sound.all_told, free_counts blocks b (Some u) below, ap free_one was);
      };
    }

-- ---- as the code uses it

abbrev pub seen : ℕ → List (Option ℕ) → List ℕ → Waits → PoolBlocks
seen size blocks held waiters = record { size = size; blocks = blocks; held = held; waiters = waiters }

-- the least bit is the free block of the least number
pub record IsFreeBlock (blocks : List (Option ℕ)) (b : ℕ) : Type 0 where
  pub is_none : slice_get blocks b ≡ Some None
  pub below : b < length blocks
  pub first : find (λ block. is_free (get_or blocks block None)) (range_with_len 0 (length blocks)) ≡ Some b

pub lowest_is_free : (blocks : List (Option ℕ)) (word : ℕ) (held : List ℕ) (room b : ℕ) → IsKept blocks word held room → IsLeast word b → IsFreeBlock blocks b
lowest_is_free blocks word held room b h least =
    let is_none : slice_get blocks b ≡ Some None = is_one_free (slice_get blocks b) (sym (h.mapped b least.within) ∙ least.here) in
    let below = slice_get_within blocks b None is_none in
    record {
      is_none = is_none;
      below = below;
      first = find_first (λ block. is_free (get_or blocks block None)) (length blocks) 0 b (omega arith) (omega (arith, below))
          (ap is_free (get_or_from_slice_get blocks b None None is_none))
          (λ j less.
          let inside : j < length blocks = omega (arith, less, below) in
          is_not_free (get_or blocks j None)
          (ap free_bit (sym (slice_get-get_or blocks j None inside)) ∙ sym (h.mapped j (omega (arith, less, least.within))) ∙ least.lower j less));
    }

pub nothing_free : (blocks : List (Option ℕ)) (word : ℕ) (held : List ℕ) (room : ℕ) → IsKept blocks word held room → ((k : ℕ) → bit_at word k ≡ 0)
    → find (λ block. is_free (get_or blocks block None)) (range_with_len 0 (length blocks)) ≡ None
nothing_free blocks word held room h zeros =
    find_nothing (λ block. is_free (get_or blocks block None)) (length blocks) 0
    (λ j below.
    let inside : j < length blocks = omega (arith, below) in
    is_not_free (get_or blocks j None)
    (ap free_bit (sym (slice_get-get_or blocks j None inside)) ∙ sym (h.mapped j (omega (arith, inside, h.few))) ∙ zeros j))

-- what an allocation answers and leaves
pub record IsGiven (v : PoolBlocks) (t place : ℕ) (new : PoolBlocks) : Type 0 where
  pub place_is : Some place ≡ option_map (place_of v) (free_block v)
  pub state_is : new ≡ after_alloc v (free_block v) t

pub given : (size : ℕ) (blocks : List (Option ℕ)) (word : ℕ) (held : List ℕ) (room b t place : ℕ) (ws : Waits) (v : PoolBlocks) → IsKept blocks word held room → IsLeast word b
    → seen size blocks held ws ≡ v → place ≡ b * size → IsGiven v t place (seen size (set blocks b (Some t)) (held ++ b ∷ []) ws)
given size blocks word held room b t place ws v h least e at =
    let free = lowest_is_free blocks word held room b h least in
    let was : get_or blocks b None ≡ None = get_or_from_slice_get blocks b None None free.is_none in
    let others_all : others b held ≡ held = others_absent b held (h.sound.listed b ∙ ap times_held was) in
    let p = seen size blocks held ws in
    subst (λ w. IsGiven w t place (seen size (set blocks b (Some t)) (held ++ b ∷ []) ws)) e (record {
      place_is = ap Some at ∙ sym (ap (option_map (place_of p)) free.first);
      state_is = ap (λ xs. seen size (set blocks b (Some t)) (xs ++ b ∷ []) ws) (sym others_all) ∙ sym (ap (λ o. after_alloc p o t) free.first);
    })

pub none_given : (size : ℕ) (blocks : List (Option ℕ)) (word : ℕ) (held : List ℕ) (room : ℕ) (ws : Waits) (v : PoolBlocks) → IsKept blocks word held room
    → ((k : ℕ) → bit_at word k ≡ 0) → seen size blocks held ws ≡ v → free_block v ≡ None
none_given size blocks word held room ws v h zeros e = subst (λ w. free_block w ≡ None) e (nothing_free blocks word held room h zeros)

-- whether a block is free
pub free-told : (size : ℕ) (blocks : List (Option ℕ)) (word : ℕ) (held : List ℕ) (room : ℕ) (ws : Waits) (lowest : Option ℕ) → IsKept blocks word held room → IsLowest word lowest
    → is_some lowest ≡ is_some (free_block (seen size blocks held ws))
free-told size blocks word held room ws None h least = sym (ap is_some (nothing_free blocks word held room h least))
free-told size blocks word held room ws (Some b) h least = sym (ap is_some (lowest_is_free blocks word held room b h least).first)

-- the block that a thread got last is one that it holds
pub holder_seen : (size : ℕ) (blocks : List (Option ℕ)) (held : List ℕ) (ws : Waits) (v : PoolBlocks) (t b : ℕ) → seen size blocks held ws ≡ v → last_block v t ≡ Some b
    → get_or blocks b None ≡ Some t
holder_seen size blocks held ws v t b e last =
    ap (λ (w : PoolBlocks). holder_of w b) e
    ∙ from_holds t (holder_of v b) (find_passes (λ block. holds_block t (holder_of v block)) (reverse v.held) b last)

pub freed_seen : (size : ℕ) (blocks : List (Option ℕ)) (held : List ℕ) (ws : Waits) (v : PoolBlocks) (t b place : ℕ) → seen size blocks held ws ≡ v → last_block v t ≡ Some b
    → place ≡ b * size
    → IsFreed v t (seen size (set blocks b None) (others b held) ws) place
freed_seen size blocks held ws v t b place e last at =
    subst (λ w. last_block w t ≡ Some b → IsFreed w t (seen size (set blocks b None) (others b held) ws) place) e
    (λ was. record { block = b; last = was; place_is = at; state = refl }) last

pub handed_seen : (size : ℕ) (blocks : List (Option ℕ)) (held : List ℕ) (ws : Waits) (v : PoolBlocks) (t b next place : ℕ) → seen size blocks held ws ≡ v → last_block v t ≡ Some b
    → place ≡ b * size
    → IsHanded v t (seen size (set blocks b (Some next)) (others b held ++ b ∷ []) ws) next place
handed_seen size blocks held ws v t b next place e last at =
    subst (λ w. last_block w t ≡ Some b → IsHanded w t (seen size (set blocks b (Some next)) (others b held ++ b ∷ []) ws) next place) e
    (λ was. record { block = b; last = was; place_is = at; state = refl }) last

-- what a pool does with its own first waiter
pub back_of : (v new : PoolBlocks) (t place : ℕ) → IsFreed v t new place → first_of v.waiters.order (waiters v.waiters) ≡ None → IsBack v t new place
back_of v new t place freed first = record { block = freed.block; last = freed.last; first = first; place_is = freed.place_is; state = freed.state }

pub passed_of : (v new : PoolBlocks) (t next place : ℕ) (ws : Waits) → IsHanded v t new next place → first_of v.waiters.order (waiters v.waiters) ≡ Some next → ws ≡ without v.waiters next
    → IsPassed v t (record new { waiters = ws }) next place
passed_of v new t next place ws handed first left = record { block = handed.block; last = handed.last; first = first; place_is = handed.place_is; state = ap (λ (p : PoolBlocks). record p { waiters = ws }) handed.state ∙ ap (λ w. record (with_block_held v handed.block next) { waiters = w }) left }

-- two blocks have no byte in common
pub apart_places : (size j k : ℕ) → j < k → j * size + size ≤ k * size
apart_places size j k less =
    let more : (j + 1) * size ≤ k * size = mul-le (j + 1) size k size (omega (arith, less)) (omega arith) in
    omega (arith, more)

none_there : (n k : ℕ) → ◌≡◌ {A = Option ℕ} (get_or (replicate n None) k None) None
none_there zero k = refl
none_there (suc n) zero = refl
none_there (suc n) (suc k) = none_there n k

all_free : (n k : ℕ) → free_bit (slice_get (replicate n None) k) ≡ cond (nat_lt k n) 1 0
all_free n k =
    elim (cases_lt k n) as (λ _. free_bit (slice_get (replicate n None) k) ≡ cond (nat_lt k n) 1 0) [
      | inl less ↦
          ap free_bit (slice_get-get_or (replicate n None) k None (omega (arith, less, length-replicate {A = Option ℕ} n None)) ∙ ap Some (none_there n k))
          ∙ sym (cond-true (nat_lt k n) 1 0 (lt-ltb k n less))
      | inr more ↦ ap free_bit (slice_get_past (replicate n None) k (omega (arith, more, length-replicate {A = Option ℕ} n None))) ∙ sym (cond-false (nat_lt k n) 1 0 (le-ltb k n more))
    ]

-- at first all blocks are free
pub kept_at_first : (n : ℕ) (blocks : List (Option ℕ)) (word : ℕ) (held : List ℕ) (room : ℕ) → n ≤ 64 → blocks ≡ replicate n None → held ≡ [] → room ≡ n
    → ((k : ℕ) → bit_at word k ≡ cond (nat_lt k n) 1 0) → IsKept blocks word held room
kept_at_first n blocks word held room few eb eh er bits =
    let long = length-replicate {A = Option ℕ} n None in
    rw (eb, eh) (record {
      few = omega (arith, long, few);
      roomy = omega (arith, long, er);
      mapped = λ k _. bits k ∙ sym (all_free n k);
      sound = record {
        listed = λ k. sym (ap times_held (none_there n k));
        all_told = omega (arith, long, sum_by-replicate free_one n None);
      };
    })
