-- Nodes in a chain: what is found along it, and what follows where one link of it is another one.
use Rattle.std.proofs.Common.{inl, inr, ◌||◌, zero, suc, ℕ, ◌≡◌, ◌≢◌, ◌+◌, ◌<◌, ◌≤◌, List, [], ◌∷◌, ◌++◌, length, Bool, true, false, cond, Option, Some, None, refl, sym, ap, ◌∙◌, subst, arith}
use Rattle.std.specs.List.{AllByRecursion, list_any, find}
use Rattle.std.specs.Option.{option_map}
use Rattle.std.proofs.lemmas.Bool.{false≢true, cond-true, cond-false}
use Rattle.std.proofs.lemmas.Bool.Decides.{nat_tests}
use native.Mathlib.Decide.{ℕ_discrete}
use mathlib.Core.Logic.{dite}
use Rattle.timer_skip.specs.Armed.{ArmedRow, is_row_of}
use Rattle.timer_skip.specs.Firing.{sooner, FiresBefore, IsInOrder, take_out}
use Rattle.timer_skip.specs.Links.{Slot, Entry, entry_of, entry_at, go_on, walk, rows_of, is_on, on_level, IsChain, IsIn, key_of, next_of, link_after, last_key, IsBehind, with_next, first_after}

-- what holds of each node of a list

pub Each-front : (P : Entry → Type 0) (front rest : List Entry) → AllByRecursion P (front ++ rest) → AllByRecursion P front
Each-front P [] rest h = tt
Each-front P (e ∷ front) rest h = (h.0, Each-front P front rest h.1)

pub Each-rest : (P : Entry → Type 0) (front rest : List Entry) → AllByRecursion P (front ++ rest) → AllByRecursion P rest
Each-rest P [] rest h = h
Each-rest P (e ∷ front) rest h = Each-rest P front rest h.1

pub Each-push : (P : Entry → Type 0) (es : List Entry) (e : Entry) → AllByRecursion P es → P e → AllByRecursion P (es ++ e ∷ [])
Each-push P [] e h k = (k, tt)
Each-push P (f ∷ es) e h k = (h.0, Each-push P es e h.1 k)

pub Each-more : (P Q : Entry → Type 0) (more : (e : Entry) → P e → Q e) (es : List Entry) → AllByRecursion P es → AllByRecursion Q es
Each-more P Q more [] h = tt
Each-more P Q more (e ∷ es) h = (more e h.0, Each-more P Q more es h.1)

pub Each-both : (P Q R : Entry → Type 0) (join : (e : Entry) → P e → Q e → R e) (es : List Entry) → AllByRecursion P es → AllByRecursion Q es → AllByRecursion R es
Each-both P Q R join [] a b = tt
Each-both P Q R join (e ∷ es) a b = (join e a.0 b.0, Each-both P Q R join es a.1 b.1)

pub Each-of_rows : (P : ArmedRow → Type 0) (es : List Entry) → AllByRecursion P (rows_of es) → AllByRecursion (λ (e : Entry). P e.row) es
Each-of_rows P [] h = tt
Each-of_rows P (e ∷ es) h = (h.0, Each-of_rows P es h.1)

pub Each-on_level : (P : Entry → Type 0) (level : ℕ) (es : List Entry) → AllByRecursion P es → AllByRecursion P (on_level level es)
Each-on_level P level [] h = tt
Each-on_level P level (e ∷ es) h = by_test (is_on level e) (Each-on_level P level es h.1)
  where
    by_test : (b : Bool) → AllByRecursion P (on_level level es) → AllByRecursion P (cond b (e ∷ on_level level es) (on_level level es))
    by_test true k = (h.0, k)
    by_test false k = k

Each-rows_on_level : (P : ArmedRow → Type 0) (level : ℕ) (es : List Entry) → AllByRecursion P (rows_of es) → AllByRecursion P (rows_of (on_level level es))
Each-rows_on_level P level [] h = tt
Each-rows_on_level P level (e ∷ es) h = by_test (is_on level e) (Each-rows_on_level P level es h.1)
  where
    by_test : (b : Bool) → AllByRecursion P (rows_of (on_level level es)) → AllByRecursion P (rows_of (cond b (e ∷ on_level level es) (on_level level es)))
    by_test true k = (h.0, k)
    by_test false k = k

-- the nodes of a level

pub on_level-append : (level : ℕ) (front rest : List Entry) → on_level level (front ++ rest) ≡ on_level level front ++ on_level level rest
on_level-append level [] rest = refl
on_level-append level (e ∷ front) rest = by_test (is_on level e) (on_level-append level front rest)
  where
    by_test : (b : Bool) → on_level level (front ++ rest) ≡ on_level level front ++ on_level level rest
        → cond b (e ∷ on_level level (front ++ rest)) (on_level level (front ++ rest)) ≡ cond b (e ∷ on_level level front) (on_level level front) ++ on_level level rest
    by_test true k = ap (λ l. e ∷ l) k
    by_test false k = k

-- all nodes are on the lowest level
pub on_level-lowest : (es : List Entry) → on_level 0 es ≡ es
on_level-lowest [] = refl
on_level-lowest (e ∷ es) = cond-true (is_on 0 e) _ _ (let low : 0 ≤ e.top = omega arith in grind (arith, nat_tests, low)) ∙ ap (λ l. e ∷ l) (on_level-lowest es)

pub length-on_level : (level : ℕ) (es : List Entry) → length (on_level level es) ≤ length es
length-on_level level [] = omega arith
length-on_level level (e ∷ es) = by_test (is_on level e) (length-on_level level es)
  where
    by_test : (b : Bool) → length (on_level level es) ≤ length es → length (cond b (e ∷ on_level level es) (on_level level es)) ≤ length (e ∷ es)
    by_test true k = omega arith
    by_test false k = omega arith

pub IsInOrder-on_level : (level : ℕ) (es : List Entry) → IsInOrder (rows_of es) → IsInOrder (rows_of (on_level level es))
IsInOrder-on_level level [] h = tt
IsInOrder-on_level level (e ∷ es) h = by_test (is_on level e) (IsInOrder-on_level level es h.1)
  where
    by_test : (b : Bool) → IsInOrder (rows_of (on_level level es)) → IsInOrder (rows_of (cond b (e ∷ on_level level es) (on_level level es)))
    by_test true k = (Each-rows_on_level (FiresBefore e.row) level es h.0, k)
    by_test false k = k

-- a node of a level is one of all, and is on it
IsIn-on_level : (level : ℕ) (x : Entry) (es : List Entry) → IsIn x (on_level level es) → IsIn x es × (is_on level x ≡ true)
IsIn-on_level level x [] h = absurd h
IsIn-on_level level x (e ∷ es) h = by_test (is_on level e) refl h (IsIn-on_level level x es)
  where
    by_test : (b : Bool) → is_on level e ≡ b → IsIn x (cond b (e ∷ on_level level es) (on_level level es)) → (IsIn x (on_level level es) → IsIn x es × (is_on level x ≡ true)) → IsIn x (e ∷ es) × (is_on level x ≡ true)
    by_test true is k more = elim k as (λ _. IsIn x (e ∷ es) × (is_on level x ≡ true)) [ inl same ↦ (inl same, ap (is_on level) same ∙ is) | inr there ↦ (let w = more there in (inr w.0, w.1)) ]
    by_test false is k more = let w = more k in (inr w.0, w.1)

-- a level is a part of the one below, in the same order
on_level-part : (level : ℕ) (es : List Entry) → on_level (level + 1) (on_level level es) ≡ on_level (level + 1) es
on_level-part level [] = refl
on_level-part level (e ∷ es) = by_test (is_on level e) refl (on_level-part level es)
  where
    by_test : (b : Bool) → is_on level e ≡ b → on_level (level + 1) (on_level level es) ≡ on_level (level + 1) es
        → on_level (level + 1) (cond b (e ∷ on_level level es) (on_level level es)) ≡ cond (is_on (level + 1) e) (e ∷ on_level (level + 1) es) (on_level (level + 1) es)
    by_test true is k = ap (λ l. cond (is_on (level + 1) e) (e ∷ l) l) k
    by_test false is k = k ∙ sym (cond-false (is_on (level + 1) e) _ _ (grind (arith, nat_tests, is)))

-- so a node of a level is on the one below, too
pub IsIn-below : (level : ℕ) (x : Entry) (es : List Entry) → IsIn x (on_level (level + 1) es) → IsIn x (on_level level es)
IsIn-below level x es h = (IsIn-on_level (level + 1) x (on_level level es) (subst (IsIn x) (sym (on_level-part level es)) h)).0

-- a chain is what is found along its links
pub walk-is : (at : ℕ → Option Slot) (n : ℕ) (link : Option ℕ) (es : List Entry) → IsChain at link es → length es ≤ n → walk at n link ≡ es
walk-is at zero link [] h k = refl
walk-is at (suc n) link [] h k = ap (walk at (suc n)) h
walk-is at zero link (e ∷ es) h k = absurd (omega (arith, k))
walk-is at (suc n) link (e ∷ es) h k =
    ap (walk at (suc n)) h.0 ∙ ap (λ s. go_on e.key s (walk at n)) h.2 ∙ ap (λ l. e ∷ l) (walk-is at n h.1 es h.3 (omega (arith, k)))

-- each node of a chain is there
abbrev pub IsBacked : (ℕ → Option Slot) → List Entry → Type 0
IsBacked at es = AllByRecursion (λ (e : Entry). entry_at at e.key ≡ Some e) es

pub backed : (at : ℕ → Option Slot) (link : Option ℕ) (es : List Entry) → IsChain at link es → IsBacked at es
backed at link [] h = tt
backed at link (e ∷ es) h = (ap (option_map (entry_of e.key)) h.2, backed at h.1 es h.3)

-- no two nodes have one key
abbrev pub HaveOwnKeys : List Entry → Type 0
HaveOwnKeys [] = Unit {0}
HaveOwnKeys (e ∷ es) = AllByRecursion (λ (f : Entry). e.key ≢ f.key) es × HaveOwnKeys es

pub own_keys : (at : ℕ → Option Slot) (es : List Entry) → IsBacked at es → IsInOrder (rows_of es) → HaveOwnKeys es
own_keys at [] b h = tt
own_keys at (e ∷ es) b h = (differ es b.1 h.0, own_keys at es b.1 h.1)
  where
    differ : (fs : List Entry) → IsBacked at fs → AllByRecursion (FiresBefore e.row) (rows_of fs) → AllByRecursion (λ (f : Entry). e.key ≢ f.key) fs
    differ [] k o = tt
    differ (f ∷ fs) k o =
        let o0 = o.0 in (
          (λ same.
              let rows : Some e ≡ Some f = sym b.0 ∙ ap (entry_at at) same ∙ k.0 in
              let is : e ≡ f = cc in
              o0.other_start (ap (λ (g : Entry). g.row.number) is)),
          differ fs k.1 o.1,
        )

link_after-same : (at : ℕ → Option Slot) (a b : Option ℕ) (e : Entry) (es : List Entry) → link_after at a (last_key (e ∷ es)) ≡ link_after at b (last_key (e ∷ es))
link_after-same at a b e [] = refl
link_after-same at a b e (f ∷ es) = link_after-same at a b f es

first_after-same : (to a : Option ℕ) (e : Entry) (es : List Entry) → first_after (last_key (e ∷ es)) to a ≡ a
first_after-same to a e [] = refl
first_after-same to a e (f ∷ es) = first_after-same to a f es

-- what follows the last node of a front
pub rest_chain : (at : ℕ → Option Slot) (link : Option ℕ) (front rest : List Entry) → IsChain at link (front ++ rest) → IsChain at (link_after at link (last_key front)) rest
rest_chain at link [] rest h = h
rest_chain at link (e ∷ []) rest h = subst (λ s. IsChain at (next_of s) rest) (sym h.2) h.3
rest_chain at link (e ∷ f ∷ front) rest h = subst (λ l. IsChain at l rest) (link_after-same at h.1 link f front) (rest_chain at h.1 (f ∷ front) rest h.3)

pub chain_same : (at at' : ℕ → Option Slot) (link : Option ℕ) (es : List Entry) → AllByRecursion (λ (e : Entry). at' e.key ≡ at e.key) es → IsChain at link es → IsChain at' link es
chain_same at at' link [] k h = h
chain_same at at' link (e ∷ es) k h = (h.0, h.1, k.0 ∙ h.2, chain_same at at' h.1 es k.1 h.3)

not_last : (key : ℕ) (e : Entry) (es : List Entry) → AllByRecursion (λ (f : Entry). key ≢ f.key) (e ∷ es) → last_key (e ∷ es) ≡ Some key → ⊥
not_last key e [] h is = h.0 (let same : key ≡ e.key = cc in same)
not_last key e (f ∷ es) h is = not_last key f es h.1 is

-- the last node of a front is linked to another rest
pub relinked : (at at' : ℕ → Option Slot) (first first' to : Option ℕ) (front rest rest' : List Entry) → IsChain at first (front ++ rest) → HaveOwnKeys front
    → first' ≡ first_after (last_key front) to first → ((key : ℕ) → last_key front ≡ Some key → at' key ≡ with_next to (at key))
    → AllByRecursion (λ (e : Entry). (last_key front ≡ Some e.key → ⊥) → at' e.key ≡ at e.key) front
    → IsChain at' to rest' → IsChain at' first' (front ++ rest')
relinked at at' first first' to [] rest rest' h own start changed others more = subst (λ l. IsChain at' l rest') (sym start) more
relinked at at' first first' to (e ∷ []) rest rest' h own start changed others more = (start ∙ h.0, to, changed e.key refl ∙ ap (with_next to) h.2, more)
relinked at at' first first' to (e ∷ f ∷ front) rest rest' h own start changed others more = (
  start ∙ first_after-same to first f front ∙ h.0,
  h.1,
  others.0 (not_last e.key f front own.0) ∙ h.2,
  relinked at at' h.1 h.1 to (f ∷ front) rest rest' h.3 own.1 (sym (first_after-same to h.1 f front)) changed others.1 more,
)

pub own_front : (front rest : List Entry) → HaveOwnKeys (front ++ rest) → HaveOwnKeys front
own_front [] rest h = tt
own_front (e ∷ front) rest h = (Each-front (λ (f : Entry). e.key ≢ f.key) front rest h.0, own_front front rest h.1)

-- the last key of a front is none of the rest
pub last_apart : (front rest : List Entry) → HaveOwnKeys (front ++ rest) → AllByRecursion (λ (e : Entry). last_key front ≡ Some e.key → ⊥) rest
last_apart [] rest h = each rest
  where
    each : (es : List Entry) → AllByRecursion (λ (e : Entry). last_key [] ≡ Some e.key → ⊥) es
    each [] = tt
    each (e ∷ es) = ((λ is. (let no_key : ⊥ = cc in no_key)), each es)
last_apart (e ∷ []) rest h = Each-more (λ (f : Entry). e.key ≢ f.key) (λ (f : Entry). last_key (e ∷ []) ≡ Some f.key → ⊥) (λ f k. λ is. k (let same : e.key ≡ f.key = cc in same)) rest h.0
last_apart (e ∷ f ∷ front) rest h = last_apart (f ∷ front) rest h.1

pub last_key-push : (es : List Entry) (e : Entry) → last_key (es ++ e ∷ []) ≡ Some e.key
last_key-push [] e = refl
last_key-push (f ∷ []) e = refl
last_key-push (f ∷ g ∷ es) e = last_key-push (g ∷ es) e

-- the last node of a front that has one
pub record HasLast (key : ℕ) (front : List Entry) : Type 0 where
  pub last : Entry
  pub is : last.key ≡ key
  pub one : IsIn last front

pub has_last : (key : ℕ) (front : List Entry) → last_key front ≡ Some key → HasLast key front
has_last key [] is = (let no_key : ⊥ = cc in absurd no_key)
has_last key (e ∷ []) is = record { last = e; is = (let same : e.key ≡ key = cc in same); one = inl refl }
has_last key (e ∷ f ∷ front) is = let w = has_last key (f ∷ front) is in record { last = w.last; is = w.is; one = inr w.one }

pub Each-one : (P : Entry → Type 0) (x : Entry) (es : List Entry) → AllByRecursion P es → IsIn x es → P x
Each-one P x [] h one = absurd one
Each-one P x (e ∷ es) h one = elim one as (λ _. P x) [ inl same ↦ subst P (sym same) h.0 | inr more ↦ Each-one P x es h.1 more ]

pub IsIn-front : (x : Entry) (front rest : List Entry) → IsIn x front → IsIn x (front ++ rest)
IsIn-front x [] rest h = absurd h
IsIn-front x (e ∷ front) rest h = elim h as (λ _. IsIn x (e ∷ front ++ rest)) [ inl same ↦ inl same | inr more ↦ inr (IsIn-front x front rest more) ]

abbrev pub Split : Entry → List Entry → Type 0
Split e es = (front : List Entry) × (rest : List Entry) × (es ≡ front ++ e ∷ rest)

pub split : (e : Entry) (es : List Entry) → IsIn e es → Split e es
split e [] h = absurd h
split e (f ∷ es) h = elim h as (λ _. Split e (f ∷ es)) [ inl is ↦ ([], es, ap (λ x. x ∷ es) (sym is)) | inr more ↦ (let s = split e es more in (f ∷ s.0, s.1, ap (λ l. f ∷ l) s.2)) ]

pub in_middle : (front : List Entry) (e : Entry) (rest : List Entry) → IsIn e (front ++ e ∷ rest)
in_middle [] e rest = inl refl
in_middle (f ∷ front) e rest = inr (in_middle front e rest)

pub in_more : (x : Entry) (front : List Entry) (e : Entry) (rest : List Entry) → IsIn x (front ++ rest) → IsIn x (front ++ e ∷ rest)
in_more x [] e rest h = inr h
in_more x (f ∷ front) e rest h = elim h as (λ _. IsIn x (f ∷ front ++ e ∷ rest)) [ inl is ↦ inl is | inr more ↦ inr (in_more x front e rest more) ]

pub in_less : (x : Entry) (front : List Entry) (e : Entry) (rest : List Entry) → (x ≡ e → ⊥) → IsIn x (front ++ e ∷ rest) → IsIn x (front ++ rest)
in_less x [] e rest other h = elim h as (λ _. IsIn x rest) [ inl is ↦ absurd (other is) | inr more ↦ more ]
in_less x (f ∷ front) e rest other h = elim h as (λ _. IsIn x (f ∷ front ++ rest)) [ inl is ↦ inl is | inr more ↦ inr (in_less x front e rest other more) ]

-- each node of a front fires before the one behind it
pub fire_before : (front : List Entry) (e : Entry) (rest : List Entry) → IsInOrder (rows_of (front ++ e ∷ rest)) → AllByRecursion (λ (f : Entry). FiresBefore f.row e.row) front
fire_before [] e rest h = tt
fire_before (f ∷ front) e rest h = (pick front h.0, fire_before front e rest h.1)
  where
    pick : (es : List Entry) → AllByRecursion (FiresBefore f.row) (rows_of (es ++ e ∷ rest)) → FiresBefore f.row e.row
    pick [] k = k.0
    pick (g ∷ es) k = pick es k.1

pub sooner_before : (a b row : ArmedRow) → FiresBefore a b → sooner b row ≡ true → sooner a row ≡ true
sooner_before a b row h k = let le = h.sooner in let started = h.started_first in grind (arith, nat_tests)

pub fires_sooner : (a b : ArmedRow) → FiresBefore a b → sooner a b ≡ true
fires_sooner a b h = let le = h.sooner in let started = h.started_first in grind (arith, nat_tests)

pub not_sooner : (a : ArmedRow) → sooner a a ≡ false
not_sooner a = grind (arith, nat_tests)

-- where the first of a rest doesn't fire before a row, none of it does
behind_all : (row : ArmedRow) (es : List Entry) → IsInOrder (rows_of es) → IsBehind row es → AllByRecursion (λ (e : Entry). sooner e.row row ≡ false) es
behind_all row [] h k = tt
behind_all row (e ∷ es) h k = (k, Each-more (λ (f : Entry). FiresBefore e.row f.row) (λ (f : Entry). sooner f.row row ≡ false) later es (Each-of_rows (FiresBefore e.row) es h.0))
  where
    later : (f : Entry) → FiresBefore e.row f.row → sooner f.row row ≡ false
    later f before = by_test (sooner f.row row) refl
      where
        by_test : (b : Bool) → sooner f.row row ≡ b → sooner f.row row ≡ false
        by_test true is = absurd (false≢true (sym k ∙ sooner_before e.row f.row row before is))
        by_test false is = is

first_behind : (row : ArmedRow) (es : List Entry) → AllByRecursion (λ (e : Entry). sooner e.row row ≡ false) es → IsBehind row es
first_behind row [] h = tt
first_behind row (e ∷ es) h = h.0

pub IsBehind-on_level : (level : ℕ) (row : ArmedRow) (es : List Entry) → IsInOrder (rows_of es) → IsBehind row es → IsBehind row (on_level level es)
IsBehind-on_level level row es h k = first_behind row (on_level level es) (Each-on_level (λ (e : Entry). sooner e.row row ≡ false) level es (behind_all row es h k))

-- a list is parted in one way by where a test ends
pub one_part : (row : ArmedRow) (front rest front' rest' : List Entry) → front ++ rest ≡ front' ++ rest' → AllByRecursion (λ (f : Entry). sooner f.row row ≡ true) front → IsBehind row rest
    → AllByRecursion (λ (f : Entry). sooner f.row row ≡ true) front' → IsBehind row rest' → (front ≡ front') × (rest ≡ rest')
one_part row [] rest [] rest' is a b a' b' = (refl, is)
one_part row [] [] (f ∷ front') rest' is a b a' b' = cc
one_part row [] (g ∷ rest) (f ∷ front') rest' is a b a' b' =
    let same : g ≡ f = cc in absurd (false≢true (sym b ∙ ap (λ (x : Entry). sooner x.row row) same ∙ a'.0))
one_part row (g ∷ front) rest [] [] is a b a' b' = cc
one_part row (g ∷ front) rest [] (e ∷ rest') is a b a' b' =
    let same : g ≡ e = cc in absurd (false≢true (sym b' ∙ ap (λ (x : Entry). sooner x.row row) (sym same) ∙ a.0))
one_part row (g ∷ front) rest (f ∷ front') rest' is a b a' b' =
    let same : g ≡ f = cc in
    let more : front ++ rest ≡ front' ++ rest' = cc in
    let w = one_part row front rest front' rest' more a.1 b a'.1 b' in
    (ap (λ x. x ∷ front) same ∙ ap (λ l. f ∷ l) w.0, w.1)

rest_order : (front rest : List Entry) → IsInOrder (rows_of (front ++ rest)) → IsInOrder (rows_of rest)
rest_order [] rest h = h
rest_order (e ∷ front) rest h = rest_order front rest h.1

-- a level is parted where all nodes are
pub level_part : (level : ℕ) (row : ArmedRow) (front rest f r : List Entry) → IsInOrder (rows_of (front ++ rest)) → AllByRecursion (λ (e : Entry). sooner e.row row ≡ true) front → IsBehind row rest
    → on_level level (front ++ rest) ≡ f ++ r → AllByRecursion (λ (e : Entry). sooner e.row row ≡ true) f → IsBehind row r → (f ≡ on_level level front) × (r ≡ on_level level rest)
level_part level row front rest f r h a b parts a' b' =
    one_part row f r (on_level level front) (on_level level rest) (sym parts ∙ on_level-append level front rest) a' b'
    (Each-on_level (λ (e : Entry). sooner e.row row ≡ true) level front a) (IsBehind-on_level level row rest (rest_order front rest h) b)

-- where a timer's node is

numbered : (timer : ℕ) (r : ArmedRow) → (is_row_of timer r ≡ true → r.timer ≡ timer) × (is_row_of timer r ≡ false → r.timer ≢ timer)
numbered timer r = ((λ e. grind (arith, nat_tests, e)), (λ e. grind (arith, nat_tests, e)))

pub is_numbered : (timer : ℕ) (r : ArmedRow) → r.timer ≡ timer → is_row_of timer r ≡ true
is_numbered timer r e = grind (arith, nat_tests, e)

not_numbered : (timer : ℕ) (r : ArmedRow) → r.timer ≢ timer → is_row_of timer r ≡ false
not_numbered timer r e = grind (arith, nat_tests, e)

-- what is found by a timer's key
pub record Found (at : ℕ → Option Slot) (timer key : ℕ) (es : List Entry) : Type 0 where
  pub entry : Entry
  pub there : entry_at at key ≡ Some entry
  pub is : entry.row.timer ≡ timer
  pub one : IsIn entry es
  pub first : find (is_row_of timer) (rows_of es) ≡ Some entry.row
  pub any : list_any (is_row_of timer) (rows_of es) ≡ true

pub found : (at : ℕ → Option Slot) (timer key : ℕ) (es : List Entry) → IsBacked at es → key_of timer es ≡ Some key → Found at timer key es
found at timer key [] b e = cc
found at timer key (f ∷ es) b e = by_test (is_row_of timer f.row) refl e (found at timer key es b.1)
  where
    by_test : (t : Bool) → is_row_of timer f.row ≡ t → cond t (Some f.key) (key_of timer es) ≡ Some key → (key_of timer es ≡ Some key → Found at timer key es) → Found at timer key (f ∷ es)
    by_test true is k more =
        let same : f.key ≡ key = cc in
        record {
          entry = f;
          there = ap (entry_at at) (sym same) ∙ b.0;
          is = (numbered timer f.row).0 is;
          one = inl refl;
          first = cond-true (is_row_of timer f.row) _ _ is;
          any = ap (λ b. b || list_any (is_row_of timer) (rows_of es)) is;
        }
    by_test false is k more =
        let w = more k in
        record {
          entry = w.entry;
          there = w.there;
          is = w.is;
          one = inr w.one;
          first = cond-false (is_row_of timer f.row) _ _ is ∙ w.first;
          any = ap (λ b. b || list_any (is_row_of timer) (rows_of es)) is ∙ w.any;
        }

pub none_found : (timer : ℕ) (es : List Entry) → key_of timer es ≡ None
    → (find (is_row_of timer) (rows_of es) ≡ None) × (list_any (is_row_of timer) (rows_of es) ≡ false) × (rows_of es ≡ take_out timer (rows_of es))
none_found timer [] e = (refl, refl, refl)
none_found timer (f ∷ es) e = by_test (is_row_of timer f.row) refl e (none_found timer es)
  where
    by_test : (t : Bool) → is_row_of timer f.row ≡ t → cond t (Some f.key) (key_of timer es) ≡ None
        → (key_of timer es ≡ None → (find (is_row_of timer) (rows_of es) ≡ None) × (list_any (is_row_of timer) (rows_of es) ≡ false) × (rows_of es ≡ take_out timer (rows_of es)))
        → (find (is_row_of timer) (rows_of (f ∷ es)) ≡ None) × (list_any (is_row_of timer) (rows_of (f ∷ es)) ≡ false) × (rows_of (f ∷ es) ≡ take_out timer (rows_of (f ∷ es)))
    by_test true is k more = absurd (let no_key : ⊥ = cc in no_key)
    by_test false is k more =
        let w = more k in
        (cond-false (is_row_of timer f.row) _ _ is ∙ w.0, ap (λ b. b || list_any (is_row_of timer) (rows_of es)) is ∙ w.1, sym (cond-false (is_row_of timer f.row) _ _ is ∙ ap (λ l. f.row ∷ l) (sym w.2)))

pub none_beyond : (timer n : ℕ) (es : List Entry) → AllByRecursion (λ (r : ArmedRow). r.timer < n) (rows_of es) → n ≤ timer → key_of timer es ≡ None
none_beyond timer n [] h k = refl
none_beyond timer n (e ∷ es) h k = let h0 = h.0 in cond-false (is_row_of timer e.row) _ _ (not_numbered timer e.row (omega arith)) ∙ none_beyond timer n es h.1 k

pub key_of-front : (timer : ℕ) (front rest : List Entry) → AllByRecursion (λ (e : Entry). e.row.timer ≢ timer) front → key_of timer (front ++ rest) ≡ key_of timer rest
key_of-front timer [] rest h = refl
key_of-front timer (e ∷ front) rest h = cond-false (is_row_of timer e.row) _ _ (not_numbered timer e.row h.0) ∙ key_of-front timer front rest h.1

pub key_of-other : (timer : ℕ) (front : List Entry) (e : Entry) (rest : List Entry) → e.row.timer ≢ timer → key_of timer (front ++ e ∷ rest) ≡ key_of timer (front ++ rest)
key_of-other timer [] e rest h = cond-false (is_row_of timer e.row) _ _ (not_numbered timer e.row h)
key_of-other timer (f ∷ front) e rest h = ap (λ o. cond (is_row_of timer f.row) (Some f.key) o) (key_of-other timer front e rest h)

pub take_out-split : (timer : ℕ) (front : List Entry) (e : Entry) (rest : List Entry) → AllByRecursion (λ (f : Entry). f.row.timer ≢ timer) front → e.row.timer ≡ timer
    → rows_of (front ++ rest) ≡ take_out timer (rows_of (front ++ e ∷ rest))
take_out-split timer [] e rest h is = sym (cond-true (is_row_of timer e.row) _ _ (is_numbered timer e.row is))
take_out-split timer (f ∷ front) e rest h is = ap (λ l. f.row ∷ l) (take_out-split timer front e rest h.1 is) ∙ sym (cond-false (is_row_of timer f.row) _ _ (not_numbered timer f.row h.0))

-- no other node has a timer's number
pub others_behind : (timer : ℕ) (e : Entry) (rest : List Entry) → e.row.timer ≡ timer → AllByRecursion (FiresBefore e.row) (rows_of rest) → key_of timer rest ≡ None
others_behind timer e [] is h = refl
others_behind timer e (f ∷ rest) is h =
    let h0 = h.0 in
    cond-false (is_row_of timer f.row) _ _ (not_numbered timer f.row (λ same. h0.other_timer (is ∙ sym same))) ∙ others_behind timer e rest is h.1

pub rest_in_order : (front : List Entry) (e : Entry) (rest : List Entry) → IsInOrder (rows_of (front ++ e ∷ rest)) → AllByRecursion (FiresBefore e.row) (rows_of rest)
rest_in_order [] e rest h = h.0
rest_in_order (f ∷ front) e rest h = rest_in_order front e rest h.1

pub own_rest : (front : List Entry) (e : Entry) (rest : List Entry) → HaveOwnKeys (front ++ e ∷ rest) → AllByRecursion (λ (f : Entry). f.key ≢ e.key) front × AllByRecursion (λ (f : Entry). f.key ≢ e.key) rest
own_rest [] e rest h = (tt, Each-more (λ (f : Entry). e.key ≢ f.key) (λ (f : Entry). f.key ≢ e.key) (λ f k. λ is. k (sym is)) rest h.0)
own_rest (f ∷ front) e rest h =
    let more = own_rest front e rest h.1 in
    let mine = Each-rest (λ (g : Entry). f.key ≢ g.key) front (e ∷ rest) h.0 in
    ((mine.0, more.0), more.1)

-- whether an optional key is one
pub decide : {X : Type 0} (o : Option ℕ) (k : ℕ) → (o ≡ Some k → X) → ((o ≡ Some k → ⊥) → X) → X
decide None k there not_there = not_there (λ e. (let no_key : ⊥ = cc in no_key))
decide (Some m) k there not_there = dite (ℕ_discrete m k) (λ same. there (ap Some same)) (λ other. not_there (λ e. other (let same : m ≡ k = cc in same)))

pub with_next-entry : (key : ℕ) (to : Option ℕ) (s : Option Slot) → option_map (entry_of key) (with_next to s) ≡ option_map (entry_of key) s
with_next-entry key to None = refl
with_next-entry key to (Some s) = refl
