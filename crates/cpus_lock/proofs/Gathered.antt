-- What the seat of one pass tells, which took in all others.
use Rattle.std.proofs.Common.{◌≡◌, ◌⊎◌, ℕ, ◌+◌, ◌<◌, List, [], ◌∷◌, ◌++◌, map, reverse, length, sym, refl, ap, subst, ◌∙◌, inl, inr, ⊎_elim, append_assoc, add-one, arith}
use Rattle.std.specs.List.{All, Contains, range_with_len}
use Rattle.std.proofs.lemmas.List.{map-append, reverse-append, reverse-reverse, length-map, get_or-map}
use Rattle.std.proofs.lemmas.List.Elements.{All-append, All-nil, All-cons, All-head, All-tail, All-map, All-contains, All-weaker, All-same}
use Rattle.std.proofs.lemmas.List.FromFn.{map-range_with_len_more, get_or-map-range_with_len, length-map-range_with_len}
use Rattle.atomic_table.specs.Seated.{TableId}
use Rattle.rt_base.specs.declared.codes.Event.{Event}
use Rattle.rt_plain.specs.runs.Logs.{Continues, ContinuesPass}
use Rattle.cpus_lock.specs.declared.knows.Knows.{Knows}
use Rattle.cpus_lock.specs.declared.knows.Kept.{Kept}
use Rattle.cpus_lock.specs.declared.nested.Nested.{Ghosts}
use Rattle.cpus_lock.specs.Passes.{Lock, LockPass, cores_of, first_pass, first_passes}
use Rattle.cpus_lock.specs.Rule.{Has, HasCore, who, KeptFit, AreUntried, IsUntried, IsBack, joined}
use Rattle.cpus_lock.specs.Seats.{pass_of, kept_of, taker, TookIn}

-- a seat that takes in the last of passes
pub takes_one : (table : TableId) (v w : Knows) (before passes : List LockPass) → w.kept ≡ [] → passes ≡ before ++ pass_of table w ∷ [] → taker (joined v w) before ≡ taker v passes
takes_one table v w before passes alone is =
    let pass = pass_of table w in
    let whole : map kept_of passes ++ v.kept ≡ map kept_of before ++ kept_of pass ∷ v.kept =
    ap (λ ps. map kept_of ps ++ v.kept) is ∙ (ap (λ ks. ks ++ v.kept) (map-append kept_of before (pass ∷ [])) ∙ append_assoc (map kept_of before) (kept_of pass ∷ []) v.kept) in
    let mine : map kept_of before ++ kept_of pass ∷ (w.kept ++ v.kept) ≡ map kept_of before ++ kept_of pass ∷ v.kept = ap (λ ks. map kept_of before ++ kept_of pass ∷ (ks ++ v.kept)) alone in
    ap (λ (ks : List Kept). record v { kept = ks }) (mine ∙ sym whole)

module _ {X : Type 0} (P : X → Type 0) where
  pub All-reverse : (xs : List X) → All P xs → All P (reverse xs)
  All-reverse [] h = All-nil P
  All-reverse (x ∷ xs) h = All-same P (reverse (x ∷ xs)) (reverse xs ++ x ∷ []) (reverse-append (x ∷ []) xs) (All-append P (reverse xs) (x ∷ []) (All-reverse xs (All-tail P x xs h)) (All-cons P x [] (All-head P x xs h) (All-nil P)))

  pub All-front : (xs ys : List X) → All P (xs ++ ys) → All P xs
  All-front [] ys h = All-nil P
  All-front (x ∷ xs) ys h = All-cons P x xs (All-head P x (xs ++ ys) h) (All-front xs ys (All-tail P x (xs ++ ys) h))

  pub All-back : (xs ys : List X) → All P (xs ++ ys) → All P ys
  All-back [] ys h = h
  All-back (x ∷ xs) ys h = All-back xs ys (All-tail P x (xs ++ ys) h)

-- the seat keeps what it needs of a pass
abbrev InKept : List Kept → LockPass → Type 0
InKept [] p = ⊥
InKept (k ∷ ks) p = (k ≡ kept_of p) ⊎ InKept ks p

abbrev own : Knows → Kept
own v = record { core = v.core; root = v.root; log = v.log; tries = v.tries }

abbrev IsIn : Knows → LockPass → Type 0
IsIn v p = InKept (own v ∷ v.kept) p

in_left : (ks ls : List Kept) (p : LockPass) → InKept ks p → InKept (ks ++ ls) p
in_left [] ls p h = absurd h
in_left (k ∷ ks) ls p h = ⊎_elim (λ e. inl e) (λ t. inr (in_left ks ls p t)) h

in_right : (ks ls : List Kept) (p : LockPass) → InKept ls p → InKept (ks ++ ls) p
in_right [] ls p h = h
in_right (k ∷ ks) ls p h = inr (in_right ks ls p h)

all_kept : (ps : List LockPass) → All (λ p. InKept (map kept_of ps) p) ps
all_kept [] = All-nil (λ p. InKept [] p)
all_kept (q ∷ qs) = All-cons (λ p. InKept (map kept_of (q ∷ qs)) p) q qs (inl refl) (All-weaker (λ p. InKept (map kept_of qs) p) (λ p. InKept (map kept_of (q ∷ qs)) p) (λ p h. inr h) qs (all_kept qs))

-- each of the passes is in the seat
all_in : (table : TableId) (passes : List LockPass) (v : Knows) → TookIn table passes v → All (λ p. IsIn v p) passes
all_in table passes v t =
    let w = taker (taker t.view t.before) t.after in
    let In : LockPass → Type 0 = λ p. IsIn w p in
    let after = map kept_of t.after in
    let before = map kept_of t.before in
    let tail : List Kept = before ++ t.view.kept in
    let a : All In t.before = All-weaker (λ p. InKept before p) In (λ p h. inr (in_right after tail p (in_left before t.view.kept p h))) t.before (all_kept t.before) in
    let b : All In t.after = All-weaker (λ p. InKept after p) In (λ p h. inr (in_left after tail p h)) t.after (all_kept t.after) in
    let all : All In (t.before ++ pass_of table t.view ∷ reverse t.after) = All-append In t.before (pass_of table t.view ∷ reverse t.after) a (All-cons In (pass_of table t.view) (reverse t.after) (inl refl) (All-reverse In t.after b)) in
    let P : Knows → Type 0 = λ k. All (λ p. IsIn k p) passes in
    subst P (sym t.is) (All-same In passes (t.before ++ pass_of table t.view ∷ reverse t.after) t.passes_are all)

core_kept : (ks : List Kept) (p : LockPass) → InKept ks p → Has (map (λ (k : Kept). k.core) ks) p.known.core
core_kept [] p h = absurd h
core_kept (k ∷ ks) p h = ⊎_elim (λ e. inl (ap (λ (x : Kept). x.core) e)) (λ t. inr (core_kept ks p t)) h

core_in : (v : Knows) (p : LockPass) → IsIn v p → HasCore (who v) p.known.core
core_in v p h = ⊎_elim (λ e. inl (ap (λ (x : Kept). x.core) e)) (λ t. inr (core_kept v.kept p t)) h

pub has_cores : (table : TableId) (passes : List LockPass) (v : Knows) → TookIn table passes v → (c : ℕ) → Contains (cores_of passes) c → HasCore (who v) c
has_cores table passes v t c has =
    All-contains (λ x. HasCore (who v) x) (cores_of passes) c (All-map (λ x. HasCore (who v) x) (λ (p : LockPass). p.known.core) passes (All-weaker (λ p. IsIn v p) (λ p. HasCore (who v) p.known.core) (core_in v) passes (all_in table passes v t))) has

-- what is so of a kept seat
record Goes (root : List ℕ) (log : List Event) (k : Kept) : Type 0 where
  pub root_is : root ≡ k.root
  pub goes_on : Continues k.core k.log log

kept_goes : (cores : ℕ) (root : List ℕ) (log : List Event) (ks : List Kept) (p : LockPass) → KeptFit cores root log ks → InKept ks p → Goes root log (kept_of p)
kept_goes cores root log [] p fit h = absurd h
kept_goes cores root log (k ∷ ks) p fit h =
    let P : Kept → Type 0 = λ x. Goes root log x in
    ⊎_elim (λ e. subst P e record { root_is = sym fit.1; goes_on = fit.2 }) (λ t. kept_goes cores root log ks p fit.3 t) h

module _ {T : Type 0} (meanings : Ghosts T) (cores : ℕ) (first : T) (table : TableId) (passes : List LockPass) (v : Knows) (value : T) (took : TookIn table passes v) (back : IsBack meanings cores first v value) where
  goes : (p : LockPass) → IsIn v p → Goes (meanings.root value) (meanings.log value) (kept_of p)
  goes p h =
      let P : Kept → Type 0 = λ x. Goes (meanings.root value) (meanings.log value) x in
      ⊎_elim (λ e. subst P e record { root_is = back.root_is; goes_on = back.log }) (λ t. kept_goes cores (meanings.root value) (meanings.log value) v.kept p back.kept t) h

  pub roots_back : All (λ (pass : LockPass). meanings.root value ≡ pass.known.root) passes
  roots_back = All-weaker (λ p. IsIn v p) (λ p. meanings.root value ≡ p.known.root) (λ p h. (goes p h).root_is) passes (all_in table passes v took)

  pub logs_back : All (λ (pass : LockPass). ContinuesPass pass.known (meanings.log value)) passes
  logs_back = All-weaker (λ p. IsIn v p) (λ p. ContinuesPass p.known (meanings.log value)) (λ p h. (goes p h).goes_on) passes (all_in table passes v took)

abbrev pub IsUntriedPass : LockPass → Type 0
IsUntriedPass p = p.known.tries ≡ 0

untried_kept : (ps : List LockPass) (ks : List Kept) → All IsUntriedPass ps → AreUntried ks → AreUntried (map kept_of ps ++ ks)
untried_kept [] ks h t = t
untried_kept (p ∷ ps) ks h t = (All-head IsUntriedPass p ps h, untried_kept ps ks (All-tail IsUntriedPass p ps h) t)

-- where none of the passes has tried, the seat hasn't, nor has any that was joined in
pub untried_in : (table : TableId) (passes : List LockPass) (v : Knows) → TookIn table passes v → All IsUntriedPass passes → IsUntried v
untried_in table passes v t none =
    let rest : List LockPass = pass_of table t.view ∷ reverse t.after in
    let all : All IsUntriedPass (t.before ++ rest) = All-same IsUntriedPass (t.before ++ rest) passes (sym t.passes_are) none in
    let back = All-back IsUntriedPass t.before rest all in
    let turned = All-reverse IsUntriedPass (reverse t.after) (All-tail IsUntriedPass (pass_of table t.view) (reverse t.after) back) in
    let after : All IsUntriedPass t.after = All-same IsUntriedPass t.after (reverse (reverse t.after)) (sym (reverse-reverse t.after)) turned in
    let P : List Kept → Type 0 = λ ks. AreUntried ks in
    let U : Knows → Type 0 = λ k. IsUntried k in
    subst U (sym t.is) (
      All-head IsUntriedPass (pass_of table t.view) (reverse t.after) back,
      untried_kept t.after (map kept_of t.before ++ t.view.kept) after (untried_kept t.before t.view.kept (All-front IsUntriedPass t.before rest all) (subst P (sym t.alone) tt)),
    )

-- the passes at first have every core, and none has tried
pub first_cores : (lock : Lock) (root : List ℕ) (log : List Event) (c : ℕ) → c < lock.cores → Contains (cores_of (first_passes lock root log)) c
first_cores lock root log c less =
    let ps = first_passes lock root log in
    let count : length ps ≡ lock.cores = length-map-range_with_len (first_pass lock root log) 0 lock.cores in
    let core_count : length (cores_of ps) ≡ length ps = length-map ps (λ (p : LockPass). p.known.core) in
    let at = first_pass lock root log c in (
      c,
      omega (arith, less, count, core_count),
      get_or-map (λ (p : LockPass). p.known.core) ps c at c (omega (arith, less, count)) ∙ ap (λ (p : LockPass). p.known.core) (get_or-map-range_with_len (first_pass lock root log) 0 lock.cores c c at less (omega arith)),
    )

pub first_untried : (lock : Lock) (root : List ℕ) (log : List Event) → All IsUntriedPass (first_passes lock root log)
first_untried lock root log = All-map IsUntriedPass (first_pass lock root log) (range_with_len 0 lock.cores) (λ k d less. refl)

-- one pass more in front of a row is the next one behind it, from its end on
pub one_more : (lock : Lock) (root : List ℕ) (log : List Event) (n : ℕ) (pass : LockPass) (row : List LockPass) → pass ≡ first_pass lock root log (n + 1) → reverse row ≡ map (first_pass lock root log) (range_with_len 1 n)
    → reverse (pass ∷ row) ≡ map (first_pass lock root log) (range_with_len 1 (n + 1))
one_more lock root log n pass row is rest =
    let f = first_pass lock root log in
    reverse-append (pass ∷ []) row ∙ (ap (λ ps. ps ++ pass ∷ []) rest ∙ (ap (λ p. map f (range_with_len 1 n) ++ p ∷ []) is ∙ sym (map-range_with_len_more f 1 n (n + 1) (omega arith))))

-- the whole row, from its end on
pub whole_row : (lock : Lock) (root : List ℕ) (log : List Event) (n : ℕ) (pass : LockPass) (row : List LockPass) → lock.cores ≡ n + 1 → pass ≡ first_pass lock root log 0 → reverse row ≡ map (first_pass lock root log) (range_with_len 1 n)
    → reverse (row ++ pass ∷ []) ≡ first_passes lock root log
whole_row lock root log n pass row count is rest =
    let f = first_pass lock root log in
    reverse-append row (pass ∷ []) ∙ (ap (λ ps. pass ∷ ps) rest ∙ (ap (λ p. p ∷ map f (range_with_len 1 n)) is ∙ ap (λ k. map f (range_with_len 0 k)) (sym (count ∙ add-one n))))

-- the last of a row is listed
pub list_one : (P : LockPass → Type 0) (listed row front more all : List LockPass) (pass : LockPass) → row ≡ front ++ pass ∷ [] → more ≡ listed ++ pass ∷ [] → listed ++ reverse row ≡ all → All P row → All P listed
    → (more ++ reverse front ≡ all) × All P front × All P more
list_one P listed row front more all pass row_is more_is is ps qs =
    let cut = All-same P (front ++ pass ∷ []) row (sym row_is) ps in
    let turned : reverse row ≡ pass ∷ reverse front = ap (λ (xs : List LockPass). reverse xs) row_is ∙ reverse-append front (pass ∷ []) in (
      ap (λ xs. xs ++ reverse front) more_is ∙ (append_assoc listed (pass ∷ []) (reverse front) ∙ (ap (λ xs. listed ++ xs) (sym turned) ∙ is)),
      All-front P front (pass ∷ []) cut,
      All-same P more (listed ++ pass ∷ []) more_is (All-append P listed (pass ∷ []) qs (All-back P front (pass ∷ []) cut)),
    )
