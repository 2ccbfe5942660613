-- The timers by number and by name.
use Rattle.std.proofs.Common.{ℕ, zero, suc, ◌≡◌, ◌≢◌, ◌+◌, ◌<◌, ◌≤◌, List, [], ◌∷◌, length, map, Bool, true, false, cond, reverse, ◌++◌, ◌-◌, Some, None, refl, sym, ap, ◌∙◌, subst, arith, set, get_or}
use Rattle.std.specs.Prelude.{slice_index_or}
use Rattle.std.specs.List.{AllByRecursion, AllPairs, position_from}
use Rattle.std.specs.Str.{bytes_eq}
use Rattle.std.proofs.Math.Seq.{map-set_same}
use Rattle.std.proofs.lemmas.List.{get_or-map, get_or-reverse, length-map, length-reverse, reverse-append}
use Rattle.std.proofs.lemmas.Slice.Eq.{bytes_eq-Decides}
use Rattle.rt_plain.specs.declared.board.TimerDef.{TimerDef}
use Rattle.rt_plain.specs.declared.board.TimerKind.{TimerKind}
use Rattle.rt_plain.specs.kernel.Opening.{new_timer}
use Rattle.rt_plain.specs.kernel.State.{Timer}
use Rattle.kernel_timers.specs.Alarmed.{no_timer, timer_at, found_timer, put_timer, names_of, IsTimer, IsTimed}

name_differs : (a b : List ℕ) → a ≢ b → bytes_eq a b ≡ false
name_differs a b h = by_test (bytes_eq a b) refl
  where
    by_test : (c : Bool) → bytes_eq a b ≡ c → bytes_eq a b ≡ false
    by_test true e = absurd (h ((bytes_eq-Decides a b).0 e))
    by_test false e = e

if-true : {X : Type 0} (c : Bool) (x y : X) → c ≡ true → cond c x y ≡ x
if-true c x y e = ap (λ b. cond b x y) e

if-false : {X : Type 0} (c : Bool) (x y : X) → c ≡ false → cond c x y ≡ y
if-false c x y e = ap (λ b. cond b x y) e

-- the timer of a name, by where it stands from a number on
record Place (timers : List Timer) (name : List ℕ) (i o : ℕ) : Type 0 where
  k : ℕ
  is : o ≡ i + k
  timer : IsTimer timers name k

place : (timers : List Timer) (name : List ℕ) (i o : ℕ) → position_from (λ (t : Timer). bytes_eq t.name name) i timers ≡ Some o → Place timers name i o
place [] name i o e = cc
place (t ∷ ts) name i o e = by_test (bytes_eq t.name name) refl e (place ts name (i + 1) o)
  where
    by_test : (c : Bool) → bytes_eq t.name name ≡ c → cond c (Some i) (position_from (λ (u : Timer). bytes_eq u.name name) (i + 1) ts) ≡ Some o → (position_from (λ (u : Timer). bytes_eq u.name name) (i + 1) ts ≡ Some o → Place ts name (i + 1) o) → Place (t ∷ ts) name i o
    by_test true is e rest =
        let same : i ≡ o = cc in
        record { k = 0; is = omega (arith, same); timer = record { there = omega arith; named = (bytes_eq-Decides t.name name).0 is; found = if-true (bytes_eq t.name name) (Some t) (found_timer ts name) is } }
    by_test false is e rest =
        let r = rest e in
        record { k = suc r.k; is = omega (arith, r.is); timer = record { there = omega (arith, r.timer.there); named = r.timer.named; found = if-false (bytes_eq t.name name) (Some t) (found_timer ts name) is ∙ r.timer.found } }

pub found-at : (timers : List Timer) (name : List ℕ) (o : ℕ) → position_from (λ (t : Timer). bytes_eq t.name name) 0 timers ≡ Some o → IsTimer timers name o
found-at timers name o e =
    let p = place timers name 0 o e in
    let same : p.k ≡ o = omega (arith, p.is) in
    subst (IsTimer timers name) same p.timer

pub found-none : (timers : List Timer) (name : List ℕ) (i : ℕ) → position_from (λ (t : Timer). bytes_eq t.name name) i timers ≡ None → found_timer timers name ≡ None
found-none [] name i e = refl
found-none (t ∷ ts) name i e = by_test (bytes_eq t.name name) e (found-none ts name (i + 1))
  where
    by_test : (c : Bool) → cond c (Some i) (position_from (λ (u : Timer). bytes_eq u.name name) (i + 1) ts) ≡ None → (position_from (λ (u : Timer). bytes_eq u.name name) (i + 1) ts ≡ None → found_timer ts name ≡ None) → cond c (Some t) (found_timer ts name) ≡ None
    by_test true e rest = cc
    by_test false e rest = rest e

pub position-map : {X Y : Type 0} (f : X → Y) (p : Y → Bool) (i : ℕ) (xs : List X) → position_from p i (map f xs) ≡ position_from (λ x. p (f x)) i xs
position-map f p i [] = refl
position-map f p i (x ∷ xs) = ap (cond (p (f x)) (Some i)) (position-map f p (i + 1) xs)

-- the names

pub name-at : (timers : List Timer) (o : ℕ) → slice_index_or (names_of timers) o [] ≡ (timer_at timers o).name
name-at [] o = refl
name-at (t ∷ ts) zero = refl
name-at (t ∷ ts) (suc o) = name-at ts o

-- another row for the timer of a number is one for the timer of its name

kept : (timers : List Timer) (timer : Timer) → ((k : ℕ) → k < length timers → (timer_at timers k).name ≢ timer.name) → timers ≡ put_timer timers timer
kept [] timer others = refl
kept (t ∷ ts) timer others =
    ap (λ (l : List Timer). t ∷ l) (kept ts timer (λ k there. others (suc k) (omega (arith, there))))
    ∙ ap (λ (u : Timer). u ∷ put_timer ts timer) (sym (if-false (bytes_eq t.name timer.name) timer t (name_differs t.name timer.name (others 0 (omega arith)))))

pub names-length : (timers : List Timer) → length (names_of timers) ≡ length timers
names-length [] = refl
names-length (t ∷ ts) = ap suc (names-length ts)

pub put-is : (timers : List Timer) (o : ℕ) (timer : Timer) → AllPairs (λ one other. one ≢ other) (names_of timers) → o < length timers → timer.name ≡ (timer_at timers o).name → set timers o timer ≡ put_timer timers timer
put-is [] o timer apart there same = absurd (omega (arith, there))
put-is (t ∷ ts) zero timer apart there same =
    ap (λ (l : List Timer). timer ∷ l) (kept ts timer (λ k k_there is. apart 0 (suc k) [] (omega arith) (omega (arith, k_there, names-length ts)) (sym same ∙ sym is ∙ sym (name-at ts k))))
    ∙ ap (λ (u : Timer). u ∷ put_timer ts timer) (sym (if-true (bytes_eq t.name timer.name) timer t ((bytes_eq-Decides t.name timer.name).1 (sym same))))
put-is (t ∷ ts) (suc o) timer apart there same =
    let differs : t.name ≢ timer.name = λ is. apart 0 (suc o) [] (omega arith) (omega (arith, there, names-length ts)) (is ∙ same ∙ sym (name-at ts o)) in
    ap (λ (l : List Timer). t ∷ l) (put-is ts o timer (λ i j d before k_there. apart (suc i) (suc j) d (omega (arith, before)) (omega (arith, k_there))) (omega (arith, there)) same)
    ∙ ap (λ (u : Timer). u ∷ put_timer ts timer) (sym (if-false (bytes_eq t.name timer.name) timer t (name_differs t.name timer.name differs)))

pub names-set : (timers : List Timer) (o : ℕ) (timer : Timer) → timer.name ≡ (timer_at timers o).name → names_of (set timers o timer) ≡ names_of timers
names-set timers o timer same = map-set_same (λ (t : Timer). t.name) timers o timer no_timer same

-- each time is one that a timer may have

pub timed-at : (timers : List Timer) (o : ℕ) → AllByRecursion IsTimed timers → o < length timers → IsTimed (timer_at timers o)
timed-at [] o all there = absurd (omega (arith, there))
timed-at (t ∷ ts) zero all there = all.0
timed-at (t ∷ ts) (suc o) all there = timed-at ts o all.1 (omega (arith, there))

pub timed-set : (timers : List Timer) (o : ℕ) (timer : Timer) → AllByRecursion IsTimed timers → IsTimed timer → AllByRecursion IsTimed (set timers o timer)
timed-set [] o timer all is = tt
timed-set (t ∷ ts) zero timer all is = (is, all.1)
timed-set (t ∷ ts) (suc o) timer all is = (all.0, timed-set ts o timer all.1 is)

-- the timers of a board

map-push : {X Y : Type 0} (f : X → Y) (xs : List X) (x : X) → map f (xs ++ x ∷ []) ≡ map f xs ++ f x ∷ []
map-push f [] x = refl
map-push {Y = Y} f (y ∷ ys) x = ap (λ (l : List Y). f y ∷ l) (map-push f ys x)

pub map-reverse : {X Y : Type 0} (f : X → Y) (xs : List X) → map f (reverse xs) ≡ reverse (map f xs)
map-reverse f [] = refl
map-reverse {X} {Y} f (x ∷ xs) =
    ap (map f) (reverse-append (x ∷ []) xs)
    ∙ map-push f (reverse xs) x
    ∙ ap (λ (l : List Y). l ++ f x ∷ []) (map-reverse f xs)
    ∙ sym (reverse-append (f x ∷ []) (map f xs))

no_def : TimerDef
no_def = record { name = []; kind = TimerKind.OneShot; time = 0; started = false; call = None }

abbrev def-names : List TimerDef → List (List ℕ)
def-names defs = map (λ (def : TimerDef). def.name) defs

names-opened : (defs : List TimerDef) → names_of (map new_timer defs) ≡ def-names defs
names-opened [] = refl
names-opened (def ∷ defs) = ap (λ (l : List (List ℕ)). def.name ∷ l) (names-opened defs)

def-names-apart : (defs : List TimerDef) → AllPairs (λ one other. one.name ≢ other.name) defs → AllPairs (λ one other. one ≢ other) (def-names defs)
def-names-apart defs apart i j d before there =
    let within : j < length defs = omega (arith, there, length-map defs (λ (def : TimerDef). def.name)) in
    let first : get_or (map (λ (def : TimerDef). def.name) defs) i d ≡ (get_or defs i no_def).name = get_or-map (λ (def : TimerDef). def.name) defs i no_def d (omega (arith, within, before)) in
    let second : get_or (map (λ (def : TimerDef). def.name) defs) j d ≡ (get_or defs j no_def).name = get_or-map (λ (def : TimerDef). def.name) defs j no_def d within in
    λ same. apart i j no_def before within (sym first ∙ same ∙ second)

apart-reversed : (names : List (List ℕ)) → AllPairs (λ one other. one ≢ other) names → AllPairs (λ one other. one ≢ other) (reverse names)
apart-reversed names apart i j d before there =
    let within : j < length names = omega (arith, there, length-reverse names) in
    let first : get_or (reverse names) i d ≡ get_or names (length names - 1 - i) d = get_or-reverse names i d (omega (arith, within, before)) in
    let second : get_or (reverse names) j d ≡ get_or names (length names - 1 - j) d = get_or-reverse names j d within in
    λ same. apart (length names - 1 - j) (length names - 1 - i) d (omega (arith, within, before)) (omega (arith, within, before)) (sym second ∙ sym same ∙ first)

pub opened-apart : (defs : List TimerDef) → AllPairs (λ one other. one.name ≢ other.name) defs → AllPairs (λ one other. one ≢ other) (names_of (map new_timer (reverse defs)))
opened-apart defs apart =
    let is : names_of (map new_timer (reverse defs)) ≡ reverse (def-names defs) = names-opened (reverse defs) ∙ def-reverse defs in
    subst (λ (ns : List (List ℕ)). AllPairs (λ one other. one ≢ other) ns) (sym is) (apart-reversed (def-names defs) (def-names-apart defs apart)) where
      def-reverse : (ds : List TimerDef) → def-names (reverse ds) ≡ reverse (def-names ds)
      def-reverse ds = map-reverse (λ (def : TimerDef). def.name) ds

each-append : {X : Type 0} (P : X → Type 0) (xs : List X) (x : X) → AllByRecursion P xs → P x → AllByRecursion P (xs ++ x ∷ [])
each-append P [] x h k = (k, tt)
each-append P (y ∷ ys) x h k = (h.0, each-append P ys x h.1 k)

each-reversed : {X : Type 0} (P : X → Type 0) (xs : List X) → AllByRecursion P xs → AllByRecursion P (reverse xs)
each-reversed P [] h = tt
each-reversed {X} P (x ∷ xs) h = subst (λ (l : List X). AllByRecursion P l) (sym (reverse-append (x ∷ []) xs)) (each-append P (reverse xs) x (each-reversed P xs h.1) h.0)

all-timed : (defs : List TimerDef) → AllByRecursion (λ (def : TimerDef). (1 ≤ def.time) × (def.time ≤ 2147483647)) defs → AllByRecursion IsTimed (map new_timer defs)
all-timed [] h = tt
all-timed (def ∷ defs) h = (h.0, all-timed defs h.1)

pub opened-timed : (defs : List TimerDef) → AllByRecursion (λ (def : TimerDef). (1 ≤ def.time) × (def.time ≤ 2147483647)) defs → AllByRecursion IsTimed (map new_timer (reverse defs))
opened-timed defs h = all-timed (reverse defs) (each-reversed (λ (def : TimerDef). (1 ≤ def.time) × (def.time ≤ 2147483647)) defs h)

-- each timer is the one of its name
pub own : (timers : List Timer) (o : ℕ) → AllPairs (λ one other. one ≢ other) (names_of timers) → o < length timers → IsTimer timers (timer_at timers o).name o
own [] o apart there = absurd (omega (arith, there))
own (t ∷ ts) zero apart there = record { there = there; named = refl; found = if-true (bytes_eq t.name t.name) (Some t) (found_timer ts t.name) ((bytes_eq-Decides t.name t.name).1 refl) }
own (t ∷ ts) (suc o) apart there =
    let differs : t.name ≢ (timer_at ts o).name = λ is. apart 0 (suc o) [] (omega arith) (omega (arith, there, names-length ts)) (is ∙ sym (name-at ts o)) in
    let rest : IsTimer ts (timer_at ts o).name o = own ts o (λ i j d before k_there. apart (suc i) (suc j) d (omega (arith, before)) (omega (arith, k_there))) (omega (arith, there)) in
    record { there = there; named = refl; found = if-false (bytes_eq t.name (timer_at ts o).name) (Some t) (found_timer ts (timer_at ts o).name) (name_differs t.name (timer_at ts o).name differs) ∙ rest.found }
