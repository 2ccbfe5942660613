-- The order of waiters, and the place of one more.
use Rattle.std.proofs.Common.{ℕ, ◌≡◌, ◌≢◌, ◌+◌, List, [], ◌∷◌, ◌++◌, length, Bool, true, false, cond, not, refl, sym, ap, ◌∙◌, arith}
use Rattle.std.proofs.lemmas.Bool.{false≢true, cond-true, cond-false}
use Rattle.std.proofs.lemmas.Bool.Decides.{nat_tests}
use Rattle.rt_base.specs.declared.codes.WaitOrder.{WaitOrder}
use Rattle.rt_plain.specs.kernel.Waiting.{Waiter, stands_before, put_in_order, in_order}
use Rattle.susp_list.specs.Links.{threads_of}
use Rattle.susp_list.proofs.LinkLemmas.{NotIn, Distinct}

-- of two waiters one stands before the other
pub stands-one_way : (o : WaitOrder) (a b : Waiter) → a.thread ≢ b.thread → stands_before o a b ≡ not (stands_before o b a)
stands-one_way WaitOrder.Fifo a b h = grind (arith, nat_tests)
stands-one_way WaitOrder.Prio a b h = grind (arith, nat_tests)

pub stands-trans : (o : WaitOrder) (a b c : Waiter) → stands_before o a b ≡ true → stands_before o b c ≡ true → stands_before o a c ≡ true
stands-trans WaitOrder.Fifo a b c h k = grind (arith, nat_tests)
stands-trans WaitOrder.Prio a b c h k = grind (arith, nat_tests)

-- the second of two tests in a chain
-- what holds of a waiter and of each of a list
abbrev pub Each : (Waiter → Type 0) → List Waiter → Type 0
Each P [] = Unit {0}
Each P (w ∷ ws) = P w × Each P ws

pub Each-put : (P : Waiter → Type 0) (o : WaitOrder) (w : Waiter) (l : List Waiter) → P w → Each P l → Each P (put_in_order o w l)
Each-put P o w [] h k = (h, tt)
Each-put P o w (c ∷ cs) h k = by_test (stands_before o w c) (Each-put P o w cs h k.1)
  where
    by_test : (b : Bool) → Each P (put_in_order o w cs) → Each P (cond b (w ∷ c ∷ cs) (c ∷ put_in_order o w cs))
    by_test true r = (h, k)
    by_test false r = (k.0, r)

pub Each-in_order : (P : Waiter → Type 0) (o : WaitOrder) (l : List Waiter) → Each P l → Each P (in_order o l)
Each-in_order P o [] h = tt
Each-in_order P o (w ∷ ws) h = Each-put P o w (in_order o ws) h.0 (Each-in_order P o ws h.1)

-- a waiter is put between a front and a rest
pub record Split (o : WaitOrder) (w : Waiter) (l : List Waiter) : Type 0 where
  pub front : List Waiter
  pub rest : List Waiter
  pub old : l ≡ front ++ rest
  pub new : put_in_order o w l ≡ front ++ w ∷ rest

pub split : (o : WaitOrder) (w : Waiter) (l : List Waiter) → Split o w l
split o w [] = record { front = []; rest = []; old = refl; new = refl }
split o w (c ∷ cs) = by_test (stands_before o w c) refl (split o w cs)
  where
    by_test : (b : Bool) → stands_before o w c ≡ b → Split o w cs → Split o w (c ∷ cs)
    by_test true e s = record { front = []; rest = c ∷ cs; old = refl; new = cond-true _ _ _ e }
    by_test false e s = record { front = c ∷ s.front; rest = s.rest; old = ap (λ l. c ∷ l) s.old; new = cond-false _ _ _ e ∙ ap (λ l. c ∷ l) s.new }

-- the order in which two waiters are put in doesn't matter
pub put_comm : (o : WaitOrder) (a b : Waiter) (l : List Waiter) → a.thread ≢ b.thread → put_in_order o a (put_in_order o b l) ≡ put_in_order o b (put_in_order o a l)
put_comm o a b [] h = by_test (stands_before o a b) refl (stands-one_way o a b h)
  where
    by_test : (c : Bool) → stands_before o a b ≡ c → stands_before o a b ≡ not (stands_before o b a) → cond (stands_before o a b) (a ∷ b ∷ []) (b ∷ a ∷ []) ≡ cond (stands_before o b a) (b ∷ a ∷ []) (a ∷ b ∷ [])
    by_test true e k = cond-true _ _ _ e ∙ sym (cond-false (stands_before o b a) _ _ (grind arith))
    by_test false e k = cond-false _ _ _ e ∙ sym (cond-true (stands_before o b a) _ _ (grind arith))
put_comm o a b (c ∷ cs) h = by_tests (stands_before o a b) refl (stands_before o a c) refl (stands_before o b c) refl (stands-one_way o a b h) (put_comm o a b cs h)
  where
    Goal : Type 0
    Goal = put_in_order o a (put_in_order o b (c ∷ cs)) ≡ put_in_order o b (put_in_order o a (c ∷ cs))

    one : (x y : Waiter) (l : List Waiter) → stands_before o x y ≡ true → put_in_order o x (y ∷ l) ≡ x ∷ y ∷ l
    one x y l e = cond-true _ _ _ e

    two : (x y : Waiter) (l : List Waiter) → stands_before o x y ≡ false → put_in_order o x (y ∷ l) ≡ y ∷ put_in_order o x l
    two x y l e = cond-false _ _ _ e

    by_tests : (p : Bool) → stands_before o a b ≡ p → (q : Bool) → stands_before o a c ≡ q → (r : Bool) → stands_before o b c ≡ r → stands_before o a b ≡ not (stands_before o b a)
        → put_in_order o a (put_in_order o b cs) ≡ put_in_order o b (put_in_order o a cs) → put_in_order o a (put_in_order o b (c ∷ cs)) ≡ put_in_order o b (put_in_order o a (c ∷ cs))
    by_tests true ab true ac true bc k rest =
        ap (put_in_order o a) (one b c cs bc) ∙ one a b (c ∷ cs) ab ∙ sym (ap (put_in_order o b) (one a c cs ac) ∙ two b a (c ∷ cs) (grind arith) ∙ ap (λ l. a ∷ l) (one b c cs bc))
    by_tests true ab false ac true bc k rest = absurd (false≢true (sym ac ∙ stands-trans o a b c ab bc))
    by_tests false ab true ac true bc k rest =
        ap (put_in_order o a) (one b c cs bc) ∙ two a b (c ∷ cs) ab ∙ ap (λ l. b ∷ l) (one a c cs ac) ∙ sym (ap (put_in_order o b) (one a c cs ac) ∙ one b a (c ∷ cs) (grind arith))
    by_tests false ab false ac true bc k rest =
        ap (put_in_order o a) (one b c cs bc) ∙ two a b (c ∷ cs) ab ∙ ap (λ l. b ∷ l) (two a c cs ac) ∙ sym (ap (put_in_order o b) (two a c cs ac) ∙ one b c (put_in_order o a cs) bc)
    by_tests true ab true ac false bc k rest =
        ap (put_in_order o a) (two b c cs bc) ∙ one a c (put_in_order o b cs) ac ∙ sym (ap (put_in_order o b) (one a c cs ac) ∙ two b a (c ∷ cs) (grind arith) ∙ ap (λ l. a ∷ l) (two b c cs bc))
    by_tests false ab true ac false bc k rest = absurd (false≢true (sym bc ∙ stands-trans o b a c (grind arith) ac))
    by_tests true ab false ac false bc k rest =
        ap (put_in_order o a) (two b c cs bc) ∙ two a c (put_in_order o b cs) ac ∙ ap (λ l. c ∷ l) rest ∙ sym (ap (put_in_order o b) (two a c cs ac) ∙ two b c (put_in_order o a cs) bc)
    by_tests false ab false ac false bc k rest =
        ap (put_in_order o a) (two b c cs bc) ∙ two a c (put_in_order o b cs) ac ∙ ap (λ l. c ∷ l) rest ∙ sym (ap (put_in_order o b) (two a c cs ac) ∙ two b c (put_in_order o a cs) bc)

-- threads of a list in which a waiter was put
pub NotIn-put : (t : ℕ) (o : WaitOrder) (w : Waiter) (l : List Waiter) → t ≢ w.thread → NotIn t (threads_of l) → NotIn t (threads_of (put_in_order o w l))
NotIn-put t o w [] h n = (h, tt)
NotIn-put t o w (c ∷ cs) h n = by_test (stands_before o w c) (NotIn-put t o w cs h n.1)
  where
    by_test : (b : Bool) → NotIn t (threads_of (put_in_order o w cs)) → NotIn t (threads_of (cond b (w ∷ c ∷ cs) (c ∷ put_in_order o w cs)))
    by_test true r = (h, n)
    by_test false r = (n.0, r)

pub NotIn-in_order : (t : ℕ) (o : WaitOrder) (l : List Waiter) → NotIn t (threads_of l) → NotIn t (threads_of (in_order o l))
NotIn-in_order t o [] n = tt
NotIn-in_order t o (w ∷ ws) n = NotIn-put t o w (in_order o ws) n.0 (NotIn-in_order t o ws n.1)

pub Distinct-put : (o : WaitOrder) (w : Waiter) (l : List Waiter) → NotIn w.thread (threads_of l) → Distinct (threads_of l) → Distinct (threads_of (put_in_order o w l))
Distinct-put o w [] n d = (tt, tt)
Distinct-put o w (c ∷ cs) n d = by_test (stands_before o w c) (NotIn-put c.thread o w cs (λ e. n.0 (sym e)) d.0) (Distinct-put o w cs n.1 d.1)
  where
    by_test : (b : Bool) → NotIn c.thread (threads_of (put_in_order o w cs)) → Distinct (threads_of (put_in_order o w cs)) → Distinct (threads_of (cond b (w ∷ c ∷ cs) (c ∷ put_in_order o w cs)))
    by_test true m r = (n, d)
    by_test false m r = (m, r)

pub Distinct-in_order : (o : WaitOrder) (l : List Waiter) → Distinct (threads_of l) → Distinct (threads_of (in_order o l))
Distinct-in_order o [] d = tt
Distinct-in_order o (w ∷ ws) d = Distinct-put o w (in_order o ws) (NotIn-in_order w.thread o ws d.0) (Distinct-in_order o ws d.1)

-- each stands before all that follow
abbrev pub IsStanding : WaitOrder → List Waiter → Type 0
IsStanding o [] = Unit {0}
IsStanding o (w ∷ ws) = Each (λ v. stands_before o w v ≡ true) ws × IsStanding o ws

Each-further : (o : WaitOrder) (w c : Waiter) (cs : List Waiter) → stands_before o w c ≡ true → Each (λ v. stands_before o c v ≡ true) cs → Each (λ v. stands_before o w v ≡ true) cs
Each-further o w c [] h k = tt
Each-further o w c (v ∷ vs) h k = (stands-trans o w c v h k.0, Each-further o w c vs h k.1)

IsStanding-put : (o : WaitOrder) (w : Waiter) (l : List Waiter) → NotIn w.thread (threads_of l) → IsStanding o l → IsStanding o (put_in_order o w l)
IsStanding-put o w [] n s = (tt, tt)
IsStanding-put o w (c ∷ cs) n s = by_test (stands_before o w c) refl (stands-one_way o w c n.0) (IsStanding-put o w cs n.1 s.1)
  where
    by_test : (b : Bool) → stands_before o w c ≡ b → stands_before o w c ≡ not (stands_before o c w) → IsStanding o (put_in_order o w cs) → IsStanding o (cond b (w ∷ c ∷ cs) (c ∷ put_in_order o w cs))
    by_test true e k r = ((e, Each-further o w c cs e s.0), s)
    by_test false e k r = (Each-put (λ v. stands_before o c v ≡ true) o w cs (grind arith) s.0, r)

pub IsStanding-in_order : (o : WaitOrder) (l : List Waiter) → Distinct (threads_of l) → IsStanding o (in_order o l)
IsStanding-in_order o [] d = tt
IsStanding-in_order o (w ∷ ws) d = IsStanding-put o w (in_order o ws) (NotIn-in_order w.thread o ws d.0) (IsStanding-in_order o ws d.1)

-- the first of a list stands behind a waiter, if there is one
abbrev pub IsBeforeFirst : WaitOrder → Waiter → List Waiter → Type 0
IsBeforeFirst o w [] = Unit {0}
IsBeforeFirst o w (c ∷ cs) = stands_before o w c ≡ true

-- the last of a list doesn't stand behind a waiter, if there is one
abbrev pub IsAfterLast : WaitOrder → Waiter → List Waiter → Type 0
IsAfterLast o w [] = Unit {0}
IsAfterLast o w (c ∷ []) = stands_before o w c ≡ false
IsAfterLast o w (c ∷ d ∷ cs) = IsAfterLast o w (d ∷ cs)

not_before : (o : WaitOrder) (w c d : Waiter) (cs : List Waiter) → IsAfterLast o w (d ∷ cs) → Each (λ v. stands_before o c v ≡ true) (d ∷ cs) → stands_before o w c ≡ true → ⊥
not_before o w c d [] last k h = false≢true (sym last ∙ stands-trans o w c d h k.0)
not_before o w c d (e ∷ cs) last k h = not_before o w c e cs last k.1 h

is_false : (b : Bool) → (b ≡ true → ⊥) → b ≡ false
is_false true h = absurd (h refl)
is_false false h = refl

-- a waiter that stands behind the last of a front and before the first of the rest is put between them
pub put_between : (o : WaitOrder) (w : Waiter) (a b : List Waiter) → IsStanding o (a ++ b) → IsAfterLast o w a → IsBeforeFirst o w b → put_in_order o w (a ++ b) ≡ a ++ w ∷ b
put_between o w [] [] s last first = refl
put_between o w [] (c ∷ b) s last first = cond-true _ _ _ first
put_between o w (c ∷ []) b s last first = cond-false _ _ _ last ∙ ap (λ l. c ∷ l) (put_between o w [] b s.1 tt first)
put_between o w (c ∷ d ∷ a) b s last first =
    cond-false _ _ _ (is_false (stands_before o w c) (not_before o w c d a last (front a b s.0))) ∙ ap (λ l. c ∷ l) (put_between o w (d ∷ a) b s.1 last first)
  where
    front : (a b : List Waiter) → Each (λ v. stands_before o c v ≡ true) (d ∷ a ++ b) → Each (λ v. stands_before o c v ≡ true) (d ∷ a)
    front [] b k = (k.0, tt)
    front (e ∷ a) b k = (k.0, front' (e ∷ a) b k.1)
      where
        front' : (a b : List Waiter) → Each (λ v. stands_before o c v ≡ true) (a ++ b) → Each (λ v. stands_before o c v ≡ true) a
        front' [] b k = tt
        front' (e ∷ a) b k = (k.0, front' a b k.1)

length-put : (o : WaitOrder) (w : Waiter) (l : List Waiter) → length (put_in_order o w l) ≡ length l + 1
length-put o w [] = refl
length-put o w (c ∷ cs) = by_test (stands_before o w c) (length-put o w cs)
  where
    by_test : (b : Bool) → length (put_in_order o w cs) ≡ length cs + 1 → length (cond b (w ∷ c ∷ cs) (c ∷ put_in_order o w cs)) ≡ length (c ∷ cs) + 1
    by_test true e = omega arith
    by_test false e = omega arith

pub length-in_order : (o : WaitOrder) (l : List Waiter) → length (in_order o l) ≡ length l
length-in_order o [] = refl
length-in_order o (w ∷ ws) = omega (arith, length-put o w (in_order o ws), length-in_order o ws)
