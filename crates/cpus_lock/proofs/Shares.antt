-- A seat of a further core keeps the rule.
use Rattle.std.proofs.Common.{Bool, ◌≢◌, ◌≡◌, ◌⊎◌, ℕ, zero, suc, ◌+◌, ◌<◌, true, false, [], ◌∷◌, ◌++◌, map, length, set, sym, refl, ap, subst, ◌∙◌, inl, inr, ⊎_elim, arith}
use Rattle.std.specs.Prelude.{◌==◌}
use mathlib.Core.Option.{some, some-injective, some-ne-none}
use lib.ListN.{get_elem?}
use Rattle.atomic_table.specs.Table.{Splits}
use Rattle.atomic_table.proofs.Lists.{at_set, at_longer, set_here, set_else, at_map}
use Rattle.cpus_lock.specs.declared.knows.Knows.{Knows}
use Rattle.cpus_lock.specs.declared.nested.Nested.{Ghosts}
use Rattle.cpus_lock.specs.Rule.{Fits, Who, who, HasCore, Roster, Locked, IsUntried, giver, newcomer}
use Rattle.cpus_lock.proofs.Turns.{Views, within, not_holder}

-- what is at a place of a list to which one was added
at_end : (l : Views) (a b : Knows) (j : ℕ) → get_elem? (l ++ a ∷ []) j ≡ some b → (get_elem? l j ≡ some b) ⊎ ((j ≡ length l) × (a ≡ b))
at_end [] a b zero e = inr (refl, some-injective a b e)
at_end [] a b (suc j) e = absurd (some-ne-none b (sym e))
at_end (x ∷ xs) a b zero e = inl e
at_end (x ∷ xs) a b (suc j) e = ⊎_elim (λ t. inl t) (λ t. inr (omega (arith, t.0), t.1)) (at_end xs a b j e)

-- a place of the roster is a seat
seat_of : (l : Views) (j : ℕ) (w : Who) → get_elem? (map who l) j ≡ some w → (v : Knows) × (get_elem? l j ≡ some v) × (who v ≡ w)
seat_of [] j w e = absurd (some-ne-none w (sym e))
seat_of (x ∷ xs) zero w e = (x, refl, some-injective (who x) w e)
seat_of (x ∷ xs) (suc j) w e = seat_of xs j w e

-- the same, of seats
pub record Seats (views : Views) : Type 0 where
  pub apart : (i j : ℕ) (v w : Knows) (c : ℕ) → get_elem? views i ≡ some v → get_elem? views j ≡ some w → v.live ≡ true → w.live ≡ true → HasCore (who v) c → HasCore (who w) c → i ≡ j
  pub below : (i j : ℕ) (v w : Knows) (c : ℕ) → get_elem? views i ≡ some v → get_elem? views j ≡ some w → v.live ≡ true → w.live ≡ true → 0 < v.given → HasCore (who w) c → c < v.given
  pub one : (i j : ℕ) (v w : Knows) → get_elem? views i ≡ some v → get_elem? views j ≡ some w → v.live ≡ true → w.live ≡ true → 0 < v.given → 0 < w.given → i ≡ j

pub seats_of : (views : Views) → Roster (map who views) → Seats views
seats_of views r = record {
  apart = λ i j v w c ai aj. r.apart i j (who v) (who w) c (at_map who views i v ai) (at_map who views j w aj);
  below = λ i j v w c ai aj. r.below i j (who v) (who w) c (at_map who views i v ai) (at_map who views j w aj);
  one = λ i j v w ai aj. r.one i j (who v) (who w) (at_map who views i v ai) (at_map who views j w aj);
}

pub roster_of : (views : Views) → Seats views → Roster (map who views)
roster_of views s = record {
  apart = λ i j v w c ai aj lv lw hv hw.
      let a = seat_of views i v ai in
      let b = seat_of views j w aj in
      s.apart i j a.0 b.0 c a.1 b.1 (ap (λ (x : Who). x.live) a.2 ∙ lv) (ap (λ (x : Who). x.live) b.2 ∙ lw) (let P : Who → Type 0 = λ x. HasCore x c in subst P (sym a.2) hv) (let P : Who → Type 0 = λ x. HasCore x c in subst P (sym b.2) hw);
  below = λ i j v w c ai aj lv lw some_given hw.
      let a = seat_of views i v ai in
      let b = seat_of views j w aj in
      let g : a.0.given ≡ v.given = ap (λ (x : Who). x.given) a.2 in
      let less = s.below i j a.0 b.0 c a.1 b.1 (ap (λ (x : Who). x.live) a.2 ∙ lv) (ap (λ (x : Who). x.live) b.2 ∙ lw) (omega (arith, g, some_given)) (let P : Who → Type 0 = λ x. HasCore x c in subst P (sym b.2) hw) in
      omega (arith, less, g);
  one = λ i j v w ai aj lv lw gv gw.
      let a = seat_of views i v ai in
      let b = seat_of views j w aj in
      let g : a.0.given ≡ v.given = ap (λ (x : Who). x.given) a.2 in
      let g' : b.0.given ≡ w.given = ap (λ (x : Who). x.given) b.2 in
      s.one i j a.0 b.0 a.1 b.1 (ap (λ (x : Who). x.live) a.2 ∙ lv) (ap (λ (x : Who). x.live) b.2 ∙ lw) (omega (arith, g, gv)) (omega (arith, g', gw));
}

-- a seat in the table after a split: that of an old one, or the newcomer's
module _ (views : Views) (id : ℕ) (v : Knows) (there : get_elem? views id ≡ some v) (live : v.live ≡ true) where
  abbrev Cut : Views
  Cut = set views id (giver v) ++ newcomer v ∷ []

  data Where (j : ℕ) (x : Knows) : Type 0 where
    from : (y : Knows) → get_elem? views j ≡ some y → (x.live ≡ true → y.live ≡ true) → ((c : ℕ) → HasCore (who x) c → HasCore (who y) c) → (0 < x.given → 0 < v.given → 0 < y.given) → (j ≡ id → x.given ≡ v.given + 1) → Where j x
    new : j ≡ length (set views id (giver v)) → ((c : ℕ) → HasCore (who x) c → c ≡ v.given) → x.given ≡ 0 → Where j x

  only : (c : ℕ) → HasCore (who (newcomer v)) c → c ≡ v.given
  only c h = elim h [ inl e ↦ sym e | inr e ↦ absurd e ]

  first_is : (j : ℕ) (x : Knows) → j ≡ id → giver v ≡ x → Where j x
  first_is j x e is =
      let P : Knows → Type 0 = λ k. Where j k in
      let Q : ℕ → Type 0 = λ k. get_elem? views k ≡ some v in
      subst P is (from v (subst Q (sym e) there) (λ l. l) (λ c h. h) (λ a b. b) (λ _. refl))

  new_is : (j : ℕ) (x : Knows) → j ≡ length (set views id (giver v)) → newcomer v ≡ x → Where j x
  new_is j x e is = let P : Knows → Type 0 = λ k. Where j k in subst P is (new e only refl)

  where_is : (j : ℕ) (x : Knows) → get_elem? Cut j ≡ some x → Where j x
  where_is j x e =
      ⊎_elim
      (λ t. ⊎_elim (λ p. first_is j x p.0 p.1) (λ p. from x p.1 (λ l. l) (λ c h. h) (λ a b. a) (λ same. absurd (p.0 same))) (at_set views id j (giver v) x t))
      (λ t. new_is j x t.0 t.1)
      (at_end (set views id (giver v)) (newcomer v) x j e)

  module _ (r : Seats views) (some_given : 0 < v.given) where
    apart_cut : (i j c : ℕ) (x y : Knows) → Where i x → Where j y → x.live ≡ true → y.live ≡ true → HasCore (who x) c → HasCore (who y) c → i ≡ j
    apart_cut i j c x y (from x' ai lx hx gx mx) (from y' aj ly hy gy my) livex livey hasx hasy = r.apart i j x' y' c ai aj (lx livex) (ly livey) (hx c hasx) (hy c hasy)
    apart_cut i j c x y (from x' ai lx hx gx mx) (new aj oy zy) livex livey hasx hasy =
        absurd (let less = r.below id i v x' c there ai live (lx livex) some_given (hx c hasx) in omega (arith, less, oy c hasy))
    apart_cut i j c x y (new ai ox zx) (from y' aj ly hy gy my) livex livey hasx hasy =
        absurd (let less = r.below id j v y' c there aj live (ly livey) some_given (hy c hasy) in omega (arith, less, ox c hasx))
    apart_cut i j c x y (new ai ox zx) (new aj oy zy) livex livey hasx hasy = ai ∙ sym aj

    -- the seat that gives is the only one that does
    gives_here : (i : ℕ) (x : Knows) → Where i x → x.live ≡ true → 0 < x.given → (i ≡ id) × (x.given ≡ v.given + 1)
    gives_here i x (from x' ai lx hx gx mx) livex g = let e = r.one i id x' v ai there (lx livex) live (gx g some_given) some_given in (e, mx e)
    gives_here i x (new ai ox zx) livex g = absurd (omega (arith, g, zx))

    below_cut : (i j c : ℕ) (x y : Knows) → Where i x → Where j y → x.live ≡ true → y.live ≡ true → 0 < x.given → HasCore (who y) c → c < x.given
    below_cut i j c x y a (from y' aj ly hy gy my) livex livey g hasy =
        let here = gives_here i x a livex g in
        let less = r.below id j v y' c there aj live (ly livey) some_given (hy c hasy) in omega (arith, less, here.1)
    below_cut i j c x y a (new aj oy zy) livex livey g hasy = let here = gives_here i x a livex g in omega (arith, oy c hasy, here.1)

    pub cut_seats : Seats Cut
    cut_seats = record {
      apart = λ i j x y c ai aj. apart_cut i j c x y (where_is i x ai) (where_is j y aj);
      below = λ i j x y c ai aj lx ly. below_cut i j c x y (where_is i x ai) (where_is j y aj) lx ly;
      one = λ i j x y ai aj lx ly gx gy. (gives_here i x (where_is i x ai) lx gx).0 ∙ sym (gives_here j y (where_is j y aj) ly gy).0;
    }

module _ {T : Type 0} (meanings : Ghosts T) (cores : ℕ) (first : T) where
  -- where no seat has tried after the split, none has before
  untried_before : (views : Views) (id : ℕ) (v : Knows) → get_elem? views id ≡ some v
      → ((j : ℕ) (x : Knows) → get_elem? (set views id (giver v) ++ newcomer v ∷ []) j ≡ some x → x.live ≡ true → IsUntried x)
      → (j : ℕ) (x : Knows) → get_elem? views j ≡ some x → x.live ≡ true → IsUntried x
  untried_before views id v at all j x aj lx =
      let here : get_elem? (set views id (giver v)) id ≡ some (giver v) = set_here views id (giver v) (within views id v at) in
      by_place (j == id) refl
    where
      by_place : (b : Bool) → (j == id) ≡ b → IsUntried x
      by_place true is =
          let same : j ≡ id = grind (arith, is) in
          let P : ℕ → Type 0 = λ k. get_elem? views k ≡ some x in
          let x_is : x ≡ v = some-injective x v (sym (subst P same aj) ∙ at) in
          let U : Knows → Type 0 = λ k. IsUntried k in
          let mine : IsUntried v = all id (giver v) (at_longer (set views id (giver v)) (newcomer v ∷ []) id (giver v) (set_here views id (giver v) (within views id v at))) (ap (λ (k : Knows). k.live) (sym x_is) ∙ lx) in
          subst U (sym x_is) mine
      by_place false is =
          let apart : j ≢ id = grind (arith, is) in
          all j x (at_longer (set views id (giver v)) (newcomer v ∷ []) j x (set_else views id j (giver v) apart ∙ aj)) lx

  -- a seat gives out a core
  pub splits : (id : ℕ) (v : Knows) → v.live ≡ true → v.holding ≡ false → 0 < v.given → v.given < v.cores → Splits (Locked meanings cores first) id v (giver v) (newcomer v)
  splits id v live idle some_given room s h at =
      let g : Knows = giver v in
      let n : Knows = newcomer v in
      let f = h.seats id v at live in
      let on = f.given some_given in
      record {
        word = h.word;
        now = h.now;
        root = h.root;
        words = h.words;
        few = h.few;
        owners = h.owners;
        free = h.free;
        taken = λ busy.
            let both = h.taken busy in
            let t = both.1 in (
              both.0,
              record {
                place = t.place;
                view = t.view;
                at = at_longer (set s.views id g) (n ∷ []) t.place t.view (set_else s.views id t.place g (not_holder meanings cores first s id v h.word at idle t) ∙ t.at);
                live = t.live;
                holding = t.holding;
                word_is = t.word_is;
              },
            );
        seats = λ j x aj lx.
            let P : Knows → Type 0 = λ k. Fits cores h.word h.root h.now k in
            ⊎_elim
            (λ t. ⊎_elim
            (λ p. subst P p.1 record {
              cores_is = f.cores_is;
              core = f.core;
              root_is = f.root_is;
              log = f.log;
              holds = λ y. absurd (cc (y, idle));
              kept = f.kept;
              given = λ _. record { later = on.later; log_is = on.log_is; of_given = λ k d less. omega (arith, on.of_given k d less) };
            })
            (λ p. h.seats j x p.1 lx)
            (at_set s.views id j g x t))
            (λ t. subst P t.1 record {
              cores_is = f.cores_is;
              core = omega (arith, room, f.cores_is);
              root_is = f.root_is;
              log = record { later = on.later; log_is = on.log_is; of_others = λ k d less e. omega (arith, on.of_given k d less, e) };
              holds = λ y. cc;
              kept = tt;
              given = λ y. absurd (omega (arith, y));
            })
            (at_end (set s.views id g) n x j aj);
        roster = roster_of (set s.views id g ++ n ∷ []) (cut_seats s.views id v at live (seats_of s.views h.roster) some_given);
        untried = λ all. h.untried (untried_before s.views id v at all);
      }
