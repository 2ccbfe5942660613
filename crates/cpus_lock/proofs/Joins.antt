-- A seat that takes in another keeps the rule.
use Rattle.std.proofs.Common.{Bool, ◌≡◌, ◌≢◌, ◌⊎◌, ℕ, ◌<◌, true, false, List, [], ◌∷◌, ◌++◌, map, set, sym, refl, ap, subst, ◌∙◌, inl, inr, ⊎_elim, arith}
use Rattle.std.specs.Prelude.{◌==◌}
use mathlib.Core.Option.{some, some-injective}
use lib.ListN.{get_elem?}
use Rattle.atomic_table.specs.Table.{Joins}
use Rattle.atomic_table.proofs.Lists.{at_set, set_here, set_else}
use Rattle.rt_base.specs.declared.codes.Event.{Event}
use Rattle.cpus_lock.specs.declared.knows.Knows.{Knows}
use Rattle.cpus_lock.specs.declared.knows.Kept.{Kept}
use Rattle.cpus_lock.specs.declared.nested.Nested.{Ghosts}
use Rattle.cpus_lock.specs.Rule.{KeptFit, Fits, who, Has, HasCore, Locked, AreUntried, IsUntried, joined, spent}
use Rattle.cpus_lock.proofs.Turns.{Views, within, not_holder}
use Rattle.cpus_lock.proofs.Shares.{Seats, seats_of, roster_of}

abbrev cores_in : List Kept → List ℕ
cores_in ks = map (λ (k : Kept). k.core) ks

has_either : (ks ls : List Kept) (c : ℕ) → Has (cores_in (ks ++ ls)) c → Has (cores_in ks) c ⊎ Has (cores_in ls) c
has_either [] ls c h = inr h
has_either (k ∷ ks) ls c h = ⊎_elim (λ e. inl (inl e)) (λ t. ⊎_elim (λ a. inl (inr a)) (λ b. inr b) (has_either ks ls c t)) h

has_one : (v w : Knows) (c : ℕ) → HasCore (who (joined v w)) c → HasCore (who v) c ⊎ HasCore (who w) c
has_one v w c h =
    ⊎_elim (λ e. inl (inl e)) (λ t. ⊎_elim (λ e. inr (inl e)) (λ k. ⊎_elim (λ a. inr (inr a)) (λ b. inl (inr b)) (has_either w.kept v.kept c k)) t) h

kept_both : (cores : ℕ) (root : List ℕ) (now : List Event) (ks ls : List Kept) → KeptFit cores root now ks → KeptFit cores root now ls → KeptFit cores root now (ks ++ ls)
kept_both cores root now [] ls a b = b
kept_both cores root now (k ∷ ks) ls a b = (a.0, a.1, a.2, kept_both cores root now ks ls a.3 b)

untried_both : (ks ls : List Kept) → AreUntried (ks ++ ls) → AreUntried ks × AreUntried ls
untried_both [] ls h = (tt, h)
untried_both (k ∷ ks) ls h = let t = untried_both ks ls h.1 in ((h.0, t.0), t.1)

module _ (views : Views) (id other : ℕ) (v w : Knows) (there : get_elem? views id ≡ some v) (here : get_elem? views other ≡ some w) (live : v.live ≡ true) (lives : w.live ≡ true) (ne : other ≢ id) where
  abbrev pub One : Views
  One = set (set views id (joined v w)) other spent

  pub data Where (j : ℕ) (x : Knows) : Type 0 where
    dead : x.live ≡ false → Where j x
    mine : j ≡ id → joined v w ≡ x → Where j x
    old : get_elem? views j ≡ some x → j ≢ id → j ≢ other → Where j x

  pub where_is : (j : ℕ) (x : Knows) → get_elem? One j ≡ some x → Where j x
  where_is j x e =
      ⊎_elim
      (λ t. dead (sym (ap (λ (k : Knows). k.live) t.1)))
      (λ t. ⊎_elim (λ p. mine p.0 p.1) (λ p. old p.1 p.0 t.0) (at_set views id j (joined v w) x t.1))
      (at_set (set views id (joined v w)) other j spent x e)

  module _ (r : Seats views) where
    -- a core of the seat that took in is one of two seats
    mine_apart : (j c : ℕ) (y : Knows) → get_elem? views j ≡ some y → y.live ≡ true → j ≢ other → HasCore (who (joined v w)) c → HasCore (who y) c → id ≡ j
    mine_apart j c y aj ly apart hx hy = ⊎_elim (λ a. r.apart id j v y c there aj live ly a hy) (λ b. absurd (apart (sym (r.apart other j w y c here aj lives ly b hy)))) (has_one v w c hx)

    mine_below : (i c : ℕ) (x : Knows) → get_elem? views i ≡ some x → x.live ≡ true → 0 < x.given → HasCore (who (joined v w)) c → c < x.given
    mine_below i c x ai lx g hy = ⊎_elim (λ a. r.below i id x v c ai there lx live g a) (λ b. r.below i other x w c ai here lx lives g b) (has_one v w c hy)

    apart_one : (i j c : ℕ) (x y : Knows) → Where i x → Where j y → x.live ≡ true → y.live ≡ true → HasCore (who x) c → HasCore (who y) c → i ≡ j
    apart_one i j c x y (dead d) b lx ly hx hy = cc
    apart_one i j c x y (mine ei is) (dead d) lx ly hx hy = cc
    apart_one i j c x y (mine ei is) (mine ej is') lx ly hx hy = ei ∙ sym ej
    apart_one i j c x y (mine ei is) (old aj nj oj) lx ly hx hy =
        let P : Knows → Type 0 = λ k. HasCore (who k) c in ei ∙ mine_apart j c y aj ly oj (subst P (sym is) hx) hy
    apart_one i j c x y (old ai ni oi) (dead d) lx ly hx hy = cc
    apart_one i j c x y (old ai ni oi) (mine ej is) lx ly hx hy =
        let P : Knows → Type 0 = λ k. HasCore (who k) c in sym (ej ∙ mine_apart i c x ai lx oi (subst P (sym is) hy) hx)
    apart_one i j c x y (old ai ni oi) (old aj nj oj) lx ly hx hy = r.apart i j x y c ai aj lx ly hx hy

    -- a seat that gives was one that did
    gave : (i : ℕ) (x : Knows) → Where i x → x.live ≡ true → 0 < x.given → (u : Knows) × (get_elem? views i ≡ some u) × (u.live ≡ true) × (u.given ≡ x.given)
    gave i x (dead d) lx g = cc
    gave i x (mine e is) lx g =
        let P : ℕ → Type 0 = λ k. get_elem? views k ≡ some v in (v, subst P (sym e) there, live, ap (λ (k : Knows). k.given) is)
    gave i x (old ai ni oi) lx g = (x, ai, lx, refl)

    below_one : (i j c : ℕ) (x y : Knows) → Where i x → Where j y → x.live ≡ true → y.live ≡ true → 0 < x.given → HasCore (who y) c → c < x.given
    below_one i j c x y a (dead d) lx ly g hy = cc
    below_one i j c x y a (mine e is) lx ly g hy =
        let u = gave i x a lx g in
        let P : Knows → Type 0 = λ k. HasCore (who k) c in
        let less = mine_below i c u.0 u.1 u.2 (omega (arith, u.3, g)) (subst P (sym is) hy) in omega (arith, less, u.3)
    below_one i j c x y a (old aj nj oj) lx ly g hy =
        let u = gave i x a lx g in
        let less = r.below i j u.0 y c u.1 aj u.2 ly (omega (arith, u.3, g)) hy in omega (arith, less, u.3)

    pub one_seats : Seats One
    one_seats = record {
      apart = λ i j x y c ai aj. apart_one i j c x y (where_is i x ai) (where_is j y aj);
      below = λ i j x y c ai aj lx ly. below_one i j c x y (where_is i x ai) (where_is j y aj) lx ly;
      one = λ i j x y ai aj lx ly gx gy.
          let a = gave i x (where_is i x ai) lx gx in
          let b = gave j y (where_is j y aj) ly gy in
          r.one i j a.0 b.0 a.1 b.1 a.2 b.2 (omega (arith, a.3, gx)) (omega (arith, b.3, gy));
    }

  -- where no seat has tried after the join, none has before
  untried_before : ((j : ℕ) (x : Knows) → get_elem? One j ≡ some x → x.live ≡ true → IsUntried x) → (j : ℕ) (x : Knows) → get_elem? views j ≡ some x → x.live ≡ true → IsUntried x
  untried_before all j x aj lx = by_place (j == id) refl (j == other) refl
    where
      mine : IsUntried (joined v w)
      mine = all id (joined v w) (set_else (set views id (joined v w)) other id spent (λ e. ne (sym e)) ∙ set_here views id (joined v w) (within views id v there)) live

      kept : AreUntried w.kept × AreUntried v.kept
      kept = untried_both w.kept v.kept mine.1.1

      U : Knows → Type 0
      U k = IsUntried k

      same : (i : ℕ) (y : Knows) → get_elem? views i ≡ some y → j ≡ i → y ≡ x
      same i y ai e = let P : ℕ → Type 0 = λ k. get_elem? views k ≡ some y in some-injective y x (sym (subst P (sym e) ai) ∙ aj)

      by_place : (a : Bool) → (j == id) ≡ a → (b : Bool) → (j == other) ≡ b → IsUntried x
      by_place true is b is' = subst U (same id v there (grind (arith, is))) (mine.0, kept.1)
      by_place false is true is' = subst U (same other w here (grind (arith, is'))) (mine.1.0, kept.0)
      by_place false is false is' =
          all j x (set_else (set views id (joined v w)) other j spent (grind (arith, is')) ∙ (set_else views id j (joined v w) (grind (arith, is)) ∙ aj)) lx

module _ {T : Type 0} (meanings : Ghosts T) (cores : ℕ) (first : T) where
  -- a seat takes in another
  pub joins : (id : ℕ) (v : Knows) (other : ℕ) (w : Knows) → v.live ≡ true → v.holding ≡ false → w.live ≡ true → w.holding ≡ false → Joins (Locked meanings cores first) id v other w (joined v w) spent
  joins id v other w live idle lives idle' s h there ne at =
      let b : Knows = joined v w in
      let here : get_elem? s.views other ≡ some w = sym (set_else s.views id other b ne) ∙ at in
      let f = h.seats id v there live in
      let f' = h.seats other w here lives in
      record {
        word = h.word;
        now = h.now;
        root = h.root;
        words = h.words;
        few = h.few;
        owners = h.owners;
        free = h.free;
        taken = λ busy.
            let both = h.taken busy in
            let t = both.1 in
            let away = not_holder meanings cores first s id v h.word there idle t in
            let away' = not_holder meanings cores first s other w h.word here idle' t in (
              both.0,
              record {
                place = t.place;
                view = t.view;
                at = set_else (set s.views id b) other t.place spent away' ∙ (set_else s.views id t.place b away ∙ t.at);
                live = t.live;
                holding = t.holding;
                word_is = t.word_is;
              },
            );
        seats = λ j x aj lx.
            let P : Knows → Type 0 = λ k. Fits cores h.word h.root h.now k in
            elim (where_is s.views id other v w there here live lives ne j x aj) [
              | dead d ↦ cc
              | mine e is ↦
                  subst P is record {
                    cores_is = f.cores_is;
                    core = f.core;
                    root_is = f.root_is;
                    log = f.log;
                    holds = f.holds;
                    kept = (f'.core, f'.root_is, f'.log, kept_both cores h.root h.now w.kept v.kept f'.kept f.kept);
                    given = f.given;
                  }
              | old ai ni oi ↦ h.seats j x ai lx
            ];
        roster = roster_of (set (set s.views id b) other spent) (one_seats s.views id other v w there here live lives ne (seats_of s.views h.roster));
        untried = λ all. h.untried (untried_before s.views id other v w there here live lives ne all);
      }
