-- Lines that are printed one after another.
use Rattle.std.proofs.Common.{◌≡◌, ◌∙◌, refl, sym, ap, subst, ℕ, zero, suc, ◌+◌, ◌<◌, ◌≤◌, Bool, true, ◌&&◌, nat_le, IsTrue, Some, List, [], ◌∷◌, ◌++◌, length, map, get_or, take, slice_get, arith, append_assoc, take_all, leb-true}
use Rattle.std.proofs.lemmas.List.{get_or-map, length-map, map-append}
use Rattle.rt_plain.specs.declared.row.Row.{Row}
use Rattle.rt_plain.specs.declared.line.Line.{Line}
use Rattle.rt_plain.specs.kernel.Tables.{CommandRow, commands}
use Rattle.finsh.specs.Commands.{row_of}
use Rattle.finsh.specs.declared.commands.Named.{Named}
use Rattle.finsh.proofs.Joined.{fits_both}

-- a title line, lines, and a last line
pub three_parts : (before titled voted all : List Line) (title last : Line) (votes : List Line)
    → titled ≡ before ++ title ∷ [] → voted ≡ titled ++ votes → all ≡ voted ++ last ∷ [] → all ≡ before ++ ((title ∷ votes) ++ last ∷ [])
three_parts before titled voted all title last votes t v a =
    a ∙ ap (λ xs. xs ++ last ∷ []) (v ∙ ap (λ xs. xs ++ votes) t ∙ append_assoc before (title ∷ []) votes) ∙ append_assoc before (title ∷ votes) (last ∷ [])

some_same : {X : Type 0} {x y : X} → Some x ≡ Some y → x ≡ y
some_same e = cc

taken : {X : Type 0} (xs : List X) (i : ℕ) (x : X) → slice_get xs i ≡ Some x → take (i + 1) xs ≡ take i xs ++ x ∷ []
taken [] i x e = absurd (cc)
taken (y ∷ ys) zero x e = ap (λ z. z ∷ []) (some_same e)
taken (y ∷ ys) (suc i) x e = ap (λ (n : ℕ). take n (y ∷ ys)) {x = suc i + 1} {y = suc (i + 1)} (omega arith) ∙ ap (λ zs. y ∷ zs) (taken ys i x e)

-- one line more
pub one_more : {X : Type 0} (f : X → Line) (xs : List X) (i : ℕ) (x : X) (before now more : List Line)
    → slice_get xs i ≡ Some x → now ≡ before ++ map f (take i xs) → more ≡ now ++ f x ∷ [] → more ≡ before ++ map f (take (i + 1) xs)
one_more f xs i x before now more e n m =
    m ∙ ap (λ ys. ys ++ f x ∷ []) n ∙ append_assoc before (map f (take i xs)) (f x ∷ [])
    ∙ ap (λ ys. before ++ ys) (sym (map-append f (take i xs) (x ∷ []))) ∙ ap (λ ys. before ++ map f ys) (sym (taken xs i x e))

-- the names of commands are short
abbrev short_names : List CommandRow → Bool
short_names [] = true
short_names (r ∷ rs) = nat_le (length r.name) 63 && short_names rs

short_at : (rs : List CommandRow) (i : ℕ) (d : CommandRow) → IsTrue (short_names rs) → i < length rs → length (get_or rs i d).name ≤ 63
short_at [] i d s h = absurd (omega arith)
short_at (r ∷ rs) zero d s h = leb-true _ _ (fits_both (nat_le (length r.name) 63) (short_names rs) s).0
short_at (r ∷ rs) (suc i) d s h = short_at rs i d (fits_both (nat_le (length r.name) 63) (short_names rs) s).1 (omega arith)

pub name_short : (ns : List Named) (i : ℕ) (d : Named) → map row_of ns ≡ commands → i < length ns → length (get_or ns i d).0.now ≤ 63
name_short ns i d e h =
    let same : get_or commands i (row_of d) ≡ row_of (get_or ns i d) = ap (λ rs. get_or rs i (row_of d)) (sym e) ∙ get_or-map row_of ns i d (row_of d) h in
    subst (λ (r : CommandRow). length r.name ≤ 63) same (short_at commands i (row_of d) refl (omega (arith, ap length e, length-map ns row_of)))

mapped_twice : (g : Row → List ℕ) (rows : List Row) → map (λ row. Line.Print (g row)) rows ≡ map (λ piece. Line.Print piece) (map g rows)
mapped_twice g [] = refl
mapped_twice g (row ∷ rows) = ap (λ xs. Line.Print (g row) ∷ xs) (mapped_twice g rows)

-- the lines of all rows
pub all_rows : (before all : List Line) (g : Row → List ℕ) (rows : List Row) (n : ℕ) → length rows ≤ n
    → all ≡ before ++ map (λ row. Line.Print (g row)) (take n rows) → all ≡ before ++ map (λ piece. Line.Print piece) (map g rows)
all_rows before all g rows n long a =
    a ∙ ap (λ rs. before ++ map (λ row. Line.Print (g row)) rs) (take_all n rows long) ∙ ap (λ xs. before ++ xs) (mapped_twice g rows)
