-- A statement's words say that statement, and what words say is spelled so.
use Rattle.std.proofs.Common.{◌≡◌, ℕ, suc, ◌+◌, ◌≤◌, ◌<◌, Bool, true, false, not, ◌&&◌, List, [], ◌∷◌, length, drop, get_or, drop-cons, Some, None, Ok, refl, sym, ap, ◌∙◌, subst, arith, inl, inr, length-drop}
use Rattle.std.specs.Prelude.{bytes_eq}
use Rattle.std.specs.List.{find}
use Rattle.std.proofs.lemmas.List.{nil_from_length}
use Rattle.std.proofs.lemmas.Slice.Eq.{bytes_eq-Decides}
use Rattle.std.proofs.lemmas.Bool.{and_parts, not-true}
use Rattle.rt_plain.specs.declared.kind.StatementKind.{StatementKind}
use Rattle.rt_plain.specs.declared.stmt.Stmt.{Stmt}
use Rattle.rt_plain.specs.declared.stmt.Call.{Call}
use Rattle.rt_plain.specs.text.Splits.{word_at}
use Rattle.rt_plain.specs.text.Fields.{Field, Number, Core, Value, result_map}
use Rattle.rt_plain.specs.text.FieldLists.{Values, spelled_all, no_words, Fit, Always, ended, values_in}
use Rattle.rt_plain.specs.text.StatementTable.{statement_row, all_statements, statement_word, statement_count, statement_named, StatementValues, statement_made, statement_kind, statement_values, statement_words, FitsStatement, statement_in}
use Rattle.rt_plain.proofs.text.FieldLemmas.{IsTold, chosen, when, unless, map_ok}
use Rattle.rt_plain.proofs.text.FieldListLemmas.{ArePrintable, Told, values-take, values-again, is_token, token_plain, token_printable, quoted_last, spelled_words, fields_printable}
use Rattle.rt_plain.proofs.text.SplitLemmas.{AreWords}

-- ---- each row of the table

pub statement-parts : (levels : ℕ) (s : Stmt) → statement_made levels (statement_kind s) (statement_values levels s) ≡ s
statement-parts levels Stmt.Exit = refl
statement-parts levels (Stmt.Do Call.Yield) = refl
statement-parts levels (Stmt.Do _) = refl
statement-parts levels _ = refl

pub kind-statement : (levels : ℕ) (k : StatementKind) (vs : StatementValues levels k) → statement_kind (statement_made levels k vs) ≡ k
kind-statement levels StatementKind.Print vs = refl
kind-statement levels _ vs = refl

pub words-statement : (levels : ℕ) (k : StatementKind) (vs : StatementValues levels k) → statement_words (statement_made levels k vs) ≡ (statement_row levels k).word ∷ spelled_all no_words (statement_row levels k).fields vs
words-statement levels StatementKind.Print vs = refl
words-statement levels _ vs = refl

pub words-parts : (levels : ℕ) (s : Stmt) → statement_words s ≡ (statement_row levels (statement_kind s)).word ∷ spelled_all no_words (statement_row levels (statement_kind s)).fields (statement_values levels s)
words-parts levels Stmt.Exit = refl
words-parts levels (Stmt.Do Call.Yield) = refl
words-parts levels (Stmt.Do _) = refl
words-parts levels _ = refl

pub fits-statement : (levels : ℕ) (k : StatementKind) (vs : StatementValues levels k) → Fit Always (statement_row levels k).fields vs → FitsStatement levels (statement_made levels k vs)
fits-statement levels StatementKind.Print vs h = h
fits-statement levels _ vs h = h

pub statement_word-is : (levels : ℕ) (k : StatementKind) → (statement_row levels k).word ≡ statement_word k
unfolding statement_word
statement_word-is levels StatementKind.Print = refl
statement_word-is levels _ = refl

pub statement_count-is : (levels : ℕ) (k : StatementKind) → length (statement_row levels k).fields ≡ statement_count k
unfolding statement_count
statement_count-is levels StatementKind.Print = refl
statement_count-is levels _ = refl

pub statement-token : (levels : ℕ) (k : StatementKind) → is_token (statement_row levels k).word ≡ true
statement-token levels StatementKind.Print = refl
statement-token levels _ = refl

pub statement-quoted : (levels : ℕ) (k : StatementKind) → quoted_last (statement_row levels k).fields ≡ true
statement-quoted levels StatementKind.Print = refl
statement-quoted levels _ = refl

-- each statement is found by its word
pub named-statement : (k : StatementKind) → statement_named (statement_word k) ≡ Some k
unfolding statement_named statement_word all_statements
named-statement StatementKind.Print = refl
named-statement _ = refl

pub statements_count : length all_statements ≡ 48
unfolding all_statements
statements_count = refl

pub some_is : {A : Type 0} (x y : A) → Some x ≡ Some y → x ≡ y
some_is x y e = cc

-- what was found passes the test
pub find_some : {A : Type 0} (test : A → Bool) (xs : List A) (x : A) → find test xs ≡ Some x → test x ≡ true
find_some test [] x e = absurd cc
find_some test (y ∷ ys) x e =
    elim (chosen (test y) (Some y) (find test ys) (Some x) e) [
      | inl h ↦ subst (λ z. test z ≡ true) (some_is y x h.1) h.0
      | inr h ↦ find_some test ys x h.1
    ]

-- a search goes on, or ends
pub find_on : {A : Type 0} (test : A → Bool) (xs : List A) (i : ℕ) (d : A) → i < length xs → test (get_or xs i d) ≡ false → find test (drop i xs) ≡ find test (drop (i + 1) xs)
find_on test xs i d lt e =
    let next : suc i ≡ i + 1 = omega arith in
    ap (find test) (drop-cons xs i d lt) ∙ unless (test (get_or xs i d)) (Some (get_or xs i d)) (find test (drop (suc i) xs)) e ∙ ap (λ (n : ℕ). find test (drop n xs)) next

pub find_here : {A : Type 0} (test : A → Bool) (xs : List A) (i : ℕ) (d : A) → i < length xs → test (get_or xs i d) ≡ true → find test (drop i xs) ≡ Some (get_or xs i d)
find_here test xs i d lt e = ap (find test) (drop-cons xs i d lt) ∙ when (test (get_or xs i d)) (Some (get_or xs i d)) (find test (drop (suc i) xs)) e

pub find_end : {A : Type 0} (test : A → Bool) (xs : List A) (i : ℕ) → length xs ≤ i → find test (drop i xs) ≡ None
find_end test xs i le = ap (find test) (nil_from_length (drop i xs) (omega (arith, length-drop i xs)))

pub statement-named : (w : List ℕ) (k : StatementKind) → statement_named w ≡ Some k → statement_word k ≡ w
unfolding statement_named
statement-named w k e = (bytes_eq-Decides (statement_word k) w).0 (find_some (λ j. bytes_eq (statement_word j) w) all_statements k e)

-- ---- values that are told whole by their words

abbrev pub is_core : Field → Bool
is_core Core = true
is_core _ = false

abbrev pub has_no_core : List Field → Bool
has_no_core [] = true
has_no_core (f ∷ fs) = not (is_core f) && has_no_core fs

told_field : (f : Field) (v : Value f) → is_core f ≡ false → IsTold f v
told_field Core v h = absurd cc
told_field (Number low high) v h = tt
told_field _ v h = tt

pub told_without : (E : Type 0) (fs : List Field) (vs : Values E fs) → has_no_core fs ≡ true → Told E fs vs
told_without E [] vs h = tt
told_without E (f ∷ fs) vs h = let p = and_parts (not (is_core f)) (has_no_core fs) h in (told_field f vs.0 (not-true _ p.0), told_without E fs vs.1 p.1)

statement-core : (levels : ℕ) (k : StatementKind) → has_no_core (statement_row levels k).fields ≡ true
statement-core levels StatementKind.Print = refl
statement-core levels _ = refl

-- ---- both ways

pub first_rest : (ws : List (List ℕ)) (w : List ℕ) (others : List (List ℕ)) → 1 ≤ length ws → word_at ws 0 ≡ w → drop 1 ws ≡ others → ws ≡ w ∷ others
first_rest [] w others len a b = absurd (omega arith)
first_rest (v ∷ vs) w others len a b = ap (λ (u : List ℕ). u ∷ vs) a ∙ ap (λ (t : List (List ℕ)). w ∷ t) b

pub statement-takes : (levels : ℕ) (ws : List (List ℕ)) (k : StatementKind) (s : Stmt) → ArePrintable ws → length ws ≡ 1 + statement_count k → word_at ws 0 ≡ statement_word k → statement_in levels ws k ≡ Ok s → (ws ≡ statement_words s) × FitsStatement levels s
unfolding statement_in
statement-takes levels ws k s p len first e =
    let fs = (statement_row levels k).fields in
    let d = map_ok (statement_made levels k) (values_in ended fs 1 ws) s e in
    let size : length ws ≡ 1 + length fs = len ∙ ap (λ (n : ℕ). 1 + n) (sym (statement_count-is levels k)) in
    let f = values-take no_words Always ended fs 1 ws d.0 p (omega arith) (λ j is x r. (nil_from_length (drop j ws) (omega (arith, length-drop j ws)), tt)) d.1 (told_without (Unit {0}) fs d.0 (statement-core levels k)) in (
      first_rest ws (statement_row levels k).word (spelled_all no_words fs d.0) (omega arith) (first ∙ sym (statement_word-is levels k)) f.0 ∙ sym (words-statement levels k d.0) ∙ ap statement_words d.2,
      subst (FitsStatement levels) d.2 (fits-statement levels k d.0 f.1),
    )

pub statement-again : (levels : ℕ) (s : Stmt) → FitsStatement levels s → statement_in levels (statement_words s) (statement_kind s) ≡ Ok s
unfolding statement_in
statement-again levels s h =
    let k = statement_kind s in
    let r = statement_row levels k in
    ap (λ (ws : List (List ℕ)). result_map (statement_made levels k) (values_in ended r.fields 1 ws)) (words-parts levels s)
    ∙ ap (result_map (statement_made levels k)) (values-again no_words Always ended (λ e a. refl) r.fields (r.word ∷ []) 1 (statement_values levels s) refl h)
    ∙ ap (λ (x : Stmt). Ok x) (statement-parts levels s)

pub statement_length : (s : Stmt) → length (statement_words s) ≡ 1 + statement_count (statement_kind s)
unfolding statement_count
statement_length Stmt.Exit = refl
statement_length (Stmt.Do Call.Yield) = refl
statement_length (Stmt.Do _) = refl
statement_length _ = refl

pub statement_are_words : (levels : ℕ) (s : Stmt) → FitsStatement levels s → AreWords (statement_words s)
statement_are_words levels s h =
    let r = statement_row levels (statement_kind s) in
    subst AreWords (sym (words-parts levels s)) (spelled_words r.fields (statement_values levels s) r.word (token_plain r.word (statement-token levels (statement_kind s))) (statement-quoted levels (statement_kind s)) h)

pub statement_printable : (levels : ℕ) (s : Stmt) → FitsStatement levels s → ArePrintable (statement_words s)
statement_printable levels s h =
    let r = statement_row levels (statement_kind s) in
    subst ArePrintable (sym (words-parts levels s)) (token_printable r.word (statement-token levels (statement_kind s)), fields_printable no_words Always (λ e a. tt) r.fields (statement_values levels s) h)

pub statement_front : (s : Stmt) → word_at (statement_words s) 0 ≡ statement_word (statement_kind s)
statement_front s = statement_word-is 0 (statement_kind s)
