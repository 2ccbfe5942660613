-- What holds of each row of the table of lines.
use Rattle.std.proofs.Common.{◌≡◌, ℕ, ◌<◌, ◌≤◌, Bool, true, false, List, ◌∷◌, ◌++◌, length, Option, Some, None, refl, ap, ◌∙◌, subst, arith}
use Rattle.std.specs.Prelude.{IfSome, bytes_eq}
use Rattle.std.specs.Option.{option_map}
use Rattle.std.proofs.lemmas.Slice.Eq.{bytes_eq-Decides}
use Rattle.std.proofs.lemmas.Bool.{leb-false}
use Rattle.rt_plain.specs.declared.kind.Kind.{Kind}
use Rattle.rt_plain.specs.declared.kind.LineKind.{LineKind}
use Rattle.rt_plain.specs.declared.kind.StatementKind.{StatementKind}
use Rattle.rt_plain.specs.declared.board_line.BoardLine.{BoardLine}
use Rattle.rt_plain.specs.declared.stmt.Stmt.{Stmt}
use Rattle.rt_plain.specs.declared.stmt.Call.{Call}
use Rattle.rt_plain.specs.PlainBoard.{PlainBoard}
use Rattle.rt_plain.specs.text.Splits.{word_at}
use Rattle.rt_plain.specs.text.Fields.{Field}
use Rattle.rt_plain.specs.text.FieldLists.{Values, spelled_all, Fit}
use Rattle.rt_plain.specs.text.StatementTable.{statement_row, all_statements, statement_word, statement_named}
use Rattle.rt_plain.specs.declared.kind.Tail.{Tail}
use Rattle.rt_plain.specs.declared.kind.Tail.TheVariants.{Ends, SetsLimit}
use Rattle.rt_plain.specs.text.Tails.{TailValue, tail_words, TailFits}
use Rattle.rt_plain.specs.text.LineTable.{line_row, all_lines, form, row, line_named, kind_named, FormValues, made, parts, kind_of, words_of_line, indent, text_of, FitsLine}
use Rattle.rt_plain.specs.text.BoardText.{is_astray, is_beyond, is_passed_limit, is_class_passed, is_limit_passed, is_indented}
use Rattle.rt_plain.proofs.text.FieldListLemmas.{Told, is_token, quoted_last, unquoted_fields, spelled_words, spelled_words_before}
use Rattle.rt_plain.proofs.text.SplitLemmas.{joined, words-joined_words, AreWords, IsPlain}
use Rattle.rt_plain.proofs.text.StatementTableLemmas.{told_without, find_some, some_is, statement-named}
use Rattle.rt_plain.proofs.text.TailLemmas.{named-limit, tail_plain}

-- ---- what a line is made of

pub kind-made : (levels : ℕ) (k : Kind) (vs : FormValues levels k) → kind_of (made levels k vs) ≡ k
kind-made levels (Kind.Line LineKind.Board) vs = refl
kind-made levels (Kind.Line _) vs = refl
kind-made levels (Kind.Statement StatementKind.Print) vs = refl
kind-made levels (Kind.Statement _) vs = refl

-- a line is made of its parts
pub made-parts : (levels : ℕ) (l : BoardLine) → made levels (parts levels l).kind (parts levels l).values ≡ l
made-parts levels (BoardLine.Version n) = refl
made-parts levels (BoardLine.Statement Stmt.Exit) = refl
made-parts levels (BoardLine.Statement (Stmt.Do Call.Yield)) = refl
made-parts levels (BoardLine.Statement (Stmt.Do _)) = refl
made-parts levels (BoardLine.Statement _) = refl
made-parts levels _ = refl

pub kind-parts : (levels : ℕ) (l : BoardLine) → (parts levels l).kind ≡ kind_of l
kind-parts levels (BoardLine.Version n) = refl
kind-parts levels (BoardLine.Statement Stmt.Exit) = refl
kind-parts levels (BoardLine.Statement (Stmt.Do Call.Yield)) = refl
kind-parts levels (BoardLine.Statement (Stmt.Do _)) = refl
kind-parts levels (BoardLine.Statement _) = refl
kind-parts levels _ = refl

-- ---- texts

-- the words of a line of a kind
abbrev pub words_of_kind : (levels : ℕ) (k : Kind) → FormValues levels k → List (List ℕ)
words_of_kind levels k vs = (form levels k).word ∷ spelled_all (tail_words (form levels k).tail) (form levels k).fields vs

-- the text of a line of a kind
abbrev pub spelling : (levels : ℕ) (k : Kind) → FormValues levels k → List ℕ
spelling levels k vs = indent (form levels k).indented ++ joined (words_of_kind levels k vs)

abbrev joined_text : BoardLine → List ℕ
joined_text l = indent (form 0 (kind_of l)).indented ++ joined (words_of_line l)

pub text-joined : (l : BoardLine) → text_of l ≡ joined_text l
text-joined l = ap (λ (t : List ℕ). indent (form 0 (kind_of l)).indented ++ t) (words-joined_words (words_of_line l))

joined-made : (levels : ℕ) (k : Kind) (vs : FormValues levels k) → joined_text (made levels k vs) ≡ spelling levels k vs
joined-made levels (Kind.Line LineKind.Board) vs = refl
joined-made levels (Kind.Line _) vs = refl
joined-made levels (Kind.Statement StatementKind.Print) vs = refl
joined-made levels (Kind.Statement _) vs = refl

joined-parts : (levels : ℕ) (l : BoardLine) → joined_text l ≡ spelling levels (parts levels l).kind (parts levels l).values
joined-parts levels (BoardLine.Version n) = refl
joined-parts levels (BoardLine.Statement Stmt.Exit) = refl
joined-parts levels (BoardLine.Statement (Stmt.Do Call.Yield)) = refl
joined-parts levels (BoardLine.Statement (Stmt.Do _)) = refl
joined-parts levels (BoardLine.Statement _) = refl
joined-parts levels _ = refl

pub text-made : (levels : ℕ) (k : Kind) (vs : FormValues levels k) → text_of (made levels k vs) ≡ spelling levels k vs
text-made levels k vs = text-joined (made levels k vs) ∙ joined-made levels k vs

pub text-parts : (levels : ℕ) (l : BoardLine) → text_of l ≡ spelling levels (parts levels l).kind (parts levels l).values
text-parts levels l = text-joined l ∙ joined-parts levels l

pub spelling-indented : (levels : ℕ) (k : Kind) (vs : FormValues levels k) → is_indented (spelling levels k vs) ≡ (form levels k).indented
spelling-indented levels (Kind.Line LineKind.Board) vs = refl
spelling-indented levels (Kind.Line _) vs = refl
spelling-indented levels (Kind.Statement StatementKind.Print) vs = refl
spelling-indented levels (Kind.Statement _) vs = refl

-- the lines of a kind fit as their values do
pub fits-made : (levels : ℕ) (k : Kind) (vs : FormValues levels k) → Fit (TailFits levels (form levels k).tail) (form levels k).fields vs → FitsLine levels (made levels k vs)
fits-made levels (Kind.Line LineKind.Board) vs h = h
fits-made levels (Kind.Line _) vs h = h
fits-made levels (Kind.Statement StatementKind.Print) vs h = h
fits-made levels (Kind.Statement _) vs h = h

-- ---- rows

pub word-same : (levels : ℕ) (k : Kind) → (form levels k).word ≡ (row k).word
unfolding row
word-same levels (Kind.Line LineKind.Board) = refl
word-same levels (Kind.Line _) = refl
word-same levels (Kind.Statement StatementKind.Print) = refl
word-same levels (Kind.Statement _) = refl

pub indented-same : (levels : ℕ) (k : Kind) → (form levels k).indented ≡ (row k).indented
unfolding row
indented-same levels (Kind.Line LineKind.Board) = refl
indented-same levels (Kind.Line _) = refl
indented-same levels (Kind.Statement StatementKind.Print) = refl
indented-same levels (Kind.Statement _) = refl

pub length-same : (levels : ℕ) (k : Kind) → length (row k).fields ≡ length (form levels k).fields
unfolding row
length-same levels (Kind.Line LineKind.Board) = refl
length-same levels (Kind.Line _) = refl
length-same levels (Kind.Statement StatementKind.Print) = refl
length-same levels (Kind.Statement _) = refl

pub tail-same : (levels : ℕ) (k : Kind) → (form levels k).tail ≡ (row k).tail
unfolding row
tail-same levels (Kind.Line LineKind.Board) = refl
tail-same levels (Kind.Line _) = refl
tail-same levels (Kind.Statement StatementKind.Print) = refl
tail-same levels (Kind.Statement _) = refl

pub row-token : (levels : ℕ) (k : Kind) → is_token (form levels k).word ≡ true
row-token levels (Kind.Line LineKind.Board) = refl
row-token levels (Kind.Line _) = refl
row-token levels (Kind.Statement StatementKind.Print) = refl
row-token levels (Kind.Statement _) = refl

-- only a row's last word may be a text
abbrev pub is_plain_row : Tail → List Field → Bool
is_plain_row Ends fs = quoted_last fs
is_plain_row _ fs = unquoted_fields fs

row-plain : (levels : ℕ) (k : Kind) → is_plain_row (form levels k).tail (form levels k).fields ≡ true
row-plain levels (Kind.Line LineKind.Board) = refl
row-plain levels (Kind.Line _) = refl
row-plain levels (Kind.Statement StatementKind.Print) = refl
row-plain levels (Kind.Statement _) = refl

row_words : (levels : ℕ) (t : Tail) (fs : List Field) (vs : Values (TailValue t) fs) (w : List ℕ) → IsPlain w → is_plain_row t fs ≡ true → Fit (TailFits levels t) fs vs → AreWords (w ∷ spelled_all (tail_words t) fs vs)
row_words levels Ends fs vs w plain e h = spelled_words fs vs w plain e h
row_words levels SetsLimit fs vs w plain e h = spelled_words_before (tail_words SetsLimit) (TailFits levels SetsLimit) (tail_plain levels SetsLimit) fs vs w plain e h
row_words levels t fs vs w plain e h = spelled_words_before (tail_words t) (TailFits levels t) (tail_plain levels t) fs vs w plain e h

pub kind_words : (levels : ℕ) (k : Kind) (vs : FormValues levels k) → IsPlain (form levels k).word → Fit (TailFits levels (form levels k).tail) (form levels k).fields vs → AreWords (words_of_kind levels k vs)
kind_words levels k vs plain h = row_words levels (form levels k).tail (form levels k).fields vs (form levels k).word plain (row-plain levels k) h

-- each kind is found by its indent and its word
pub named-kind : (k : Kind) → kind_named (row k).indented (row k).word ≡ Some k
unfolding kind_named line_named statement_named statement_word row all_lines all_statements
named-kind (Kind.Line LineKind.Board) = refl
named-kind (Kind.Line _) = refl
named-kind (Kind.Statement StatementKind.Print) = refl
named-kind (Kind.Statement _) = refl

pub lines_count : length all_lines ≡ 25
unfolding all_lines
lines_count = refl

line-named : (w : List ℕ) (k : LineKind) → line_named w ≡ Some k → (row (Kind.Line k)).word ≡ w
unfolding line_named
line-named w k e = (bytes_eq-Decides (row (Kind.Line k)).word w).0 (find_some (λ j. bytes_eq (row (Kind.Line j)).word w) all_lines k e)

mapped_some : {A B : Type 0} (f : A → B) (o : Option A) (y : B) → option_map f o ≡ Some y → (x : A) × (o ≡ Some x) × (f x ≡ y)
mapped_some f None y e = absurd cc
mapped_some f (Some x) y e = (x, refl, some_is (f x) y e)

statement-word : (k : StatementKind) → (row (Kind.Statement k)).word ≡ statement_word k
unfolding row statement_word
statement-word k = refl

is_statement_line : (k : StatementKind) → (row (Kind.Statement k)).indented ≡ true
unfolding row
is_statement_line k = refl

is_other_line : (k : LineKind) → (row (Kind.Line k)).indented ≡ false
unfolding row
is_other_line k = refl

pub kind-named : (indented : Bool) (w : List ℕ) (k : Kind) → kind_named indented w ≡ Some k → ((row k).indented ≡ indented) × ((row k).word ≡ w)
unfolding kind_named
kind-named true w k e =
    let m = mapped_some (λ j. Kind.Statement j) (statement_named w) k e in
    subst (λ (j : Kind). ((row j).indented ≡ true) × ((row j).word ≡ w)) m.2 (is_statement_line m.0, statement-word m.0 ∙ statement-named w m.0 m.1)
kind-named false w k e =
    let m = mapped_some (λ j. Kind.Line j) (line_named w) k e in
    subst (λ (j : Kind). ((row j).indented ≡ false) × ((row j).word ≡ w)) m.2 (is_other_line m.0, line-named w m.0 m.1)

-- ---- values

below : (cores : ℕ) (core : Option ℕ) → cores ≤ 8 → is_beyond cores core ≡ false → IfSome core (λ n. n < 255)
below cores None le h = tt
below cores (Some n) le h = omega (arith, leb-false cores n h)

pub told : (b : PlainBoard) (levels : ℕ) (k : Kind) (vs : FormValues levels k) → b.cores ≤ 8 → is_astray b (made levels k vs) ≡ false → Told (TailValue (form levels k).tail) (form levels k).fields vs
told b levels (Kind.Line LineKind.Thread) vs le h = (tt, (tt, (tt, (below b.cores vs.1.1.1.0 le h, (tt, tt)))))
told b levels (Kind.Line k) vs le h = told_without (TailValue (line_row levels k).tail) (line_row levels k).fields vs refl
told b levels (Kind.Statement StatementKind.Print) vs le h = (tt, tt)
told b levels (Kind.Statement k) vs le h = told_without (Unit {0}) (statement_row levels k).fields vs refl

-- the second word of a limit tells its class
pub limit-made : (place levels : ℕ) (k : Kind) (vs : FormValues levels k) → is_limit_passed place (form levels k).tail (word_at (words_of_kind levels k vs) 1) ≡ is_passed_limit place (made levels k vs)
limit-made place levels (Kind.Line LineKind.Limit) vs = ap (is_class_passed place) (named-limit vs.0)
limit-made place levels (Kind.Line _) vs = refl
limit-made place levels (Kind.Statement StatementKind.Print) vs = refl
limit-made place levels (Kind.Statement _) vs = refl
