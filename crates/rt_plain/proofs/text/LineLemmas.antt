-- A line that is read as something is its line, and the line of something is read as that.
use Rattle.std.proofs.Common.{◌≡◌, ℕ, suc, ◌+◌, ◌≤◌, Bool, true, false, not, ◌&&◌, ◌||◌, eqb, leb, cond, List, [], ◌∷◌, ◌++◌, length, drop, Option, Some, None, Result, Ok, Err, refl, sym, ap, ◌∙◌, subst, arith, inl, inr, codes}
use Rattle.std.specs.Prelude.{bytes_eq}
use Rattle.std.specs.List.{list_all, list_any, flat_map}
use Rattle.std.specs.Fmt.{digits}
use Rattle.std.proofs.lemmas.List.Concat.{flat_map-cons}
use Rattle.std.proofs.lemmas.List.Folds.{list_all-append}
use Rattle.std.proofs.lemmas.Slice.Eq.{bytes_eq-Decides}
use Rattle.std.proofs.lemmas.Bool.{and_parts, and_from, not-false, not_from_true, eqb-true, leb-true, le-leb, and_cases, and_left, and_right}
use Rattle.rt_plain.specs.declared.why.Why.{Why}
use Rattle.rt_plain.specs.declared.kind.Kind.{Kind}
use Rattle.rt_plain.specs.declared.kind.LineKind.{LineKind}
use Rattle.rt_plain.specs.declared.kind.StatementKind.{StatementKind}
use Rattle.rt_plain.specs.declared.board_line.BoardLine.{BoardLine}
use Rattle.rt_plain.specs.declared.stmt.Stmt.{Stmt}
use Rattle.rt_plain.specs.PlainBoard.{PlainBoard}
use Rattle.rt_plain.specs.text.Splits.{words_of, word_at, is_printable, is_empty}
use Rattle.rt_plain.specs.text.Fields.{result_map}
use Rattle.rt_plain.specs.text.FieldLists.{spelled_all, Fit, values_in, ended}
use Rattle.rt_plain.specs.text.StatementTable.{statement_row, statement_made, statement_in}
use Rattle.rt_plain.specs.declared.kind.Tail.{Tail}
use Rattle.rt_plain.specs.text.Tails.{TailValue, tail_words, TailFits, is_counted, tail_in}
use Rattle.rt_plain.specs.text.LineTable.{all_lines, line_named, form, row, kind_named, FormValues, made, parts, kind_of, text_of, FitsLine, indent, line_in, said_in}
use Rattle.rt_plain.specs.text.BoardText.{SoFar, is_out_of_order, is_passed_limit, is_limit_passed, is_twice, is_full, is_astray, is_head, IsLine, refused, ◌>>=◌, is_indented, words_behind, first_of, found, has_count, placed, of_kind, of_words, judged}
use Rattle.rt_plain.proofs.text.FieldLemmas.{ok_is, map_ok}
use Rattle.rt_plain.proofs.text.FieldListLemmas.{ArePrintable, values-take, values-again, printable_behind, length_spelled, drop_spelled, last_value, last_fits, token_plain, token_printable, fields_printable, spaced_are_printable, words_full}
use Rattle.rt_plain.proofs.text.StatementTableLemmas.{first_rest}
use Rattle.rt_plain.proofs.text.TailLemmas.{tail-takes, tail-again, tail-counted, tail_printable}
use Rattle.rt_plain.proofs.text.SplitLemmas.{joined, words-joined, joined-words, AreWords}
use Rattle.rt_plain.proofs.text.LineTableLemmas.{kind-made, made-parts, kind-parts, words_of_kind, spelling, text-made, text-parts, spelling-indented, fits-made, word-same, indented-same, length-same, tail-same, row-token, kind_words, named-kind, kind-named, told, limit-made}

-- ---- the tools of the chain

pub refused_not : {A : Type 0} (b : Bool) (e : Why) (r : Result A Why) (x : A) → refused b e r ≡ Ok x → (b ≡ false) × (r ≡ Ok x)
refused_not true e r x h = absurd cc
refused_not false e r x h = (refl, h)

pub let_pass : {A : Type 0} (b : Bool) (e : Why) (r : Result A Why) → b ≡ false → refused b e r ≡ r
let_pass true e r h = absurd cc
let_pass false e r h = refl

pub bind_ok : {A B : Type 0} (r : Result A Why) (f : A → Result B Why) (y : B) → (r >>= f) ≡ Ok y → (x : A) × (r ≡ Ok x) × (f x ≡ Ok y)
bind_ok (Ok x) f y e = (x, refl, e)
bind_ok (Err d) f y e = absurd cc

found_some : (o : Option Kind) (k : Kind) → found o ≡ Ok k → o ≡ Some k
found_some None k e = absurd cc
found_some (Some j) k e = cc

neither : (a b : Bool) → (a || b) ≡ false → (a ≡ false) × (b ≡ false)
neither true b e = absurd cc
neither false b e = (refl, e)

either_not : (a b : Bool) → a ≡ false → b ≡ false → (a || b) ≡ false
either_not true b e f = absurd cc
either_not false b e f = f

map_twice : {A B C : Type 0} (f : B → C) (g : A → B) (r : Result A Why) → result_map f (result_map g r) ≡ result_map (λ x. f (g x)) r
map_twice f g (Ok x) = refl
map_twice f g (Err e) = refl

-- what the words of a line say is made of the values that they are
pub said-in : (levels : ℕ) (ws : List (List ℕ)) (k : Kind) → said_in levels ws k ≡ result_map (made levels k) (values_in (tail_in levels (form levels k).tail) (form levels k).fields 1 ws)
unfolding said_in line_in statement_in
said-in levels ws (Kind.Line k) = refl
said-in levels ws (Kind.Statement k) = map_twice (λ (s : Stmt). BoardLine.Statement s) (statement_made levels k) (values_in ended (statement_row levels k).fields 1 ws)

-- what stands rightly
pub record IsPlaced (b : PlainBoard) (l : BoardLine) : Type 0 where
  pub once : is_twice b l ≡ false
  pub room : is_full b l ≡ false
  pub known : is_astray b l ≡ false

placed-takes : (b : PlainBoard) (l m : BoardLine) → placed b l ≡ Ok m → (l ≡ m) × IsPlaced b l
placed-takes b l m e =
    let x = refused_not (is_twice b l) Why.Twice _ m e in
    let y = refused_not (is_full b l) Why.Full _ m x.1 in
    let z = refused_not (is_astray b l) Why.Refer _ m y.1 in
    (ok_is l m z.1, record { once = x.0; room = y.0; known = z.0 })

placed-again : (b : PlainBoard) (l : BoardLine) → IsPlaced b l → placed b l ≡ Ok l
placed-again b l p = let_pass _ _ _ p.once ∙ let_pass _ _ _ p.room ∙ let_pass _ _ _ p.known

-- ---- a line of a kind

-- what a line of a kind is, once its words were read
record IsKind (s : SoFar) (ws : List (List ℕ)) (k : Kind) (l : BoardLine) : Type 0 where
  values : FormValues s.board.levels k
  words : ws ≡ words_of_kind s.board.levels k values
  fits : Fit (TailFits s.board.levels (form s.board.levels k).tail) (form s.board.levels k).fields values
  is_made : made s.board.levels k values ≡ l
  order : is_out_of_order s (row k) ≡ false
  limit : is_passed_limit s.limited l ≡ false
  place : IsPlaced s.board l

kind-takes : (s : SoFar) (ws : List (List ℕ)) (k : Kind) (l : BoardLine) → s.board.cores ≤ 8 → ArePrintable ws → first_of ws ≡ (form s.board.levels k).word → of_kind s ws k ≡ Ok l → IsKind s ws k l
kind-takes s ws k l le p first e =
    let L = s.board.levels in
    let f = form L k in
    let a = refused_not (is_out_of_order s (row k) || is_limit_passed s.limited (row k).tail (word_at ws 1)) Why.Order _ l e in
    let orders = neither (is_out_of_order s (row k)) (is_limit_passed s.limited (row k).tail (word_at ws 1)) a.0 in
    let b = refused_not (not (has_count (row k) ws)) Why.Words _ l a.1 in
    let count = and_parts (leb (1 + length (row k).fields) (length ws)) (is_counted (row k).tail (drop (1 + length (row k).fields) ws)) (not-false _ b.0) in
    let c = bind_ok (said_in L ws k) (placed s.board) l b.1 in
    let d = map_ok (made L k) (values_in (tail_in L f.tail) f.fields 1 ws) c.0 (sym (said-in L ws k) ∙ c.1) in
    let q = placed-takes s.board c.0 l c.2 in
    let long : 1 + length f.fields ≤ length ws = (let n = leb-true _ _ count.0 in let m = length-same L k in omega arith) in
    let counted : is_counted f.tail (drop (1 + length f.fields) ws) ≡ true = ap (λ (t : Tail). is_counted t (drop (1 + length f.fields) ws)) (tail-same L k) ∙ ap (λ (n : ℕ). is_counted (row k).tail (drop (1 + n) ws)) (sym (length-same L k)) ∙ count.1 in
    let vs = d.0 in
    let t = told s.board L k vs le (subst (λ (j : BoardLine). is_astray s.board j ≡ false) (sym d.2) q.1.known) in
    let v = values-take (tail_words f.tail) (TailFits L f.tail) (tail_in L f.tail) f.fields 1 ws vs p long
    (λ j is x r. tail-takes L f.tail (drop j ws) x (printable_behind j ws p) (ap (λ (n : ℕ). is_counted f.tail (drop n ws)) is ∙ counted) r) d.1 t in
    let words : ws ≡ words_of_kind L k vs = first_rest ws f.word (spelled_all (tail_words f.tail) f.fields vs) (omega arith) first v.0 in
    let made_l : made L k vs ≡ l = d.2 ∙ q.0 in
    record {
      values = vs;
      words = words;
      fits = v.1;
      is_made = made_l;
      order = orders.0;
      limit = ap (is_passed_limit s.limited) (sym made_l) ∙ sym (limit-made s.limited L k vs) ∙ ap (λ (us : List (List ℕ)). is_limit_passed s.limited f.tail (word_at us 1)) (sym words) ∙ ap (λ (t : Tail). is_limit_passed s.limited t (word_at ws 1)) (tail-same L k) ∙ orders.1;
      place = subst (λ (j : BoardLine). IsPlaced s.board j) q.0 q.1;
    }

-- ---- a line

parts_by : (b c : ℕ) (bs : List ℕ) (t : Bool) → (t ≡ true → b ∷ c ∷ bs ≡ 32 ∷ 32 ∷ bs) → b ∷ c ∷ bs ≡ indent t ++ joined (words_of (cond t bs (b ∷ c ∷ bs)))
parts_by b c bs true h = h refl ∙ ap (λ (t : List ℕ). 32 ∷ 32 ∷ t) (sym (joined-words true bs))
parts_by b c bs false h = sym (joined-words true (b ∷ c ∷ bs))

-- a line is its indent and its words
pub line_parts : (bytes : List ℕ) → bytes ≡ indent (is_indented bytes) ++ joined (words_behind bytes)
line_parts [] = refl
line_parts (b ∷ []) = sym (joined-words true (b ∷ []))
line_parts (b ∷ c ∷ bs) = parts_by b c bs (eqb b 32 && eqb c 32) (λ e. let p = and_parts (eqb b 32) (eqb c 32) e in let x = eqb-true b 32 p.0 in let y = eqb-true c 32 p.1 in cc)

spaced_printable : (ws : List (List ℕ)) → list_all is_printable (flat_map (λ (v : List ℕ). 32 ∷ v) ws) ≡ true → ArePrintable ws
spaced_printable [] h = tt
spaced_printable (w ∷ ws) h =
    let p = and_parts (list_all is_printable (32 ∷ w)) (list_all is_printable (flat_map (λ (v : List ℕ). 32 ∷ v) ws)) (sym (ap (list_all is_printable) (flat_map-cons (λ (v : List ℕ). 32 ∷ v) w ws) ∙ list_all-append is_printable (32 ∷ w) (flat_map (λ (v : List ℕ). 32 ∷ v) ws)) ∙ h) in
    (p.0, spaced_printable ws p.1)

joined_printable : (ws : List (List ℕ)) → list_all is_printable (joined ws) ≡ true → ArePrintable ws
joined_printable [] h = tt
joined_printable (w ∷ ws) h =
    let p = and_parts (list_all is_printable w) (list_all is_printable (flat_map (λ (v : List ℕ). 32 ∷ v) ws)) (sym (list_all-append is_printable w (flat_map (λ (v : List ℕ). 32 ∷ v) ws)) ∙ h) in
    (p.0, spaced_printable ws p.1)

words_printable : (bytes : List ℕ) → list_all is_printable bytes ≡ true → ArePrintable (words_behind bytes)
words_printable bytes h =
    let p = and_parts (list_all is_printable (indent (is_indented bytes))) (list_all is_printable (joined (words_behind bytes))) (sym (list_all-append is_printable (indent (is_indented bytes)) (joined (words_behind bytes))) ∙ ap (list_all is_printable) (sym (line_parts bytes)) ∙ h) in
    joined_printable (words_behind bytes) p.1

head_made : (levels : ℕ) (k : Kind) (vs : FormValues levels k) → k ≡ Kind.Line LineKind.Board → is_head (made levels k vs) ≡ true
head_made levels k vs e = subst (λ (j : Kind). (us : FormValues levels j) → is_head (made levels j us) ≡ true) (sym e) (λ us. refl) vs

head_read : (rank : ℕ) (bytes : List ℕ) (l : BoardLine) (k : Kind) → (eqb rank 0 && not (bytes_eq bytes (codes "board 1"))) ≡ false → found (kind_named (is_indented bytes) (first_of (words_behind bytes))) ≡ Ok k → (k ≡ Kind.Line LineKind.Board → is_head l ≡ true) → (eqb rank 0 && not (is_head l)) ≡ false
unfolding kind_named line_named row all_lines
head_read rank bytes l k a f h =
    elim (and_cases (eqb rank 0) (not (bytes_eq bytes (codes "board 1"))) a) [
      | inl other ↦ and_left _ _ other
      | inr is ↦ (let same : bytes ≡ codes "board 1" = (bytes_eq-Decides bytes (codes "board 1")).0 (not-false _ is) in
          let g : found (kind_named (is_indented (codes "board 1")) (first_of (words_behind (codes "board 1")))) ≡ Ok k = ap (λ (t : List ℕ). found (kind_named (is_indented t) (first_of (words_behind t)))) (sym same) ∙ f in
          and_right _ _ (not_from_true _ (h (sym (ok_is (Kind.Line LineKind.Board) k g)))))
    ]

pub line-takes : (s : SoFar) (bytes : List ℕ) (l : BoardLine) → s.board.cores ≤ 8 → judged s bytes ≡ Ok l → IsLine s bytes l
unfolding judged of_words
line-takes s bytes l le e =
    let L = s.board.levels in
    let ws = words_behind bytes in
    let a = refused_not (eqb s.rank 0 && not (bytes_eq bytes (codes "board 1"))) Why.Head _ l e in
    let b = refused_not (not (list_all is_printable bytes)) Why.Byte _ l a.1 in
    let c = refused_not (list_any is_empty ws) Why.Space _ l b.1 in
    let d = bind_ok (found (kind_named (is_indented bytes) (first_of ws))) (of_kind s ws) l c.1 in
    let k = d.0 in
    let both = kind-named (is_indented bytes) (first_of ws) k (found_some _ k d.1) in
    let indents : (form L k).indented ≡ is_indented bytes = indented-same L k ∙ both.0 in
    let word : first_of ws ≡ (form L k).word = sym (word-same L k ∙ both.1) in
    let t = kind-takes s ws k l le (words_printable bytes (not-false _ b.0)) word d.2 in
    let vs = t.values in
    let text : bytes ≡ spelling L k vs = line_parts bytes ∙ ap (λ (n : Bool). indent n ++ joined ws) (sym indents) ∙ ap (λ (us : List (List ℕ)). indent (form L k).indented ++ joined us) t.words in
    record {
      spelled = text ∙ sym (text-made L k vs) ∙ ap text_of t.is_made;
      stands = record {
        fits = subst (FitsLine L) t.is_made (fits-made L k vs t.fits);
        head = head_read s.rank bytes l k a.0 d.1 (λ z. ap is_head (sym t.is_made) ∙ head_made L k vs z);
        order = subst (λ (j : Kind). is_out_of_order s (row j) ≡ false) (sym (kind-made L k vs) ∙ ap kind_of t.is_made) t.order;
        limit = t.limit;
        once = t.place.once;
        room = t.place.room;
        known = t.place.known;
      };
    }

-- ---- and back

indent_printable : (b : Bool) → list_all is_printable (indent b) ≡ true
indent_printable true = refl
indent_printable false = refl

pub spelling_printable : (levels : ℕ) (k : Kind) (vs : FormValues levels k) → Fit (TailFits levels (form levels k).tail) (form levels k).fields vs → list_all is_printable (spelling levels k vs) ≡ true
spelling_printable levels k vs h =
    let f = form levels k in
    let others = spelled_all (tail_words f.tail) f.fields vs in
    let spaced = flat_map (λ (v : List ℕ). 32 ∷ v) others in
    list_all-append is_printable (indent f.indented) (f.word ++ spaced)
    ∙ and_from _ _ (indent_printable f.indented) (list_all-append is_printable f.word spaced ∙ and_from _ _ (token_printable f.word (row-token levels k)) (spaced_are_printable others (fields_printable (tail_words f.tail) (TailFits levels f.tail) (tail_printable levels f.tail) f.fields vs h)))

pub spelling_words : (levels : ℕ) (k : Kind) (vs : FormValues levels k) → AreWords (words_of_kind levels k vs) → words_behind (spelling levels k vs) ≡ words_of_kind levels k vs
spelling_words levels (Kind.Line LineKind.Board) vs h = words-joined (words_of_kind levels (Kind.Line LineKind.Board) vs) h
spelling_words levels (Kind.Line k) vs h = words-joined (words_of_kind levels (Kind.Line k) vs) h
spelling_words levels (Kind.Statement StatementKind.Print) vs h = words-joined (words_of_kind levels (Kind.Statement StatementKind.Print) vs) h
spelling_words levels (Kind.Statement k) vs h = words-joined (words_of_kind levels (Kind.Statement k) vs) h

one_text : (n : ℕ) → n ≡ 1 → text_of (BoardLine.Version n) ≡ codes "board 1"
unfolding digits
one_text n e = ap (λ (m : ℕ). text_of (BoardLine.Version m)) e

head_line : (s : SoFar) (l : BoardLine) → FitsLine s.board.levels l → (eqb s.rank 0 && not (is_head l)) ≡ false → (eqb s.rank 0 && not (bytes_eq (text_of l) (codes "board 1"))) ≡ false
head_line s (BoardLine.Version n) f h = and_right _ _ (not_from_true _ ((bytes_eq-Decides (text_of (BoardLine.Version n)) (codes "board 1")).1 (one_text n (omega (arith, f.0)))))
head_line s _ f h = elim (and_cases (eqb s.rank 0) true h) [ inl other ↦ and_left _ _ other | inr is ↦ absurd cc ]

counted_again : (levels : ℕ) (k : Kind) (vs : FormValues levels k) → Fit (TailFits levels (form levels k).tail) (form levels k).fields vs → has_count (row k) (words_of_kind levels k vs) ≡ true
counted_again levels k vs h =
    let f = form levels k in
    let ws = words_of_kind levels k vs in
    let last = last_value (TailValue f.tail) f.fields vs in
    let long : 1 + length (row k).fields ≤ length ws = omega (arith, length_spelled (tail_words f.tail) f.fields vs, length-same levels k) in
    let behind : drop (1 + length (row k).fields) ws ≡ tail_words f.tail last = drop_next (length (row k).fields) f.word (spelled_all (tail_words f.tail) f.fields vs) ∙ ap (λ (n : ℕ). drop n (spelled_all (tail_words f.tail) f.fields vs)) (length-same levels k) ∙ drop_spelled (tail_words f.tail) f.fields vs in
    and_from _ _ (le-leb (1 + length (row k).fields) (length ws) long)
    (ap (λ (us : List (List ℕ)). is_counted (row k).tail us) behind ∙ ap (λ (t : Tail). is_counted t (tail_words f.tail last)) (sym (tail-same levels k)) ∙ tail-counted levels f.tail last (last_fits (TailFits levels f.tail) f.fields vs h))
  where
    drop_next : (n : ℕ) (w : List ℕ) (ws : List (List ℕ)) → drop (1 + n) (w ∷ ws) ≡ drop n ws
    drop_next n w ws = let e : 1 + n ≡ suc n = omega arith in ap (λ (m : ℕ). drop m (w ∷ ws)) e

of-kind-again : (s : SoFar) (k : Kind) (vs : FormValues s.board.levels k) → Fit (TailFits s.board.levels (form s.board.levels k).tail) (form s.board.levels k).fields vs → is_out_of_order s (row k) ≡ false → is_passed_limit s.limited (made s.board.levels k vs) ≡ false → IsPlaced s.board (made s.board.levels k vs) → of_kind s (words_of_kind s.board.levels k vs) k ≡ Ok (made s.board.levels k vs)
of-kind-again s k vs h order limit p =
    let L = s.board.levels in
    let f = form L k in
    let ws = words_of_kind L k vs in
    let passed : is_limit_passed s.limited (row k).tail (word_at ws 1) ≡ false = ap (λ (t : Tail). is_limit_passed s.limited t (word_at ws 1)) (sym (tail-same L k)) ∙ limit-made s.limited L k vs ∙ limit in
    let read : said_in L ws k ≡ Ok (made L k vs) = said-in L ws k ∙ ap (result_map (made L k)) (values-again (tail_words f.tail) (TailFits L f.tail) (tail_in L f.tail) (tail-again L f.tail) f.fields (f.word ∷ []) 1 vs refl h) in
    let_pass _ _ _ (either_not (is_out_of_order s (row k)) (is_limit_passed s.limited (row k).tail (word_at ws 1)) order passed)
    ∙ let_pass _ _ _ (not_from_true _ (counted_again L k vs h))
    ∙ ap (λ (r : Result BoardLine Why). r >>= placed s.board) read ∙ placed-again s.board (made L k vs) p

pub line-again : (s : SoFar) (bytes : List ℕ) (l : BoardLine) → IsLine s bytes l → judged s bytes ≡ Ok l
unfolding judged of_words
line-again s bytes l h =
    let L = s.board.levels in
    let k = (parts L l).kind in
    let vs = (parts L l).values in
    let f = form L k in
    let text : bytes ≡ spelling L k vs = h.spelled ∙ text-parts L l in
    let ind : is_indented bytes ≡ (row k).indented = ap is_indented text ∙ spelling-indented L k vs ∙ indented-same L k in
    let are : AreWords (words_of_kind L k vs) = kind_words L k vs (token_plain f.word (row-token L k)) h.stands.fits in
    let words : words_behind bytes ≡ words_of_kind L k vs = ap words_behind text ∙ spelling_words L k vs are in
    let full : list_any is_empty (words_behind bytes) ≡ false = ap (list_any is_empty) words ∙ words_full (words_of_kind L k vs) are in
    let printable : not (list_all is_printable bytes) ≡ false = not_from_true _ (ap (list_all is_printable) text ∙ spelling_printable L k vs h.stands.fits) in
    let head = ap (λ (t : List ℕ). eqb s.rank 0 && not (bytes_eq t (codes "board 1"))) h.spelled ∙ head_line s l h.stands.fits h.stands.head in
    let found_k : found (kind_named (is_indented bytes) (first_of (words_behind bytes))) ≡ Ok k = ap (λ (n : Bool). found (kind_named n (first_of (words_behind bytes)))) ind ∙ ap (λ (w : List ℕ). found (kind_named (row k).indented w)) (ap first_of words ∙ word-same L k) ∙ ap found (named-kind k) in
    let order : is_out_of_order s (row k) ≡ false = subst (λ (j : Kind). is_out_of_order s (row j) ≡ false) (sym (kind-parts L l)) h.stands.order in
    let limit : is_passed_limit s.limited (made L k vs) ≡ false = ap (is_passed_limit s.limited) (made-parts L l) ∙ h.stands.limit in
    let place : IsPlaced s.board (made L k vs) = subst (IsPlaced s.board) (sym (made-parts L l)) (record { once = h.stands.once; room = h.stands.room; known = h.stands.known }) in
    let_pass _ _ _ head ∙ let_pass _ _ _ printable ∙ let_pass _ _ _ full
    ∙ ap (λ (r : Result Kind Why). r >>= of_kind s (words_behind bytes)) found_k
    ∙ ap (λ (us : List (List ℕ)). of_kind s us k) words
    ∙ of-kind-again s k vs h.stands.fits order limit place
    ∙ ap (λ (j : BoardLine). Ok j) (made-parts L l)
