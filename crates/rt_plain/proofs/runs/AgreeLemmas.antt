-- One pass over the lines of a text finds the greatest number of lines that begin the text of a run.
use Rattle.std.proofs.Common.{◌≡◌, ℕ, zero, suc, ◌+◌, ◌/◌, ◌%◌, ◌<◌, ◌≤◌, Bool, true, false, not, ◌&&◌, eqb, leb, cond, List, [], ◌∷◌, ◌++◌, length, map, take, drop, get_or, Option, Some, None, is_some, refl, sym, ap, ◌∙◌, subst, arith, decimal, codes, append_assoc, length-append, add-zero}
use Rattle.std.specs.Prelude.{bytes_eq, IsTrue}
use Rattle.std.specs.List.{list_all, flat_map}
use Rattle.std.specs.Fmt.{digits, digits_onto, digit_glyph}
use Rattle.std.proofs.lemmas.List.{append-nil}
use Rattle.std.proofs.lemmas.List.Concat.{flat_map-cons}
use Rattle.std.proofs.lemmas.List.Sums.{sum_by-cons}
use Rattle.std.proofs.lemmas.Bool.{and_from, and_parts, not_from_false, leb-true, le-leb, ltb-true, lt-ltb, ne_eqb, eq-eqb, eqb-true, eqb-false, false_from_ne_true, both_ways}
use Rattle.std.proofs.lemmas.Slice.Eq.{bytes_eq-Decides}
use Rattle.rt_base.specs.declared.codes.Event.{Event}
use Rattle.rt_base.specs.declared.codes.Halt.{Halt}
use Rattle.rt_plain.specs.declared.entry.Entry.{Entry}
use Rattle.rt_plain.specs.declared.entry.Cut.{Cut}
use Rattle.rt_plain.specs.declared.line.Line.{Line}
use Rattle.rt_plain.specs.PlainBoard.{PlainBoard}
use Rattle.rt_plain.specs.kernel.State.{State}
use Rattle.rt_plain.specs.kernel.Sleeps.{Did, Made, Same, Halted}
use Rattle.rt_plain.specs.kernel.Steps.{happens}
use Rattle.rt_plain.specs.kernel.Opening.{open_state}
use Rattle.rt_plain.specs.kernel.Shown.{shown}
use Rattle.rt_plain.specs.runs.Runs.{IsMade, IsRunIn, IsRunWithin, entry_tick, is_event_of, is_over, halt_of, events_of}
use Rattle.rt_plain.specs.runs.Live.{owner_counts}
use Rattle.rt_plain.specs.text.Words.{words, halt_text}
use Rattle.rt_plain.specs.text.Fields.{is_digit}
use Rattle.rt_plain.specs.text.Splits.{words_of, word_at}
use Rattle.rt_plain.specs.text.Texts.{End, with_newline, indented_line, line_text, at_tick, header, entry_text, entries_text, end_text, trace_text}
use Rattle.rt_plain.specs.text.TraceRows.{Counted, Ended, row_text, lengthen, whole_lines_of, CanHappen}
use Rattle.rt_plain.specs.runs.Replays.{IsCutOf, IsEndOf, whole_lines, first_lines, IsAgreement}
use Rattle.rt_plain.specs.runs.Agreement.{Reader, Read, Stop, On, behind_front, cut_now, is_end_of, step_of, event_named, is_late, may_follow, on_entry, read_entry, read_made, read_event, read_cut, read_outer, read_due, read_line, counted_on, pass, reader, lines_agreeing}
use Rattle.rt_plain.specs.runs.Agreement.{End as Ends}
use Rattle.rt_plain.proofs.text.FieldLemmas.{number-again, when, unless, is_word}
use Rattle.rt_plain.proofs.text.FieldListLemmas.{is_token, is_word_byte, digit_bytes}
use Rattle.rt_plain.proofs.text.SplitLemmas.{words-joined_words, words-joined, IsUnbroken}
use Rattle.rt_plain.proofs.runs.WithinLemmas.{IsRunIn-snoc}
use Rattle.rt_plain.proofs.runs.SameLemmas.{run-same, IsRunIn-run}
use Rattle.rt_plain.proofs.text.TraceLemmas.{AreTokens, tokens_words, event_words, header-words}

-- ---- digits, of any number

digit_is : (d : ℕ) → d < 10 → is_digit (digit_glyph false d) ≡ true
digit_is d lt = rw (lt-ltb d 10 lt) (and_from _ _ (le-leb 48 (48 + d) (omega arith)) (le-leb (48 + d) 57 (omega arith)))

-- a digit and more of them
abbrev AreDigits : List ℕ → Type 0
AreDigits [] = ⊥
AreDigits (b ∷ bs) = list_all is_digit (b ∷ bs) ≡ true

by_either : (t : Bool) (x y : List ℕ) → AreDigits x → AreDigits y → AreDigits (cond t x y)
by_either true x y h g = h
by_either false x y h g = g

onto-digits : (k n : ℕ) (d : ℕ) (acc : List ℕ) → is_digit d ≡ true → list_all is_digit acc ≡ true → AreDigits (digits_onto k 10 false n (d ∷ acc))
onto-digits zero n d acc h g = and_from _ _ h g
onto-digits (suc k) n d acc h g =
    by_either (eqb (n / 10) 0) _ _ (and_from _ _ (digit_is (n % 10) (omega arith)) (and_from _ _ h g))
    (onto-digits k (n / 10) (digit_glyph false (n % 10)) (d ∷ acc) (digit_is (n % 10) (omega arith)) (and_from _ _ h g))

decimal-digits : (n : ℕ) → AreDigits (decimal n)
unfolding digits
decimal-digits n =
    by_either (eqb (n / 10) 0) _ _ (and_from _ _ (digit_is (n % 10) (omega arith)) refl)
    (onto-digits 63 (n / 10) (digit_glyph false (n % 10)) [] (digit_is (n % 10) (omega arith)) refl)

-- ---- lines without a newline

unbroken-append : (xs ys : List ℕ) → IsUnbroken xs → IsUnbroken ys → IsUnbroken (xs ++ ys)
unbroken-append [] ys h g = g
unbroken-append (x ∷ xs) ys h g = (h.0, unbroken-append xs ys h.1 g)

digits-unbroken : (ds : List ℕ) → list_all is_digit ds ≡ true → IsUnbroken ds
digits-unbroken [] h = tt
digits-unbroken (d ∷ ds) h =
    let p = and_parts (is_digit d) (list_all is_digit ds) h in
    let q = and_parts (leb 48 d) (leb d 57) p.0 in
    let low : 48 ≤ d = leb-true 48 d q.0 in
    (ne_eqb d 10 (λ e. absurd (omega arith)), digits-unbroken ds p.1)

all_digits : (ds : List ℕ) → AreDigits ds → list_all is_digit ds ≡ true
all_digits [] h = absurd h
all_digits (d ∷ ds) h = h

decimal-unbroken : (n : ℕ) → IsUnbroken (decimal n)
decimal-unbroken n = digits-unbroken (decimal n) (all_digits (decimal n) (decimal-digits n))

abbrev pub AreUnbroken : List (List ℕ) → Type 0
AreUnbroken [] = Unit {0}
AreUnbroken (l ∷ ls) = IsUnbroken l × AreUnbroken ls

spaced-unbroken : (ws : List (List ℕ)) → AreUnbroken ws → IsUnbroken (flat_map (λ (v : List ℕ). 32 ∷ v) ws)
spaced-unbroken [] h = tt
spaced-unbroken (w ∷ ws) h = subst IsUnbroken (sym (flat_map-cons (λ (v : List ℕ). 32 ∷ v) w ws)) (refl, unbroken-append w (flat_map (λ (v : List ℕ). 32 ∷ v) ws) h.0 (spaced-unbroken ws h.1))

words-unbroken : (w : List ℕ) (ws : List (List ℕ)) → IsUnbroken w → AreUnbroken ws → IsUnbroken (words (w ∷ ws))
words-unbroken w ws h g = subst IsUnbroken (sym (words-joined_words (w ∷ ws))) (unbroken-append w (flat_map (λ (v : List ℕ). 32 ∷ v) ws) h (spaced-unbroken ws g))

header-unbroken : (n : ℕ) (e : Event) (tick : ℕ) → IsUnbroken (header n e tick)
header-unbroken n (Event.Step core) tick = words-unbroken (decimal n) ((99 ∷ decimal core) ∷ (64 ∷ decimal tick) ∷ []) (decimal-unbroken n) ((refl, decimal-unbroken core), ((refl, decimal-unbroken tick), tt))
header-unbroken n Event.Tick tick = words-unbroken (decimal n) (codes "tick" ∷ decimal tick ∷ []) (decimal-unbroken n) ((refl, (refl, (refl, (refl, tt)))), (decimal-unbroken tick, tt))

halt-unbroken : (halt : Halt) → IsUnbroken (halt_text halt)
halt-unbroken Halt.Quiet = (refl, (refl, (refl, (refl, (refl, tt)))))
halt-unbroken Halt.Until = (refl, (refl, (refl, (refl, (refl, tt)))))
halt-unbroken Halt.Standby = (refl, (refl, (refl, (refl, (refl, (refl, (refl, tt)))))))
halt-unbroken Halt.Shutdown = (refl, (refl, (refl, (refl, (refl, (refl, (refl, (refl, tt))))))))

end-unbroken : (halt : Halt) (tick : ℕ) → IsUnbroken (row_text (Ended halt tick))
end-unbroken halt tick = words-unbroken (codes "end") (halt_text halt ∷ at_tick tick ∷ []) (refl, (refl, (refl, tt))) (halt-unbroken halt, ((refl, decimal-unbroken tick), tt))

counts-unbroken : (counts : List ℕ) → AreUnbroken (map decimal counts)
counts-unbroken [] = tt
counts-unbroken (n ∷ ns) = (decimal-unbroken n, counts-unbroken ns)

cut-unbroken : (counts : List ℕ) → IsUnbroken (row_text (Counted counts))
cut-unbroken counts = words-unbroken (codes "cut") (map decimal counts) (refl, (refl, (refl, tt))) (counts-unbroken counts)

-- ---- the first lines of a text

-- the text of lines
abbrev pub all_lines : List (List ℕ) → List ℕ
all_lines [] = []
all_lines (l ∷ ls) = l ++ 10 ∷ all_lines ls

length-lengthen : (b : ℕ) (ls : List (List ℕ)) → length (lengthen b ls) ≡ length ls
length-lengthen b [] = refl
length-lengthen b (l ∷ ls) = refl

count_step : (b : ℕ) (bs : List ℕ) (t : Bool) → length (whole_lines_of bs) ≡ whole_lines bs → length (cond t ([] ∷ whole_lines_of bs) (lengthen b (whole_lines_of bs))) ≡ cond t 1 0 + whole_lines bs
count_step b bs true h = omega (arith, h)
count_step b bs false h = omega (arith, h, length-lengthen b (whole_lines_of bs))

whole-cons : (b : ℕ) (bs : List ℕ) → whole_lines (b ∷ bs) ≡ cond (eqb b 10) 1 0 + whole_lines bs
whole-cons b bs = sum_by-cons (λ (byte : ℕ). cond (eqb byte 10) 1 0) b bs

pub lines-count : (text : List ℕ) → length (whole_lines_of text) ≡ whole_lines text
lines-count [] = refl
lines-count (b ∷ bs) = count_step b bs (eqb b 10) (lines-count bs) ∙ sym (whole-cons b bs)

grow_front : (b n : ℕ) (ls : List (List ℕ)) → suc n ≤ length ls → b ∷ all_lines (take (suc n) ls) ≡ all_lines (take (suc n) (lengthen b ls))
grow_front b n [] le = absurd (omega arith)
grow_front b n (l ∷ ls) le = refl

first_step : (b n : ℕ) (bs : List ℕ) (t : Bool) → (t ≡ true → b ≡ 10) → suc n ≤ cond t 1 0 + whole_lines bs → ((m : ℕ) → m ≤ whole_lines bs → first_lines m bs ≡ all_lines (take m (whole_lines_of bs))) → b ∷ first_lines (cond t n (suc n)) bs ≡ all_lines (take (suc n) (cond t ([] ∷ whole_lines_of bs) (lengthen b (whole_lines_of bs))))
first_step b n bs true is le ih = ap (λ (c : ℕ). c ∷ first_lines n bs) (is refl) ∙ ap (λ (x : List ℕ). 10 ∷ x) (ih n (omega arith))
first_step b n bs false is le ih = ap (λ (x : List ℕ). b ∷ x) (ih (suc n) (omega arith)) ∙ grow_front b n (whole_lines_of bs) (omega (arith, lines-count bs))

first-are : (n : ℕ) (text : List ℕ) → n ≤ whole_lines text → first_lines n text ≡ all_lines (take n (whole_lines_of text))
first-are zero text le = refl
first-are (suc n) [] le = absurd (omega arith)
first-are (suc n) (b ∷ bs) le = first_step b n bs (eqb b 10) (λ e. eqb-true b 10 e) (omega (arith, whole-cons b bs)) (λ m less. first-are m bs less)

lengthen-unbroken : (b : ℕ) (ls : List (List ℕ)) → eqb b 10 ≡ false → AreUnbroken ls → AreUnbroken (lengthen b ls)
lengthen-unbroken b [] e h = tt
lengthen-unbroken b (l ∷ ls) e h = ((e, h.0), h.1)

unbroken_step : (b : ℕ) (ls : List (List ℕ)) (t : Bool) → eqb b 10 ≡ t → AreUnbroken ls → AreUnbroken (cond t ([] ∷ ls) (lengthen b ls))
unbroken_step b ls true e h = (tt, h)
unbroken_step b ls false e h = lengthen-unbroken b ls e h

pub lines-unbroken : (text : List ℕ) → AreUnbroken (whole_lines_of text)
lines-unbroken [] = tt
lines-unbroken (b ∷ bs) = unbroken_step b (whole_lines_of bs) (eqb b 10) refl (lines-unbroken bs)

-- ---- bytes in front of others

-- nothing, or what ends with a newline
abbrev pub IsEnded : List ℕ → Type 0
IsEnded [] = Unit {0}
IsEnded (b ∷ []) = b ≡ 10
IsEnded (b ∷ c ∷ bs) = IsEnded (c ∷ bs)

ended-rest : (b : ℕ) (bs : List ℕ) → IsEnded (b ∷ bs) → IsEnded bs
ended-rest b [] h = tt
ended-rest b (c ∷ bs) h = h

ended-append : (xs ys : List ℕ) → IsEnded xs → IsEnded ys → IsEnded (xs ++ ys)
ended-append [] ys h g = g
ended-append (x ∷ []) [] h g = h
ended-append (x ∷ []) (y ∷ ys) h g = g
ended-append (x ∷ z ∷ xs) ys h g = ended-append (z ∷ xs) ys h g

ended-line : (xs : List ℕ) → IsEnded (xs ++ 10 ∷ [])
ended-line [] = refl
ended-line (x ∷ []) = refl
ended-line (x ∷ y ∷ xs) = ended-line (y ∷ xs)

-- the lines of an entry
abbrev lines_text : List Line → List ℕ
lines_text ls = flat_map (λ (l : Line). indented_line (line_text l)) ls

ended-lines : (ls : List Line) → IsEnded (lines_text ls)
ended-lines [] = tt
ended-lines (l ∷ ls) = subst IsEnded (sym (flat_map-cons (λ (m : Line). indented_line (line_text m)) l ls)) (ended-append (indented_line (line_text l)) (lines_text ls) (ended-line (32 ∷ 32 ∷ line_text l)) (ended-lines ls))

head-is : (x y : ℕ) (xs ys : List ℕ) → x ∷ xs ≡ y ∷ ys → x ≡ y
head-is x y xs ys e = cc

tail-is : (x y : ℕ) (xs ys : List ℕ) → x ∷ xs ≡ y ∷ ys → xs ≡ ys
tail-is x y xs ys e = cc

-- a line of bytes that go on is one of those that end with a newline
strip : (l x : List ℕ) (d : ℕ) (due tail : List ℕ) → IsUnbroken l → IsEnded (d ∷ due) → l ++ 10 ∷ x ≡ (d ∷ due) ++ tail → (rest : List ℕ) × (behind_front (with_newline l) (d ∷ due) ≡ Some rest) × IsEnded rest × (x ≡ rest ++ tail)
strip [] x d due tail u e is = (due, when (eqb 10 d) (Some due) None (eq-eqb 10 d (head-is 10 d x (due ++ tail) is)), ended-rest d due e, tail-is 10 d x (due ++ tail) is)
strip (b ∷ l) x d [] tail u e is = absurd (eqb-false b 10 u.0 (head-is b d (l ++ 10 ∷ x) tail is ∙ e))
strip (b ∷ l) x d (c ∷ due) tail u e is =
    let r = strip l x c due tail u.1 e (tail-is b d (l ++ 10 ∷ x) (c ∷ due ++ tail) is) in
    (r.0, when (eqb b d) (behind_front (with_newline l) (c ∷ due)) None (eq-eqb b d (head-is b d (l ++ 10 ∷ x) (c ∷ due ++ tail) is)) ∙ r.1, r.2, r.3)

own-front : (w rest : List ℕ) → behind_front w (w ++ rest) ≡ Some rest
own-front [] rest = refl
own-front (b ∷ w) rest = when (eqb b b) (behind_front w (w ++ rest)) None (eq-eqb b b refl) ∙ own-front w rest

same-rest : (x y : List ℕ) → Some x ≡ Some y → x ≡ y
same-rest x y e = cc

front_step : (b c : ℕ) (w cs rest : List ℕ) (t : Bool) → eqb b c ≡ t → (behind_front w cs ≡ Some rest → cs ≡ w ++ rest) → cond t (behind_front w cs) None ≡ Some rest → c ∷ cs ≡ b ∷ w ++ rest
front_step b c w cs rest true e ih is = ap (λ (x : ℕ). x ∷ cs) (sym (eqb-true b c e)) ∙ ap (λ (x : List ℕ). b ∷ x) (ih is)
front_step b c w cs rest false e ih is = absurd cc

front-is : (w bytes rest : List ℕ) → behind_front w bytes ≡ Some rest → bytes ≡ w ++ rest
front-is [] bytes rest e = same-rest bytes rest e
front-is (b ∷ w) [] rest e = absurd cc
front-is (b ∷ w) (c ∷ cs) rest e = front_step b c w cs rest (eqb b c) refl (front-is w cs rest) e

-- two lines in front of two texts
line-same : (l m x y : List ℕ) → IsUnbroken l → IsUnbroken m → l ++ 10 ∷ x ≡ m ++ 10 ∷ y → (l ≡ m) × (x ≡ y)
line-same [] [] x y h g e = (refl, tail-is 10 10 x y e)
line-same [] (c ∷ m) x y h g e = absurd (eqb-false c 10 g.0 (sym (head-is 10 c x (m ++ 10 ∷ y) e)))
line-same (b ∷ l) [] x y h g e = absurd (eqb-false b 10 h.0 (head-is b 10 (l ++ 10 ∷ x) y e))
line-same (b ∷ l) (c ∷ m) x y h g e =
    let r = line-same l m x y h.1 g.1 (tail-is b c (l ++ 10 ∷ x) (m ++ 10 ∷ y) e) in
    (ap (λ (z : ℕ). z ∷ l) (head-is b c (l ++ 10 ∷ x) (m ++ 10 ∷ y) e) ∙ ap (λ (z : List ℕ). c ∷ z) r.0, r.1)

-- ---- headers, cut lines and end lines are told apart

differ : (x y : List ℕ) → (get_or x 0 0 ≡ get_or y 0 0 → ⊥) → bytes_eq x y ≡ false
differ x y h = false_from_ne_true _ (λ e. h (ap (λ (l : List ℕ). get_or l 0 0) (is_word x y e)))

front_digit : (ds rest : List ℕ) → AreDigits ds → is_digit (get_or (ds ++ rest) 0 0) ≡ true
front_digit [] rest h = absurd h
front_digit (d ∷ ds) rest h = (and_parts (is_digit d) (list_all is_digit ds) h).0

header-digit : (n : ℕ) (e : Event) (tick : ℕ) → is_digit (get_or (header n e tick) 0 0) ≡ true
header-digit n e tick =
    ap (λ (l : List ℕ). is_digit (get_or l 0 0)) (header-words n e tick ∙ words-joined_words (decimal n ∷ event_words e tick))
    ∙ front_digit (decimal n) (flat_map (λ (v : List ℕ). 32 ∷ v) (event_words e tick)) (decimal-digits n)

cut-front : (counts : List ℕ) → get_or (row_text (Counted counts)) 0 0 ≡ 99
cut-front counts = ap (λ (l : List ℕ). get_or l 0 0) (words-joined_words (codes "cut" ∷ map decimal counts))

no_digit : (x y : List ℕ) → is_digit (get_or x 0 0) ≡ true → is_digit (get_or y 0 0) ≡ false → bytes_eq x y ≡ false
no_digit x y h g = differ x y (λ e. both_ways (is_digit (get_or y 0 0)) g (ap is_digit (sym e) ∙ h))

header-no_cut : (n : ℕ) (e : Event) (tick : ℕ) (counts : List ℕ) → bytes_eq (header n e tick) (row_text (Counted counts)) ≡ false
header-no_cut n e tick counts = no_digit (header n e tick) (row_text (Counted counts)) (header-digit n e tick) (ap is_digit (cut-front counts))

header-no_end : (n : ℕ) (e : Event) (tick now : ℕ) (o : Option Halt) → is_end_of (header n e tick) now o ≡ false
header-no_end n e tick now None = refl
header-no_end n e tick now (Some halt) = no_digit (header n e tick) (row_text (Ended halt now)) (header-digit n e tick) refl

end-no_cut : (halt : Halt) (tick : ℕ) (counts : List ℕ) → bytes_eq (row_text (Ended halt tick)) (row_text (Counted counts)) ≡ false
end-no_cut halt tick counts = differ (row_text (Ended halt tick)) (row_text (Counted counts)) (λ e. let f : 101 ≡ 99 = e ∙ cut-front counts in absurd (omega arith))

-- a header names its event
digits_plain : (ds : List ℕ) → AreDigits ds → is_token ds ≡ true
digits_plain [] h = absurd h
digits_plain (d ∷ ds) h = digit_bytes (d ∷ ds) h

behind_plain : (b : ℕ) (ds : List ℕ) → is_word_byte b ≡ true → AreDigits ds → is_token (b ∷ ds) ≡ true
behind_plain b [] e h = absurd h
behind_plain b (d ∷ ds) e h = and_from _ _ e (digit_bytes (d ∷ ds) h)

event-tokens : (e : Event) (tick : ℕ) → AreTokens (event_words e tick)
event-tokens (Event.Step core) tick = (behind_plain 99 (decimal core) refl (decimal-digits core), (behind_plain 64 (decimal tick) refl (decimal-digits tick), tt))
event-tokens Event.Tick tick = (refl, (digits_plain (decimal tick) (decimal-digits tick), tt))

header-split : (n : ℕ) (e : Event) (tick : ℕ) → words_of (header n e tick) ≡ decimal n ∷ event_words e tick
header-split n e tick =
    ap words_of (header-words n e tick ∙ words-joined_words (decimal n ∷ event_words e tick))
    ∙ words-joined (decimal n ∷ event_words e tick) (tokens_words (decimal n) (event_words e tick) (digits_plain (decimal n) (decimal-digits n)) (event-tokens e tick))

named-event : (n : ℕ) (e : Event) (tick : ℕ) → CanHappen e → event_named (word_at (decimal n ∷ event_words e tick) 1) ≡ Some e
named-event n (Event.Step core) tick h = ap step_of (number-again 0 255 core (omega arith) (omega arith) (omega arith))
named-event n Event.Tick tick h = refl

header-event : (n : ℕ) (e : Event) (tick : ℕ) → CanHappen e → event_named (word_at (words_of (header n e tick)) 1) ≡ Some e
header-event n e tick h = ap (λ (ws : List (List ℕ)). event_named (word_at ws 1)) (header-split n e tick) ∙ named-event n e tick h

-- ---- what stands behind a place of a trace

-- the `cut` line of the entries so far, with its newline
abbrev pub cut_line : PlainBoard → List Entry → List ℕ
cut_line b done = with_newline (cut_now b done)

-- the text of further entries, of a cut behind so many of them, and of an end
abbrev pub rest_text : PlainBoard → List Entry → List Entry → Option ℕ → Option End → List ℕ
rest_text b done es None end = entries_text (length done + 1) es ++ end_text end
rest_text b done es (Some zero) end = cut_line b done ++ (entries_text (length done + 1) es ++ end_text end)
rest_text b done [] (Some (suc at)) end = end_text end
rest_text b done (e ∷ es) (Some (suc at)) end = entry_text (length done + 1) e ++ rest_text b (done ++ e ∷ []) es (Some at) end

-- the cut behind one entry more
abbrev later : Option ℕ → Option ℕ
later None = None
later (Some at) = Some (suc at)

length-snoc : (done : List Entry) (e : Entry) → length (done ++ e ∷ []) ≡ length done + 1
length-snoc done e = length-append done (e ∷ [])

rest-entry : (b : PlainBoard) (done : List Entry) (e : Entry) (es : List Entry) (cut : Option ℕ) (end : Option End) → rest_text b done (e ∷ es) (later cut) end ≡ entry_text (length done + 1) e ++ rest_text b (done ++ e ∷ []) es cut end
rest-entry b done e es None end =
    append_assoc (entry_text (length done + 1) e) (entries_text (length done + 1 + 1) es) (end_text end)
    ∙ ap (λ (n : ℕ). entry_text (length done + 1) e ++ (entries_text (n + 1) es ++ end_text end)) (sym (length-snoc done e))
rest-entry b done e es (Some at) end = refl

-- the end of a run that stands at this state
abbrev EndsAt : PlainBoard → State → Option End → Type 0
EndsAt b s None = Unit {0}
EndsAt b s (Some e) = (halt_of b s ≡ Some e.halt) × (shown b s.moment ≡ e.tick)

-- the cut stands among further entries, where none stood before
abbrev CutsAt : Bool → List Entry → Option ℕ → Type 0
CutsAt counted es None = Unit {0}
CutsAt counted es (Some at) = (counted ≡ false) × (at ≤ length es)

-- the run is within its limits also where it halts
abbrev IsInTime : PlainBoard → List Entry → State → Type 0
IsInTime b journal s = (halt : Halt) → s.halt ≡ None → halt_of b s ≡ Some halt → is_over b journal ≡ false

-- the first k of the lines go on as the text of a run does, with this end line and these bytes behind them
pub record GoesOn (b : PlainBoard) (r : Reader) (k : ℕ) (ls : List (List ℕ)) (end : Option End) (rest : List ℕ) : Type 0 where
  pub journal : List Entry
  pub state : State
  pub run : IsRunIn (is_over b) b r.done r.state journal state
  pub in_time : IsInTime b (r.done ++ journal) state
  pub cut : Option ℕ
  pub cuts : CutsAt r.counted journal cut
  pub ends : EndsAt b state end
  pub begins : all_lines (take k ls) ++ rest ≡ r.due ++ rest_text b r.done journal cut end

-- ---- no run has more of the lines than the pass counts

-- what is read of a line, where the line and k of those behind it go on as the text of a run does
abbrev pub Reads : PlainBoard → ℕ → List (List ℕ) → Option End → List ℕ → Read → Type 0
Reads b k ls end rest Stop = ⊥
Reads b k ls end rest Ends = k ≡ 0
Reads b k ls end rest (On next) = IsEnded next.due × GoesOn b next k ls end rest

-- the line and what stands behind it
behind-line : (l : List ℕ) (k : ℕ) (ls : List (List ℕ)) (rest tail : List ℕ) → all_lines (take (suc k) (l ∷ ls)) ++ rest ≡ tail → l ++ 10 ∷ (all_lines (take k ls) ++ rest) ≡ tail
behind-line l k ls rest tail e = sym (append_assoc l (10 ∷ all_lines (take k ls)) rest) ∙ e

reads-due : (b : PlainBoard) (r : Reader) (d : ℕ) (due : List ℕ) (l : List ℕ) (ls : List (List ℕ)) (k : ℕ) (end : Option End) (rest : List ℕ) → r.due ≡ d ∷ due → IsUnbroken l → IsEnded (d ∷ due) → GoesOn b r (suc k) (l ∷ ls) end rest → Reads b k ls end rest (read_line b r l (d ∷ due))
reads-due b r d due l ls k end rest is u e g =
    let whole : l ++ 10 ∷ (all_lines (take k ls) ++ rest) ≡ (d ∷ due) ++ rest_text b r.done g.journal g.cut end = behind-line l k ls rest _ g.begins ∙ ap (λ (x : List ℕ). x ++ rest_text b r.done g.journal g.cut end) is in
    let s = strip l (all_lines (take k ls) ++ rest) d due (rest_text b r.done g.journal g.cut end) u e whole in
    subst (Reads b k ls end rest) (sym (ap (read_due r) s.1)) (s.2, record { journal = g.journal; state = g.state; run = g.run; in_time = g.in_time; cut = g.cut; cuts = g.cuts; ends = g.ends; begins = s.3 })

reads-cut : (b : PlainBoard) (r : Reader) (l : List ℕ) (ls : List (List ℕ)) (k : ℕ) (journal : List Entry) (state : State) (end : Option End) (rest : List ℕ) → IsUnbroken l → r.counted ≡ false → IsRunIn (is_over b) b r.done r.state journal state → IsInTime b (r.done ++ journal) state → EndsAt b state end →
    l ++ 10 ∷ (all_lines (take k ls) ++ rest) ≡ cut_line b r.done ++ (entries_text (length r.done + 1) journal ++ end_text end) → Reads b k ls end rest (read_outer b r l)
reads-cut b r l ls k journal state end rest u uncounted run time ends is =
    let counts = owner_counts b.cores (events_of r.done) in
    let same = line-same l (cut_now b r.done) (all_lines (take k ls) ++ rest) (entries_text (length r.done + 1) journal ++ end_text end) u (cut-unbroken counts) (is ∙ append_assoc (cut_now b r.done) (10 ∷ []) (entries_text (length r.done + 1) journal ++ end_text end)) in
    let next : Reader = record { state = r.state; done = r.done; counted = true; due = [] } in
    let read : read_outer b r l ≡ On next = when (bytes_eq l (cut_now b r.done)) (read_cut r) _ ((bytes_eq-Decides l (cut_now b r.done)).1 same.0) ∙ unless r.counted Stop (On next) uncounted in
    subst (Reads b k ls end rest) (sym read) (tt, record { journal = journal; state = state; run = run; in_time = time; cut = None; cuts = tt; ends = ends; begins = same.1 })

no_lines : (k : ℕ) (ls : List (List ℕ)) (rest : List ℕ) → k ≤ length ls → all_lines (take k ls) ++ rest ≡ [] → k ≡ 0
no_lines zero ls rest le e = refl
no_lines (suc k) [] rest le e = absurd (omega arith)
no_lines (suc k) ([] ∷ ls) rest le e = absurd cc
no_lines (suc k) ((c ∷ l) ∷ ls) rest le e = absurd cc

reads-end : (b : PlainBoard) (r : Reader) (l : List ℕ) (ls : List (List ℕ)) (k : ℕ) (e : End) (rest : List ℕ) → k ≤ length ls → IsUnbroken l → EndsAt b r.state (Some e) → l ++ 10 ∷ (all_lines (take k ls) ++ rest) ≡ end_text (Some e) → Reads b k ls (Some e) rest (read_outer b r l)
reads-end b r l ls k e rest le u ends is =
    let row = row_text (Ended e.halt e.tick) in
    let same = line-same l row (all_lines (take k ls) ++ rest) [] u (end-unbroken e.halt e.tick) is in
    let no_cut : bytes_eq l (cut_now b r.done) ≡ false = ap (λ (x : List ℕ). bytes_eq x (cut_now b r.done)) same.0 ∙ end-no_cut e.halt e.tick (owner_counts b.cores (events_of r.done)) in
    let here : is_end_of l (shown b r.state.moment) (halt_of b r.state) ≡ true =
    ap (is_end_of l (shown b r.state.moment)) ends.0 ∙ ap (λ (t : ℕ). bytes_eq l (row_text (Ended e.halt t))) ends.1 ∙ (bytes_eq-Decides l row).1 same.0 in
    let read : read_outer b r l ≡ Ends = unless (bytes_eq l (cut_now b r.done)) (read_cut r) _ no_cut ∙ when (is_end_of l (shown b r.state.moment) (halt_of b r.state)) Ends _ here in
    subst (Reads b k ls (Some e) rest) (sym read) (no_lines k ls rest le same.1)

-- the entry is what its event made
made-entry : (b : PlainBoard) (s new : State) (e : Entry) → IsMade b s e new → record { event = e.event; tick = entry_tick b e.event s new; lines = e.lines } ≡ e
made-entry b s new e made = ap (λ (t : ℕ). record { event = e.event; tick = t; lines = e.lines }) (sym made.2)

-- what goes on wasn't over
in-time-first : (b : PlainBoard) (done : List Entry) (mid new : State) (es : List Entry) → IsRunIn (is_over b) b done mid es new → IsInTime b (done ++ es) new → IsInTime b done mid
in-time-first b done mid new [] run time = λ halt live halts. subst (λ (j : List Entry). is_over b j ≡ false) (append-nil done) (time halt (ap (λ (s : State). s.halt) run ∙ live) (ap (halt_of b) run ∙ halts))
in-time-first b done mid new (e ∷ es) run time = λ halt live halts. run.1

no_halt : (o : Option Halt) → not (is_some o) ≡ true → o ≡ None
no_halt None e = refl
no_halt (Some h) e = absurd cc

some_halt : (o : Option Halt) → is_some o ≡ true → (h : Halt) × (o ≡ Some h)
some_halt None e = absurd cc
some_halt (Some h) e = (h, refl)

not_late : (b : PlainBoard) (journal : List Entry) (s : State) → IsInTime b journal s → is_late b journal s ≡ false
not_late b journal s time = false_from_ne_true _ (λ late.
    let p = and_parts (not (is_some s.halt) && is_some (halt_of b s)) (is_over b journal) late in
    let q = and_parts (not (is_some s.halt)) (is_some (halt_of b s)) p.0 in
    let h = some_halt (halt_of b s) q.1 in
    both_ways (is_over b journal) (time h.0 (no_halt s.halt q.0) h.1) p.1)

happens-core : (b : PlainBoard) (e : Event) → b.cores ≤ 256 → IsTrue (is_event_of b e) → CanHappen e
happens-core b (Event.Step core) le is = let lt = ltb-true core b.cores is in omega arith
happens-core b Event.Tick le is = tt

-- the text of an entry is its header, and its lines
entry-split : (n : ℕ) (e : Entry) (tail : List ℕ) → entry_text n e ++ tail ≡ header n e.event e.tick ++ 10 ∷ (lines_text e.lines ++ tail)
entry-split n e tail =
    append_assoc (with_newline (header n e.event e.tick)) (lines_text e.lines) tail
    ∙ append_assoc (header n e.event e.tick) (10 ∷ []) (lines_text e.lines ++ tail)

reads-entry : (b : PlainBoard) (r : Reader) (l : List ℕ) (ls : List (List ℕ)) (k : ℕ) (e : Entry) (es : List Entry) (state : State) (cut : Option ℕ) (end : Option End) (rest : List ℕ) → b.cores ≤ 256 → IsUnbroken l → (run : IsRunIn (is_over b) b r.done r.state (e ∷ es) state) → IsInTime b (r.done ++ e ∷ [] ++ es) state → CutsAt r.counted es cut → EndsAt b state end →
    l ++ 10 ∷ (all_lines (take k ls) ++ rest) ≡ entry_text (length r.done + 1) e ++ rest_text b (r.done ++ e ∷ []) es cut end → Reads b k ls end rest (read_outer b r l)
reads-entry b r l ls k e es state cut end rest few u run time cuts ends is =
    let n = length r.done + 1 in
    let mid = run.0 in
    let made : IsMade b r.state e mid = run.2 in
    let tail = rest_text b (r.done ++ e ∷ []) es cut end in
    let top = header n e.event e.tick in
    let same = line-same l top (all_lines (take k ls) ++ rest) (lines_text e.lines ++ tail) u (header-unbroken n e.event e.tick) (is ∙ entry-split n e tail) in
    let next : Reader = record { state = mid; done = r.done ++ e ∷ []; counted = r.counted; due = lines_text e.lines } in
    let no_cut : bytes_eq l (cut_now b r.done) ≡ false = ap (λ (x : List ℕ). bytes_eq x (cut_now b r.done)) same.0 ∙ header-no_cut n e.event e.tick (owner_counts b.cores (events_of r.done)) in
    let no_end : is_end_of l (shown b r.state.moment) (halt_of b r.state) ≡ false = ap (λ (x : List ℕ). is_end_of x (shown b r.state.moment) (halt_of b r.state)) same.0 ∙ header-no_end n e.event e.tick (shown b r.state.moment) (halt_of b r.state) in
    let event : event_named (word_at (words_of l) 1) ≡ Some e.event = ap (λ (x : List ℕ). event_named (word_at (words_of x) 1)) same.0 ∙ header-event n e.event e.tick (happens-core b e.event few made.0) in
    let follows : may_follow b r e mid ≡ true = and_from _ _ (and_from _ _ made.0 (not_from_false _ run.1)) (not_from_false _ (not_late b (r.done ++ e ∷ []) mid (in-time-first b (r.done ++ e ∷ []) mid state es run.3 time))) in
    let front : behind_front (with_newline l) (entry_text n e) ≡ Some (lines_text e.lines) = ap (λ (x : List ℕ). behind_front (with_newline x) (entry_text n e)) same.0 ∙ own-front (with_newline top) (lines_text e.lines) in
    let read : read_outer b r l ≡ On next =
    unless (bytes_eq l (cut_now b r.done)) (read_cut r) _ no_cut
    ∙ unless (is_end_of l (shown b r.state.moment) (halt_of b r.state)) Ends _ no_end
    ∙ ap (read_event b r l) event
    ∙ ap (read_made b r l e.event) made.1
    ∙ ap (λ (x : Entry). read_entry b r l x mid) (made-entry b r.state mid e made)
    ∙ when (may_follow b r e mid) (on_entry r e mid (behind_front (with_newline l) (entry_text n e))) Stop follows
    ∙ ap (on_entry r e mid) front in
    subst (Reads b k ls end rest) (sym read) (ended-lines e.lines, record { journal = es; state = state; run = run.3; in_time = time; cut = cut; cuts = cuts; ends = ends; begins = same.1 })

pub nothing : (l x : List ℕ) → l ++ 10 ∷ x ≡ [] → ⊥
nothing [] x e = absurd cc
nothing (b ∷ l) x e = absurd cc

-- where no entry has bytes left
reads-outer : (b : PlainBoard) (r : Reader) (l : List ℕ) (ls : List (List ℕ)) (k : ℕ) → b.cores ≤ 256 → k ≤ length ls → IsUnbroken l → (journal : List Entry) (state : State) (cut : Option ℕ) (end : Option End) (rest : List ℕ) → IsRunIn (is_over b) b r.done r.state journal state → IsInTime b (r.done ++ journal) state → CutsAt r.counted journal cut → EndsAt b state end →
    l ++ 10 ∷ (all_lines (take k ls) ++ rest) ≡ rest_text b r.done journal cut end → Reads b k ls end rest (read_outer b r l)
reads-outer b r l ls k few le u journal state (Some zero) end rest run time cuts ends is = reads-cut b r l ls k journal state end rest u cuts.0 run time ends is
reads-outer b r l ls k few le u [] state (Some (suc at)) end rest run time cuts ends is = absurd (let far = cuts.1 in omega arith)
reads-outer b r l ls k few le u [] state None None rest run time cuts ends is = absurd (nothing l (all_lines (take k ls) ++ rest) is)
reads-outer b r l ls k few le u [] state None (Some e) rest run time cuts ends is =
    reads-end b r l ls k e rest le u (subst (λ (s : State). EndsAt b s (Some e)) run ends) is
reads-outer b r l ls k few le u (e ∷ es) state None end rest run time cuts ends is =
    reads-entry b r l ls k e es state None end rest few u run (subst (λ (j : List Entry). IsInTime b j state) (sym (append_assoc r.done (e ∷ []) es)) time) tt ends (is ∙ rest-entry b r.done e es None end)
reads-outer b r l ls k few le u (e ∷ es) state (Some (suc at)) end rest run time cuts ends is =
    reads-entry b r l ls k e es state (Some at) end rest few u run (subst (λ (j : List Entry). IsInTime b j state) (sym (append_assoc r.done (e ∷ []) es)) time) (cuts.0, (let near = cuts.1 in omega arith)) ends is

pub reads-line : (b : PlainBoard) (r : Reader) (due : List ℕ) (l : List ℕ) (ls : List (List ℕ)) (k : ℕ) (end : Option End) (rest : List ℕ) → r.due ≡ due → b.cores ≤ 256 → k ≤ length ls → IsUnbroken l → IsEnded due → GoesOn b r (suc k) (l ∷ ls) end rest → Reads b k ls end rest (read_line b r l due)
reads-line b r (d ∷ due) l ls k end rest is few le u e g = reads-due b r d due l ls k end rest is u e g
reads-line b r [] l ls k end rest is few le u e g =
    reads-outer b r l ls k few le u g.journal g.state g.cut end rest g.run g.in_time g.cuts g.ends
    (behind-line l k ls rest _ g.begins ∙ ap (λ (x : List ℕ). x ++ rest_text b r.done g.journal g.cut end) is)

counted : (b : PlainBoard) (k : ℕ) (ls : List (List ℕ)) (end : Option End) (rest : List ℕ) (read : Read) → Reads b k ls end rest read → ((next : Reader) → IsEnded next.due → GoesOn b next k ls end rest → k ≤ pass b next ls) → suc k ≤ counted_on read (λ n. pass b n ls)
counted b k ls end rest Stop reads more = absurd reads
counted b k ls end rest Ends reads more = omega (arith, reads)
counted b k ls end rest (On next) reads more = omega (arith, more next reads.0 reads.1)

most : (b : PlainBoard) (ls : List (List ℕ)) → b.cores ≤ 256 → AreUnbroken ls → (r : Reader) (m : ℕ) (end : Option End) (rest : List ℕ) → m ≤ length ls → IsEnded r.due → GoesOn b r m ls end rest → m ≤ pass b r ls
most b ls few u r zero end rest le e g = omega arith
most b [] few u r (suc k) end rest le e g = absurd (omega arith)
most b (l ∷ ls) few u r (suc k) end rest le e g = counted b k ls end rest (read_line b r l r.due) (reads-line b r r.due l ls k end rest refl few (omega arith) u.0 e g) (λ next ended more. most b ls few u.1 next k end rest (omega arith) ended more)

-- ---- the lines that the pass counts begin the text of a run

-- the entries so far are a run within its limits
pub record IsFine (b : PlainBoard) (r : Reader) : Type 0 where
  pub run : IsRunIn (is_over b) b [] (open_state b) r.done r.state
  pub in_time : IsInTime b r.done r.state

-- no line more
none-more : (b : PlainBoard) (r : Reader) (ls : List (List ℕ)) → IsFine b r → GoesOn b r 0 ls None (r.due ++ [])
none-more b r ls fine = record {
  journal = [];
  state = r.state;
  run = refl;
  in_time = λ halt live halts. subst (λ (j : List Entry). is_over b j ≡ false) (sym (append-nil r.done)) (fine.in_time halt live halts);
  cut = None;
  cuts = tt;
  ends = tt;
  begins = refl;
}

-- what a line that was read leaves
abbrev pub Leaves : PlainBoard → Reader → List ℕ → Read → Type 0
Leaves b r l Stop = Unit {0}
Leaves b r l Ends = (h : Halt) × (r.due ≡ []) × (halt_of b r.state ≡ Some h) × (l ≡ row_text (Ended h (shown b r.state.moment)))
Leaves b r l (On next) = IsFine b next × ((k : ℕ) (ls : List (List ℕ)) (end : Option End) (rest : List ℕ) → GoesOn b next k ls end rest → GoesOn b r (suc k) (l ∷ ls) end rest)

leaves-due : (b : PlainBoard) (r : Reader) (l : List ℕ) (o : Option (List ℕ)) → IsFine b r → behind_front (with_newline l) r.due ≡ o → Leaves b r l (read_due r o)
leaves-due b r l None fine is = tt
leaves-due b r l (Some due) fine is = (
  record { run = fine.run; in_time = fine.in_time },
  λ k ls end rest g. record {
    journal = g.journal;
    state = g.state;
    run = g.run;
    in_time = g.in_time;
    cut = g.cut;
    cuts = g.cuts;
    ends = g.ends;
    begins = (
        let tail = rest_text b r.done g.journal g.cut end in
        let here : r.due ≡ with_newline l ++ due = front-is (with_newline l) r.due due is in
        append_assoc l (10 ∷ all_lines (take k ls)) rest
        ∙ ap (λ (x : List ℕ). l ++ 10 ∷ x) g.begins
        ∙ sym (append_assoc l (10 ∷ []) (due ++ tail))
        ∙ sym (append_assoc (with_newline l) due tail)
        ∙ ap (λ (x : List ℕ). x ++ tail) (sym here));
  },
)

-- a `cut` line, before the further text without one
cut-none : (c : Bool) (journal : List Entry) (cut : Option ℕ) → CutsAt true journal cut → cut ≡ None
cut-none c journal None h = refl
cut-none c journal (Some at) h = absurd (let e : true ≡ false = h.0 in cc)

leaves-cut : (b : PlainBoard) (r : Reader) (l : List ℕ) (counted : Bool) → IsFine b r → r.due ≡ [] → r.counted ≡ counted → l ≡ cut_now b r.done → Leaves b r l (cond counted Stop (On (record { state = r.state; done = r.done; counted = true; due = [] })))
leaves-cut b r l true fine due is here = tt
leaves-cut b r l false fine due is here = (
  record { run = fine.run; in_time = fine.in_time },
  λ k ls end rest g. record {
    journal = g.journal;
    state = g.state;
    run = g.run;
    in_time = g.in_time;
    cut = Some 0;
    cuts = (is, omega arith);
    ends = g.ends;
    begins = (
        let tail = entries_text (length r.done + 1) g.journal ++ end_text end in
        append_assoc l (10 ∷ all_lines (take k ls)) rest
        ∙ ap (λ (x : List ℕ). l ++ 10 ∷ x) (g.begins ∙ ap (λ (c : Option ℕ). rest_text b r.done g.journal c end) (cut-none true g.journal g.cut g.cuts))
        ∙ ap (λ (x : List ℕ). x ++ 10 ∷ tail) here
        ∙ sym (append_assoc (cut_now b r.done) (10 ∷ []) tail)
        ∙ ap (λ (x : List ℕ). x ++ (cut_line b r.done ++ tail)) (sym due));
  },
)

cuts-later : (counted : Bool) (e : Entry) (es : List Entry) (cut : Option ℕ) → CutsAt counted es cut → CutsAt counted (e ∷ es) (later cut)
cuts-later counted e es None h = tt
cuts-later counted e es (Some at) h = (h.0, (let near = h.1 in omega arith))

is_off : (c : Bool) → not c ≡ true → c ≡ false
is_off true e = absurd cc
is_off false e = refl

late_step : (o h : Option Halt) (over : Bool) (halt : Halt) → (not (is_some o) && is_some h && over) ≡ false → o ≡ None → h ≡ Some halt → over ≡ false
late_step o h over halt off live halts =
    sym (ap (λ (x : Option Halt). not (is_some x) && is_some h && over) live ∙ ap (λ (x : Option Halt). true && is_some x && over) halts) ∙ off

late_off : (b : PlainBoard) (journal : List Entry) (s : State) → is_late b journal s ≡ false → IsInTime b journal s
late_off b journal s off = λ halt live halts. late_step s.halt (halt_of b s) (is_over b journal) halt off live halts

leaves-entry : (b : PlainBoard) (r : Reader) (l : List ℕ) (e : Entry) (s : State) (o : Option (List ℕ)) → IsFine b r → r.due ≡ [] → IsMade b r.state e s → is_over b r.done ≡ false → is_late b (r.done ++ e ∷ []) s ≡ false → behind_front (with_newline l) (entry_text (length r.done + 1) e) ≡ o → Leaves b r l (on_entry r e s o)
leaves-entry b r l e s None fine none made going late is = tt
leaves-entry b r l e s (Some due) fine none made going late is = (
  record { run = IsRunIn-snoc (is_over b) b [] (open_state b) r.state s r.done e fine.run going made; in_time = late_off b (r.done ++ e ∷ []) s late },
  λ k ls end rest g. record {
    journal = e ∷ g.journal;
    state = g.state;
    run = (s, going, made, g.run);
    in_time = subst (λ (j : List Entry). IsInTime b j g.state) (append_assoc r.done (e ∷ []) g.journal) g.in_time;
    cut = later g.cut;
    cuts = cuts-later r.counted e g.journal g.cut g.cuts;
    ends = g.ends;
    begins = (
        let tail = rest_text b (r.done ++ e ∷ []) g.journal g.cut end in
        let here : entry_text (length r.done + 1) e ≡ with_newline l ++ due = front-is (with_newline l) (entry_text (length r.done + 1) e) due is in
        append_assoc l (10 ∷ all_lines (take k ls)) rest
        ∙ ap (λ (x : List ℕ). l ++ 10 ∷ x) g.begins
        ∙ sym (append_assoc l (10 ∷ []) (due ++ tail))
        ∙ sym (append_assoc (with_newline l) due tail)
        ∙ ap (λ (x : List ℕ). x ++ tail) (sym here)
        ∙ sym (rest-entry b r.done e g.journal g.cut end)
        ∙ ap (λ (x : List ℕ). x ++ rest_text b r.done (e ∷ g.journal) (later g.cut) end) (sym none));
  },
)

leaves-follow : (b : PlainBoard) (r : Reader) (l : List ℕ) (e : Entry) (s : State) (t : Bool) → IsFine b r → r.due ≡ [] → happens b r.state e.event ≡ Made s e.lines → e.tick ≡ entry_tick b e.event r.state s → may_follow b r e s ≡ t → Leaves b r l (cond t (on_entry r e s (behind_front (with_newline l) (entry_text (length r.done + 1) e))) Stop)
leaves-follow b r l e s false fine none did at is = tt
leaves-follow b r l e s true fine none did at is =
    let p = and_parts (is_event_of b e.event && not (is_over b r.done)) (not (is_late b (r.done ++ e ∷ []) s)) is in
    let q = and_parts (is_event_of b e.event) (not (is_over b r.done)) p.0 in
    leaves-entry b r l e s (behind_front (with_newline l) (entry_text (length r.done + 1) e)) fine none (q.0, did, at) (is_off (is_over b r.done) q.1) (is_off (is_late b (r.done ++ e ∷ []) s) p.1) refl

leaves-made : (b : PlainBoard) (r : Reader) (l : List ℕ) (event : Event) (did : Did) → IsFine b r → r.due ≡ [] → happens b r.state event ≡ did → Leaves b r l (read_made b r l event did)
leaves-made b r l event (Made s lines) fine none is =
    let e : Entry = record { event = event; tick = entry_tick b event r.state s; lines = lines } in
    leaves-follow b r l e s (may_follow b r e s) fine none is refl refl
leaves-made b r l event Same fine none is = tt
leaves-made b r l event (Halted halt) fine none is = tt

leaves-event : (b : PlainBoard) (r : Reader) (l : List ℕ) (o : Option Event) → IsFine b r → r.due ≡ [] → Leaves b r l (read_event b r l o)
leaves-event b r l None fine none = tt
leaves-event b r l (Some event) fine none = leaves-made b r l event (happens b r.state event) fine none refl

end-same : (l : List ℕ) (tick : ℕ) (o : Option Halt) → is_end_of l tick o ≡ true → (h : Halt) × (o ≡ Some h) × (l ≡ row_text (Ended h tick))
end-same l tick None e = absurd cc
end-same l tick (Some h) e = (h, refl, is_word l (row_text (Ended h tick)) e)

leaves-end : (b : PlainBoard) (r : Reader) (l : List ℕ) (t : Bool) → IsFine b r → r.due ≡ [] → is_end_of l (shown b r.state.moment) (halt_of b r.state) ≡ t → Leaves b r l (cond t Ends (read_event b r l (event_named (word_at (words_of l) 1))))
leaves-end b r l true fine none is = let e = end-same l (shown b r.state.moment) (halt_of b r.state) is in (e.0, none, e.1, e.2)
leaves-end b r l false fine none is = leaves-event b r l (event_named (word_at (words_of l) 1)) fine none

leaves-outer : (b : PlainBoard) (r : Reader) (l : List ℕ) (t : Bool) → IsFine b r → r.due ≡ [] → bytes_eq l (cut_now b r.done) ≡ t → Leaves b r l (cond t (read_cut r) (cond (is_end_of l (shown b r.state.moment) (halt_of b r.state)) Ends (read_event b r l (event_named (word_at (words_of l) 1)))))
leaves-outer b r l true fine none is = leaves-cut b r l r.counted fine none refl (is_word l (cut_now b r.done) is)
leaves-outer b r l false fine none is = leaves-end b r l (is_end_of l (shown b r.state.moment) (halt_of b r.state)) fine none refl

pub leaves-line : (b : PlainBoard) (r : Reader) (l due : List ℕ) → IsFine b r → r.due ≡ due → Leaves b r l (read_line b r l due)
leaves-line b r l [] fine is = leaves-outer b r l (bytes_eq l (cut_now b r.done)) fine is refl
leaves-line b r l (d ∷ due) fine is = leaves-due b r l (behind_front (with_newline l) (d ∷ due)) fine (ap (behind_front (with_newline l)) is)

-- an end line is the last one
pub end-here : (b : PlainBoard) (r : Reader) (l : List ℕ) (ls : List (List ℕ)) → IsFine b r → (left : Leaves b r l Ends) → GoesOn b r 1 (l ∷ ls) (Some (record { halt = left.0; tick = shown b r.state.moment })) []
end-here b r l ls fine left = record {
  journal = [];
  state = r.state;
  run = refl;
  in_time = λ halt live halts. subst (λ (j : List Entry). is_over b j ≡ false) (sym (append-nil r.done)) (fine.in_time halt live halts);
  cut = None;
  cuts = tt;
  ends = (left.2, refl);
  begins = append-nil (l ++ 10 ∷ []) ∙ ap with_newline left.3 ∙ ap (λ (x : List ℕ). x ++ end_text (Some (record { halt = left.0; tick = shown b r.state.moment }))) (sym left.1);
}

-- some end line, or none, and some bytes behind
abbrev Goes : PlainBoard → Reader → ℕ → List (List ℕ) → Type 0
Goes b r k ls = (end : Option End) × (rest : List ℕ) × GoesOn b r k ls end rest

holds-read : (b : PlainBoard) (r : Reader) (l : List ℕ) (ls : List (List ℕ)) (read : Read) → IsFine b r → Leaves b r l read → ((next : Reader) → IsFine b next → Goes b next (pass b next ls) ls) → Goes b r (counted_on read (λ n. pass b n ls)) (l ∷ ls)
holds-read b r l ls Stop fine left ih = (None, r.due ++ [], none-more b r (l ∷ ls) fine)
holds-read b r l ls Ends fine left ih = (Some (record { halt = left.0; tick = shown b r.state.moment }), [], end-here b r l ls fine left)
holds-read b r l ls (On next) fine left ih =
    let g = ih next left.0 in
    let sum : suc (pass b next ls) ≡ 1 + pass b next ls = omega arith in
    (g.0, g.1, subst (λ (k : ℕ). GoesOn b r k (l ∷ ls) g.0 g.1) sum (left.1 (pass b next ls) ls g.0 g.1 g.2))

holds : (b : PlainBoard) (ls : List (List ℕ)) (r : Reader) → IsFine b r → Goes b r (pass b r ls) ls
holds b [] r fine = (None, r.due ++ [], none-more b r [] fine)
holds b (l ∷ ls) r fine = holds-read b r l ls (read_line b r l r.due) fine (leaves-line b r l r.due fine refl) (holds b ls)

within-read : (b : PlainBoard) (ls : List (List ℕ)) (read : Read) → ((next : Reader) → pass b next ls ≤ length ls) → counted_on read (λ n. pass b n ls) ≤ suc (length ls)
within-read b ls Stop ih = omega arith
within-read b ls Ends ih = omega arith
within-read b ls (On next) ih = omega (arith, ih next)

within : (b : PlainBoard) (ls : List (List ℕ)) (r : Reader) → pass b r ls ≤ length ls
within b [] r = omega arith
within b (l ∷ ls) r = within-read b ls (read_line b r l r.due) (within b ls)

-- ---- agreement

cut-text : (b : PlainBoard) (done journal : List Entry) (at : ℕ) (end : Option End) → at ≤ length journal →
    rest_text b done journal (Some at) end ≡ entries_text (length done + 1) (take at journal) ++ (cut_line b (done ++ take at journal) ++ (entries_text (length done + 1 + at) (drop at journal) ++ end_text end))
cut-text b done journal zero end le =
    ap (λ (j : List Entry). cut_line b j ++ (entries_text (length done + 1) journal ++ end_text end)) (sym (append-nil done))
    ∙ ap (λ (n : ℕ). cut_line b (done ++ []) ++ (entries_text n journal ++ end_text end)) (sym (add-zero (length done + 1)))
cut-text b done [] (suc at) end le = absurd (omega arith)
cut-text b done (e ∷ es) (suc at) end le =
    let n = length done + 1 in
    let front = entries_text (n + 1) (take at es) in
    let back = entries_text (n + suc at) (drop at es) ++ end_text end in
    let size : length (done ++ e ∷ []) + 1 ≡ n + 1 = ap (λ (m : ℕ). m + 1) (length-snoc done e) in
    let far : n + 1 + at ≡ n + suc at = omega arith in
    ap (λ (x : List ℕ). entry_text n e ++ x) (
    cut-text b (done ++ e ∷ []) es at end (omega arith)
    ∙ ap (λ (m : ℕ). entries_text m (take at es) ++ (cut_line b (done ++ e ∷ [] ++ take at es) ++ (entries_text (m + at) (drop at es) ++ end_text end))) size
    ∙ ap (λ (m : ℕ). front ++ (cut_line b (done ++ e ∷ [] ++ take at es) ++ (entries_text m (drop at es) ++ end_text end))) far
    ∙ ap (λ (j : List Entry). front ++ (cut_line b j ++ back)) (append_assoc done (e ∷ []) (take at es)))
    ∙ sym (append_assoc (entry_text n e) front (cut_line b (done ++ (e ∷ take at es)) ++ back))

-- the place of a cut
abbrev pub place_of : Option Cut → Option ℕ
place_of None = None
place_of (Some cut) = Some cut.at

abbrev pub cut_at : PlainBoard → List Entry → Option ℕ → Option Cut
cut_at b journal None = None
cut_at b journal (Some at) = Some (record { at = at; counts = record { items = owner_counts b.cores (events_of (take at journal)) } })

cut-body : (b : PlainBoard) (journal : List Entry) (at : ℕ) (end : Option End) → at ≤ length journal → trace_text journal (cut_at b journal (Some at)) end ≡ rest_text b [] journal (Some at) end
cut-body b journal at end le =
    let front = entries_text 1 (take at journal) in
    let mark = cut_line b (take at journal) in
    let far : at + 1 ≡ 1 + at = omega arith in
    append_assoc (front ++ mark) (entries_text (at + 1) (drop at journal)) (end_text end)
    ∙ append_assoc front mark (entries_text (at + 1) (drop at journal) ++ end_text end)
    ∙ ap (λ (n : ℕ). front ++ (mark ++ (entries_text n (drop at journal) ++ end_text end))) far
    ∙ sym (cut-text b [] journal at end le)

pub whole-text : (b : PlainBoard) (journal : List Entry) (cut : Option Cut) (end : Option End) → IsCutOf b journal cut → trace_text journal cut end ≡ rest_text b [] journal (place_of cut) end
whole-text b journal None end h = refl
whole-text b journal (Some cut) end h =
    ap (λ (counts : List ℕ). trace_text journal (Some (record { at = cut.at; counts = record { items = counts } })) end) h.counts
    ∙ cut-body b journal cut.at end h.at

pub cuts-of : (b : PlainBoard) (journal : List Entry) (cut : Option Cut) → IsCutOf b journal cut → CutsAt false journal (place_of cut)
cuts-of b journal None h = tt
cuts-of b journal (Some cut) h = (refl, h.at)

pub cut-is : (b : PlainBoard) (journal : List Entry) (cut : Option ℕ) → CutsAt false journal cut → IsCutOf b journal (cut_at b journal cut)
cut-is b journal None h = tt
cut-is b journal (Some at) h = record { at = h.1; counts = refl }

place-at : (b : PlainBoard) (journal : List Entry) (cut : Option ℕ) → place_of (cut_at b journal cut) ≡ cut
place-at b journal None = refl
place-at b journal (Some at) = refl

-- the text of a run with a cut at this place
pub cut-text_is : (b : PlainBoard) (journal : List Entry) (cut : Option ℕ) (end : Option End) → CutsAt false journal cut → trace_text journal (cut_at b journal cut) end ≡ rest_text b [] journal cut end
cut-text_is b journal cut end cuts = whole-text b journal (cut_at b journal cut) end (cut-is b journal cut cuts) ∙ ap (λ (c : Option ℕ). rest_text b [] journal c end) (place-at b journal cut)

run-state : (over : List Entry → Bool) (b : PlainBoard) (done : List Entry) (old : State) (journal : List Entry) (new other : State) → IsRunIn over b done old journal new → IsRunIn over b done old journal other → new ≡ other
run-state over b done old journal new other run also = (run-same b old new other journal journal refl (IsRunIn-run over b done old new journal run) (IsRunIn-run over b done old other journal also)).1

pub ends-of : (b : PlainBoard) (journal : List Entry) (state : State) (end : Option End) → IsRunIn (is_over b) b [] (open_state b) journal state → IsEndOf b journal end → EndsAt b state end
ends-of b journal state None run h = tt
ends-of b journal state (Some e) run h =
    let same : h.state ≡ state = run-state (is_over b) b [] (open_state b) journal h.state state h.within.is_run run in
    (ap (halt_of b) (sym same) ∙ h.halted, ap (λ (s : State). shown b s.moment) (sym same) ∙ h.at)

pub end-is : (b : PlainBoard) (journal : List Entry) (state : State) (end : Option End) → IsRunWithin b journal state → EndsAt b state end → IsEndOf b journal end
end-is b journal state None within h = tt
end-is b journal state (Some e) within h = record { state = state; within = within; halted = h.0; at = h.1 }

-- a text's agreement is what the pass counts
pub agreement-by-pass : (b : PlainBoard) (text : List ℕ) → b.cores ≤ 256 → is_over b [] ≡ false → IsAgreement b text (lines_agreeing b text)
agreement-by-pass b text few starts =
    let ls = whole_lines_of text in
    let k = lines_agreeing b text in
    let count = lines-count text in
    let fine : IsFine b (reader b) = record { run = refl; in_time = λ halt live halts. starts } in
    let held = holds b ls (reader b) fine in
    let end = held.0 in
    let rest = held.1 in
    let g = held.2 in
    let whole : k ≤ whole_lines text = omega (arith, within b ls (reader b), count) in
    record {
      agrees = record {
        whole = whole;
        journal = g.journal;
        state = g.state;
        is_run = record { is_run = g.run; last = g.in_time };
        cut = cut_at b g.journal g.cut;
        cut_is = cut-is b g.journal g.cut g.cuts;
        end = end;
        end_is = end-is b g.journal g.state end (record { is_run = g.run; last = g.in_time }) g.ends;
        rest = rest;
        begins = ap (λ (x : List ℕ). x ++ rest) (first-are k text whole) ∙ g.begins ∙ sym (cut-text_is b g.journal g.cut end g.cuts);
      };
      greatest = λ m a. most b ls few (lines-unbroken text) (reader b) m a.end a.rest (let le = a.whole in omega (arith, count)) tt (record {
        journal = a.journal;
        state = a.state;
        run = a.is_run.is_run;
        in_time = a.is_run.last;
        cut = place_of a.cut;
        cuts = cuts-of b a.journal a.cut a.cut_is;
        ends = ends-of b a.journal a.state a.end a.is_run.is_run a.end_is;
        begins = ap (λ (x : List ℕ). x ++ a.rest) (sym (first-are m text a.whole)) ∙ a.begins ∙ whole-text b a.journal a.cut a.end a.cut_is;
      });
    }
