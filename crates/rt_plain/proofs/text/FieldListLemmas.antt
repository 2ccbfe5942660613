-- Lists of fields: the values that words are, and the words that values are.
use Rattle.std.proofs.Common.{◌≡◌, ℕ, zero, suc, ◌+◌, ◌<◌, ◌≤◌, ◌^◌, Bool, true, false, not, ◌&&◌, eqb, leb, ltb, List, [], ◌∷◌, ◌++◌, length, get_or, drop, Option, Some, None, Result, Ok, Err, refl, sym, ap, ◌∙◌, arith, inl, inr, drop-cons, length-append, decimal, append_assoc}
use Rattle.std.specs.List.{list_all, list_any, flat_map}
use Rattle.std.specs.Fmt.{digits}
use Rattle.std.proofs.lemmas.List.Concat.{flat_map-cons}
use Rattle.std.proofs.lemmas.List.Folds.{list_all-append}
use Rattle.std.proofs.lemmas.List.Elements.{recursion_from_All}
use Rattle.std.proofs.lemmas.Bool.{and_parts, and_from, not-true, not_from_false, leb-true, le-leb, ltb-true, ne_eqb, cases_Bool}
use Rattle.std.proofs.lemmas.Bool.Decides.{nat_tests}
use Rattle.std.proofs.lemmas.Fmt.{digits_decimal, decimal_nonempty}
use Rattle.std.proofs.Math.Seq.{get_or-append_seam}
use Rattle.rt_base.specs.Grammar.{is_name, is_name_byte}
use Rattle.rt_base.specs.declared.codes.Code.{Code}
use Rattle.rt_base.specs.declared.codes.Class.{Class}
use Rattle.rt_base.specs.declared.codes.Sleep.{Sleep}
use Rattle.rt_base.specs.declared.codes.RunMode.{RunMode}
use Rattle.rt_base.specs.declared.codes.WaitOrder.{WaitOrder}
use Rattle.rt_plain.specs.declared.board.TimerKind.{TimerKind}
use Rattle.rt_plain.specs.declared.stmt.What.{What}
use Rattle.rt_plain.specs.declared.why.Why.{Why}
use Rattle.rt_plain.specs.declared.line.Woke.{Woke}
use Rattle.rt_plain.specs.declared.line.Fired.{Fired}
use Rattle.rt_plain.specs.text.Texts.{quoted_text, code_or_wait, woke_text, fired_text}
use Rattle.rt_plain.specs.text.Words.{code_text, sleep_text, run_mode_text, class_text}
use Rattle.rt_plain.specs.text.Splits.{word_at, is_printable, is_empty}
use Rattle.rt_plain.specs.text.Fields.{Field, Value, Fits, spelled, value_in, is_digit, Number, Moment, Levels, Core, Wait, Named, Indicated, Quoted, Coded, Ordered, Said, Classed, Moded, Ran, Repeated, Started, Armed, How, Keep, OnOff, Powered, Placed, Answered, Woken, Acted, Changed, Received, what_text}
use Rattle.rt_plain.specs.text.FieldLists.{Values, spelled_all, Fit, both, values_in, no_words, Always}
use Rattle.rt_plain.proofs.text.NumberLemmas.{own}
use Rattle.rt_plain.proofs.text.QuoteLemmas.{text-printable}
use Rattle.rt_plain.proofs.text.FieldLemmas.{value-takes, value-again, IsTold, levels_small, ok_is}
use Rattle.rt_plain.proofs.text.SplitLemmas.{AreWords, IsPlain, IsQuoted, IsSolid}

pub both_ok : {A B : Type 0} (a : Result A Why) (b : Result B Why) (x : A) (y : B) → both a b ≡ Ok (x, y) → (a ≡ Ok x) × (b ≡ Ok y)
both_ok {A} {B} (Ok p) (Ok q) x y e = (ap (λ (t : A × B). Ok t.0) (ok_is (p, q) (x, y) e), ap (λ (t : A × B). Ok t.1) (ok_is (p, q) (x, y) e))
both_ok (Ok p) (Err e2) x y e = absurd cc
both_ok (Err e1) (Ok q) x y e = absurd cc
both_ok (Err e1) (Err e2) x y e = absurd cc

-- each word has printable bytes alone
abbrev pub ArePrintable : List (List ℕ) → Type 0
ArePrintable [] = Unit {0}
ArePrintable (w ∷ ws) = (list_all is_printable w ≡ true) × ArePrintable ws

pub printable_at : (ws : List (List ℕ)) (i : ℕ) → ArePrintable ws → list_all is_printable (word_at ws i) ≡ true
printable_at [] i h = refl
printable_at (w ∷ ws) zero h = h.0
printable_at (w ∷ ws) (suc i) h = printable_at ws i h.1

pub printable_behind : (i : ℕ) (ws : List (List ℕ)) → ArePrintable ws → ArePrintable (drop i ws)
printable_behind zero ws h = h
printable_behind (suc i) [] h = tt
printable_behind (suc i) (w ∷ ws) h = printable_behind i ws h.1

-- what reading alone doesn't tell of the values
abbrev pub Told : (E : Type 0) (fs : List Field) → Values E fs → Type 0
Told E [] e = Unit {0}
Told E (f ∷ fs) vs = IsTold f vs.0 × Told E fs vs.1

-- the value behind those of the fields
abbrev pub last_value : (E : Type 0) (fs : List Field) → Values E fs → E
last_value E [] e = e
last_value E (f ∷ fs) vs = last_value E fs vs.1

pub values-take : {E : Type 0} (last : E → List (List ℕ)) (LastFits : E → Type 0) (last_in : List (List ℕ) → Result E Why) (fs : List Field) (i : ℕ) (ws : List (List ℕ)) (vs : Values E fs)
    → ArePrintable ws → i + length fs ≤ length ws
    → ((j : ℕ) → j ≡ i + length fs → (e : E) → last_in (drop j ws) ≡ Ok e → (drop j ws ≡ last e) × LastFits e)
    → values_in last_in fs i ws ≡ Ok vs → Told E fs vs → (drop i ws ≡ spelled_all last fs vs) × Fit LastFits fs vs
values-take last LastFits last_in [] i ws vs p le h e t = h i (omega arith) vs e
values-take last LastFits last_in (f ∷ fs) i ws vs p le h e t =
    let b = both_ok (value_in f (word_at ws i)) (values_in last_in fs (i + 1) ws) vs.0 vs.1 e in
    let first = value-takes f (word_at ws i) vs.0 (printable_at ws i p) b.0 t.0 in
    let others = values-take last LastFits last_in fs (i + 1) ws vs.1 p (omega arith) (λ j is x r. h j (omega arith) x r) b.1 t.1 in
    let lt : i < length ws = omega arith in
    let next : suc i ≡ i + 1 = omega arith in
    (drop-cons ws i [] lt ∙ ap (λ (w : List ℕ). w ∷ drop (suc i) ws) first.0 ∙ ap (λ (t : List (List ℕ)). spelled f vs.0 ∷ t) (ap (λ (n : ℕ). drop n ws) next ∙ others.0), (first.1, others.1))

pub drop_front : {A : Type 0} (front xs : List A) (i : ℕ) → length front ≡ i → drop i (front ++ xs) ≡ xs
drop_front [] xs i e = ap (λ (n : ℕ). drop n xs) (sym e)
drop_front (a ∷ others) xs zero e = absurd (omega arith)
drop_front (a ∷ others) xs (suc i) e = drop_front others xs i (omega arith)

pub values-again : {E : Type 0} (last : E → List (List ℕ)) (LastFits : E → Type 0) (last_in : List (List ℕ) → Result E Why) → ((e : E) → LastFits e → last_in (last e) ≡ Ok e)
    → (fs : List Field) (front : List (List ℕ)) (i : ℕ) (vs : Values E fs) → length front ≡ i → Fit LastFits fs vs → values_in last_in fs i (front ++ spelled_all last fs vs) ≡ Ok vs
values-again last LastFits last_in again [] front i vs len h = ap last_in (drop_front front (last vs) i len) ∙ again vs h
values-again last LastFits last_in again (f ∷ fs) front i vs len h =
    let rest = spelled_all last fs vs.1 in
    let here : word_at (front ++ spelled f vs.0 ∷ rest) i ≡ spelled f vs.0 = ap (λ (n : ℕ). get_or (front ++ spelled f vs.0 ∷ rest) n []) (sym len) ∙ get_or-append_seam front (spelled f vs.0) rest [] in
    let longer : length (front ++ spelled f vs.0 ∷ []) ≡ i + 1 = omega (arith, length-append front (spelled f vs.0 ∷ [])) in
    let moved : front ++ spelled f vs.0 ∷ rest ≡ (front ++ spelled f vs.0 ∷ []) ++ rest = sym (append_assoc front (spelled f vs.0 ∷ []) rest) in
    let others : values_in last_in fs (i + 1) (front ++ spelled f vs.0 ∷ rest) ≡ Ok vs.1 = ap (values_in last_in fs (i + 1)) moved ∙ values-again last LastFits last_in again fs (front ++ spelled f vs.0 ∷ []) (i + 1) vs.1 longer h.1 in
    rw (here, value-again f vs.0 h.0, others) refl

pub length_spelled : {E : Type 0} (last : E → List (List ℕ)) (fs : List Field) (vs : Values E fs) → length (spelled_all last fs vs) ≡ length fs + length (last (last_value E fs vs))
length_spelled last [] vs = omega arith
length_spelled last (f ∷ fs) vs = omega (arith, length_spelled last fs vs.1)

pub drop_spelled : {E : Type 0} (last : E → List (List ℕ)) (fs : List Field) (vs : Values E fs) → drop (length fs) (spelled_all last fs vs) ≡ last (last_value E fs vs)
drop_spelled last [] vs = refl
drop_spelled last (f ∷ fs) vs = drop_spelled last fs vs.1

pub last_fits : {E : Type 0} (LastFits : E → Type 0) (fs : List Field) (vs : Values E fs) → Fit LastFits fs vs → LastFits (last_value E fs vs)
last_fits LastFits [] vs h = h
last_fits LastFits (f ∷ fs) vs h = last_fits LastFits fs vs.1 h.1

-- ---- words without spaces and quotes

-- printable, and neither space nor quote
abbrev pub is_word_byte : ℕ → Bool
is_word_byte b = is_printable b && not (eqb b 32) && not (eqb b 34)

abbrev pub is_token : List ℕ → Bool
is_token [] = false
is_token (b ∷ bs) = list_all is_word_byte (b ∷ bs)

pub digit_byte : (b : ℕ) → is_digit b ≡ true → is_word_byte b ≡ true
digit_byte b h =
    let p = and_parts (leb 48 b) (leb b 57) h in
    let low : 48 ≤ b = leb-true 48 b p.0 in
    let high : b ≤ 57 = leb-true b 57 p.1 in
    and_from _ _ (and_from _ _ (and_from _ _ (le-leb 32 b (omega arith)) (le-leb b 126 (omega arith))) (not_from_false _ (ne_eqb b 32 (λ e. absurd (omega arith))))) (not_from_false _ (ne_eqb b 34 (λ e. absurd (omega arith))))

pub digit_bytes : (bs : List ℕ) → list_all is_digit bs ≡ true → list_all is_word_byte bs ≡ true
digit_bytes [] h = refl
digit_bytes (b ∷ bs) h = let p = and_parts (is_digit b) (list_all is_digit bs) h in and_from _ _ (digit_byte b p.0) (digit_bytes bs p.1)

token_from : (w : List ℕ) → 0 < length w → list_all is_word_byte w ≡ true → is_token w ≡ true
token_from [] lt h = absurd (omega arith)
token_from (b ∷ bs) lt h = h

pub digits_token : (n : ℕ) → n < 2 ^ 64 → is_token (decimal n) ≡ true
digits_token n lt = token_from (decimal n) (decimal_nonempty n lt) (digit_bytes (decimal n) (digits_decimal own n lt))

name_byte : (b : ℕ) → is_name_byte b ≡ true → is_word_byte b ≡ true
name_byte b h = grind (arith, nat_tests)

name_bytes : (bs : List ℕ) → list_all is_name_byte bs ≡ true → list_all is_word_byte bs ≡ true
name_bytes [] h = refl
name_bytes (b ∷ bs) h = let p = and_parts (is_name_byte b) (list_all is_name_byte bs) h in and_from _ _ (name_byte b p.0) (name_bytes bs p.1)

pub name_token : (w : List ℕ) → is_name w ≡ true → is_token w ≡ true
name_token w h =
    let p = and_parts (ltb 0 (length w) && leb (length w) 8) (list_all is_name_byte w) h in
    let q = and_parts (ltb 0 (length w)) (leb (length w) 8) p.0 in
    token_from w (omega (arith, ltb-true 0 (length w) q.0)) (name_bytes w p.1)

what_token : (v : What) → is_token (what_text v) ≡ true
what_token What.Code = refl
what_token _ = refl

class_token : (v : Class) → is_token (class_text v) ≡ true
class_token Class.Sem = refl
class_token _ = refl

mode_token : (v : Sleep) → is_token (sleep_text v) ≡ true
mode_token Sleep.Idle = refl
mode_token _ = refl

run_token : (v : RunMode) → is_token (run_mode_text v) ≡ true
run_token RunMode.High = refl
run_token _ = refl

code_token : (v : Code) → is_token (code_text v) ≡ true
unfolding digits
code_token Code.Ok = refl
code_token _ = refl

answer_token : (v : Option Code) → is_token (code_or_wait v) ≡ true
answer_token None = refl
answer_token (Some v) = code_token v

woke_token : (v : Woke) → is_token (woke_text v) ≡ true
woke_token Woke.Retry = refl
woke_token Woke.Start = refl
woke_token (Woke.Code v) = code_token v

fired_token : (v : Fired) → is_token (fired_text v) ≡ true
fired_token Fired.Nothing = refl
fired_token Fired.Soft = refl
fired_token (Fired.Code v) = code_token v

change_token : (v : ℕ × ℕ) → Fits Changed v → is_token (spelled Changed v) ≡ true
change_token v h =
    let first = digit_bytes (decimal v.0) (digits_decimal own v.0 (omega (arith, h.0))) in
    let second = digit_bytes (decimal v.1) (digits_decimal own v.1 (omega (arith, h.1))) in
    token_from (spelled Changed v) (omega (arith, length-append (decimal v.0) (62 ∷ decimal v.1)))
    (list_all-append is_word_byte (decimal v.0) (62 ∷ decimal v.1) ∙ and_from _ _ first second)

abbrev pub is_quoted_field : Field → Bool
is_quoted_field Quoted = true
is_quoted_field Received = true
is_quoted_field _ = false

field_token : (f : Field) (v : Value f) → is_quoted_field f ≡ false → Fits f v → is_token (spelled f v) ≡ true
field_token (Number low high) v n h = digits_token v (omega (arith, h.2))
field_token Moment v n h = digits_token v (omega (arith, h.1))
field_token Levels v n h = digits_token v (levels_small v h)
field_token Core None n h = refl
field_token Core (Some m) n h = digits_token m (omega (arith, h))
field_token Wait None n h = refl
field_token Wait (Some m) n h = digits_token m (omega (arith, h))
field_token Named v n h = name_token v h
field_token Indicated None n h = refl
field_token Indicated (Some v) n h = name_token v h
field_token Quoted v n h = absurd cc
field_token Received v n h = absurd cc
field_token Placed true n h = refl
field_token Placed false n h = refl
field_token Answered v n h = answer_token v
field_token Woken v n h = woke_token v
field_token Acted v n h = fired_token v
field_token Changed v n h = change_token v h
field_token Coded v n h = code_token v
field_token Ordered WaitOrder.Fifo n h = refl
field_token Ordered WaitOrder.Prio n h = refl
field_token Said v n h = what_token v
field_token Classed v n h = class_token v
field_token Moded v n h = mode_token v
field_token Ran v n h = run_token v
field_token Repeated TimerKind.OneShot n h = refl
field_token Repeated TimerKind.Periodic n h = refl
field_token Repeated TimerKind.SoftOne n h = refl
field_token Repeated TimerKind.SoftPer n h = refl
field_token Started true n h = refl
field_token Started false n h = refl
field_token Armed true n h = refl
field_token Armed false n h = refl
field_token How true n h = refl
field_token How false n h = refl
field_token Keep true n h = refl
field_token Keep false n h = refl
field_token OnOff true n h = refl
field_token OnOff false n h = refl
field_token Powered true n h = refl
field_token Powered false n h = refl

quoted_front : (f : Field) (v : Value f) → is_quoted_field f ≡ true → IsQuoted (spelled f v)
quoted_front Quoted v q = refl
quoted_front Received v q = refl
quoted_front (Number low high) v q = absurd cc
quoted_front _ v q = absurd cc

byte_parts : (b : ℕ) → is_word_byte b ≡ true → (eqb b 34 ≡ false) × (eqb b 32 ≡ false) × (is_printable b ≡ true)
byte_parts b h =
    let p = and_parts (is_printable b && not (eqb b 32)) (not (eqb b 34)) h in
    let q = and_parts (is_printable b) (not (eqb b 32)) p.0 in
    (not-true _ p.1, not-true _ q.1, q.0)

solid : (bs : List ℕ) → list_all is_word_byte bs ≡ true → IsSolid bs
solid [] h = tt
solid (b ∷ bs) h = let p = and_parts (is_word_byte b) (list_all is_word_byte bs) h in ((byte_parts b p.0).1, solid bs p.1)

pub token_plain : (w : List ℕ) → is_token w ≡ true → IsPlain w
token_plain [] h = absurd cc
token_plain (b ∷ bs) h = let p = and_parts (is_word_byte b) (list_all is_word_byte bs) h in let q = byte_parts b p.0 in (q.0, q.1, solid bs p.1)

all_printable : (bs : List ℕ) → list_all is_word_byte bs ≡ true → list_all is_printable bs ≡ true
all_printable [] h = refl
all_printable (b ∷ bs) h = let p = and_parts (is_word_byte b) (list_all is_word_byte bs) h in and_from _ _ (byte_parts b p.0).2 (all_printable bs p.1)

pub token_printable : (w : List ℕ) → is_token w ≡ true → list_all is_printable w ≡ true
token_printable [] h = absurd cc
token_printable (b ∷ bs) h = all_printable (b ∷ bs) h

quoted_printable : (f : Field) (v : Value f) → is_quoted_field f ≡ true → Fits f v → list_all is_printable (spelled f v) ≡ true
quoted_printable Quoted v q h = text-printable v (recursion_from_All (λ (b : ℕ). b < 256) v h.1)
quoted_printable Received v q h =
    list_all-append is_printable (quoted_text v.0) (32 ∷ decimal v.1)
    ∙ and_from _ _ (text-printable v.0 (recursion_from_All (λ (b : ℕ). b < 256) v.0 h.0.1)) (token_printable (decimal v.1) (digits_token v.1 (omega (arith, h.1))))
quoted_printable (Number low high) v q h = absurd cc
quoted_printable _ v q h = absurd cc

-- ---- the words of a list of fields

-- only the last field may be a text
abbrev pub quoted_last : List Field → Bool
quoted_last [] = true
quoted_last (f ∷ []) = true
quoted_last (f ∷ g ∷ fs) = not (is_quoted_field f) && quoted_last (g ∷ fs)

-- no field is a text
abbrev pub unquoted_fields : List Field → Bool
unquoted_fields [] = true
unquoted_fields (f ∷ fs) = not (is_quoted_field f) && unquoted_fields fs

-- words that may stand behind others
abbrev pub AreBehind : List (List ℕ) → Type 0
AreBehind [] = Unit {0}
AreBehind (w ∷ ws) = AreWords (w ∷ ws)

pub words_behind_plain : (w : List ℕ) (ws : List (List ℕ)) → IsPlain w → AreBehind ws → AreWords (w ∷ ws)
words_behind_plain w [] plain h = inl plain
words_behind_plain w (v ∷ ws) plain h = (plain, h)

pub spelled_words : (fs : List Field) (vs : Values (Unit {0}) fs) (w : List ℕ) → IsPlain w → quoted_last fs ≡ true → Fit Always fs vs → AreWords (w ∷ spelled_all no_words fs vs)
spelled_words [] vs w plain last h = inl plain
spelled_words (f ∷ []) vs w plain last h = (plain, elim (cases_Bool (is_quoted_field f)) [ inl q ↦ inr (quoted_front f vs.0 q) | inr n ↦ inl (token_plain (spelled f vs.0) (field_token f vs.0 n h.0)) ])
spelled_words (f ∷ g ∷ fs) vs w plain last h =
    let p = and_parts (not (is_quoted_field f)) (quoted_last (g ∷ fs)) last in
    (plain, spelled_words (g ∷ fs) vs.1 (spelled f vs.0) (token_plain (spelled f vs.0) (field_token f vs.0 (not-true _ p.0) h.0)) p.1 h.1)

-- the same where further words stand behind the fields
pub spelled_words_before : {E : Type 0} (last : E → List (List ℕ)) (LastFits : E → Type 0) → ((e : E) → LastFits e → AreBehind (last e)) → (fs : List Field) (vs : Values E fs) (w : List ℕ) → IsPlain w → unquoted_fields fs ≡ true → Fit LastFits fs vs → AreWords (w ∷ spelled_all last fs vs)
spelled_words_before last LastFits behind [] vs w plain n h = words_behind_plain w (last vs) plain (behind vs h)
spelled_words_before last LastFits behind (f ∷ fs) vs w plain n h =
    let p = and_parts (not (is_quoted_field f)) (unquoted_fields fs) n in
    (plain, spelled_words_before last LastFits behind fs vs.1 (spelled f vs.0) (token_plain (spelled f vs.0) (field_token f vs.0 (not-true _ p.0) h.0)) p.1 h.1)

pub field_printable : (f : Field) (v : Value f) → Fits f v → list_all is_printable (spelled f v) ≡ true
field_printable f v h = elim (cases_Bool (is_quoted_field f)) [ inl q ↦ quoted_printable f v q h | inr n ↦ token_printable (spelled f v) (field_token f v n h) ]

pub fields_printable : {E : Type 0} (last : E → List (List ℕ)) (LastFits : E → Type 0) → ((e : E) → LastFits e → ArePrintable (last e)) → (fs : List Field) (vs : Values E fs) → Fit LastFits fs vs → ArePrintable (spelled_all last fs vs)
fields_printable last LastFits end [] vs h = end vs h
fields_printable last LastFits end (f ∷ fs) vs h = (field_printable f vs.0 h.0, fields_printable last LastFits end fs vs.1 h.1)

pub spaced_are_printable : (ws : List (List ℕ)) → ArePrintable ws → list_all is_printable (flat_map (λ (v : List ℕ). 32 ∷ v) ws) ≡ true
spaced_are_printable [] h = refl
spaced_are_printable (w ∷ ws) h =
    ap (list_all is_printable) (flat_map-cons (λ (v : List ℕ). 32 ∷ v) w ws)
    ∙ list_all-append is_printable (32 ∷ w) (flat_map (λ (v : List ℕ). 32 ∷ v) ws)
    ∙ and_from _ _ h.0 (spaced_are_printable ws h.1)

pub words_full : (ws : List (List ℕ)) → AreWords ws → list_any is_empty ws ≡ false
words_full [] h = absurd h
words_full ([] ∷ []) (inl h) = absurd h
words_full ([] ∷ []) (inr h) = absurd h
words_full ((b ∷ bs) ∷ []) h = refl
words_full ([] ∷ v ∷ ws) h = absurd h.0
words_full ((b ∷ bs) ∷ v ∷ ws) h = words_full (v ∷ ws) h.1
