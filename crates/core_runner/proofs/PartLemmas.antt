-- The texts of a trace's parts.
use Rattle.std.proofs.Common.{◌≡◌, ℕ, zero, suc, ◌+◌, ◌-◌, ◌<◌, Bool, true, false, cond, eqb, List, [], ◌∷◌, ◌++◌, length, map, take, drop, get_or, Some, None, Result, Ok, Err, IfOk, IfErr, OnOk, IsErr, IsErrAnd, refl, sym, ap, ◌∙◌, subst, arith, decimal, codes, length-append, add-zero}
use Rattle.std.specs.Prelude.{bytes_eq}
use Rattle.std.specs.List.{slice_get}
use Rattle.std.proofs.lemmas.List.{append-nil, map-append}
use Rattle.std.proofs.lemmas.List.Sums.{sum_by-cons, sum_by-append}
use Rattle.std.proofs.lemmas.List.FromFn.{map-range_with_len_more}
use Rattle.std.proofs.lemmas.Bool.{false_from_ne_true, eq-eqb, ne_eqb}
use Rattle.rt_base.specs.declared.codes.Event.{Event}
use Rattle.rt_base.specs.declared.codes.Halt.{Halt}
use Rattle.rt_plain.specs.declared.entry.Entry.{Entry}
use Rattle.rt_plain.specs.runs.Runs.{events_of}
use Rattle.rt_plain.specs.runs.Live.{owner, owner_counts}
use Rattle.rt_plain.specs.text.Texts.{with_newline, trace_text}
use Rattle.rt_plain.specs.text.TraceRows.{Counted, Ended, row_text}
use Rattle.rt_plain.proofs.text.FieldLemmas.{is_word}
use Rattle.rt_plain.proofs.text.SplitLemmas.{words-joined_words}
use Rattle.journal.specs.JournalSeen.{IsEntryAt}
use Rattle.core_runner.specs.Parts.{owned_by}

-- ---- items of lists

pub take-snoc : {X : Type 0} (xs : List X) (i : ℕ) (x : X) → slice_get xs i ≡ Some x → take (i + 1) xs ≡ take i xs ++ x ∷ []
take-snoc [] i x is = absurd cc
take-snoc (y ∷ xs) zero x is = let same : y ≡ x = cc in ap (λ z. z ∷ []) same
take-snoc {X} (y ∷ xs) (suc i) x is = let more : suc i + 1 ≡ suc (i + 1) = omega arith in ap (λ (n : ℕ). take n (y ∷ xs)) more ∙ ap (λ (zs : List X). y ∷ zs) (take-snoc xs i x is)

get-behind : {X : Type 0} (xs : List X) (k i : ℕ) → slice_get (drop k xs) i ≡ slice_get xs (k + i)
get-behind xs zero i = let same : 0 + i ≡ i = omega arith in ap (slice_get xs) (sym same)
get-behind [] (suc k) i = refl
get-behind (x ∷ xs) (suc k) i = let more : suc k + i ≡ suc (k + i) = omega arith in get-behind xs k i ∙ ap (slice_get (x ∷ xs)) (sym more)

pub take-next : {X : Type 0} (xs : List X) (first i : ℕ) (x : X) → slice_get xs (first + i) ≡ Some x → take (i + 1) (drop first xs) ≡ take i (drop first xs) ++ x ∷ []
take-next xs first i x is = take-snoc (drop first xs) i x (get-behind xs first i ∙ is)

pub take-own : {X : Type 0} (xs ys : List X) → take (length xs) (xs ++ ys) ≡ xs
take-own [] ys = refl
take-own {X} (x ∷ xs) ys = ap (λ (zs : List X). x ∷ zs) (take-own xs ys)

drop-own : {X : Type 0} (xs ys : List X) (n : ℕ) → drop (length xs + n) (xs ++ ys) ≡ drop n ys
drop-own [] ys n = let same : 0 + n ≡ n = omega arith in ap (λ (k : ℕ). drop k ys) same
drop-own (x ∷ xs) ys n = let more : suc (length xs) + n ≡ suc (length xs + n) = omega arith in ap (λ (k : ℕ). drop k (x ∷ xs ++ ys)) more ∙ drop-own xs ys n

some-is : {X : Type 0} (x y : X) → Some x ≡ Some y → x ≡ y
some-is x y is = cc

pub entry-at : (xs : List Entry) (i : ℕ) → i < length xs → (x : Entry) × (slice_get xs i ≡ Some x)
entry-at [] i lt = absurd (omega arith)
entry-at (x ∷ xs) zero lt = (x, refl)
entry-at (x ∷ xs) (suc i) lt = entry-at xs i (omega arith)

-- ---- answers

pub ok-more : {T E : Type 0} (r : Result T E) (P Q : T → Type 0) → ((x : T) → P x → Q x) → IfOk r P → IfOk r Q
ok-more (Ok x) P Q more h = more x h
ok-more (Err e) P Q more h = tt

pub on-ok_more : {E : Type 0} (r : Result (Unit {0}) E) (P Q : Type 0) → (P → Q) → OnOk r P → OnOk r Q
on-ok_more (Ok x) P Q more h = more h
on-ok_more (Err e) P Q more h = tt

pub if-err_more : {T E : Type 0} (r : Result T E) (P Q : E → Type 0) → ((e : E) → P e → Q e) → IfErr r P → IfErr r Q
if-err_more (Ok x) P Q more h = tt
if-err_more (Err e) P Q more h = more e h

-- what holds of the refusal that comes back holds of the answer
pub refused : {T E : Type 0} (P : E → Type 0) (r : Result T E) (fault : E) → IsErr r × IsErrAnd r (λ e. e ≡ fault) → P fault → IfErr r P
refused P (Ok x) fault e h = absurd e.1
refused P (Err f) fault e h = subst P (sym e.1) h

-- ---- a line and its newline

pub newline-some : (line text : List ℕ) → text ≡ with_newline line → 0 < length text
newline-some line text is = omega (arith, ap length is, length-append line (10 ∷ []))

take-line : (line : List ℕ) → take (length line) (with_newline line) ≡ line
take-line line = take-own line (10 ∷ [])

pub without-newline : (text : List ℕ) → (line : List ℕ) → text ≡ with_newline line → take (length text - 1) text ≡ line
without-newline text line is =
    let long : length text - 1 ≡ length line = omega (arith, ap length is, length-append line (10 ∷ [])) in
    ap (λ (n : ℕ). take n text) long ∙ ap (take (length line)) is ∙ take-line line

pub cut-text_is : (counts : List ℕ) → trace_text [] (Some (record { at = 0; counts = record { items = counts } })) None ≡ with_newline (row_text (Counted counts))
cut-text_is counts = append-nil (with_newline (row_text (Counted counts)) ++ []) ∙ append-nil (with_newline (row_text (Counted counts)))

-- ---- lines that begin otherwise

differ : (x y : List ℕ) → (get_or x 0 0 ≡ get_or y 0 0 → ⊥) → bytes_eq x y ≡ false
differ x y h = false_from_ne_true _ (λ e. h (ap (λ (l : List ℕ). get_or l 0 0) (is_word x y e)))

cut-front : (counts : List ℕ) → get_or (row_text (Counted counts)) 0 0 ≡ 99
cut-front counts = ap (λ (l : List ℕ). get_or l 0 0) (words-joined_words (codes "cut" ∷ map decimal counts))

pub no-cut : (line counts : List ℕ) → (get_or line 0 0 ≡ 99 → ⊥) → bytes_eq line (row_text (Counted counts)) ≡ false
no-cut line counts other = differ line (row_text (Counted counts)) (λ e. other (e ∙ cut-front counts))

end-front : (halt : Halt) (tick : ℕ) → get_or (row_text (Ended halt tick)) 0 0 ≡ 101
end-front halt tick = refl

pub no-end : (line : List ℕ) (tick : ℕ) → (get_or line 0 0 ≡ 101 → ⊥) → (halt : Halt) → bytes_eq line (row_text (Ended halt tick)) ≡ false
no-end line tick other halt = differ line (row_text (Ended halt tick)) (λ e. other (e ∙ end-front halt tick))

-- ---- counts of events

-- whether it is of the core, as a number
abbrev own_count : ℕ → Event → ℕ
own_count core event = cond (eqb (owner event) core) 1 0

one-more : (es : List Entry) (i core : ℕ) (e : Entry) → slice_get es i ≡ Some e → owned_by core (events_of (take (i + 1) es)) ≡ owned_by core (events_of (take i es)) + own_count core e.event
one-more es i core e is =
    let last : owned_by core (e.event ∷ []) ≡ own_count core e.event = sum_by-cons (own_count core) e.event [] ∙ add-zero (own_count core e.event) in
    ap (λ (xs : List Entry). owned_by core (events_of xs)) (take-snoc es i e is)
    ∙ ap (owned_by core) (map-append (λ (x : Entry). x.event) (take i es) (e ∷ []))
    ∙ sum_by-append (own_count core) (events_of (take i es)) (e.event ∷ [])
    ∙ ap (λ (n : ℕ). owned_by core (events_of (take i es)) + n) last

by_test : (t : Bool) (n k : ℕ) → n ≡ k + cond t 1 0 → t ≡ true → k + 1 ≡ n
by_test true n k is e = sym is
by_test false n k is e = absurd cc

by_test-not : (t : Bool) (n k : ℕ) → n ≡ k + cond t 1 0 → t ≡ false → k ≡ n
by_test-not true n k is e = absurd cc
by_test-not false n k is e = sym (is ∙ add-zero k)

-- an entry of the core, and one of another core
pub counts-own : (es : List Entry) (place core : ℕ) (event : Event) (tick first count own n : ℕ) → IsEntryAt es place event tick first count → own ≡ owner event → own ≡ core → n ≡ owned_by core (events_of (take place es)) → n + 1 ≡ owned_by core (events_of (take (place + 1) es))
counts-own es place core event tick first count own n there owns same is =
    let test : eqb (owner there.entry.event) core ≡ true = eq-eqb _ _ (ap owner (sym there.event_is) ∙ sym owns ∙ same) in
    ap (λ (k : ℕ). k + 1) is ∙ by_test _ _ _ (one-more es place core there.entry there.there) test

pub counts-other : (es : List Entry) (place core : ℕ) (event : Event) (tick first count own n : ℕ) → IsEntryAt es place event tick first count → own ≡ owner event → (own ≡ core → ⊥) → n ≡ owned_by core (events_of (take place es)) → n ≡ owned_by core (events_of (take (place + 1) es))
counts-other es place core event tick first count own n there owns other is =
    let test : eqb (owner there.entry.event) core ≡ false = ne_eqb _ _ (λ e. other (owns ∙ ap owner there.event_is ∙ e)) in
    is ∙ by_test-not _ _ _ (one-more es place core there.entry there.there) test

-- the counts of one core more
pub counts-more : (events : List Event) (cores : ℕ) → owner_counts (cores + 1) events ≡ owner_counts cores events ++ owned_by cores events ∷ []
counts-more events cores = map-range_with_len_more (λ (core : ℕ). owned_by core events) 0 cores cores (omega arith)
