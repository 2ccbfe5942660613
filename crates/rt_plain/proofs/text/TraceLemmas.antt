-- Each row of a trace is read back, and its rows are those of one journal.
use Rattle.std.proofs.Common.{◌≡◌, ℕ, zero, suc, ◌+◌, ◌<◌, ◌≤◌, ◌^◌, Bool, true, false, not, eqb, leb, cond, List, [], ◌∷◌, ◌++◌, length, length-take, length-drop, map, take, drop, drop-cons, get_or, ◌&&◌, take-append-drop, Option, Some, None, Result, Ok, Err, refl, sym, ap, ◌∙◌, subst, arith, inl, decimal, codes, append_assoc}
use Rattle.std.specs.Prelude.{option_map, bytes_eq, All}
use Rattle.std.specs.List.{list_all, flat_map, AllByRecursion}
use Rattle.std.proofs.lemmas.List.Concat.{flat_map-cons, flat_map-append}
use Rattle.std.proofs.lemmas.List.{append-nil, take_all}
use Rattle.std.proofs.lemmas.List.Folds.{list_all-append}
use Rattle.std.proofs.lemmas.List.Elements.{recursion_from_All, All-from_recursion}
use Rattle.std.proofs.lemmas.Bool.{and_from, and_parts, leb-true, le-leb, ne_eqb, eq-eqb, eqb-true, false_from_ne_true}
use Rattle.std.proofs.lemmas.Fmt.{digits_decimal}
use Rattle.rt_base.specs.declared.codes.Event.{Event}
use Rattle.rt_base.specs.declared.codes.Halt.{Halt}
use Rattle.rt_plain.specs.declared.entry.Entry.{Entry}
use Rattle.rt_plain.specs.declared.entry.Cut.{Cut}
use Rattle.rt_plain.specs.declared.kind.TraceKind.{TraceKind}
use Rattle.rt_plain.specs.declared.line.Line.{Line}
use Rattle.rt_plain.specs.declared.why.Why.{Why}
use Rattle.rt_plain.specs.text.Words.{words, halt_text, sleep_text}
use Rattle.rt_plain.specs.text.Texts.{End, line_text, quoted_text, code_or_wait, woke_text, fired_text, with_newline, indented_line, header, entry_text, entries_text, cut_text, body_text, end_text, trace_text}
use Rattle.rt_plain.specs.text.Splits.{words_of, is_printable}
use Rattle.rt_plain.specs.text.Fields.{number_in, result_map, paired}
use Rattle.rt_plain.specs.text.FieldLists.{spelled_all, Fit, Always, ended, no_words}
use Rattle.rt_plain.specs.runs.Runs.{events_of}
use Rattle.rt_plain.specs.text.BoardText.{refused, ◌>>=◌, is_indented, words_behind, first_of}
use Rattle.rt_plain.specs.text.TraceRows.{TraceRow, Headed, Shown, Counted, Ended, row_text, text_of_rows, entry_rows, entries_rows, body_rows, end_rows, trace_rows, trace_form, all_trace_kinds, trace_word, trace_count, trace_named, TraceValues, line_made, line_kind, line_values, CanShow, CanHappen, CanStand, CanBeWritten, StandsIn, CanCount, CanEnd, IsTrace, line_in, shown_in, number_said, number_behind, halt_in, header_in, end_in, counts_in, outer_said, row_of_words, row_said, whole_lines_of, event_of_row, told_of_row, are_counts, events_from, told_by, events_in, events_told, with_cores, HasCores}
use Rattle.rt_plain.proofs.text.NumberLemmas.{own}
use Rattle.rt_plain.proofs.text.FieldLemmas.{number-again, not_digits, when, unless, ok_is}
use Rattle.rt_plain.proofs.text.FieldListLemmas.{is_token, is_word_byte, quoted_last, digit_bytes, digits_token, token_plain, token_printable, spelled_words, fields_printable, values-again, length_spelled, spaced_are_printable, ArePrintable}
use Rattle.rt_plain.proofs.text.SplitLemmas.{joined, words-joined_words, words-joined, AreWords, IsUnbroken}

-- ---- the words of a line of an entry

abbrev spelled_words_of : (k : TraceKind) → TraceValues k → List (List ℕ)
spelled_words_of k vs = (trace_form k).word ∷ spelled_all no_words (trace_form k).fields vs

abbrev spelling : (k : TraceKind) → TraceValues k → List ℕ
spelling k vs = 32 ∷ 32 ∷ joined (spelled_words_of k vs)

line-joined : (l : Line) → line_text l ≡ joined (spelled_words_of (line_kind l) (line_values l))
line-joined (Line.Run t) = words-joined_words (codes "run" ∷ t ∷ [])
line-joined (Line.Out t true) = words-joined_words (codes "out" ∷ t ∷ codes "head" ∷ [])
line-joined (Line.Out t false) = words-joined_words (codes "out" ∷ t ∷ codes "tail" ∷ [])
line-joined (Line.Done t k c) = words-joined_words (codes "do" ∷ t ∷ decimal k ∷ code_or_wait c ∷ [])
line-joined (Line.Again t k c) = words-joined_words (codes "again" ∷ t ∷ decimal k ∷ code_or_wait c ∷ [])
line-joined (Line.Wake t w) = words-joined_words (codes "wake" ∷ t ∷ woke_text w ∷ [])
line-joined (Line.Cur t a b) = ap (λ (c : List ℕ). words (codes "prio" ∷ t ∷ c ∷ [])) (append_assoc (decimal a) (62 ∷ []) (decimal b)) ∙ words-joined_words (codes "prio" ∷ t ∷ (decimal a ++ 62 ∷ decimal b) ∷ [])
line-joined (Line.Fire o f) = words-joined_words (codes "fire" ∷ o ∷ fired_text f ∷ [])
line-joined (Line.Timeout t) = words-joined_words (codes "timeout" ∷ t ∷ [])
line-joined (Line.Rx d t n) = words-joined_words (codes "rx" ∷ d ∷ (quoted_text t ++ 32 ∷ decimal n) ∷ [])
line-joined (Line.Tx d t) = words-joined_words (codes "tx" ∷ d ∷ quoted_text t ∷ [])
line-joined (Line.Sleep m n) = words-joined_words (codes "sleep" ∷ sleep_text m ∷ decimal n ∷ [])
line-joined (Line.Suspend d) = words-joined_words (codes "suspend" ∷ d ∷ [])
line-joined (Line.Resume d) = words-joined_words (codes "resume" ∷ d ∷ [])
line-joined (Line.Tick n) = words-joined_words (codes "tick" ∷ decimal n ∷ [])
line-joined (Line.Print t) = words-joined_words (codes "print" ∷ quoted_text t ∷ [])
line-joined (Line.Close t) = words-joined_words (codes "close" ∷ t ∷ [])
line-joined (Line.Own o t) = words-joined_words (codes "own" ∷ o ∷ t ∷ [])
line-joined (Line.Mode m) = words-joined_words (codes "mode" ∷ sleep_text m ∷ [])
line-joined (Line.Work o f) = words-joined_words (codes "work" ∷ o ∷ fired_text f ∷ [])
line-joined (Line.Unwork o) = words-joined_words (codes "unwork" ∷ o ∷ [])

shown-spelled : (l : Line) → row_text (Shown l) ≡ spelling (line_kind l) (line_values l)
shown-spelled l = ap (λ (t : List ℕ). 32 ∷ 32 ∷ t) (line-joined l)

-- ---- the table

made-line : (l : Line) → line_made (line_kind l) (line_values l) ≡ l
made-line (Line.Run t) = refl
made-line _ = refl

word-is : (k : TraceKind) → (trace_form k).word ≡ trace_word k
unfolding trace_word
word-is k = refl

word-named : (k : TraceKind) → trace_named (trace_form k).word ≡ Some k
unfolding trace_named trace_word all_trace_kinds
word-named TraceKind.Run = refl
word-named _ = refl

pub kinds-count : length all_trace_kinds ≡ 20
unfolding all_trace_kinds
kinds-count = refl

word-token : (k : TraceKind) → is_token (trace_form k).word ≡ true
word-token TraceKind.Run = refl
word-token _ = refl

fields-quoted : (k : TraceKind) → quoted_last (trace_form k).fields ≡ true
fields-quoted TraceKind.Run = refl
fields-quoted _ = refl

-- ---- a line of an entry is read back

pass : {A : Type 0} (b : Bool) (e : Why) (r : Result A Why) → b ≡ true → refused (not b) e r ≡ r
pass true e r h = refl
pass false e r h = absurd cc

count-is : (k : TraceKind) (vs : TraceValues k) → eqb (length (spelled_words_of k vs)) (1 + trace_count k) ≡ true
unfolding trace_count
count-is k vs = eq-eqb _ _ (omega (arith, length_spelled no_words (trace_form k).fields vs))

line-again : (k : TraceKind) (vs : TraceValues k) → Fit Always (trace_form k).fields vs → line_in (spelled_words_of k vs) k ≡ Ok (line_made k vs)
unfolding line_in
line-again k vs h = ap (result_map (line_made k)) (values-again no_words Always ended (λ e t. refl) (trace_form k).fields ((trace_form k).word ∷ []) 1 vs refl h)

spelling-again : (k : TraceKind) (vs : TraceValues k) → Fit Always (trace_form k).fields vs → row_said (spelling k vs) ≡ Ok (Shown (line_made k vs))
spelling-again k vs h =
    let ws = spelled_words_of k vs in
    let is : words_of (joined ws) ≡ ws = words-joined ws (spelled_words (trace_form k).fields vs (trace_form k).word (token_plain (trace_form k).word (word-token k)) (fields-quoted k) h) in
    ap (λ (us : List (List ℕ)). result_map (λ (l : Line). Shown l) (shown_in us (trace_named (first_of us)))) is
    ∙ ap (λ (o : Option TraceKind). result_map (λ (l : Line). Shown l) (shown_in ws o)) (word-named k)
    ∙ ap (result_map (λ (l : Line). Shown l)) (pass _ Why.Words (line_in ws k) (count-is k vs) ∙ line-again k vs h)

-- ---- rows that aren't indented

abbrev pub AreTokens : List (List ℕ) → Type 0
AreTokens [] = Unit {0}
AreTokens (w ∷ ws) = (is_token w ≡ true) × AreTokens ws

pub tokens_words : (w : List ℕ) (ws : List (List ℕ)) → is_token w ≡ true → AreTokens ws → AreWords (w ∷ ws)
tokens_words w [] e h = inl (token_plain w e)
tokens_words w (v ∷ ws) e h = (token_plain w e, tokens_words v ws h.0 h.1)

behind_token : (b n : ℕ) → is_word_byte b ≡ true → n < 2 ^ 64 → is_token (b ∷ decimal n) ≡ true
behind_token b n e lt = and_from _ _ e (digit_bytes (decimal n) (digits_decimal own n lt))

flush : (b : ℕ) (t : List ℕ) → eqb b 32 ≡ false → is_indented (b ∷ t) ≡ false
flush b [] e = refl
flush b (c ∷ cs) e = rw e refl

outer-again : (w : List ℕ) (ws : List (List ℕ)) → is_token w ≡ true → AreTokens ws → row_said (words (w ∷ ws)) ≡ outer_said (w ∷ ws)
outer-again [] ws e h = absurd cc
outer-again (b ∷ bs) ws e h =
    let line = joined ((b ∷ bs) ∷ ws) in
    let out : is_indented line ≡ false = flush b _ (token_plain (b ∷ bs) e).1 in
    let split : words_behind line ≡ (b ∷ bs) ∷ ws = ap words_of (unless (is_indented line) (drop 2 line) line out) ∙ words-joined ((b ∷ bs) ∷ ws) (tokens_words (b ∷ bs) ws e h) in
    ap row_said (words-joined_words ((b ∷ bs) ∷ ws))
    ∙ ap (λ (t : Bool). row_of_words t (words_behind line)) out
    ∙ ap outer_said split

number-read : (n : ℕ) → n < 2 ^ 32 → number_said (decimal n) ≡ Ok n
number-read n lt = number-again 0 4294967295 n (omega arith) (omega arith) lt

-- the words of a header behind its number
abbrev pub event_words : Event → ℕ → List (List ℕ)
event_words (Event.Step core) tick = (99 ∷ decimal core) ∷ (64 ∷ decimal tick) ∷ []
event_words Event.Tick tick = codes "tick" ∷ decimal tick ∷ []

pub header-words : (n : ℕ) (e : Event) (tick : ℕ) → header n e tick ≡ words (decimal n ∷ event_words e tick)
header-words n (Event.Step core) tick = refl
header-words n Event.Tick tick = refl

event_tokens : (e : Event) (tick : ℕ) → CanHappen e → tick < 2 ^ 32 → AreTokens (event_words e tick)
event_tokens (Event.Step core) tick h lt = (behind_token 99 core refl (omega arith), (behind_token 64 tick refl (omega arith), tt))
event_tokens Event.Tick tick h lt = (refl, (digits_token tick (omega arith), tt))

header-again : (n : ℕ) (e : Event) (tick : ℕ) → n < 2 ^ 32 → tick < 2 ^ 32 → CanHappen e → header_in (decimal n ∷ event_words e tick) ≡ Ok (n, (e, tick))
header-again n (Event.Step core) tick a b h = rw (number-read n a, number-again 0 255 core (omega arith) (omega arith) (omega arith), number-read tick b) refl
header-again n Event.Tick tick a b h = rw (number-read n a, number-read tick b) refl

count_tokens : (counts : List ℕ) → AllByRecursion (λ n. n < 2 ^ 32) counts → AreTokens (map decimal counts)
count_tokens [] h = tt
count_tokens (n ∷ ns) h = (digits_token n (let lt = h.0 in omega arith), count_tokens ns h.1)

counts-again : (counts : List ℕ) → AllByRecursion (λ n. n < 2 ^ 32) counts → counts_in (map decimal counts) ≡ Ok counts
counts-again [] h = refl
counts-again (n ∷ ns) h = rw (number-read n h.0, counts-again ns h.1) refl

halt-again : (halt : Halt) → halt_in (halt_text halt) ≡ Ok halt
halt-again Halt.Quiet = refl
halt-again _ = refl

halt_token : (halt : Halt) → is_token (halt_text halt) ≡ true
halt_token Halt.Quiet = refl
halt_token _ = refl

-- ---- each row is read back

-- a row that can be written
abbrev pub IsWritten : TraceRow → Type 0
IsWritten (Headed number event tick) = (number < 2 ^ 32) × (tick < 2 ^ 32) × CanHappen event
IsWritten (Shown line) = CanShow line
IsWritten (Counted counts) = AllByRecursion (λ n. n < 2 ^ 32) counts
IsWritten (Ended halt tick) = tick < 2 ^ 32

shown-again : (l : Line) → CanShow l → row_said (row_text (Shown l)) ≡ Ok (Shown l)
unfolding CanShow
shown-again l h = ap row_said (shown-spelled l) ∙ spelling-again (line_kind l) (line_values l) h ∙ ap (λ (m : Line). Ok (Shown m)) (made-line l)

pub row-again : (r : TraceRow) → IsWritten r → row_said (row_text r) ≡ Ok r
row-again (Headed n e tick) h =
    let ws = decimal n ∷ event_words e tick in
    ap row_said (header-words n e tick)
    ∙ outer-again (decimal n) (event_words e tick) (digits_token n (let lt = h.0 in omega arith)) (event_tokens e tick h.2 h.1)
    ∙ unless (bytes_eq (decimal n) (codes "cut")) _ _ (not_digits n (codes "cut") (let lt = h.0 in omega arith) refl)
    ∙ unless (bytes_eq (decimal n) (codes "end")) (result_map (λ (p : Halt × ℕ). Ended p.0 p.1) (end_in ws)) (result_map (λ (p : ℕ × (Event × ℕ)). Headed p.0 p.1.0 p.1.1) (header_in ws)) (not_digits n (codes "end") (let lt = h.0 in omega arith) refl)
    ∙ ap (result_map (λ (p : ℕ × (Event × ℕ)). Headed p.0 p.1.0 p.1.1)) (header-again n e tick h.0 h.1 h.2)
row-again (Shown l) h = shown-again l h
row-again (Counted counts) h =
    outer-again (codes "cut") (map decimal counts) refl (count_tokens counts h)
    ∙ ap (result_map (λ (ns : List ℕ). Counted ns)) (counts-again counts h)
row-again (Ended halt tick) h =
    outer-again (codes "end") (halt_text halt ∷ (64 ∷ decimal tick) ∷ []) refl (halt_token halt, (behind_token 64 tick refl (omega arith), tt))
    ∙ rw (halt-again halt, number-read tick h) refl

-- ---- rows have printable bytes alone

tokens_printable : (ws : List (List ℕ)) → AreTokens ws → ArePrintable ws
tokens_printable [] h = tt
tokens_printable (w ∷ ws) h = (token_printable w h.0, tokens_printable ws h.1)

joined_printable : (w : List ℕ) (ws : List (List ℕ)) → list_all is_printable w ≡ true → ArePrintable ws → list_all is_printable (joined (w ∷ ws)) ≡ true
joined_printable w ws h g = list_all-append is_printable w (flat_map (λ (v : List ℕ). 32 ∷ v) ws) ∙ and_from _ _ h (spaced_are_printable ws g)

outer_printable : (w : List ℕ) (ws : List (List ℕ)) → is_token w ≡ true → AreTokens ws → list_all is_printable (words (w ∷ ws)) ≡ true
outer_printable w ws e h = ap (list_all is_printable) (words-joined_words (w ∷ ws)) ∙ joined_printable w ws (token_printable w e) (tokens_printable ws h)

spelling_printable : (k : TraceKind) (vs : TraceValues k) → Fit Always (trace_form k).fields vs → list_all is_printable (spelling k vs) ≡ true
spelling_printable k vs h = joined_printable (trace_form k).word _ (token_printable (trace_form k).word (word-token k)) (fields_printable no_words Always (λ e t. tt) (trace_form k).fields vs h)

shown_printable : (l : Line) → CanShow l → list_all is_printable (row_text (Shown l)) ≡ true
unfolding CanShow
shown_printable l h = ap (list_all is_printable) (shown-spelled l) ∙ spelling_printable (line_kind l) (line_values l) h

pub row_printable : (r : TraceRow) → IsWritten r → list_all is_printable (row_text r) ≡ true
row_printable (Headed n e tick) h = ap (list_all is_printable) (header-words n e tick) ∙ outer_printable (decimal n) (event_words e tick) (digits_token n (let lt = h.0 in omega arith)) (event_tokens e tick h.2 h.1)
row_printable (Shown l) h = shown_printable l h
row_printable (Counted counts) h = outer_printable (codes "cut") (map decimal counts) refl (count_tokens counts h)
row_printable (Ended halt tick) h = outer_printable (codes "end") (halt_text halt ∷ (64 ∷ decimal tick) ∷ []) refl (halt_token halt, (behind_token 64 tick refl (omega arith), tt))

-- printable bytes have no newline
unbroken : (bs : List ℕ) → list_all is_printable bs ≡ true → IsUnbroken bs
unbroken [] h = tt
unbroken (b ∷ bs) h =
    let p = and_parts (is_printable b) (list_all is_printable bs) h in
    let q = and_parts (leb 32 b) (leb b 126) p.0 in
    let low : 32 ≤ b = leb-true 32 b q.0 in
    (ne_eqb b 10 (λ e. absurd (omega arith)), unbroken bs p.1)

-- ---- the lines of rows

whole-line : (w rest : List ℕ) → IsUnbroken w → whole_lines_of (w ++ 10 ∷ rest) ≡ w ∷ whole_lines_of rest
whole-line [] rest h = refl
whole-line (b ∷ bs) rest h = rw (h.0, whole-line bs rest h.1) refl

abbrev pub AreWritten : List TraceRow → Type 0
AreWritten [] = Unit {0}
AreWritten (r ∷ rs) = IsWritten r × AreWritten rs

pub lines-rows : (rs : List TraceRow) → AreWritten rs → whole_lines_of (text_of_rows rs) ≡ map row_text rs
lines-rows [] h = refl
lines-rows (r ∷ rs) h =
    ap whole_lines_of (flat_map-cons (λ (x : TraceRow). with_newline (row_text x)) r rs ∙ append_assoc (row_text r) (10 ∷ []) (text_of_rows rs))
    ∙ whole-line (row_text r) (text_of_rows rs) (unbroken (row_text r) (row_printable r h.0)) ∙ ap (λ (ls : List (List ℕ)). row_text r ∷ ls) (lines-rows rs h.1)

abbrev rows_said : List (List ℕ) → Result (List TraceRow) Why
rows_said [] = Ok []
rows_said (l ∷ ls) = row_said l >>= λ r. rows_said ls >>= λ rs. Ok (r ∷ rs)

rows-again : (rs : List TraceRow) → AreWritten rs → rows_said (map row_text rs) ≡ Ok rs
rows-again [] h = refl
rows-again (r ∷ rs) h = rw (row-again r h.0, rows-again rs h.1) refl

pub one-reading : (rs qs : List TraceRow) → AreWritten rs → AreWritten qs → text_of_rows rs ≡ text_of_rows qs → rs ≡ qs
one-reading rs qs h g e = ok_is rs qs (sym (rows-again rs h) ∙ ap rows_said (sym (lines-rows rs h) ∙ ap whole_lines_of e ∙ lines-rows qs g) ∙ rows-again qs g)

-- ---- a trace is the text of its rows

pub text-append : (rs qs : List TraceRow) → text_of_rows (rs ++ qs) ≡ text_of_rows rs ++ text_of_rows qs
text-append rs qs = flat_map-append (λ (r : TraceRow). with_newline (row_text r)) rs qs

shown-text : (ls : List Line) → text_of_rows (map (λ (l : Line). Shown l) ls) ≡ flat_map (λ (l : Line). indented_line (line_text l)) ls
shown-text [] = refl
shown-text (l ∷ ls) =
    flat_map-cons (λ (r : TraceRow). with_newline (row_text r)) (Shown l) (map (λ (l : Line). Shown l) ls)
    ∙ ap (λ (t : List ℕ). indented_line (line_text l) ++ t) (shown-text ls)
    ∙ sym (flat_map-cons (λ (l : Line). indented_line (line_text l)) l ls)

entry-text : (n : ℕ) (e : Entry) → text_of_rows (entry_rows n e) ≡ entry_text n e
entry-text n e =
    flat_map-cons (λ (r : TraceRow). with_newline (row_text r)) (Headed n e.event e.tick) (map (λ (l : Line). Shown l) e.lines)
    ∙ ap (λ (t : List ℕ). with_newline (header n e.event e.tick) ++ t) (shown-text e.lines)

pub entries-text : (n : ℕ) (es : List Entry) → text_of_rows (entries_rows n es) ≡ entries_text n es
entries-text n [] = refl
entries-text n (e ∷ es) = text-append (entry_rows n e) (entries_rows (n + 1) es) ∙ ap (λ (t : List ℕ). t ++ text_of_rows (entries_rows (n + 1) es)) (entry-text n e) ∙ ap (λ (t : List ℕ). entry_text n e ++ t) (entries-text (n + 1) es)

body-text : (journal : List Entry) (cut : Option Cut) → text_of_rows (body_rows journal cut) ≡ body_text journal cut
body-text journal None = entries-text 1 journal
body-text journal (Some cut) =
    text-append (entries_rows 1 (take cut.at journal)) (Counted cut.counts.items ∷ entries_rows (cut.at + 1) (drop cut.at journal))
    ∙ ap (λ (t : List ℕ). t ++ text_of_rows (Counted cut.counts.items ∷ entries_rows (cut.at + 1) (drop cut.at journal))) (entries-text 1 (take cut.at journal))
    ∙ ap (λ (t : List ℕ). entries_text 1 (take cut.at journal) ++ t) (
    flat_map-cons (λ (r : TraceRow). with_newline (row_text r)) (Counted cut.counts.items) (entries_rows (cut.at + 1) (drop cut.at journal))
    ∙ ap (λ (t : List ℕ). cut_text cut ++ t) (entries-text (cut.at + 1) (drop cut.at journal)))
    ∙ sym (append_assoc (entries_text 1 (take cut.at journal)) (cut_text cut) (entries_text (cut.at + 1) (drop cut.at journal)))

end-text : (end : Option End) → text_of_rows (end_rows end) ≡ end_text end
end-text None = refl
end-text (Some e) = flat_map-cons (λ (r : TraceRow). with_newline (row_text r)) (Ended e.halt e.tick) [] ∙ append_nil (end_text (Some e)) where
  append_nil : (t : List ℕ) → t ++ [] ≡ t
  append_nil [] = refl
  append_nil (b ∷ bs) = ap (λ (u : List ℕ). b ∷ u) (append_nil bs)

pub trace-text : (journal : List Entry) (cut : Option Cut) (end : Option End) → text_of_rows (trace_rows journal cut end) ≡ trace_text journal cut end
trace-text journal cut end =
    text-append (body_rows journal cut) (end_rows end)
    ∙ ap (λ (t : List ℕ). t ++ text_of_rows (end_rows end)) (body-text journal cut)
    ∙ ap (λ (t : List ℕ). body_text journal cut ++ t) (end-text end)

-- ---- rows are those of one journal

-- what rows are those of
record Trace : Type 0 where
  pub entries : List Entry
  pub cut : Option Cut
  pub end : Option End

abbrev inner_of : List TraceRow → List Line
inner_of [] = []
inner_of (Shown l ∷ rs) = l ∷ inner_of rs
inner_of (Headed n e t ∷ rs) = []
inner_of (Counted counts ∷ rs) = []
inner_of (Ended halt tick ∷ rs) = []

-- a cut that stands behind so many further entries
abbrev later : ℕ → Cut → Cut
later n c = record { at = c.at + n; counts = c.counts }

abbrev group : List TraceRow → Trace
group [] = record { entries = []; cut = None; end = None }
group (Shown l ∷ rs) = group rs
group (Headed n e t ∷ rs) = record { entries = record { event = e; tick = t; lines = inner_of rs } ∷ (group rs).entries; cut = option_map (later 1) (group rs).cut; end = (group rs).end }
group (Counted counts ∷ rs) = record { entries = (group rs).entries; cut = Some (record { at = 0; counts = record { items = counts } }); end = (group rs).end }
group (Ended halt tick ∷ rs) = record { entries = []; cut = None; end = Some (record { halt = halt; tick = tick }) }

inner-all : (ls : List Line) (rs : List TraceRow) → inner_of rs ≡ [] → inner_of (map (λ (l : Line). Shown l) ls ++ rs) ≡ ls
inner-all [] rs h = h
inner-all (l ∷ ls) rs h = ap (λ (ks : List Line). l ∷ ks) (inner-all ls rs h)

skip-all : (ls : List Line) (rs : List TraceRow) → group (map (λ (l : Line). Shown l) ls ++ rs) ≡ group rs
skip-all [] rs = refl
skip-all (l ∷ ls) rs = skip-all ls rs

-- entries in front of what stands behind them
abbrev with_front : List Entry → Trace → Trace
with_front es t = record { entries = es ++ t.entries; cut = option_map (later (length es)) t.cut; end = t.end }

entry-front : (n : ℕ) (e : Entry) (rs : List TraceRow) → inner_of rs ≡ [] → group (entry_rows n e ++ rs) ≡ with_front (e ∷ []) (group rs)
entry-front n e rs h =
    ap (λ (ls : List Line). record { entries = record { event = e.event; tick = e.tick; lines = ls } ∷ (group (map (λ (l : Line). Shown l) e.lines ++ rs)).entries; cut = option_map (later 1) (group (map (λ (l : Line). Shown l) e.lines ++ rs)).cut; end = (group (map (λ (l : Line). Shown l) e.lines ++ rs)).end }) (inner-all e.lines rs h)
    ∙ ap (with_front (e ∷ [])) (skip-all e.lines rs)

inner-front : (n : ℕ) (es : List Entry) (rs : List TraceRow) → inner_of rs ≡ [] → inner_of (entries_rows n es ++ rs) ≡ []
inner-front n [] rs h = h
inner-front n (e ∷ es) rs h = refl

later-none : (c : Option Cut) → option_map (later 0) c ≡ c
later-none None = refl
later-none (Some c) = let same : c.at + 0 ≡ c.at = omega arith in ap (λ (at : ℕ). Some (record { at = at; counts = c.counts })) same

later-more : (n : ℕ) (c : Option Cut) → option_map (later 1) (option_map (later n) c) ≡ option_map (later (suc n)) c
later-more n None = refl
later-more n (Some c) = let sum : c.at + n + 1 ≡ c.at + suc n = omega arith in ap (λ (at : ℕ). Some (record { at = at; counts = c.counts })) sum

front-more : (e : Entry) (es : List Entry) (t : Trace) → with_front (e ∷ []) (with_front es t) ≡ with_front (e ∷ es) t
front-more e es t = ap (λ (c : Option Cut). record { entries = e ∷ (es ++ t.entries); cut = c; end = t.end }) (later-more (length es) t.cut)

group-front : (n : ℕ) (es : List Entry) (rs : List TraceRow) → inner_of rs ≡ [] → group (entries_rows n es ++ rs) ≡ with_front es (group rs)
group-front n [] rs h = ap (λ (c : Option Cut). record { entries = (group rs).entries; cut = c; end = (group rs).end }) (sym (later-none (group rs).cut))
group-front n (e ∷ es) rs h =
    ap group (append_assoc (entry_rows n e) (entries_rows (n + 1) es) rs)
    ∙ entry-front n e (entries_rows (n + 1) es ++ rs) (inner-front (n + 1) es rs h)
    ∙ ap (with_front (e ∷ [])) (group-front (n + 1) es rs h)
    ∙ front-more e es (group rs)

inner-end : (end : Option End) → inner_of (end_rows end) ≡ []
inner-end None = refl
inner-end (Some e) = refl

group-end : (end : Option End) → group (end_rows end) ≡ record { entries = []; cut = None; end = end }
group-end None = refl
group-end (Some e) = refl

append_nil : (es : List Entry) → es ++ [] ≡ es
append_nil [] = refl
append_nil (e ∷ es) = ap (λ (xs : List Entry). e ∷ xs) (append_nil es)

group-entries : (n : ℕ) (es : List Entry) (end : Option End) → group (entries_rows n es ++ end_rows end) ≡ record { entries = es; cut = None; end = end }
group-entries n es end =
    group-front n es (end_rows end) (inner-end end)
    ∙ ap (with_front es) (group-end end)
    ∙ ap (λ (xs : List Entry). record { entries = xs; cut = None; end = end }) (append_nil es)

group-cut : (journal : List Entry) (cut : Cut) (end : Option End) → cut.at ≤ length journal → group (trace_rows journal (Some cut) end) ≡ record { entries = journal; cut = Some cut; end = end }
group-cut journal cut end le =
    let front = take cut.at journal in
    let rest = drop cut.at journal in
    let behind = Counted cut.counts.items ∷ entries_rows (cut.at + 1) rest in
    let size : 0 + length front ≡ cut.at = omega (arith, length-take cut.at journal) in
    ap group (append_assoc (entries_rows 1 front) behind (end_rows end))
    ∙ group-front 1 front (behind ++ end_rows end) refl
    ∙ ap (λ (t : Trace). with_front front (record { entries = t.entries; cut = Some (record { at = 0; counts = cut.counts }); end = t.end })) (group-entries (cut.at + 1) rest end)
    ∙ ap (λ (at : ℕ). record { entries = front ++ rest; cut = Some (record { at = at; counts = cut.counts }); end = end }) size
    ∙ ap (λ (xs : List Entry). record { entries = xs; cut = Some cut; end = end }) (take-append-drop cut.at journal)

group-trace : (journal : List Entry) (cut : Option Cut) (end : Option End) → StandsIn journal cut → group (trace_rows journal cut end) ≡ record { entries = journal; cut = cut; end = end }
group-trace journal None end h = group-entries 1 journal end
group-trace journal (Some cut) end h = group-cut journal cut end h

-- rows that can be written are those of one journal
pub one-trace : (journal entries : List Entry) (cut place : Option Cut) (end last : Option End) → StandsIn journal cut → StandsIn entries place → AreWritten (trace_rows journal cut end) → AreWritten (trace_rows entries place last) → trace_text journal cut end ≡ trace_text entries place last → (journal ≡ entries) × (cut ≡ place) × (end ≡ last)
one-trace journal entries cut place end last s t a b e =
    let same : trace_rows journal cut end ≡ trace_rows entries place last = one-reading (trace_rows journal cut end) (trace_rows entries place last) a b (trace-text journal cut end ∙ e ∙ sym (trace-text entries place last)) in
    let u = sym (group-trace journal cut end s) ∙ ap group same ∙ group-trace entries place last t in
    (ap (λ (x : Trace). x.entries) u, ap (λ (x : Trace). x.cut) u, ap (λ (x : Trace). x.end) u)

-- ---- what can be written

written-append : (rs qs : List TraceRow) → AreWritten rs → AreWritten qs → AreWritten (rs ++ qs)
written-append [] qs h g = g
written-append (r ∷ rs) qs h g = (h.0, written-append rs qs h.1 g)

written-lines : (ls : List Line) → AllByRecursion CanShow ls → AreWritten (map (λ (l : Line). Shown l) ls)
written-lines [] h = tt
written-lines (l ∷ ls) h = (h.0, written-lines ls h.1)

pub written-entry : (n : ℕ) (e : Entry) → n < 2 ^ 32 → CanStand e → AreWritten (entry_rows n e)
written-entry n e lt h = ((lt, h.tick, h.event), written-lines e.lines (recursion_from_All CanShow e.lines h.lines))

written-entries : (n : ℕ) (es : List Entry) → n + length es ≤ 2 ^ 32 → AllByRecursion CanStand es → AreWritten (entries_rows n es)
written-entries n [] le h = tt
written-entries n (e ∷ es) le h = written-append (entry_rows n e) (entries_rows (n + 1) es) (written-entry n e (omega arith) h.0) (written-entries (n + 1) es (omega arith) h.1)

written-take : (n : ℕ) (es : List Entry) → AllByRecursion CanStand es → AllByRecursion CanStand (take n es)
written-take zero es h = tt
written-take (suc n) [] h = tt
written-take (suc n) (e ∷ es) h = (h.0, written-take n es h.1)

written-drop : (n : ℕ) (es : List Entry) → AllByRecursion CanStand es → AllByRecursion CanStand (drop n es)
written-drop zero es h = h
written-drop (suc n) [] h = tt
written-drop (suc n) (e ∷ es) h = written-drop n es h.1

written-end : (end : Option End) → CanEnd end → AreWritten (end_rows end)
written-end None h = tt
written-end (Some e) h = (h, tt)

written-body : (journal : List Entry) (cut : Option Cut) → StandsIn journal cut → CanBeWritten journal → CanCount cut → AreWritten (body_rows journal cut)
written-body journal None s h c = let few = h.few in written-entries 1 journal (omega arith) (recursion_from_All CanStand journal h.entries)
written-body journal (Some cut) s h c =
    let few = h.few in
    let all = recursion_from_All CanStand journal h.entries in
    let counts : AllByRecursion (λ n. n < 2 ^ 32) cut.counts.items = recursion_from_All (λ (n : ℕ). n < 2 ^ 32) cut.counts.items c in
    written-append (entries_rows 1 (take cut.at journal)) (Counted cut.counts.items ∷ entries_rows (cut.at + 1) (drop cut.at journal))
    (written-entries 1 (take cut.at journal) (omega (arith, length-take cut.at journal)) (written-take cut.at journal all))
    (counts, written-entries (cut.at + 1) (drop cut.at journal) (omega (arith, length-drop cut.at journal)) (written-drop cut.at journal all))

pub written-trace : (journal : List Entry) (cut : Option Cut) (end : Option End) → IsTrace journal cut end → AreWritten (trace_rows journal cut end)
written-trace journal cut end h = written-append (body_rows journal cut) (end_rows end) (written-body journal cut h.stands h.entries h.counts) (written-end end h.ends)

-- equal texts have equal entries, cuts and ends
pub same-journal : (journal entries : List Entry) (cut place : Option Cut) (end last : Option End) → IsTrace journal cut end → IsTrace entries place last → trace_text journal cut end ≡ trace_text entries place last → (journal ≡ entries) × (cut ≡ place) × (end ≡ last)
same-journal journal entries cut place end last a b e =
    one-trace journal entries cut place end last a.stands b.stands (written-trace journal cut end a) (written-trace entries place last b) e

-- each row that can be written is read back
rows-back : (rs : List TraceRow) → AreWritten rs → AllByRecursion (λ r. row_said (row_text r) ≡ Ok r) rs
rows-back [] h = tt
rows-back (r ∷ rs) h = (row-again r h.0, rows-back rs h.1)

pub rows-all : (rs : List TraceRow) → AreWritten rs → All (λ r. row_said (row_text r) ≡ Ok r) rs
rows-all rs h = All-from_recursion (λ (r : TraceRow). row_said (row_text r) ≡ Ok r) rs (rows-back rs h)

-- ---- for the code

pub behind_byte : (byte high : ℕ) (w : List ℕ) → 0 < length w → get_or w 0 0 ≡ byte → number_behind byte high w ≡ number_in 0 high (drop 1 w)
behind_byte byte high [] lt e = absurd (omega arith)
behind_byte byte high (b ∷ bs) lt e = when (eqb b byte) (number_in 0 high bs) (Err Why.Choice) (eq-eqb b byte e)

pub behind_other : (byte high : ℕ) (w : List ℕ) → (0 < length w → get_or w 0 0 ≡ byte → ⊥) → number_behind byte high w ≡ Err Why.Choice
behind_other byte high [] h = refl
behind_other byte high (b ∷ bs) h = unless (eqb b byte) (number_in 0 high bs) (Err Why.Choice) (ne_eqb b byte (h (omega arith)))

counted-step : (n : ℕ) (r : Result (List ℕ) Why) → are_counts (result_map (λ p. p.0 ∷ p.1) (paired (Ok n) r)) ≡ are_counts r
counted-step n (Ok ns) = refl
counted-step n (Err e) = refl

-- one number more
pub counts_step : (w : List ℕ) (ws : List (List ℕ)) (n : ℕ) → number_said w ≡ Ok n → are_counts (counts_in (w ∷ ws)) ≡ are_counts (counts_in ws)
counts_step w ws n e = ap (λ (r : Result ℕ Why). are_counts (result_map (λ p. p.0 ∷ p.1) (paired r (counts_in ws)))) e ∙ counted-step n (counts_in ws)

pub counts_stop : (w : List ℕ) (ws : List (List ℕ)) (e : Why) → number_said w ≡ Err e → are_counts (counts_in (w ∷ ws)) ≡ Err e
counts_stop w ws e is = ap (λ (r : Result ℕ Why). are_counts (result_map (λ p. p.0 ∷ p.1) (paired r (counts_in ws)))) is

-- as many numbers as words
pairs-ok : (r : Result ℕ Why) (q : Result (List ℕ) Why) (ns : List ℕ) → result_map (λ p. p.0 ∷ p.1) (paired r q) ≡ Ok ns → (ms : List ℕ) × (q ≡ Ok ms) × (length ns ≡ suc (length ms))
pairs-ok (Ok n) (Ok ms) ns e = (ms, refl, sym (ap length (ok_is (n ∷ ms) ns e)))
pairs-ok (Ok n) (Err d) ns e = absurd cc
pairs-ok (Err d) (Ok ms) ns e = absurd cc
pairs-ok (Err d) (Err f) ns e = absurd cc

counts-length : (ws : List (List ℕ)) (ns : List ℕ) → counts_in ws ≡ Ok ns → length ns ≡ length ws
counts-length [] ns e = sym (ap length (ok_is [] ns e))
counts-length (w ∷ ws) ns e = let p = pairs-ok (number_said w) (counts_in ws) ns e in p.2 ∙ ap suc (counts-length ws p.0 p.1)

-- what a `cut` line tells
abbrev cut_tells : Result (List ℕ) Why → Result (Option Event) Why
cut_tells r = told_of_row (result_map (λ ns. Counted ns) r)

pub cut_no_number : (r : Result (List ℕ) Why) (e : Why) → are_counts r ≡ Err e → cut_tells r ≡ Err e
cut_no_number (Ok ns) e is = absurd cc
cut_no_number (Err d) e is = ap (λ (x : Result (Unit {0}) Why). cut_tells (unkept x)) is where
  unkept : Result (Unit {0}) Why → Result (List ℕ) Why
  unkept (Ok t) = Ok []
  unkept (Err d) = Err d

counted-of : (ns : List ℕ) (t : Bool) → (leb 1 (length ns) && leb (length ns) 8) ≡ t → cut_tells (Ok ns) ≡ cond t (Ok None) (Err Why.Words)
counted-of ns t e = ap (λ (b : Bool). result_map event_of_row (refused (not b) Why.Words (Ok (Counted ns)))) e ∙ by_test t where
  by_test : (t : Bool) → result_map event_of_row (refused (not t) Why.Words (Ok (Counted ns))) ≡ cond t (Ok None) (Err Why.Words)
  by_test true = refl
  by_test false = refl

cut-of : (ws : List (List ℕ)) (r : Result (List ℕ) Why) (t : Bool) → counts_in ws ≡ r → are_counts r ≡ Ok tt → (leb 1 (length ws) && leb (length ws) 8) ≡ t → cut_tells r ≡ cond t (Ok None) (Err Why.Words)
cut-of ws (Ok ns) t is ok e = counted-of ns t (ap (λ (n : ℕ). leb 1 n && leb n 8) (counts-length ws ns is) ∙ e)
cut-of ws (Err d) t is ok e = absurd cc

pub cut_with_cores : (ws : List (List ℕ)) → are_counts (counts_in ws) ≡ Ok tt → 1 ≤ length ws → length ws ≤ 8 → cut_tells (counts_in ws) ≡ Ok None
cut_with_cores ws ok some few = cut-of ws (counts_in ws) true refl ok (and_from _ _ (le-leb 1 (length ws) some) (le-leb (length ws) 8 few))

pub cut_without_cores : (ws : List (List ℕ)) → are_counts (counts_in ws) ≡ Ok tt → (1 ≤ length ws → length ws ≤ 8 → ⊥) → cut_tells (counts_in ws) ≡ Err Why.Words
cut_without_cores ws ok other = cut-of ws (counts_in ws) false refl ok (false_from_ne_true _ (λ e. let p = and_parts (leb 1 (length ws)) (leb (length ws) 8) e in other (leb-true 1 (length ws) p.0) (leb-true (length ws) 8 p.1)))

-- ---- lines that end with a newline

pub whole_line_at : (xs : List ℕ) (i : ℕ) → i < length xs → IsUnbroken (take i xs) → eqb (get_or xs i 0) 10 ≡ true → whole_lines_of xs ≡ take i xs ∷ whole_lines_of (drop (i + 1) xs)
whole_line_at xs i lt h e =
    let next : suc i ≡ i + 1 = omega arith in
    let there : drop i xs ≡ 10 ∷ drop (i + 1) xs = drop-cons xs i 0 lt ∙ ap (λ (b : ℕ). b ∷ drop (suc i) xs) (eqb-true _ _ e) ∙ ap (λ (n : ℕ). 10 ∷ drop n xs) next in
    ap whole_lines_of (sym (take-append-drop i xs) ∙ ap (λ (t : List ℕ). take i xs ++ t) there) ∙ whole-line (take i xs) (drop (i + 1) xs) h

no-line : (xs : List ℕ) → IsUnbroken xs → whole_lines_of xs ≡ []
no-line [] h = refl
no-line (b ∷ bs) h = rw (h.0, no-line bs h.1) refl

pub no_whole_line : (xs : List ℕ) (n : ℕ) → length xs ≤ n → IsUnbroken (take n xs) → whole_lines_of xs ≡ []
no_whole_line xs n le h = no-line xs (subst IsUnbroken (take_all n xs le) h)

-- ---- the events that are read

events-step : (l : List ℕ) (ls : List (List ℕ)) (o : Result (Option Event) Why) → told_by l ≡ o → events_in (l ∷ ls) ≡ events_from o (events_in ls)
events-step l ls o e = ap (λ (r : Result (Option Event) Why). events_from r (events_in ls)) e

pub events_more : (events : List Event) (l : List ℕ) (ls : List (List ℕ)) (e : Event) → told_by l ≡ Ok (Some e) → events ++ e ∷ [] ++ events_in ls ≡ events ++ events_in (l ∷ ls)
events_more events l ls e is = append_assoc events (e ∷ []) (events_in ls) ∙ ap (λ (x : List Event). events ++ x) (sym (events-step l ls (Ok (Some e)) is))

pub events_same : (events : List Event) (l : List ℕ) (ls : List (List ℕ)) → told_by l ≡ Ok None → events ++ events_in ls ≡ events ++ events_in (l ∷ ls)
events_same events l ls is = ap (λ (x : List Event). events ++ x) (sym (events-step l ls (Ok None) is))

pub events_stop : (events : List Event) (l : List ℕ) (ls : List (List ℕ)) (e : Why) → told_by l ≡ Err e → events ≡ events ++ events_in (l ∷ ls)
events_stop events l ls e is = sym (append-nil events) ∙ ap (λ (x : List Event). events ++ x) (sym (events-step l ls (Err e) is))

pub events_end : (events : List Event) (rest : List ℕ) → whole_lines_of rest ≡ [] → events ≡ events ++ events_in (whole_lines_of rest)
events_end events rest is = sym (append-nil events) ∙ ap (λ (ls : List (List ℕ)). events ++ events_in ls) (sym is)

-- ---- the events of a trace

-- a row has as many counts as there may be cores
abbrev IsFew : TraceRow → Type 0
IsFew (Counted counts) = (1 ≤ length counts) × (length counts ≤ 8)
IsFew (Headed n e tick) = Unit {0}
IsFew (Shown l) = Unit {0}
IsFew (Ended halt tick) = Unit {0}

abbrev AreFew : List TraceRow → Type 0
AreFew [] = Unit {0}
AreFew (r ∷ rs) = IsFew r × AreFew rs

few-kept : (r : TraceRow) → IsFew r → with_cores r ≡ Ok r
few-kept (Counted counts) h = pass (leb 1 (length counts) && leb (length counts) 8) Why.Words (Ok (Counted counts)) (and_from _ _ (le-leb 1 (length counts) h.0) (le-leb (length counts) 8 h.1))
few-kept (Headed n e tick) h = refl
few-kept (Shown l) h = refl
few-kept (Ended halt tick) h = refl

row-told : (r : TraceRow) → IsWritten r → IsFew r → told_by (row_text r) ≡ Ok (event_of_row r)
row-told r h few =
    ap (result_map event_of_row) (
    pass (list_all is_printable (row_text r)) Why.Byte (row_said (row_text r) >>= with_cores) (row_printable r h)
    ∙ ap (λ (x : Result TraceRow Why). x >>= with_cores) (row-again r h)
    ∙ few-kept r few)

-- the events of rows
abbrev row_events : List TraceRow → List Event
row_events [] = []
row_events (r ∷ rs) = events_from (Ok (event_of_row r)) (row_events rs)

rows-told : (rs : List TraceRow) → AreWritten rs → AreFew rs → events_in (map row_text rs) ≡ row_events rs
rows-told [] h few = refl
rows-told (r ∷ rs) h few =
    ap (λ (x : Result (Option Event) Why). events_from x (events_in (map row_text rs))) (row-told r h.0 few.0)
    ∙ ap (events_from (Ok (event_of_row r))) (rows-told rs h.1 few.1)

shown-events : (ls : List Line) (rs : List TraceRow) → row_events (map (λ (l : Line). Shown l) ls ++ rs) ≡ row_events rs
shown-events [] rs = refl
shown-events (l ∷ ls) rs = shown-events ls rs

entries-events : (n : ℕ) (es : List Entry) (rs : List TraceRow) → row_events (entries_rows n es ++ rs) ≡ events_of es ++ row_events rs
entries-events n [] rs = refl
entries-events n (e ∷ es) rs =
    ap row_events (append_assoc (entry_rows n e) (entries_rows (n + 1) es) rs)
    ∙ ap (λ (x : List Event). e.event ∷ x) (shown-events e.lines (entries_rows (n + 1) es ++ rs) ∙ entries-events (n + 1) es rs)

end-events : (end : Option End) → row_events (end_rows end) ≡ []
end-events None = refl
end-events (Some e) = refl

plain-events : (n : ℕ) (es : List Entry) (end : Option End) → row_events (entries_rows n es ++ end_rows end) ≡ events_of es
plain-events n es end = entries-events n es (end_rows end) ∙ ap (λ (x : List Event). events_of es ++ x) (end-events end) ∙ append-nil (events_of es)

events-append : (es fs : List Entry) → events_of (es ++ fs) ≡ events_of es ++ events_of fs
events-append [] fs = refl
events-append (e ∷ es) fs = ap (λ (x : List Event). e.event ∷ x) (events-append es fs)

trace-events : (journal : List Entry) (cut : Option Cut) (end : Option End) → row_events (trace_rows journal cut end) ≡ events_of journal
trace-events journal None end = plain-events 1 journal end
trace-events journal (Some cut) end =
    let front = take cut.at journal in
    let behind = entries_rows (cut.at + 1) (drop cut.at journal) in
    ap row_events (append_assoc (entries_rows 1 front) (Counted cut.counts.items ∷ behind) (end_rows end))
    ∙ entries-events 1 front (Counted cut.counts.items ∷ behind ++ end_rows end)
    ∙ ap (λ (x : List Event). events_of front ++ x) (plain-events (cut.at + 1) (drop cut.at journal) end)
    ∙ sym (events-append front (drop cut.at journal))
    ∙ ap events_of (take-append-drop cut.at journal)

few-append : (rs qs : List TraceRow) → AreFew rs → AreFew qs → AreFew (rs ++ qs)
few-append [] qs h g = g
few-append (r ∷ rs) qs h g = (h.0, few-append rs qs h.1 g)

few-lines : (ls : List Line) → AreFew (map (λ (l : Line). Shown l) ls)
few-lines [] = tt
few-lines (l ∷ ls) = (tt, few-lines ls)

few-entries : (n : ℕ) (es : List Entry) → AreFew (entries_rows n es)
few-entries n [] = tt
few-entries n (e ∷ es) = few-append (entry_rows n e) (entries_rows (n + 1) es) (tt, few-lines e.lines) (few-entries (n + 1) es)

few-end : (end : Option End) → AreFew (end_rows end)
few-end None = tt
few-end (Some e) = (tt, tt)

few-body : (journal : List Entry) (cut : Option Cut) → HasCores cut → AreFew (body_rows journal cut)
few-body journal None h = few-entries 1 journal
few-body journal (Some cut) h = few-append (entries_rows 1 (take cut.at journal)) (Counted cut.counts.items ∷ entries_rows (cut.at + 1) (drop cut.at journal)) (few-entries 1 (take cut.at journal)) (h, few-entries (cut.at + 1) (drop cut.at journal))

-- the events that a trace's text tells are those of its entries
pub events-told : (journal : List Entry) (cut : Option Cut) (end : Option End) → IsTrace journal cut end → HasCores cut → events_told (trace_text journal cut end) ≡ events_of journal
events-told journal cut end h few =
    let rows = trace_rows journal cut end in
    let written = written-trace journal cut end h in
    ap (λ (t : List ℕ). events_in (whole_lines_of t)) (sym (trace-text journal cut end))
    ∙ ap events_in (lines-rows rows written)
    ∙ rows-told rows written (few-append (body_rows journal cut) (end_rows end) (few-body journal cut few) (few-end end))
    ∙ trace-events journal cut end
