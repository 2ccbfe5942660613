-- A journal kept as headers and one list of lines: how it grows, and how it is read.
use Rattle.std.proofs.Common.{◌≡◌, ℕ, zero, suc, ◌+◌, ◌<◌, ◌≤◌, List, [], ◌∷◌, ◌++◌, Some, length, take, drop, get_or, Result, Ok, Err, OnOk, refl, sym, ap, subst, arith, ◌∙◌}
use Rattle.std.specs.Prelude.{slice_get, flat_map, All}
use Rattle.std.specs.List.{AllByRecursion}
use Rattle.std.proofs.lemmas.List.{length-drop, take-append-le, drop-append-le, take-append-drop, take-take, drop-take, drop-drop}
use Rattle.std.proofs.lemmas.List.Elements.{recursion_from_All, All-from_recursion}
use Rattle.std.proofs.lemmas.List.Concat.{flat_map-cons}
use Rattle.std.proofs.lemmas.List.Sums.{sum_by-cons, sum_by-take-drop}
use Rattle.rt_base.specs.declared.codes.Event.{Event}
use Rattle.std.proofs.lemmas.Grind.{common_steps, flat_map-append}
use Rattle.rt_plain.specs.declared.line.Line.{Line}
use Rattle.rt_plain.specs.declared.entry.Entry.{Entry}
use Rattle.rt_plain.specs.runs.Runs.{line_count}
use Rattle.rt_plain.specs.text.Texts.{printed_by, console_of}
use Rattle.rt_plain.specs.text.TraceRows.{CanShow, CanStand, CanBeWritten}
use Rattle.journal.specs.JournalSeen.{IsEntryAt, lines_of}
use Rattle.journal.specs.declared.header.Header.{Header}
use Rattle.journal.specs.Headers.{entries_of, lines_in, StandFrom, CanHead}

-- no lines where their number is 0
nothing : (lines : List Line) → 0 ≡ length lines → lines ≡ []
nothing [] h = refl
nothing (x ∷ lines) h = absurd (omega arith)

-- as many lines as there are
take_all : (lines : List Line) (n : ℕ) → n ≡ length lines → take n lines ≡ lines
take_all lines n h = grind (arith, common_steps)

-- one header more with its lines is one entry more
pub entries_of-push : (headers : List Header) (h : Header) (lines new : List Line) → lines_in headers ≡ length lines → h.count ≡ length new → entries_of (headers ++ h ∷ []) (lines ++ new) ≡ entries_of headers lines ++ (record { event = h.event; tick = h.tick; lines = new }) ∷ []
entries_of-push [] h lines new total count =
    rw (nothing lines total, take_all new h.count count) refl
entries_of-push (x ∷ headers) h lines new total count =
    let sum : lines_in (x ∷ headers) ≡ x.count + lines_in headers = sum_by-cons (λ (h : Header). h.count) x headers in
    let front : x.count ≤ length lines = omega arith in
    let cut : take x.count (lines ++ new) ≡ take x.count lines = take-append-le x.count lines new front in
    let rest : drop x.count (lines ++ new) ≡ drop x.count lines ++ new = drop-append-le x.count lines new front in
    rw (cut, rest, entries_of-push headers h (drop x.count lines) new (omega (arith, length-drop x.count lines)) count) refl

-- an entry for each header
pub length-entries_of : (headers : List Header) (lines : List Line) → length (entries_of headers lines) ≡ length headers
length-entries_of [] lines = refl
length-entries_of (h ∷ headers) lines = ap suc (length-entries_of headers (drop h.count lines))

-- the entries have all lines
pub line_count-entries_of : (headers : List Header) (lines : List Line) → lines_in headers ≡ length lines → line_count (entries_of headers lines) ≡ length lines
line_count-entries_of [] lines total = total
line_count-entries_of (h ∷ headers) lines total =
    let sum : lines_in (h ∷ headers) ≡ h.count + lines_in headers = sum_by-cons (λ (h : Header). h.count) h headers in
    let rest : line_count (entries_of headers (drop h.count lines)) ≡ length (drop h.count lines) = line_count-entries_of headers (drop h.count lines) (omega (arith, length-drop h.count lines)) in
    let first : length (take h.count lines) ≡ h.count = grind (arith, common_steps) in
    sum_by-cons (λ (e : Entry). length e.lines) (record { event = h.event; tick = h.tick; lines = take h.count lines }) (entries_of headers (drop h.count lines)) ∙ omega (arith, rest, first, length-drop h.count lines, sum, total)

pub ruleset counts = (length-entries_of, line_count-entries_of)

-- the lines of the entries are all lines
pub lines_of-entries_of : (headers : List Header) (lines : List Line) → lines_in headers ≡ length lines → lines_of (entries_of headers lines) ≡ lines
lines_of-entries_of [] lines total = sym (nothing lines total)
lines_of-entries_of (h ∷ headers) lines total =
    let sum : lines_in (h ∷ headers) ≡ h.count + lines_in headers = sum_by-cons (λ (h : Header). h.count) h headers in
    rw (lines_of-entries_of headers (drop h.count lines) (omega (arith, length-drop h.count lines, sum, total))) (take-append-drop h.count lines)

-- what the lines print is the console of the entries
pub console_of-entries_of : (headers : List Header) (lines : List Line) → lines_in headers ≡ length lines → console_of (entries_of headers lines) ≡ flat_map printed_by lines
console_of-entries_of [] lines total = sym (ap (flat_map printed_by) (nothing lines total))
console_of-entries_of (h ∷ headers) lines total =
    let sum : lines_in (h ∷ headers) ≡ h.count + lines_in headers = sum_by-cons (λ (h : Header). h.count) h headers in
    rw (console_of-entries_of headers (drop h.count lines) (omega (arith, length-drop h.count lines, sum, total)))
    (sym (flat_map-append printed_by (take h.count lines) (drop h.count lines)) ∙ ap (flat_map printed_by) (take-append-drop h.count lines))

-- a header more stands behind the lines of those before
pub StandFrom-push : (place : ℕ) (headers : List Header) (h : Header) → StandFrom place headers → h.first ≡ place + lines_in headers → StandFrom place (headers ++ h ∷ [])
StandFrom-push place [] h stand first = (first ∙ omega arith, tt)
StandFrom-push place (x ∷ headers) h stand first =
    let sum : lines_in (x ∷ headers) ≡ x.count + lines_in headers = sum_by-cons (λ (h : Header). h.count) x headers in
    (stand.0, StandFrom-push (place + x.count) headers h stand.1 (omega (arith, sum, first)))

-- the entry of a header, whose first line stands behind those of the entries before
entry-from : (place : ℕ) (headers : List Header) (lines : List Line) (at : ℕ) (h : Header) → lines_in headers ≡ length lines → StandFrom place headers → slice_get headers at ≡ Some h →
    (e : Entry) × (slice_get (entries_of headers lines) at ≡ Some e) × (h.event ≡ e.event) × (h.tick ≡ e.tick) × (h.first ≡ place + line_count (take at (entries_of headers lines))) × (h.count ≡ length e.lines)
entry-from place [] lines at h total stand there = absurd cc
entry-from place (x ∷ headers) lines zero h total stand there =
    let same : x ≡ h = cc in
    let sum : lines_in (x ∷ headers) ≡ x.count + lines_in headers = sum_by-cons (λ (h : Header). h.count) x headers in
    let front : length (take x.count lines) ≡ x.count = grind (arith, common_steps) in
    subst (λ (y : Header). (e : Entry) × (slice_get (entries_of (x ∷ headers) lines) 0 ≡ Some e) × (y.event ≡ e.event) × (y.tick ≡ e.tick) × (y.first ≡ place + 0) × (y.count ≡ length e.lines)) same
    (record { event = x.event; tick = x.tick; lines = take x.count lines }, refl, refl, refl, stand.0 ∙ omega arith, sym front)
entry-from place (x ∷ headers) lines (suc at) h total stand there =
    let sum : lines_in (x ∷ headers) ≡ x.count + lines_in headers = sum_by-cons (λ (h : Header). h.count) x headers in
    let front : length (take x.count lines) ≡ x.count = grind (arith, common_steps) in
    let e : Entry = record { event = x.event; tick = x.tick; lines = take x.count lines } in
    let found = entry-from (place + x.count) headers (drop x.count lines) at h (omega (arith, length-drop x.count lines, sum, total)) stand.1 there in
    let more : line_count (e ∷ take at (entries_of headers (drop x.count lines))) ≡ length (take x.count lines) + line_count (take at (entries_of headers (drop x.count lines))) = sum_by-cons (λ (e : Entry). length e.lines) e (take at (entries_of headers (drop x.count lines))) in
    (found.0, found.1, found.2, found.3, omega (arith, found.4, more, front), found.5)

-- the entry of a header
pub entry-at : (headers : List Header) (lines : List Line) (at : ℕ) (h : Header) → lines_in headers ≡ length lines → StandFrom 0 headers → slice_get headers at ≡ Some h → IsEntryAt (entries_of headers lines) at h.event h.tick h.first h.count
entry-at headers lines at h total stand there =
    let found = entry-from 0 headers lines at h total stand there in
    record { entry = found.0; there = found.1; event_is = found.2; tick_is = found.3; first_is = omega (arith, found.4); count_is = found.5 }

-- the lines of a header more
pub lines_in-push : (headers : List Header) (h : Header) → lines_in (headers ++ h ∷ []) ≡ lines_in headers + h.count
lines_in-push [] h = sum_by-cons (λ (h : Header). h.count) h [] ∙ omega arith
lines_in-push (x ∷ headers) h =
    let sum : lines_in (x ∷ headers) ≡ x.count + lines_in headers = sum_by-cons (λ (h : Header). h.count) x headers in
    let more : lines_in (x ∷ (headers ++ h ∷ [])) ≡ x.count + lines_in (headers ++ h ∷ []) = sum_by-cons (λ (h : Header). h.count) x (headers ++ h ∷ []) in
    more ∙ omega (arith, sum, lines_in-push headers h)

-- the entries of headers and lines that can be written can be written
shown-take : (n : ℕ) (ls : List Line) → AllByRecursion CanShow ls → AllByRecursion CanShow (take n ls)
shown-take zero ls g = tt
shown-take (suc n) [] g = tt
shown-take (suc n) (l ∷ ls) g = (g.0, shown-take n ls g.1)

shown-drop : (n : ℕ) (ls : List Line) → AllByRecursion CanShow ls → AllByRecursion CanShow (drop n ls)
shown-drop zero ls g = g
shown-drop (suc n) [] g = tt
shown-drop (suc n) (l ∷ ls) g = shown-drop n ls g.1

written-entries_of : (headers : List Header) (lines : List Line) → AllByRecursion CanHead headers → AllByRecursion CanShow lines → AllByRecursion CanStand (entries_of headers lines)
written-entries_of [] lines h g = tt
written-entries_of (x ∷ headers) lines h g =
    (record { event = h.0.0; tick = h.0.1; lines = All-from_recursion CanShow (take x.count lines) (shown-take x.count lines g) }, written-entries_of headers (drop x.count lines) h.1 (shown-drop x.count lines g))

pub can_be_written : (headers : List Header) (lines : List Line) → length headers ≤ 4294967295 → All CanHead headers → All CanShow lines → CanBeWritten (entries_of headers lines)
can_be_written headers lines few h g = record {
  few = omega (arith, length-entries_of headers lines);
  entries = All-from_recursion CanStand (entries_of headers lines) (written-entries_of headers lines (recursion_from_All CanHead headers h) (recursion_from_All CanShow lines g));
}

-- ---- the entries before and behind a place

-- the first line of a header stands behind those of the headers before it
first-line : (place : ℕ) (headers : List Header) (at : ℕ) (d : Header) → StandFrom place headers → at < length headers → (get_or headers at d).first ≡ place + lines_in (take at headers)
first-line place [] at d stand lt = absurd (omega arith)
first-line place (x ∷ headers) zero d stand lt = stand.0 ∙ omega arith
first-line place (x ∷ headers) (suc at) d stand lt =
    let sum : lines_in (x ∷ take at headers) ≡ x.count + lines_in (take at headers) = sum_by-cons (λ (h : Header). h.count) x (take at headers) in
    omega (arith, first-line (place + x.count) headers at d stand.1 (omega arith), sum)

pub first-from : (headers : List Header) (at : ℕ) (d : Header) → StandFrom 0 headers → at < length headers → (get_or headers at d).first ≡ lines_in (take at headers)
first-from headers at d stand lt = omega (arith, first-line 0 headers at d stand lt)

-- the lines of the first headers are among all
pub lines-before : (headers : List Header) (at : ℕ) → lines_in (take at headers) + lines_in (drop at headers) ≡ lines_in headers
lines-before headers at = sum_by-take-drop (λ (h : Header). h.count) headers at

pub entries-before : (at : ℕ) (headers : List Header) (lines : List Line) → entries_of (take at headers) (take (lines_in (take at headers)) lines) ≡ take at (entries_of headers lines)
entries-before zero headers lines = refl
entries-before (suc at) [] lines = refl
entries-before (suc at) (x ∷ headers) lines =
    let m = lines_in (take at headers) in
    let sum : lines_in (x ∷ take at headers) ≡ x.count + m = sum_by-cons (λ (h : Header). h.count) x (take at headers) in
    let front : take x.count (take (x.count + m) lines) ≡ take x.count lines = take-take x.count (x.count + m) lines (omega arith) in
    let rest : drop x.count (take (x.count + m) lines) ≡ take m (drop x.count lines) = drop-take x.count m lines in
    ap (λ (n : ℕ). entries_of (x ∷ take at headers) (take n lines)) sum
    ∙ ap (λ (ls : List Line). record { event = x.event; tick = x.tick; lines = ls } ∷ entries_of (take at headers) (drop x.count (take (x.count + m) lines))) front
    ∙ ap (λ (ls : List Line). record { event = x.event; tick = x.tick; lines = take x.count lines } ∷ entries_of (take at headers) ls) rest
    ∙ ap (λ (es : List Entry). record { event = x.event; tick = x.tick; lines = take x.count lines } ∷ es) (entries-before at headers (drop x.count lines))

pub entries-behind : (at : ℕ) (headers : List Header) (lines : List Line) → entries_of (drop at headers) (drop (lines_in (take at headers)) lines) ≡ drop at (entries_of headers lines)
entries-behind zero headers lines = refl
entries-behind (suc at) [] lines = refl
entries-behind (suc at) (x ∷ headers) lines =
    let m = lines_in (take at headers) in
    let sum : lines_in (x ∷ take at headers) ≡ x.count + m = sum_by-cons (λ (h : Header). h.count) x (take at headers) in
    ap (λ (n : ℕ). entries_of (drop at headers) (drop n lines)) sum
    ∙ ap (entries_of (drop at headers)) (sym (drop-drop m x.count lines))
    ∙ entries-behind at headers (drop x.count lines)

-- ---- the lines of one entry

take-own : {X : Type 0} (xs ys : List X) → take (length xs) (xs ++ ys) ≡ xs
take-own [] ys = refl
take-own {X} (x ∷ xs) ys = ap (λ (zs : List X). x ∷ zs) (take-own xs ys)

drop-own : {X : Type 0} (xs ys : List X) (n : ℕ) → drop (length xs + n) (xs ++ ys) ≡ drop n ys
drop-own [] ys n = let same : 0 + n ≡ n = omega arith in ap (λ (k : ℕ). drop k ys) same
drop-own (x ∷ xs) ys n = let more : suc (length xs) + n ≡ suc (length xs + n) = omega arith in ap (λ (k : ℕ). drop k (x ∷ xs ++ ys)) more ∙ drop-own xs ys n

some-is : {X : Type 0} (x y : X) → Some x ≡ Some y → x ≡ y
some-is x y is = cc

lines-cons : (f : Entry) (journal : List Entry) → lines_of (f ∷ journal) ≡ f.lines ++ lines_of journal
lines-cons f journal = flat_map-cons (λ (x : Entry). x.lines) f journal

own-lines : (journal : List Entry) (place : ℕ) (e : Entry) → slice_get journal place ≡ Some e → take (length e.lines) (drop (line_count (take place journal)) (lines_of journal)) ≡ e.lines
own-lines [] place e is = absurd cc
own-lines (f ∷ journal) zero e is =
    let same : f ≡ e = some-is f e is in
    ap (λ (ls : List Line). take (length e.lines) ls) (lines-cons f journal) ∙ ap (λ (x : Entry). take (length e.lines) (x.lines ++ lines_of journal)) same ∙ take-own e.lines (lines_of journal)
own-lines (f ∷ journal) (suc place) e is =
    ap (λ (ls : List Line). take (length e.lines) (drop (line_count (f ∷ take place journal)) ls)) (lines-cons f journal)
    ∙ ap (λ (n : ℕ). take (length e.lines) (drop n (f.lines ++ lines_of journal))) (sum_by-cons (λ (x : Entry). length x.lines) f (take place journal))
    ∙ ap (λ (ls : List Line). take (length e.lines) ls) (drop-own f.lines (lines_of journal) (line_count (take place journal)))
    ∙ own-lines journal place e is

lines-fit : (journal : List Entry) (place : ℕ) (e : Entry) → slice_get journal place ≡ Some e → line_count (take place journal) + length e.lines ≤ line_count journal
lines-fit [] place e is = absurd cc
lines-fit (f ∷ journal) zero e is =
    let same : length f.lines ≡ length e.lines = ap (λ (x : Entry). length x.lines) (some-is f e is) in
    omega (arith, same, sum_by-cons (λ (x : Entry). length x.lines) f journal)
lines-fit (f ∷ journal) (suc place) e is =
    omega (arith, lines-fit journal place e is, sum_by-cons (λ (x : Entry). length x.lines) f journal, sum_by-cons (λ (x : Entry). length x.lines) f (take place journal))

pub entry-fits : (journal : List Entry) (place : ℕ) (event : Event) (tick first count : ℕ) → IsEntryAt journal place event tick first count → first + count ≤ line_count journal
entry-fits journal place event tick first count there = omega (arith, lines-fit journal place there.entry there.there, there.first_is, there.count_is)

pub entry-is : (journal : List Entry) (place : ℕ) (event : Event) (tick first count : ℕ) (lines : List Line) → IsEntryAt journal place event tick first count → lines ≡ take count (drop first (lines_of journal)) → (e : Entry) → slice_get journal place ≡ Some e → record { event = event; tick = tick; lines = lines } ≡ e
entry-is journal place event tick first count lines there are e is =
    let same : there.entry ≡ e = some-is there.entry e (sym there.there ∙ is) in
    let own : lines ≡ there.entry.lines =
    are ∙ ap (λ (n : ℕ). take n (drop first (lines_of journal))) there.count_is ∙ ap (λ (n : ℕ). take (length there.entry.lines) (drop n (lines_of journal))) there.first_is ∙ own-lines journal place there.entry there.there in
    ap (λ (x : Event). record { event = x; tick = tick; lines = lines }) there.event_is
    ∙ ap (λ (n : ℕ). record { event = there.entry.event; tick = n; lines = lines }) there.tick_is
    ∙ ap (λ (ls : List Line). record { event = there.entry.event; tick = there.entry.tick; lines = ls }) own
    ∙ same

-- the lines of a header are those of its entry
pub own-lines_are : (headers : List Header) (lines : List Line) (entries : List Entry) (first count : ℕ) (own : List Line) → entries_of headers lines ≡ entries → lines_in headers ≡ length lines → own ≡ take count (drop first lines) → own ≡ take count (drop first (lines_of entries))
own-lines_are headers lines entries first count own are total is =
    is ∙ ap (λ (ls : List Line). take count (drop first ls)) (sym (lines_of-entries_of headers lines total) ∙ ap lines_of are)

-- they are among all lines
pub own-lines_fit : (headers : List Header) (lines : List Line) (entries : List Entry) (at : ℕ) (event : Event) (tick first count : ℕ) → entries_of headers lines ≡ entries → lines_in headers ≡ length lines → IsEntryAt entries at event tick first count → first + count ≤ length lines
own-lines_fit headers lines entries at event tick first count are total there =
    omega (arith, entry-fits entries at event tick first count there, ap line_count are, line_count-entries_of headers lines total)

-- what is so of an answer where more is so
pub on-ok_more : {E : Type 0} (r : Result (Unit {0}) E) (P Q : Type 0) → (P → Q) → OnOk r P → OnOk r Q
on-ok_more (Ok x) P Q more h = more h
on-ok_more (Err e) P Q more h = tt

-- what is so of an answer for the one entry of a place
pub on-ok_each : {E : Type 0} (r : Result (Unit {0}) E) (P : Type 0) (Q : Entry → Type 0) (entries : List Entry) (at : ℕ) → ((e : Entry) → P → slice_get entries at ≡ Some e → Q e) → OnOk r P → OnOk r ((e : Entry) → slice_get entries at ≡ Some e → Q e)
on-ok_each (Ok x) P Q entries at more h = λ e there. more e h there
on-ok_each (Err e) P Q entries at more h = tt
