-- Whether the last entry is a sleep.
use Rattle.std.proofs.Common.{◌≡◌, ℕ, zero, suc, ◌+◌, ◌-◌, ◌<◌, List, [], ◌∷◌, ◌++◌, Some, None, Bool, length, take, refl, sym, ap, ◌∙◌, subst, arith, length-append}
use Rattle.std.specs.List.{slice_get}
use Rattle.std.proofs.lemmas.List.{append-nil}
use Rattle.std.proofs.lemmas.List.Concat.{flat_map-cons}
use Rattle.std.proofs.lemmas.List.Sums.{sum_by-cons}
use Rattle.rt_base.specs.declared.codes.Event.{Event}
use Rattle.rt_plain.specs.declared.entry.Entry.{Entry}
use Rattle.rt_plain.specs.declared.line.Line.{Line}
use Rattle.rt_plain.specs.PlainBoard.{PlainBoard}
use Rattle.rt_plain.specs.kernel.Sleeps.{Did as Happened, Made, Same, Halted}
use Rattle.rt_plain.specs.kernel.Steps.{happens}
use Rattle.rt_plain.specs.runs.Runs.{Course, after, course_after, line_count}
use Rattle.rt_plain.specs.runs.Schedules.{is_sleep, is_sleep_of}
use Rattle.journal.specs.JournalSeen.{IsEntryAt, lines_of}
use Rattle.kernel_step.specs.Did.{did_of, did_in, did_by}
use Rattle.kernel_step.specs.declared.did.Did.{Did}
use Rattle.core_runner.specs.Sleeps.{TellsSleep, TellsSleepOf}
use Rattle.core_runner.proofs.TurnLemmas.{after-live}

-- ---- the last entry

pub at-end : (before : List Entry) (e : Entry) → slice_get (before ++ e ∷ []) (length before) ≡ Some e
at-end [] e = refl
at-end (f ∷ before) e = at-end before e

pub take-end : (before : List Entry) (e : Entry) → take (length before) (before ++ e ∷ []) ≡ before
take-end [] e = refl
take-end (f ∷ before) e = ap (λ (es : List Entry). f ∷ es) (take-end before e)

behind : {X : Type 0} (xs ys : List X) (k n : ℕ) → k ≡ length xs + n → slice_get (xs ++ ys) k ≡ slice_get ys n
behind [] ys k n is = let less : k ≡ n = omega (arith, is) in ap (slice_get ys) less
behind (x ∷ xs) ys k n is = let more : k ≡ suc (length xs + n) = omega (arith, is) in rw more (behind xs ys (length xs + n) n refl)

first-line : (before : List Entry) (e : Entry) → slice_get (lines_of (before ++ e ∷ [])) (line_count before) ≡ slice_get e.lines 0
first-line [] e = ap (λ (ls : List Line). slice_get ls 0) (flat_map-cons (λ (x : Entry). x.lines) e [] ∙ append-nil e.lines)
first-line (f ∷ before) e =
    ap (λ (ls : List Line). slice_get ls (line_count (f ∷ before))) (flat_map-cons (λ (x : Entry). x.lines) f (before ++ e ∷ []))
    ∙ behind f.lines (lines_of (before ++ e ∷ [])) (line_count (f ∷ before)) (line_count before) (sum_by-cons (λ (x : Entry). length x.lines) f before)
    ∙ first-line before e

some-is : {X : Type 0} (x y : X) → Some x ≡ Some y → x ≡ y
some-is x y is = cc

-- the last entry, as it is read
last-is : (journal before : List Entry) (e : Entry) (at : ℕ) (event : Event) (tick first count : ℕ) → journal ≡ before ++ e ∷ [] → at ≡ length journal - 1 → IsEntryAt journal at event tick first count → (first ≡ line_count before) × (count ≡ length e.lines)
last-is journal before e at event tick first count is place there =
    let long : length journal ≡ length before + 1 = ap length is ∙ length-append before (e ∷ []) in
    let here : at ≡ length before = omega (arith, place, long) in
    let same : there.entry ≡ e = some-is _ _ (sym there.there ∙ ap (λ (k : ℕ). slice_get journal k) here ∙ ap (λ (j : List Entry). slice_get j (length before)) is ∙ at-end before e) in
    (there.first_is ∙ ap (λ (k : ℕ). line_count (take k journal)) here ∙ ap (λ (j : List Entry). line_count (take (length before) j)) is ∙ ap line_count (take-end before e), there.count_is ∙ ap (λ (x : Entry). length x.lines) same)

sleep-first : (lines : List Line) (line : Line) → slice_get lines 0 ≡ Some line → is_sleep (line ∷ []) ≡ is_sleep lines
sleep-first [] line is = absurd cc
sleep-first (l ∷ ls) line is = ap (λ (x : Line). is_sleep (x ∷ [])) (sym (some-is l line is)) ∙ alone l ls where
  alone : (l : Line) (ls : List Line) → is_sleep (l ∷ []) ≡ is_sleep (l ∷ ls)
  alone (Line.Run a) ls = refl
  alone (Line.Out a h) ls = refl
  alone (Line.Done a k c) ls = refl
  alone (Line.Again a k c) ls = refl
  alone (Line.Wake a w) ls = refl
  alone (Line.Cur a o n) ls = refl
  alone (Line.Fire a f) ls = refl
  alone (Line.Timeout a) ls = refl
  alone (Line.Rx d t n) ls = refl
  alone (Line.Tx d t) ls = refl
  alone (Line.Sleep m n) ls = refl
  alone (Line.Suspend d) ls = refl
  alone (Line.Resume d) ls = refl
  alone (Line.Tick n) ls = refl
  alone (Line.Print t) ls = refl
  alone (Line.Close a) ls = refl
  alone (Line.Own m a) ls = refl
  alone (Line.Mode m) ls = refl
  alone (Line.Work a f) ls = refl
  alone (Line.Unwork a) ls = refl

pub first-last : (journal : List Entry) (at : ℕ) (event : Event) (tick first count : ℕ) (line : Line) (slept : Bool) → at ≡ length journal - 1 → IsEntryAt journal at event tick first count → slice_get (lines_of journal) first ≡ Some line → slept ≡ is_sleep (line ∷ []) → TellsSleep journal slept
first-last journal at event tick first count line slept place there shows told before e is =
    let here = last-is journal before e at event tick first count is place there in
    let top : slice_get e.lines 0 ≡ Some line = sym (first-line before e) ∙ ap (λ (k : ℕ). slice_get (lines_of (before ++ e ∷ [])) k) (sym here.0) ∙ ap (λ (j : List Entry). slice_get (lines_of j) first) (sym is) ∙ shows in
    told ∙ sleep-first e.lines line top

-- a place that is among the lines
line-there : (journal : List Entry) (at first count : ℕ) (e : Entry) → slice_get journal at ≡ Some e → first ≡ line_count (take at journal) → count ≡ length e.lines → 0 < count → first < line_count journal
line-there [] at first count e is start long some = absurd cc
line-there (f ∷ journal) zero first count e is start long some =
    let same : f ≡ e = some-is f e is in
    let longer : length f.lines ≡ count = ap (λ (x : Entry). length x.lines) same ∙ sym long in
    omega (arith, start, longer, some, sum_by-cons (λ (x : Entry). length x.lines) f journal)
line-there (f ∷ journal) (suc at) first count e is start long some =
    let rest = line-there journal at (line_count (take at journal)) count e is refl long some in
    omega (arith, start, rest, sum_by-cons (λ (x : Entry). length x.lines) f journal, sum_by-cons (λ (x : Entry). length x.lines) f (take at journal))

pub has-line : (journal : List Entry) (at : ℕ) (event : Event) (tick first count : ℕ) → IsEntryAt journal at event tick first count → 0 < count → first < line_count journal
has-line journal at event tick first count there some = line-there journal at first count there.entry there.there there.first_is there.count_is some

-- ---- what an event did

by-did : (b : PlainBoard) (c : Course) (e : Event) (d : Happened) (slept : Bool) → TellsSleepOf (did_of d) (course_after b c e d).journal slept → slept ≡ is_sleep_of d
by-did b c e (Made s lines) slept tells = tells c.journal _ refl
by-did b c e Same slept tells = tells
by-did b c e (Halted h) slept tells = tells

pub slept-of : (b : PlainBoard) (c new : Course) (e : Event) (did : Did) (slept : Bool) → c.halt ≡ None → new ≡ after b c e → did ≡ did_by b c e → TellsSleepOf did new.journal slept → slept ≡ is_sleep_of (happens b c.state e)
slept-of b c new e did slept live is answered tells =
    let made : new ≡ course_after b c e (happens b c.state e) = is ∙ after-live b c e live in
    let answer : did ≡ did_of (happens b c.state e) = answered ∙ ap (λ h. did_in h (happens b c.state e)) live in
    by-did b c e (happens b c.state e) slept (subst (λ (d : Did). TellsSleepOf d (course_after b c e (happens b c.state e)).journal slept) answer (subst (λ (x : Course). TellsSleepOf did x.journal slept) made tells))
