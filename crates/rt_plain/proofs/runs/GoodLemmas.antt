-- A trace is good exactly where one pass takes all its lines, the last one as the end line, and nothing follows them.
use Rattle.std.proofs.Common.{◌≡◌, ℕ, zero, suc, ◌+◌, ◌≤◌, Bool, true, false, cond, eqb, List, [], ◌∷◌, ◌++◌, length, take, Option, Some, None, refl, sym, ap, ◌∙◌, arith, append_assoc, eqb-true}
use Rattle.std.proofs.lemmas.List.{append-nil, take_all}
use Rattle.rt_plain.specs.declared.entry.Entry.{Entry}
use Rattle.rt_plain.specs.PlainBoard.{PlainBoard}
use Rattle.rt_plain.specs.runs.Runs.{is_over}
use Rattle.rt_plain.specs.text.Texts.{End, entry_text, entries_text, end_text, body_text}
use Rattle.rt_plain.specs.text.TraceRows.{Ended, row_text, lengthen, whole_lines_of}
use Rattle.rt_plain.specs.runs.Replays.{IsGood, whole_lines, is_whole}
use Rattle.rt_plain.specs.runs.Agreement.{Reader, Read, Stop, On, read_line, counted_on, pass, reader, lines_agreeing, ended_on, pass_ends, is_ended_pass}
use Rattle.rt_plain.specs.runs.Agreement.{End as Ends}
use Rattle.rt_plain.proofs.runs.AgreeLemmas.{GoesOn, IsFine, Leaves, Reads, IsEnded, AreUnbroken, all_lines, rest_text, cut_at, place_of, cut_line, leaves-line, reads-line, lines-unbroken, lines-count, nothing, end-here, whole-text, cut-text_is, cuts-of, cut-is, end-is}

-- ---- the lines of a text that ends with a newline

whole-step : (b c : ℕ) (bs : List ℕ) (ls : List (List ℕ)) (t : Bool) → eqb b 10 ≡ t → all_lines ls ≡ c ∷ bs → all_lines (cond t ([] ∷ ls) (lengthen b ls)) ≡ b ∷ c ∷ bs
whole-step b c bs ls true is same = ap (λ (x : ℕ). x ∷ all_lines ls) (sym (eqb-true b 10 is)) ∙ ap (λ (x : List ℕ). b ∷ x) same
whole-step b c bs [] false is same = absurd cc
whole-step b c bs (l ∷ ls) false is same = ap (λ (x : List ℕ). b ∷ x) same

last-byte : (b : ℕ) (t : Bool) → eqb b 10 ≡ t → t ≡ true → all_lines (cond t ([] ∷ []) []) ≡ b ∷ []
last-byte b true is whole = ap (λ (x : ℕ). x ∷ []) (sym (eqb-true b 10 is))
last-byte b false is whole = absurd cc

all-whole : (text : List ℕ) → is_whole text ≡ true → all_lines (whole_lines_of text) ≡ text
all-whole [] is = refl
all-whole (b ∷ []) is = last-byte b (eqb b 10) refl is
all-whole (b ∷ c ∷ bs) is = whole-step b c bs (whole_lines_of (c ∷ bs)) (eqb b 10) refl (all-whole (c ∷ bs) is)

newline-last : (xs : List ℕ) → is_whole (xs ++ 10 ∷ []) ≡ true
newline-last [] = refl
newline-last (x ∷ []) = refl
newline-last (x ∷ y ∷ xs) = newline-last (y ∷ xs)

line-last : (xs line : List ℕ) → is_whole (xs ++ (line ++ 10 ∷ [])) ≡ true
line-last xs line = ap is_whole (sym (append_assoc xs line (10 ∷ []))) ∙ newline-last (xs ++ line)

-- ---- where the pass ends so, the lines are the text of a complete run

finishes-read : (b : PlainBoard) (r : Reader) (l : List ℕ) (ls : List (List ℕ)) (read : Read) → IsFine b r → Leaves b r l read → ended_on read ls (λ next. pass_ends b next ls) ≡ true
    → ((next : Reader) → IsFine b next → pass_ends b next ls ≡ true → (e : End) × GoesOn b next (length ls) ls (Some e) []) → (e : End) × GoesOn b r (suc (length ls)) (l ∷ ls) (Some e) []
finishes-read b r l ls Stop fine left is more = absurd cc
finishes-read b r l [] Ends fine left is more = (_, end-here b r l [] fine left)
finishes-read b r l (m ∷ ls) Ends fine left is more = absurd cc
finishes-read b r l ls (On next) fine left is more = let g = more next left.0 is in (g.0, left.1 (length ls) ls (Some g.0) [] g.1)

finishes : (b : PlainBoard) (ls : List (List ℕ)) (r : Reader) → IsFine b r → pass_ends b r ls ≡ true → (e : End) × GoesOn b r (length ls) ls (Some e) []
finishes b [] r fine is = absurd cc
finishes b (l ∷ ls) r fine is = finishes-read b r l ls (read_line b r l r.due) fine (leaves-line b r l r.due fine refl) is (finishes b ls)

all-taken : (text : List ℕ) → is_whole text ≡ true → all_lines (take (length (whole_lines_of text)) (whole_lines_of text)) ++ [] ≡ text
all-taken text whole =
    let ls = whole_lines_of text in
    append-nil (all_lines (take (length ls) ls)) ∙ ap all_lines (take_all (length ls) ls (omega arith)) ∙ all-whole text whole

pub good-by-pass : (b : PlainBoard) (text : List ℕ) → is_over b [] ≡ false → is_ended_pass b text ≡ true → is_whole text ≡ true → IsGood b text
good-by-pass b text starts ended whole =
    let fine : IsFine b (reader b) = record { run = refl; in_time = λ halt live halts. starts } in
    let found = finishes b (whole_lines_of text) (reader b) fine ended in
    let end = found.0 in
    let g = found.1 in
    record {
      journal = g.journal;
      cut = cut_at b g.journal g.cut;
      end = end;
      cut_is = cut-is b g.journal g.cut g.cuts;
      complete = end-is b g.journal g.state (Some end) (record { is_run = g.run; last = g.in_time }) g.ends;
      text_is = sym (all-taken text whole) ∙ g.begins ∙ sym (cut-text_is b g.journal g.cut (Some end) g.cuts);
    }

-- ---- the pass over a good trace ends so

behind-none : (x y : List ℕ) → x ++ y ≡ [] → y ≡ []
behind-none [] y is = is
behind-none (c ∷ x) y is = absurd cc

some-end : (e : End) → end_text (Some e) ≡ [] → ⊥
some-end e is = nothing (row_text (Ended e.halt e.tick)) [] is

-- an end line is always to come
never-none : (b : PlainBoard) (done journal : List Entry) (cut : Option ℕ) (e : End) → rest_text b done journal cut (Some e) ≡ [] → ⊥
never-none b done journal None e is = some-end e (behind-none (entries_text (length done + 1) journal) (end_text (Some e)) is)
never-none b done journal (Some zero) e is = some-end e (behind-none (entries_text (length done + 1) journal) (end_text (Some e)) (behind-none (cut_line b done) _ is))
never-none b done [] (Some (suc at)) e is = some-end e is
never-none b done (f ∷ journal) (Some (suc at)) e is = never-none b (done ++ f ∷ []) journal (Some at) e (behind-none (entry_text (length done + 1) f) _ is)

finished : (b : PlainBoard) (ls : List (List ℕ)) (e : End) (read : Read) → Reads b (length ls) ls (Some e) [] read → ((next : Reader) → IsEnded next.due → GoesOn b next (length ls) ls (Some e) [] → pass_ends b next ls ≡ true) → ended_on read ls (λ next. pass_ends b next ls) ≡ true
finished b ls e Stop reads more = absurd reads
finished b [] e Ends reads more = refl
finished b (l ∷ ls) e Ends reads more = absurd (omega (arith, reads))
finished b ls e (On next) reads more = more next reads.0 reads.1

ends : (b : PlainBoard) (ls : List (List ℕ)) → b.cores ≤ 256 → AreUnbroken ls → (r : Reader) (e : End) → IsEnded r.due → GoesOn b r (length ls) ls (Some e) [] → pass_ends b r ls ≡ true
ends b [] few u r e due g = absurd (never-none b r.done g.journal g.cut e (behind-none r.due _ (sym g.begins)))
ends b (l ∷ ls) few u r e due g = finished b ls e (read_line b r l r.due) (reads-line b r r.due l ls (length ls) (Some e) [] refl few (omega arith) u.0 due g) (λ next ended more. ends b ls few u.1 next e ended more)

pub pass-by-good : (b : PlainBoard) (text : List ℕ) → b.cores ≤ 256 → IsGood b text → (is_ended_pass b text ≡ true) × (is_whole text ≡ true)
pass-by-good b text few good =
    let whole : is_whole text ≡ true = ap is_whole good.text_is ∙ line-last (body_text good.journal good.cut) (row_text (Ended good.end.halt good.end.tick)) in
    let within = good.complete.within in (
      ends b (whole_lines_of text) few (lines-unbroken text) (reader b) good.end tt (record {
        journal = good.journal;
        state = good.complete.state;
        run = within.is_run;
        in_time = within.last;
        cut = place_of good.cut;
        cuts = cuts-of b good.journal good.cut good.cut_is;
        ends = (good.complete.halted, good.complete.at);
        begins = all-taken text whole ∙ good.text_is ∙ whole-text b good.journal good.cut (Some good.end) good.cut_is;
      }),
      whole,
    )

-- ---- a pass that ends so counts all lines

counted-read : (b : PlainBoard) (ls : List (List ℕ)) (read : Read) → ended_on read ls (λ next. pass_ends b next ls) ≡ true → ((next : Reader) → pass_ends b next ls ≡ true → pass b next ls ≡ length ls) → counted_on read (λ next. pass b next ls) ≡ suc (length ls)
counted-read b ls Stop is more = absurd cc
counted-read b [] Ends is more = refl
counted-read b (l ∷ ls) Ends is more = absurd cc
counted-read b ls (On next) is more = omega (arith, more next is)

all-counted : (b : PlainBoard) (ls : List (List ℕ)) (r : Reader) → pass_ends b r ls ≡ true → pass b r ls ≡ length ls
all-counted b [] r is = refl
all-counted b (l ∷ ls) r is = counted-read b ls (read_line b r l r.due) is (all-counted b ls)

pub pass-counts : (b : PlainBoard) (text : List ℕ) → is_ended_pass b text ≡ true → lines_agreeing b text ≡ whole_lines text
pass-counts b text ended = all-counted b (whole_lines_of text) (reader b) ended ∙ lines-count text
