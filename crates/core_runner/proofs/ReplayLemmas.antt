-- The lines of a trace, one after the other.
use Rattle.std.proofs.Common.{◌≡◌, ℕ, zero, suc, ◌+◌, ◌<◌, ◌≤◌, Bool, true, false, cond, eqb, List, [], ◌∷◌, ◌++◌, length, take, drop, get_or, Option, Some, None, refl, sym, ap, ◌∙◌, subst, arith, append_assoc, length-append}
use Rattle.std.proofs.lemmas.List.{append-nil}
use Rattle.rt_base.specs.declared.codes.Halt.{Halt}
use Rattle.rt_plain.specs.declared.entry.Entry.{Entry}
use Rattle.rt_plain.specs.PlainBoard.{PlainBoard}
use Rattle.rt_plain.specs.kernel.State.{State}
use Rattle.rt_plain.specs.kernel.Shown.{shown}
use Rattle.rt_plain.specs.kernel.Sleeps.{is_empty}
use Rattle.rt_plain.specs.runs.Runs.{Course, IsComplete, halt_of, is_over}
use Rattle.rt_plain.specs.runs.Replays.{IsAgreement, IsCutOf, IsGood, is_whole}
use Rattle.rt_plain.specs.runs.Agreement.{Reader, Read, Stop, On, counted_on, ended_on, is_ended_pass, lines_agreeing, pass, pass_ends, read_line, reader}
use Rattle.rt_plain.specs.runs.Agreement.{End as Ends}
use Rattle.rt_plain.specs.text.Texts.{with_newline, body_text, end_text}
use Rattle.rt_plain.specs.text.TraceRows.{Ended, lengthen, row_text, whole_lines_of}
use Rattle.rt_plain.proofs.runs.AgreeLemmas.{IsFine, Leaves, leaves-line}
use Rattle.core_runner.specs.declared.trace_reader.Next.{Next}
use Rattle.core_runner.specs.declared.trace_reader.TraceReader.{TraceReader}
use Rattle.core_runner.specs.Parts.{IsLine}
use Rattle.core_runner.specs.Replaying.{IsAt, HasEnded, Follows}
use Rattle.core_runner.specs.Replays.{IsTraceOf, IsUnlike}
use Rattle.core_runner.proofs.ReaderLemmas.{split-at}

-- where the loop stands: behind these bytes of the trace, at this place of the pass
pub record IsOnTrace (b : PlainBoard) (trace rest : List ℕ) (t : TraceReader) (line_no : ℕ) : Type 0 where
  pub front : List ℕ
  pub split : front ++ rest ≡ trace
  pub place : Reader
  pub at : IsAt b front t place
  pub fine : IsFine b place
  pub counts : lines_agreeing b trace + 1 ≡ line_no + pass b place (whole_lines_of rest)
  pub ends : is_ended_pass b trace ≡ pass_ends b place (whole_lines_of rest)
  pub few : line_no ≤ length front + 1

pub begins : (b : PlainBoard) (trace : List ℕ) (t : TraceReader) → is_over b [] ≡ false → IsAt b [] t (reader b) → IsOnTrace b trace trace t 1
begins b trace t starts at = record {
  front = [];
  split = refl;
  place = reader b;
  at = at;
  fine = record { run = refl; in_time = λ halt live halts. starts };
  counts = omega arith;
  ends = refl;
  few = omega arith;
}

-- ---- what the reader told

follows-stop : (b : PlainBoard) (front l : List ℕ) (r : Reader) (read : Read) (t : TraceReader) → Follows b front l r read Next.Stop t → read ≡ Stop
follows-stop b front l r Stop t f = refl
follows-stop b front l r Ends t f = absurd f
follows-stop b front l r (On next) t f = absurd f

follows-end : (b : PlainBoard) (front l : List ℕ) (r : Reader) (read : Read) (t : TraceReader) → Follows b front l r read Next.End t → (read ≡ Ends) × HasEnded b front t r
follows-end b front l r Stop t f = absurd f
follows-end b front l r Ends t f = (refl, f)
follows-end b front l r (On next) t f = absurd f

follows-on : (b : PlainBoard) (front l : List ℕ) (r : Reader) (read : Read) (t : TraceReader) → Follows b front l r read Next.On t → (next : Reader) × (read ≡ On next) × IsAt b (front ++ with_newline l) t next
follows-on b front l r Stop t f = absurd f
follows-on b front l r Ends t f = absurd f
follows-on b front l r (On next) t f = (next, refl, f)

-- the same of the board that was read
pub told-by : (b seen : PlainBoard) (trace rest : List ℕ) (old : TraceReader) (line_no i : ℕ) (next wanted : Next) (new : TraceReader) (way : IsOnTrace b trace rest old line_no) → seen ≡ b → next ≡ wanted
    → ((front : List ℕ) (r : Reader) → IsAt seen front old r → Follows seen front (take i rest) r (read_line seen r (take i rest) r.due) next new)
    → Follows b way.front (take i rest) way.place (read_line b way.place (take i rest) way.place.due) wanted new
told-by b seen trace rest old line_no i next wanted new way board is told =
    let l = take i rest in
    let f = told way.front way.place (subst (λ (x : PlainBoard). IsAt x way.front old way.place) (sym board) way.at) in
    subst (λ (n : Next). Follows b way.front l way.place (read_line b way.place l way.place.due) n new) is
    (subst (λ (x : PlainBoard). Follows x way.front l way.place (read_line x way.place l way.place.due) next new) board f)

-- ---- bytes behind which a newline stands

lengthened : (b : ℕ) (ls : List (List ℕ)) → lengthen b ls ≡ [] → ls ≡ []
lengthened b [] e = refl
lengthened b (l ∷ ls) e = absurd cc

split-step : (b : ℕ) (ls : List (List ℕ)) (t : Bool) → cond t ([] ∷ ls) (lengthen b ls) ≡ [] → ls ≡ []
split-step b ls true e = absurd cc
split-step b ls false e = lengthened b ls e

newline-there : (b : ℕ) (t : Bool) → t ≡ true → cond t ([] ∷ []) (lengthen b []) ≡ [] → ⊥
newline-there b true is e = absurd cc
newline-there b false is e = absurd cc

whole-some : (xs : List ℕ) → (xs ≡ [] → ⊥) → is_whole xs ≡ true → whole_lines_of xs ≡ [] → ⊥
whole-some [] some is e = some refl
whole-some (b ∷ []) some is e = newline-there b (eqb b 10) is e
whole-some (b ∷ c ∷ xs) some is e = whole-some (c ∷ xs) (λ never. let bad : c ∷ xs ≡ [] = never in absurd cc) is (split-step b (whole_lines_of (c ∷ xs)) (eqb b 10) e)

-- the last of these bytes is a newline, so the last ones have a line
some-lines : (xs ys : List ℕ) → (ys ≡ [] → ⊥) → is_whole (xs ++ ys) ≡ true → whole_lines_of ys ≡ [] → ⊥
some-lines [] ys some is e = whole-some ys some is e
some-lines (x ∷ []) [] some is e = some refl
some-lines (x ∷ []) (y ∷ ys) some is e = whole-some (y ∷ ys) some is e
some-lines (x ∷ z ∷ xs) ys some is e = some-lines (z ∷ xs) ys some is e

-- ---- a line that a newline ends

line-split : (rest : List ℕ) (i : ℕ) → IsLine rest i → rest ≡ with_newline (take i rest) ++ drop (i + 1) rest
line-split rest i line =
    split-at i rest line.there ∙ ap (λ (c : ℕ). take i rest ++ c ∷ drop (i + 1) rest) line.newline ∙ sym (append_assoc (take i rest) (10 ∷ []) (drop (i + 1) rest))

module _ (b : PlainBoard) (trace rest : List ℕ) (old : TraceReader) (line_no i : ℕ) (way : IsOnTrace b trace rest old line_no) (line : IsLine rest i) where
  abbrev r : Reader
  r = way.place

  abbrev l : List ℕ
  l = take i rest

  abbrev ls : List (List ℕ)
  ls = whole_lines_of (drop (i + 1) rest)

  passed : (read : Read) → read_line b r l r.due ≡ read → lines_agreeing b trace + 1 ≡ line_no + counted_on read (λ next. pass b next ls)
  passed read is = way.counts ∙ ap (λ (x : List (List ℕ)). line_no + pass b r x) line.lines ∙ ap (λ (x : Read). line_no + counted_on x (λ next. pass b next ls)) is

  ended : (read : Read) → read_line b r l r.due ≡ read → is_ended_pass b trace ≡ ended_on read ls (λ next. pass_ends b next ls)
  ended read is = way.ends ∙ ap (pass_ends b r) line.lines ∙ ap (λ (x : Read). ended_on x ls (λ next. pass_ends b next ls)) is

  left : (read : Read) → read_line b r l r.due ≡ read → Leaves b r l read
  left read is = subst (Leaves b r l) is (leaves-line b r l r.due way.fine refl)

  whole : way.front ++ (with_newline l ++ drop (i + 1) rest) ≡ trace
  whole = ap (λ (x : List ℕ). way.front ++ x) (sym (line-split rest i line)) ∙ way.split

  pub few-lines : line_no + length rest ≤ length trace + 1
  few-lines = omega (arith, way.few, ap length way.split, length-append way.front rest)

  pub goes-on_line : (new : TraceReader) → Follows b way.front l r (read_line b r l r.due) Next.On new → IsOnTrace b trace (drop (i + 1) rest) new (line_no + 1)
  goes-on_line new f =
      let told = follows-on b way.front l r (read_line b r l r.due) new f in
      let next : Reader = told.0 in
      let is : read_line b r l r.due ≡ On next = told.1 in
      let counts = passed (On next) is in
      record {
        front = way.front ++ with_newline l;
        split = append_assoc way.front (with_newline l) (drop (i + 1) rest) ∙ whole;
        place = next;
        at = told.2;
        fine = (left (On next) is).0;
        counts = omega (arith, counts);
        ends = ended (On next) is;
        few = omega (arith, way.few, length-append way.front (with_newline l), length-append l (10 ∷ []));
      }

  pub stops-line : (new : TraceReader) → Follows b way.front l r (read_line b r l r.due) Next.Stop new → IsAgreement b trace (lines_agreeing b trace) → (IsGood b trace → (is_ended_pass b trace ≡ true) × (is_whole trace ≡ true)) → IsUnlike b trace line_no
  stops-line new f agreement good =
      let is = follows-stop b way.front l r (read_line b r l r.due) new f in
      let counts = passed Stop is in
      record {
        bad = λ g. let e : false ≡ true = sym (ended Stop is) ∙ (good g).0 in absurd cc;
        agreeing = lines_agreeing b trace;
        agreement = agreement;
        number = omega (arith, counts);
      }

  halt-same : (x y : Halt) → Some x ≡ Some y → x ≡ y
  halt-same x y is = cc

  pub ends-line : (new : TraceReader) → Follows b way.front l r (read_line b r l r.due) Next.End new → drop (i + 1) rest ≡ [] → IsTraceOf b trace new.machine.course new.cut
  ends-line new f last =
      let told = follows-end b way.front l r (read_line b r l r.due) new f in
      let e = told.1 in
      let end = left Ends told.0 in
      let same : end.0 ≡ e.halt = halt-same end.0 e.halt (sym end.2 ∙ e.halt_is) in
      let line_is : l ≡ row_text (Ended e.halt (shown b r.state.moment)) = end.3 ∙ ap (λ (h : Halt). row_text (Ended h (shown b r.state.moment))) same in
      let complete : IsComplete b r.done e.halt (shown b r.state.moment) = record { state = r.state; within = record { is_run = way.fine.run; last = way.fine.in_time }; halted = e.halt_is; at = refl } in
      record {
        halt = e.halt;
        halted = e.halted;
        complete = subst (λ (s : State). IsComplete b new.machine.course.journal e.halt (shown b s.moment)) (sym e.state) (subst (λ (j : List Entry). IsComplete b j e.halt (shown b r.state.moment)) (sym e.done) complete);
        cut_is = subst (λ (j : List Entry). IsCutOf b j new.cut) (sym e.done) e.cut;
        text_is = sym whole ∙ ap (λ (x : List ℕ). way.front ++ (with_newline l ++ x)) last ∙ ap (λ (x : List ℕ). way.front ++ x) (append-nil (with_newline l))
            ∙ ap (λ (x : List ℕ). x ++ with_newline l) e.text
            ∙ ap (λ (x : List ℕ). body_text r.done new.cut ++ with_newline x) line_is
            ∙ ap (λ (j : List Entry). body_text j new.cut ++ end_text (Some (record { halt = e.halt; tick = shown b r.state.moment }))) (sym e.done)
            ∙ ap (λ (s : State). body_text new.machine.course.journal new.cut ++ end_text (Some (record { halt = e.halt; tick = shown b s.moment }))) (sym e.state);
      }

  -- bytes behind the end line
  pub more-behind : (new : TraceReader) → Follows b way.front l r (read_line b r l r.due) Next.End new → (drop (i + 1) rest ≡ [] → ⊥) → IsAgreement b trace (lines_agreeing b trace) → (IsGood b trace → (is_ended_pass b trace ≡ true) × (is_whole trace ≡ true)) → IsUnlike b trace (line_no + 1)
  more-behind new f more agreement good =
      let is = (follows-end b way.front l r (read_line b r l r.due) new f).0 in
      let counts = passed Ends is in
      record {
        bad = λ g. some-lines (way.front ++ with_newline l) (drop (i + 1) rest) more (ap is_whole (append_assoc way.front (with_newline l) (drop (i + 1) rest) ∙ whole) ∙ (good g).1) (none-left ls (sym (ended Ends is) ∙ (good g).0));
        agreeing = lines_agreeing b trace;
        agreement = agreement;
        number = omega (arith, counts);
      } where
        none-left : (xs : List (List ℕ)) → is_empty xs ≡ true → xs ≡ []
        none-left [] e = refl
        none-left (x ∷ xs) e = absurd cc

-- where no line is left
pub no-line_left : (b : PlainBoard) (trace rest : List ℕ) (t : TraceReader) (line_no : ℕ) → IsOnTrace b trace rest t line_no → whole_lines_of rest ≡ [] → IsAgreement b trace (lines_agreeing b trace) → (IsGood b trace → (is_ended_pass b trace ≡ true) × (is_whole trace ≡ true)) → IsUnlike b trace line_no
no-line_left b trace rest t line_no way none agreement good =
    let counts : lines_agreeing b trace + 1 ≡ line_no + 0 = way.counts ∙ ap (λ (x : List (List ℕ)). line_no + pass b way.place x) none in
    record {
      bad = λ g. let e : false ≡ true = sym (way.ends ∙ ap (pass_ends b way.place) none) ∙ (good g).0 in absurd cc;
      agreeing = lines_agreeing b trace;
      agreement = agreement;
      number = omega (arith, counts);
    }
