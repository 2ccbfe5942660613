-- What the reader of a trace does with a line is what the pass does with it.
use Rattle.std.proofs.Common.{◌≡◌, ℕ, zero, suc, ◌+◌, ◌-◌, ◌<◌, ◌≤◌, Bool, true, false, not, ◌&&◌, cond, eqb, List, [], ◌∷◌, ◌++◌, length, take, drop, get_or, Option, Some, None, Result, IfOk, is_some, refl, sym, ap, ◌∙◌, subst, arith, append_assoc, length-append, length-take-le, inl, inr, ◌⊎◌}
use Rattle.std.specs.Prelude.{bytes_eq}
use Rattle.std.specs.List.{slice_get}
use Rattle.std.proofs.lemmas.List.{append-nil, take_all, drop_all, take_rest}
use Rattle.std.proofs.lemmas.Bool.{eqb-true, eqb-false, eq-eqb, both_ways}
use Rattle.std.proofs.lemmas.Slice.Eq.{bytes_eq-Decides}
use Rattle.rt_base.specs.declared.codes.Event.{Event}
use Rattle.rt_base.specs.declared.codes.Halt.{Halt}
use Rattle.rt_plain.specs.declared.entry.Cut.{Cut}
use Rattle.rt_plain.specs.declared.entry.Entry.{Entry}
use Rattle.rt_plain.specs.declared.line.Line.{Line}
use Rattle.rt_plain.specs.PlainBoard.{PlainBoard}
use Rattle.rt_plain.specs.kernel.State.{State}
use Rattle.rt_plain.specs.kernel.Shown.{shown}
use Rattle.rt_plain.specs.kernel.Sleeps.{Did as Happened, Made, Same, Halted}
use Rattle.rt_plain.specs.kernel.Steps.{happens, unhalted_step_did, unhalted_tick_did}
use Rattle.rt_plain.specs.runs.Runs.{Course, IsReached, after, course_after, entry_tick, events_of, halt_of, halt_of_did, is_event_of, is_over, course_unless}
use Rattle.rt_plain.specs.runs.Live.{owner_counts}
use Rattle.rt_plain.specs.runs.Replays.{IsCutOf, CountsEntries}
use Rattle.rt_plain.specs.runs.Agreement.{Reader, Read, Stop, On, behind_front, cut_now, event_named, is_end_of, is_late, may_follow, on_entry, read_cut, read_due, read_entry, read_event, read_line, read_made, read_outer}
use Rattle.rt_plain.specs.runs.Agreement.{End as Ends}
use Rattle.rt_plain.specs.text.Splits.{word_at, words_of}
use Rattle.rt_plain.specs.text.Texts.{body_text, cut_text, entries_text, entry_text, with_newline}
use Rattle.rt_plain.specs.text.TraceRows.{Counted, Ended, row_text}
use Rattle.kernel_step.specs.Did.{did_by, did_in, did_of}
use Rattle.kernel_step.specs.MachineSeen.{MachineSeen}
use Rattle.kernel_step.specs.declared.did.Did.{Did}
use Rattle.kernel_step.specs.declared.did.Did.TheVariants.{Entry as Entered, Same as Stayed, Halted as Ended_so}
use Rattle.core_runner.specs.declared.trace_reader.Next.{Next}
use Rattle.core_runner.specs.declared.trace_reader.TraceReader.{TraceReader}
use Rattle.core_runner.specs.Parts.{IsCutLine, event_on}
use Rattle.core_runner.specs.Replaying.{IsOpen, IsFull, IsAt, HasEnded, HasMade, IsClosedBy, Stands, Follows}
use Rattle.core_runner.proofs.PartLemmas.{take-own}
use Rattle.core_runner.proofs.SleptLemmas.{at-end, take-end}
use Rattle.core_runner.proofs.TurnLemmas.{after-live}

-- ---- bytes in front of others

own-front : (w rest : List ℕ) → behind_front w (w ++ rest) ≡ Some rest
own-front [] rest = refl
own-front (b ∷ w) rest = ap (λ (t : Bool). cond t (behind_front w (w ++ rest)) None) (eq-eqb b b refl) ∙ own-front w rest

front_step : (b c : ℕ) (w cs rest : List ℕ) (t : Bool) → eqb b c ≡ t → (behind_front w cs ≡ Some rest → cs ≡ w ++ rest) → cond t (behind_front w cs) None ≡ Some rest → c ∷ cs ≡ b ∷ w ++ rest
front_step b c w cs rest true e ih is = ap (λ (x : ℕ). x ∷ cs) (sym (eqb-true b c e)) ∙ ap (λ (x : List ℕ). b ∷ x) (ih is)
front_step b c w cs rest false e ih is = absurd cc

same-rest : (x y : List ℕ) → Some x ≡ Some y → x ≡ y
same-rest x y e = cc

pub front-is : (w bytes rest : List ℕ) → behind_front w bytes ≡ Some rest → bytes ≡ w ++ rest
front-is [] bytes rest e = same-rest bytes rest e
front-is (b ∷ w) [] rest e = absurd cc
front-is (b ∷ w) (c ∷ cs) rest e = front_step b c w cs rest (eqb b c) refl (front-is w cs rest) e

none-by : (o : Option (List ℕ)) → ((rest : List ℕ) → o ≡ Some rest → ⊥) → o ≡ None
none-by None never = refl
none-by (Some rest) never = absurd (never rest refl)

with-long : (line rest : List ℕ) → length (with_newline line ++ rest) ≡ length line + 1 + length rest
with-long line rest = omega (arith, length-append (with_newline line) rest, length-append line (10 ∷ []))

take-front : (line rest : List ℕ) → take (length line) (line ++ rest) ≡ line
take-front [] rest = refl
take-front (b ∷ line) rest = ap (λ (x : List ℕ). b ∷ x) (take-front line rest)

get-newline : (line rest : List ℕ) → get_or (with_newline line ++ rest) (length line) 0 ≡ 10
get-newline [] rest = refl
get-newline (b ∷ line) rest = get-newline line rest

drop-newline : (line rest : List ℕ) → drop (length line + 1) (with_newline line ++ rest) ≡ rest
drop-newline [] rest = refl
drop-newline (b ∷ line) rest = let more : suc (length line) + 1 ≡ suc (length line + 1) = omega arith in ap (λ (n : ℕ). drop n (b ∷ (with_newline line ++ rest))) more ∙ drop-newline line rest

pub too-short : (line bytes : List ℕ) → length bytes ≤ length line → behind_front (with_newline line) bytes ≡ None
too-short line bytes le = none-by _ (λ rest is. absurd (let long = ap length (front-is (with_newline line) bytes rest is) in omega (arith, long, with-long line rest)))

pub other-line : (line bytes : List ℕ) → bytes_eq line (take (length line) bytes) ≡ false → behind_front (with_newline line) bytes ≡ None
other-line line bytes other = none-by _ (λ rest is.
    let same : take (length line) bytes ≡ line = ap (take (length line)) (front-is (with_newline line) bytes rest is ∙ append_assoc line (10 ∷ []) rest) ∙ take-front line (10 ∷ rest) in
    both_ways _ other ((bytes_eq-Decides line (take (length line) bytes)).1 (sym same)))

pub goes-on : (line bytes : List ℕ) → (get_or bytes (length line) 0 ≡ 10 → ⊥) → behind_front (with_newline line) bytes ≡ None
goes-on line bytes other = none-by _ (λ rest is. other (ap (λ (x : List ℕ). get_or x (length line) 0) (front-is (with_newline line) bytes rest is) ∙ get-newline line rest))

pub split-at : (n : ℕ) (bytes : List ℕ) → n < length bytes → bytes ≡ take n bytes ++ get_or bytes n 0 ∷ drop (n + 1) bytes
split-at n [] lt = absurd (omega arith)
split-at zero (b ∷ bytes) lt = refl
split-at (suc n) (b ∷ bytes) lt =
    let more : suc n + 1 ≡ suc (n + 1) = omega arith in
    ap (λ (x : List ℕ). b ∷ x) (split-at n bytes (omega arith)) ∙ ap (λ (k : ℕ). b ∷ (take n bytes ++ get_or bytes n 0 ∷ drop k (b ∷ bytes))) (sym more)

pub stands-there : (line bytes : List ℕ) → length line < length bytes → bytes_eq line (take (length line) bytes) ≡ true → get_or bytes (length line) 0 ≡ 10 → behind_front (with_newline line) bytes ≡ Some (drop (length line + 1) bytes)
stands-there line bytes lt same newline =
    let rest = drop (length line + 1) bytes in
    let line_is : take (length line) bytes ≡ line = sym ((bytes_eq-Decides line (take (length line) bytes)).0 same) in
    let whole : bytes ≡ with_newline line ++ rest =
    split-at (length line) bytes lt ∙ ap (λ (x : List ℕ). x ++ get_or bytes (length line) 0 ∷ rest) line_is ∙ ap (λ (c : ℕ). line ++ c ∷ rest) newline ∙ sym (append_assoc line (10 ∷ []) rest) in
    ap (behind_front (with_newline line)) whole ∙ own-front (with_newline line) rest

pub last-byte : (line bytes : List ℕ) → length line < length bytes → bytes_eq line (take (length line) bytes) ≡ true → (t : Bool) → eqb (get_or bytes (length line) 0) 10 ≡ t
    → behind_front (with_newline line) bytes ≡ cond t (Some (drop (length line + 1) bytes)) None
last-byte line bytes lt same true is = stands-there line bytes lt same (eqb-true _ _ is)
last-byte line bytes lt same false is = goes-on line bytes (eqb-false _ _ is)

pub front-none : (l bytes text : List ℕ) (t : Bool) → bytes ≡ text → behind_front (with_newline l) bytes ≡ cond t (Some (drop (length l + 1) bytes)) None → t ≡ false → behind_front (with_newline l) text ≡ None
front-none l bytes text true same front is = absurd cc
front-none l bytes text false same front is = ap (behind_front (with_newline l)) (sym same) ∙ front

pub front-some : (l bytes text : List ℕ) (t : Bool) → bytes ≡ text → behind_front (with_newline l) bytes ≡ cond t (Some (drop (length l + 1) bytes)) None → t ≡ true → behind_front (with_newline l) text ≡ Some (drop (length l + 1) text)
front-some l bytes text true same front is = ap (behind_front (with_newline l)) (sym same) ∙ front ∙ ap (λ (x : List ℕ). Some (drop (length l + 1) x)) same
front-some l bytes text false same front is = absurd cc

-- ---- a line of an entry

pub due-front : (l whole due : List ℕ) (at : ℕ) (t : Bool) → whole ≡ due → behind_front (with_newline l) (take (length whole - at) (drop at whole)) ≡ cond t (Some (drop (length l + 1) (take (length whole - at) (drop at whole)))) None → t ≡ true
    → behind_front (with_newline l) (drop at due) ≡ Some (drop (length l + 1) (drop at due))
due-front l whole due at t same front is = front-some l (take (length whole - at) (drop at whole)) (drop at due) t (take_rest whole at ∙ ap (drop at) same) front is

due-read : (b : PlainBoard) (r : Reader) (l due : List ℕ) (o : Option (List ℕ)) → 0 < length due → behind_front (with_newline l) due ≡ o → read_line b r l due ≡ read_due r o
due-read b r l [] o some is = absurd (omega arith)
due-read b r l (c ∷ due) o some is = ap (read_due r) is

drop-nil : (n : ℕ) → drop {A = ℕ} n [] ≡ []
drop-nil zero = refl
drop-nil (suc n) = refl

drop-more : (k n : ℕ) (xs : List ℕ) → drop n (drop k xs) ≡ drop (k + n) xs
drop-more zero n xs = let same : 0 + n ≡ n = omega arith in ap (λ (m : ℕ). drop m xs) (sym same)
drop-more (suc k) n [] = drop-nil n ∙ sym (drop-nil (suc k + n))
drop-more (suc k) n (x ∷ xs) = let more : suc k + n ≡ suc (k + n) = omega arith in drop-more k n xs ∙ ap (λ (m : ℕ). drop m (x ∷ xs)) (sym more)

-- what stands so, stands so whatever is counted and due
stands-still : (t : Bool) (b : PlainBoard) (m : MachineSeen) (entries : ℕ) (r : Reader) (counted : Bool) (due : List ℕ) → Stands t b m entries r → Stands t b m entries (record { state = r.state; done = r.done; counted = counted; due = due })
stands-still false b m entries r counted due h = record { all = h.all; state = h.state; halt = h.halt }
stands-still true b m entries r counted due h = record { over = h.over; going = h.going }

length-drop_some : (k : ℕ) (xs : List ℕ) → k < length xs → 0 < length (drop k xs)
length-drop_some zero xs lt = omega arith
length-drop_some (suc k) [] lt = absurd (omega arith)
length-drop_some (suc k) (x ∷ xs) lt = length-drop_some k xs (omega arith)

module _ (b : PlainBoard) (front l : List ℕ) (r : Reader) where
  pub due-stops : (old new : TraceReader) → IsAt b front old r → old.at < length old.due → behind_front (with_newline l) (drop old.at old.due) ≡ None → Follows b front l r (read_line b r l r.due) Next.Stop new
  due-stops old new at some is =
      let none : behind_front (with_newline l) r.due ≡ None = ap (behind_front (with_newline l)) at.due ∙ is in
      let long : 0 < length r.due = subst (λ (x : List ℕ). 0 < length x) (sym at.due) (length-drop_some old.at old.due some) in
      subst (λ (read : Read). Follows b front l r read Next.Stop new) (sym (due-read b r l r.due None long none)) tt

  pub due-goes_on : (old : TraceReader) → IsAt b front old r → old.at < length old.due → behind_front (with_newline l) (drop old.at old.due) ≡ Some (drop (length l + 1) (drop old.at old.due))
      → Follows b front l r (read_line b r l r.due) Next.On (record old { at = old.at + (length l + 1) })
  due-goes_on old at some is =
      let rest = drop (length l + 1) (drop old.at old.due) in
      let here : behind_front (with_newline l) r.due ≡ Some rest = ap (behind_front (with_newline l)) at.due ∙ is in
      let long : 0 < length r.due = subst (λ (x : List ℕ). 0 < length x) (sym at.due) (length-drop_some old.at old.due some) in
      subst (λ (read : Read). Follows b front l r read Next.On (record old { at = old.at + (length l + 1) })) (sym (due-read b r l r.due (Some rest) long here)) (record {
        board = at.board;
        some = at.some;
        done = at.done;
        stands = stands-still old.is_closed b old.machine old.entries r r.counted rest at.stands;
        counted = at.counted;
        due = drop-more old.at (length l + 1) old.due;
        text = append_assoc front (with_newline l) rest ∙ ap (λ (x : List ℕ). front ++ x) (sym (front-is (with_newline l) r.due rest here)) ∙ at.text;
        cut = at.cut;
      })

  -- ---- a `cut` line

  pub cut-twice : (old new : TraceReader) → IsAt b front old r → is_some old.cut ≡ true → Follows b front l r (read_cut r) Next.Stop new
  cut-twice old new at came = subst (λ (t : Bool). Follows b front l r (cond t Stop (On (record { state = r.state; done = r.done; counted = true; due = [] }))) Next.Stop new) (sym (at.counted ∙ came)) tt

  no_cut : (o : Option Cut) → is_some o ≡ false → o ≡ None
  no_cut None is = refl
  no_cut (Some cut) is = absurd cc

  pub cut-taken : (old : TraceReader) (cut : Cut) → IsAt b front old r → r.due ≡ [] → is_some old.cut ≡ false → IsCutLine l old.entries (owner_counts b.cores (events_of (take old.entries old.machine.course.journal))) cut
      → Follows b front l r (read_cut r) Next.On (record old { cut = Some cut })
  cut-taken old cut at none first line =
      let before : old.cut ≡ None = no_cut old.cut first in
      let next : Reader = record { state = r.state; done = r.done; counted = true; due = [] } in
      let read : read_cut r ≡ On next = ap (λ (t : Bool). cond t Stop (On next)) (at.counted ∙ first) in
      let long : length r.done ≡ cut.at = ap length at.done ∙ length-take-le old.entries old.machine.course.journal at.some ∙ sym line.at_is in
      let all : take cut.at r.done ≡ r.done = take_all cut.at r.done (omega (arith, long)) in
      let behind : drop cut.at r.done ≡ [] = drop_all cut.at r.done (omega (arith, long)) in
      let counts : cut.counts.items ≡ owner_counts b.cores (events_of r.done) = line.counts_are ∙ ap (λ (j : List Entry). owner_counts b.cores (events_of j)) (sym at.done) in
      let line_text : with_newline l ≡ cut_text cut = ap with_newline (line.line_is ∙ ap (λ (ns : List ℕ). row_text (Counted ns)) (sym line.counts_are)) in
      let entries : front ≡ entries_text 1 r.done = sym (append-nil front) ∙ ap (λ (x : List ℕ). front ++ x) (sym none) ∙ at.text ∙ ap (body_text r.done) before in
      let body : body_text r.done (Some cut) ≡ entries_text 1 r.done ++ cut_text cut =
      ap (λ (j : List Entry). entries_text 1 j ++ cut_text cut ++ entries_text (cut.at + 1) (drop cut.at r.done)) all
      ∙ ap (λ (j : List Entry). entries_text 1 r.done ++ cut_text cut ++ entries_text (cut.at + 1) j) behind
      ∙ append-nil (entries_text 1 r.done ++ cut_text cut) in
      subst (λ (x : Read). Follows b front l r x Next.On (record old { cut = Some cut })) (sym read) (record {
        board = at.board;
        some = at.some;
        done = at.done;
        stands = stands-still old.is_closed b old.machine old.entries r true [] at.stands;
        counted = refl;
        due = sym none ∙ at.due;
        text = append-nil (front ++ with_newline l) ∙ ap (λ (x : List ℕ). x ++ with_newline l) entries ∙ ap (λ (x : List ℕ). entries_text 1 r.done ++ x) line_text ∙ sym body;
        cut = record {
          at = omega (arith, long);
          counts = counts ∙ ap (λ (j : List Entry). owner_counts b.cores (events_of j)) (sym all);
        };
      })

  pub outer-cut : (counts : List ℕ) → counts ≡ owner_counts b.cores (events_of r.done) → l ≡ row_text (Counted counts) → read_outer b r l ≡ read_cut r
  outer-cut counts are is =
      ap (λ (t : Bool). cond t (read_cut r) (cond (is_end_of l (shown b r.state.moment) (halt_of b r.state)) Ends (read_event b r l (event_named (word_at (words_of l) 1)))))
      ((bytes_eq-Decides l (cut_now b r.done)).1 (is ∙ ap (λ (ns : List ℕ). row_text (Counted ns)) are))

  -- ---- a line that is no `cut` line

  pub no-cut_line : bytes_eq l (cut_now b r.done) ≡ false → read_outer b r l ≡ cond (is_end_of l (shown b r.state.moment) (halt_of b r.state)) Ends (read_event b r l (event_named (word_at (words_of l) 1)))
  no-cut_line other = ap (λ (t : Bool). cond t (read_cut r) (cond (is_end_of l (shown b r.state.moment) (halt_of b r.state)) Ends (read_event b r l (event_named (word_at (words_of l) 1))))) other

  over-stops : (t over late : Bool) (x : Read) → over ≡ true → cond (t && not over && not late) x Stop ≡ Stop
  over-stops true true late x is = refl
  over-stops false true late x is = refl
  over-stops t false late x is = absurd cc

  other-stops : (t over late : Bool) (x : Read) → t ≡ false → cond (t && not over && not late) x Stop ≡ Stop
  other-stops false over late x is = refl
  other-stops true over late x is = absurd cc

  pub over-made : (event : Event) (did : Happened) → is_over b r.done ≡ true → read_made b r l event did ≡ Stop
  over-made event (Made s lines) over = over-stops (is_event_of b event) (is_over b r.done) _ _ over
  over-made event Same over = refl
  over-made event (Halted h) over = refl

  pub over-event : (o : Option Event) → is_over b r.done ≡ true → read_event b r l o ≡ Stop
  over-event None over = refl
  over-event (Some event) over = over-made event (happens b r.state event) over

  no-event-made : (event : Event) (did : Happened) → is_event_of b event ≡ false → read_made b r l event did ≡ Stop
  no-event-made event (Made s lines) is = other-stops (is_event_of b event) (is_over b r.done) _ _ is
  no-event-made event Same is = refl
  no-event-made event (Halted h) is = refl

  pub no-event : (event : Event) → is_event_of b event ≡ false → read_event b r l (Some event) ≡ Stop
  no-event event is = no-event-made event (happens b r.state event) is

  event-off : (t : Bool) (event : Event) → cond t (Some event) None ≡ None → t ≡ false
  event-off false event is = refl
  event-off true event is = absurd cc

  -- no event of the board
  pub none-named : (o : Option Event) → event_on b o ≡ None → read_event b r l o ≡ Stop
  none-named None is = refl
  none-named (Some event) is = no-event event (event-off (is_event_of b event) event is)

  no-end_of : (tick : ℕ) (o : Option Halt) → o ≡ None → is_end_of l tick o ≡ false
  no-end_of tick None is = refl
  no-end_of tick (Some h) is = absurd cc

  pub closed-stops : (new : TraceReader) → IsFull b r → bytes_eq l (cut_now b r.done) ≡ false → Follows b front l r (read_outer b r l) Next.Stop new
  closed-stops new full other =
      let end = no-end_of (shown b r.state.moment) (halt_of b r.state) full.going in
      let read : read_outer b r l ≡ Stop = no-cut_line other ∙ ap (λ (t : Bool). cond t Ends (read_event b r l (event_named (word_at (words_of l) 1)))) end ∙ over-event (event_named (word_at (words_of l) 1)) full.over in
      subst (λ (x : Read). Follows b front l r x Next.Stop new) (sym read) tt

  none-said : (tick : ℕ) (o : Option Halt) → ((h : Halt) → bytes_eq l (row_text (Ended h tick)) ≡ false) → is_end_of l tick o ≡ false
  none-said tick None never = refl
  none-said tick (Some h) never = never h

  -- a line that is no end line is read by its event
  pub event-read : bytes_eq l (cut_now b r.done) ≡ false → ((h : Halt) → bytes_eq l (row_text (Ended h (shown b r.state.moment))) ≡ false) → read_outer b r l ≡ read_event b r l (event_named (word_at (words_of l) 1))
  event-read other never =
      no-cut_line other ∙ ap (λ (t : Bool). cond t Ends (read_event b r l (event_named (word_at (words_of l) 1)))) (none-said (shown b r.state.moment) (halt_of b r.state) never)

  -- ---- an end line

  end-names : (h : Halt) (tick : ℕ) → event_named (word_at (words_of (row_text (Ended h tick))) 1) ≡ None
  end-names Halt.Quiet tick = refl
  end-names Halt.Until tick = refl
  end-names Halt.Standby tick = refl
  end-names Halt.Shutdown tick = refl

  -- an end line of a halt that isn't that of the machine
  pub end-stops : (h : Halt) (tick : ℕ) (new : TraceReader) → l ≡ row_text (Ended h tick) → bytes_eq l (cut_now b r.done) ≡ false → is_end_of l (shown b r.state.moment) (halt_of b r.state) ≡ false → Follows b front l r (read_outer b r l) Next.Stop new
  end-stops h tick new is other never =
      let names : event_named (word_at (words_of l) 1) ≡ None = ap (λ (x : List ℕ). event_named (word_at (words_of x) 1)) is ∙ end-names h tick in
      let read : read_outer b r l ≡ Stop = no-cut_line other ∙ ap (λ (t : Bool). cond t Ends (read_event b r l (event_named (word_at (words_of l) 1)))) never ∙ ap (read_event b r l) names in
      subst (λ (x : Read). Follows b front l r x Next.Stop new) (sym read) tt

  pub end-ends : (new : TraceReader) → bytes_eq l (cut_now b r.done) ≡ false → is_end_of l (shown b r.state.moment) (halt_of b r.state) ≡ true → HasEnded b front new r → Follows b front l r (read_outer b r l) Next.End new
  end-ends new other is ended =
      let read : read_outer b r l ≡ Ends = no-cut_line other ∙ ap (λ (t : Bool). cond t Ends (read_event b r l (event_named (word_at (words_of l) 1)))) is in
      subst (λ (x : Read). Follows b front l r x Next.End new) (sym read) ended

-- ---- how a machine halts

some-halt : (x y : Halt) → Some x ≡ Some y → x ≡ y
some-halt x y is = cc

halt-by : (o : Option Halt) (d : Happened) (h : Halt) → did_in o d ≡ Ended_so h → (o ≡ Some h) ⊎ ((o ≡ None) × (d ≡ Halted h))
halt-by (Some x) d h is = let same : x ≡ h = cc in inl (ap (λ (y : Halt). Some y) same)
halt-by None (Made s lines) h is = absurd cc
halt-by None Same h is = absurd cc
halt-by None (Halted x) h is = let same : x ≡ h = cc in inr (refl, ap (λ (y : Halt). Halted y) same)

-- a step of core 0 that finds the machine halted
pub record IsHalted (b : PlainBoard) (old new : Course) (h : Halt) : Type 0 where
  pub says : halt_of b old.state ≡ Some h
  pub journal : new.journal ≡ old.journal
  pub state : new.state ≡ old.state
  pub halt : new.halt ≡ Some h

after-halted : (b : PlainBoard) (c : Course) (e : Event) (h : Halt) → c.halt ≡ Some h → after b c e ≡ c
unfolding after
after-halted b c e h is = ap (λ (o : Option Halt). course_unless o c (course_after b c e (happens b c.state e))) is

pub step-halts : (b : PlainBoard) (old new : Course) (h : Halt) → IsReached b old → did_by b old (Event.Step 0) ≡ Ended_so h → new ≡ after b old (Event.Step 0) → IsHalted b old new h
step-halts b old new h reached did is = by_case (halt-by old.halt (happens b old.state (Event.Step 0)) h did) where
  by_case : (old.halt ≡ Some h) ⊎ ((old.halt ≡ None) × (happens b old.state (Event.Step 0) ≡ Halted h)) → IsHalted b old new h
  by_case (inl before) =
      let same : new ≡ old = is ∙ after-halted b old (Event.Step 0) h before in
      record {
        says = reached.halted h before;
        journal = ap (λ (c : Course). c.journal) same;
        state = ap (λ (c : Course). c.state) same;
        halt = ap (λ (c : Course). c.halt) same ∙ before;
      }
  by_case (inr now) =
      let next : new ≡ record old { halt = Some h } = is ∙ after-live b old (Event.Step 0) now.0 ∙ ap (course_after b old (Event.Step 0)) now.1 in
      record {
        says = ap halt_of_did now.1;
        journal = ap (λ (c : Course). c.journal) next;
        state = ap (λ (c : Course). c.state) next;
        halt = ap (λ (c : Course). c.halt) next;
      }

going-by : (o : Option Halt) (d : Happened) → ((h : Halt) → did_in o d ≡ Ended_so h → ⊥) → (o ≡ None) × (halt_of_did d ≡ None)
going-by (Some h) d never = absurd (never h refl)
going-by None (Made s lines) never = (refl, refl)
going-by None Same never = (refl, refl)
going-by None (Halted h) never = absurd (never h refl)

pub step-goes_on : (b : PlainBoard) (old : Course) (did : Did) → did ≡ did_by b old (Event.Step 0) → ((h : Halt) → did ≡ Ended_so h → ⊥) → (old.halt ≡ None) × (halt_of b old.state ≡ None)
step-goes_on b old did is never = going-by old.halt (happens b old.state (Event.Step 0)) (λ h says. never h (is ∙ says))

halted-happens : (b : PlainBoard) (s : State) (e : Event) (h : Halt) → s.halt ≡ Some h → happens b s e ≡ Halted h
unfolding happens
halted-happens b s (Event.Step core) h is = ap (unhalted_step_did b s core) is
halted-happens b s Event.Tick h is = ap (unhalted_tick_did b s) is

-- ---- what an event makes

event-here : (t : Bool) (event other : Event) → cond t (Some event) None ≡ Some other → (event ≡ other) × (t ≡ true)
event-here true event other is = let same : event ≡ other = cc in (same, refl)
event-here false event other is = absurd cc

-- an event of the board
pub event-named : (b : PlainBoard) (o : Option Event) (event : Event) → event_on b o ≡ Some event → (o ≡ Some event) × (is_event_of b event ≡ true)
event-named b None event is = absurd cc
event-named b (Some other) event is =
    let here = event-here (is_event_of b other) other event is in
    (ap (λ (e : Event). Some e) here.0, ap (is_event_of b) (sym here.0) ∙ here.1)

-- an event that made an entry
pub record HasEntered (b : PlainBoard) (old new : Course) (event : Event) : Type 0 where
  pub lines : List Line
  pub made : happens b old.state event ≡ Made new.state lines
  pub journal : new.journal ≡ old.journal ++ record { event = event; tick = entry_tick b event old.state new.state; lines = lines } ∷ []
  pub halt : new.halt ≡ new.state.halt

entered-by : (o : Option Halt) (d : Happened) → did_in o d ≡ Entered → (o ≡ None) × (s : State) × (lines : List Line) × (d ≡ Made s lines)
entered-by (Some h) d is = absurd cc
entered-by None (Made s lines) is = (refl, s, lines, refl)
entered-by None Same is = absurd cc
entered-by None (Halted h) is = absurd cc

pub event-enters : (b : PlainBoard) (old new : Course) (event : Event) → did_by b old event ≡ Entered → new ≡ after b old event → HasEntered b old new event
event-enters b old new event did is =
    let e = entered-by old.halt (happens b old.state event) did in
    let s : State = e.1 in
    let lines : List Line = e.2 in
    let made : happens b old.state event ≡ Made s lines = e.3 in
    let next : new ≡ course_after b old event (Made s lines) = is ∙ after-live b old event e.0 ∙ ap (course_after b old event) made in
    let state : new.state ≡ s = ap (λ (c : Course). c.state) next in
    record {
      lines = lines;
      made = made ∙ ap (λ (x : State). Made x lines) (sym state);
      journal = ap (λ (c : Course). c.journal) next ∙ ap (λ (x : State). old.journal ++ record { event = event; tick = entry_tick b event old.state x; lines = lines } ∷ []) (sym state);
      halt = ap (λ (c : Course). c.halt) next ∙ ap (λ (x : State). x.halt) (sym state);
    }

stops-by : (b : PlainBoard) (r : Reader) (l : List ℕ) (event : Event) (d : Happened) → (did_of d ≡ Entered → ⊥) → read_made b r l event d ≡ Stop
stops-by b r l event (Made s lines) never = absurd (never refl)
stops-by b r l event Same never = refl
stops-by b r l event (Halted h) never = refl

stops-in : (b : PlainBoard) (r : Reader) (l : List ℕ) (event : Event) (o : Option Halt) → o ≡ r.state.halt → (did_in o (happens b r.state event) ≡ Entered → ⊥) → read_made b r l event (happens b r.state event) ≡ Stop
stops-in b r l event None is never = stops-by b r l event (happens b r.state event) never
stops-in b r l event (Some h) is never = ap (read_made b r l event) (halted-happens b r.state event h (sym is))

-- an event that made none
pub event-stops : (b : PlainBoard) (r : Reader) (l : List ℕ) (m : MachineSeen) (entries : ℕ) (event : Event) (did : Did) → IsOpen m entries r → did ≡ did_by b m.course event → (did ≡ Entered → ⊥) → read_event b r l (Some event) ≡ Stop
event-stops b r l m entries event did is_open is never =
    stops-in b r l event m.course.halt (is_open.halt ∙ ap (λ (s : State). s.halt) is_open.state)
    (λ enters. never (is ∙ ap (λ (s : State). did_in m.course.halt (happens b s event)) is_open.state ∙ enters))

-- the machine has made the entry, whose header is read next
pub has-made : (b : PlainBoard) (front : List ℕ) (t : TraceReader) (r : Reader) (new : MachineSeen) (event : Event) → IsAt b front t r → r.due ≡ [] → t.is_closed ≡ false → IsOpen t.machine t.entries r
    → is_event_of b event ≡ true → is_over b t.machine.course.journal ≡ false → (entered : HasEntered b t.machine.course new.course event)
    → HasMade b front (record t { machine = new }) r (record { event = event; tick = entry_tick b event r.state new.course.state; lines = entered.lines })
has-made b front t r new event at none live is_open can going entered =
    let all : r.done ≡ t.machine.course.journal = at.done ∙ take_all t.entries t.machine.course.journal (omega (arith, is_open.all)) in
    record {
      journal = entered.journal ∙ ap (λ (j : List Entry). j ++ record { event = event; tick = entry_tick b event t.machine.course.state new.course.state; lines = entered.lines } ∷ []) (sym all)
          ∙ ap (λ (s : State). r.done ++ record { event = event; tick = entry_tick b event s new.course.state; lines = entered.lines } ∷ []) is_open.state;
      all = is_open.all ∙ ap length (sym all);
      is_open = live;
      event = can;
      going = ap (is_over b) all ∙ going;
      counted = at.counted;
      due = none;
      text = sym (append-nil front) ∙ ap (λ (x : List ℕ). front ++ x) (sym none) ∙ at.text;
      cut = at.cut;
    }

-- the header of an entry that was made
pub made-read : (b : PlainBoard) (r : Reader) (l : List ℕ) (m new : MachineSeen) (event : Event) (entered : HasEntered b m.course new.course event) → m.course.state ≡ r.state
    → read_event b r l (Some event) ≡ read_entry b r l (record { event = event; tick = entry_tick b event r.state new.course.state; lines = entered.lines }) new.course.state
made-read b r l m new event entered is = ap (read_made b r l event) (ap (λ (s : State). happens b s event) (sym is) ∙ entered.made)

-- ---- an entry's header

entries-snoc : (n : ℕ) (done : List Entry) (e : Entry) → entries_text n (done ++ e ∷ []) ≡ entries_text n done ++ entry_text (length done + n) e
entries-snoc n [] e = let same : 0 + n ≡ n = omega arith in append-nil (entry_text n e) ∙ ap (λ (k : ℕ). entry_text k e) (sym same)
entries-snoc n (f ∷ done) e =
    let far : length done + (n + 1) ≡ suc (length done) + n = omega arith in
    ap (λ (x : List ℕ). entry_text n f ++ x) (entries-snoc (n + 1) done e ∙ ap (λ (k : ℕ). entries_text (n + 1) done ++ entry_text k e) far)
    ∙ sym (append_assoc (entry_text n f) (entries_text (n + 1) done) (entry_text (suc (length done) + n) e))

take-before : (k : ℕ) (done : List Entry) (e : Entry) → k ≤ length done → take k (done ++ e ∷ []) ≡ take k done
take-before zero done e le = refl
take-before (suc k) [] e le = absurd (omega arith)
take-before (suc k) (f ∷ done) e le = ap (λ (es : List Entry). f ∷ es) (take-before k done e (omega arith))

drop-before : (k : ℕ) (done : List Entry) (e : Entry) → k ≤ length done → drop k (done ++ e ∷ []) ≡ drop k done ++ e ∷ []
drop-before zero done e le = refl
drop-before (suc k) [] e le = absurd (omega arith)
drop-before (suc k) (f ∷ done) e le = drop-before k done e (omega arith)

length-behind : (k : ℕ) (done : List Entry) → k ≤ length done → length (drop k done) + k ≡ length done
length-behind zero done le = omega arith
length-behind (suc k) [] le = absurd (omega arith)
length-behind (suc k) (f ∷ done) le = omega (arith, length-behind k done (omega arith))

-- an entry more behind the others, and behind a cut among them
body-snoc : (b : PlainBoard) (done : List Entry) (cut : Option Cut) (e : Entry) → IsCutOf b done cut → body_text (done ++ e ∷ []) cut ≡ body_text done cut ++ entry_text (length done + 1) e
body-snoc b done None e is = entries-snoc 1 done e
body-snoc b done (Some cut) e is =
    let front = entries_text 1 (take cut.at done) ++ cut_text cut in
    let far : length (drop cut.at done) + (cut.at + 1) ≡ length done + 1 = omega (arith, length-behind cut.at done is.at) in
    ap (λ (es : List Entry). entries_text 1 es ++ cut_text cut ++ entries_text (cut.at + 1) (drop cut.at (done ++ e ∷ []))) (take-before cut.at done e is.at)
    ∙ ap (λ (es : List Entry). front ++ entries_text (cut.at + 1) es) (drop-before cut.at done e is.at)
    ∙ ap (λ (x : List ℕ). front ++ x) (entries-snoc (cut.at + 1) (drop cut.at done) e ∙ ap (λ (k : ℕ). entries_text (cut.at + 1) (drop cut.at done) ++ entry_text k e) far)
    ∙ sym (append_assoc front (entries_text (cut.at + 1) (drop cut.at done)) (entry_text (length done + 1) e))

cut-snoc : (b : PlainBoard) (done : List Entry) (cut : Option Cut) (e : Entry) → IsCutOf b done cut → IsCutOf b (done ++ e ∷ []) cut
cut-snoc b done None e is = tt
cut-snoc b done (Some cut) e is = record {
  at = omega (arith, is.at, length-append done (e ∷ []));
  counts = is.counts ∙ ap (λ (es : List Entry). owner_counts b.cores (events_of es)) (sym (take-before cut.at done e is.at));
}

pub entry-there : (b : PlainBoard) (front : List ℕ) (t : TraceReader) (r : Reader) (e : Entry) → HasMade b front t r e → slice_get t.machine.course.journal t.entries ≡ Some e
entry-there b front t r e made = ap (λ (j : List Entry). slice_get j t.entries) made.journal ∙ ap (slice_get (r.done ++ e ∷ [])) made.all ∙ at-end r.done e

module _ (b : PlainBoard) (front l : List ℕ) (r : Reader) (e : Entry) (s : State) where
  -- the text of the entry goes on otherwise
  no-front : (t : Bool) → cond t (on_entry r e s None) Stop ≡ Stop
  no-front true = refl
  no-front false = refl

  pub header-stops : (new : TraceReader) → behind_front (with_newline l) (entry_text (length r.done + 1) e) ≡ None → Follows b front l r (read_entry b r l e s) Next.Stop new
  header-stops new none =
      let read : read_entry b r l e s ≡ Stop = ap (λ (o : Option (List ℕ)). cond (may_follow b r e s) (on_entry r e s o) Stop) none ∙ no-front (may_follow b r e s) in
      subst (λ (x : Read). Follows b front l r x Next.Stop new) (sym read) tt

  late-follows : (t over late : Bool) (x : Read) → late ≡ true → cond (t && over && not late) x Stop ≡ Stop
  late-follows true true true x is = refl
  late-follows true false true x is = refl
  late-follows false over true x is = refl
  late-follows t over false x is = absurd cc

  pub late-stops : (new : TraceReader) → is_late b (r.done ++ e ∷ []) s ≡ true → Follows b front l r (read_entry b r l e s) Next.Stop new
  late-stops new late =
      let read : read_entry b r l e s ≡ Stop = late-follows (is_event_of b e.event) (not (is_over b r.done)) (is_late b (r.done ++ e ∷ []) s) _ late in
      subst (λ (x : Read). Follows b front l r x Next.Stop new) (sym read) tt

  follows : (t over late : Bool) (x : Read) → t ≡ true → over ≡ false → late ≡ false → cond (t && not over && not late) x Stop ≡ x
  follows true false false x p q o = refl
  follows false over late x p q o = absurd cc
  follows true true late x p q o = absurd cc
  follows true false true x p q o = absurd cc

  -- the header of the entry, which leaves the reader so
  pub header-read : (t new : TraceReader) → HasMade b front t r e → is_late b (r.done ++ e ∷ []) s ≡ false
      → behind_front (with_newline l) (entry_text (length r.done + 1) e) ≡ Some (drop (length l + 1) (entry_text (length r.done + 1) e))
      → new.machine.board ≡ b → new.entries ≡ length r.done + 1 → r.done ++ e ∷ [] ≡ take (length r.done + 1) new.machine.course.journal → length r.done + 1 ≤ length new.machine.course.journal
      → Stands new.is_closed b new.machine new.entries (record { state = s; done = r.done ++ e ∷ []; counted = r.counted; due = drop (length l + 1) (entry_text (length r.done + 1) e) })
      → new.cut ≡ t.cut → new.due ≡ entry_text (length r.done + 1) e → new.at ≡ length l + 1
      → Follows b front l r (read_entry b r l e s) Next.On new
  header-read t new made late is board entries whole some stands cut due at =
      let text = entry_text (length r.done + 1) e in
      let rest = drop (length l + 1) text in
      let next : Reader = record { state = s; done = r.done ++ e ∷ []; counted = r.counted; due = rest } in
      let read : read_entry b r l e s ≡ On next =
      follows (is_event_of b e.event) (is_over b r.done) (is_late b (r.done ++ e ∷ []) s) (on_entry r e s (behind_front (with_newline l) text)) made.event made.going late
      ∙ ap (on_entry r e s) is in
      subst (λ (x : Read). Follows b front l r x Next.On new) (sym read) (record {
        board = board;
        some = subst (λ (n : ℕ). n ≤ length new.machine.course.journal) (sym entries) some;
        done = whole ∙ ap (λ (n : ℕ). take n new.machine.course.journal) (sym entries);
        stands = stands;
        counted = made.counted ∙ ap is_some (sym cut);
        due = ap (drop (length l + 1)) (sym due) ∙ ap (λ (n : ℕ). drop n new.due) (sym at);
        text = append_assoc front (with_newline l) rest ∙ ap (λ (x : List ℕ). front ++ x) (sym (front-is (with_newline l) text rest is))
            ∙ ap (λ (x : List ℕ). x ++ text) made.text ∙ sym (body-snoc b r.done t.cut e made.cut) ∙ ap (body_text (r.done ++ e ∷ [])) (sym cut);
        cut = subst (IsCutOf b (r.done ++ e ∷ [])) (sym cut) (cut-snoc b r.done t.cut e made.cut);
      })

-- ---- a limit behind an entry

pub late-halted : (b : PlainBoard) (journal : List Entry) (s : State) → is_some s.halt ≡ true → is_late b journal s ≡ false
late-halted b journal s is = ap (λ (t : Bool). not t && is_some (halt_of b s) && is_over b journal) is

no-over : (p q over : Bool) → over ≡ false → (p && q && over) ≡ false
no-over true true false is = refl
no-over true false false is = refl
no-over false q false is = refl
no-over p q true is = absurd cc

pub late-under : (b : PlainBoard) (journal : List Entry) (s : State) → is_over b journal ≡ false → is_late b journal s ≡ false
late-under b journal s is = no-over (not (is_some s.halt)) (is_some (halt_of b s)) (is_over b journal) is

no-halt : (p over : Bool) (o : Option Halt) → o ≡ None → (p && is_some o && over) ≡ false
no-halt true over None is = refl
no-halt false over None is = refl
no-halt p over (Some h) is = absurd cc

pub late-going : (b : PlainBoard) (journal : List Entry) (s : State) → halt_of b s ≡ None → is_late b journal s ≡ false
late-going b journal s is = no-halt (not (is_some s.halt)) (is_over b journal) (halt_of b s) is

all-late : (o says : Option Halt) (over : Bool) (h : Halt) → o ≡ None → says ≡ Some h → over ≡ true → (not (is_some o) && is_some says && over) ≡ true
all-late None (Some x) true h p q r = refl
all-late (Some y) says over h p q r = absurd cc
all-late None None over h p q r = absurd cc
all-late None (Some x) false h p q r = absurd cc

pub late-late : (b : PlainBoard) (journal : List Entry) (s : State) (h : Halt) → s.halt ≡ None → halt_of b s ≡ Some h → is_over b journal ≡ true → is_late b journal s ≡ true
late-late b journal s h none says over = all-late s.halt (halt_of b s) (is_over b journal) h none says over

-- the entries stand in front of what an event leaves
pub record HasFront (old new : Course) : Type 0 where
  pub some : length old.journal ≤ length new.journal
  pub front : old.journal ≡ take (length old.journal) new.journal

front-of : (b : PlainBoard) (c : Course) (e : Event) (d : Happened) → HasFront c (course_after b c e d)
front-of b c e (Made s lines) = record {
  some = omega (arith, length-append c.journal (record { event = e; tick = entry_tick b e c.state s; lines = lines } ∷ []));
  front = sym (take-own c.journal (record { event = e; tick = entry_tick b e c.state s; lines = lines } ∷ []));
}
front-of b c e Same = record { some = omega arith; front = sym (take_all (length c.journal) c.journal (omega arith)) }
front-of b c e (Halted h) = record { some = omega arith; front = sym (take_all (length c.journal) c.journal (omega arith)) }

pub event-front : (b : PlainBoard) (old new : Course) (e : Event) → old.halt ≡ None → new ≡ after b old e → HasFront old new
event-front b old new e live is = subst (HasFront old) (sym (is ∙ after-live b old e live)) (front-of b old e (happens b old.state e))

none-there : (o : Option Halt) → is_some o ≡ false → o ≡ None
none-there None is = refl
none-there (Some h) is = absurd cc

-- a machine that met a limit, and whose next step was tried
pub late-closes : (old : MachineSeen) (h : Halt) → old.course.halt ≡ old.course.state.halt → is_some old.course.halt ≡ false → is_over old.board old.course.journal ≡ true → halt_of old.board old.course.state ≡ Some h
    → is_late old.board old.course.journal old.course.state ≡ true
late-closes old h same live over says = late-late old.board old.course.journal old.course.state h (sym same ∙ none-there old.course.halt live) says over

pub closed-by : (old new : MachineSeen) (did : Did) → is_over old.board old.course.journal ≡ true → did ≡ did_by old.board old.course (Event.Step 0) → ((h : Halt) → did ≡ Ended_so h → ⊥) → new.course ≡ after old.board old.course (Event.Step 0)
    → (is_late old.board old.course.journal old.course.state ≡ false) × IsClosedBy old new
closed-by old new did over is never next =
    let going = step-goes_on old.board old.course did is never in
    let front = event-front old.board old.course new.course (Event.Step 0) going.0 next in
    (late-going old.board old.course.journal old.course.state going.1, record { over = over; going = going.1; some = front.some; front = front.front })

pub open-by : (old : MachineSeen) → old.course.halt ≡ old.course.state.halt → (is_some old.course.halt ≡ true) ⊎ (is_over old.board old.course.journal ≡ false) → is_late old.board old.course.journal old.course.state ≡ false
open-by old same (inl halted) = late-halted old.board old.course.journal old.course.state (ap is_some (sym same) ∙ halted)
open-by old same (inr under) = late-under old.board old.course.journal old.course.state under

-- ---- the reader's answers

pub not-halted : (did : Did) → (did ≡ Entered) ⊎ (did ≡ Stayed) → (h : Halt) → did ≡ Ended_so h → ⊥
not-halted did (inl is) h ends = let bad : Entered ≡ Ended_so h = sym is ∙ ends in cc
not-halted did (inr is) h ends = let bad : Stayed ≡ Ended_so h = sym is ∙ ends in cc

opened-so : (b : PlainBoard) (front : List ℕ) (t : TraceReader) (r : Reader) → IsAt b front t r → t.is_closed ≡ false → IsOpen t.machine t.entries r
opened-so b front t r at open_is = subst (λ (x : Bool). Stands x b t.machine t.entries r) open_is at.stands

all-done : (b : PlainBoard) (front : List ℕ) (t : TraceReader) (r : Reader) → IsAt b front t r → IsOpen t.machine t.entries r → r.done ≡ t.machine.course.journal
all-done b front t r at is_open = at.done ∙ take_all t.entries t.machine.course.journal (omega (arith, is_open.all))

pub end-read : (b : PlainBoard) (front l : List ℕ) (r : Reader) (t : TraceReader) (new : MachineSeen) (halt : Halt) (tick : ℕ) → IsAt b front t r → r.due ≡ [] → t.is_closed ≡ false → IsHalted b t.machine.course new.course halt
    → tick ≡ shown b t.machine.course.state.moment → bytes_eq l (row_text (Ended halt tick)) ≡ true → bytes_eq l (cut_now b r.done) ≡ false → Follows b front l r (read_outer b r l) Next.End (record t { machine = new })
end-read b front l r t new halt tick at none open_is halted now same other =
    let is_open = opened-so b front t r at open_is in
    let says : halt_of b r.state ≡ Some halt = ap (halt_of b) (sym is_open.state) ∙ halted.says in
    let ticks : shown b r.state.moment ≡ tick = ap (λ (s : State). shown b s.moment) (sym is_open.state) ∙ sym now in
    end-ends b front l r (record t { machine = new }) other
    (ap (is_end_of l (shown b r.state.moment)) says ∙ ap (λ (n : ℕ). bytes_eq l (row_text (Ended halt n))) ticks ∙ same)
    (record {
      done = halted.journal ∙ sym (all-done b front t r at is_open);
      state = halted.state ∙ is_open.state;
      halt = halt;
      halted = halted.halt;
      halt_is = says;
      text = sym (append-nil front) ∙ ap (λ (x : List ℕ). front ++ x) (sym none) ∙ at.text;
      cut = at.cut;
    })

pub over-read : (b : PlainBoard) (front l : List ℕ) (r : Reader) (t new : TraceReader) → IsAt b front t r → t.is_closed ≡ false → is_over b t.machine.course.journal ≡ true
    → (named : Option Event) → Follows b front l r (read_event b r l named) Next.Stop new
over-read b front l r t new at open_is over named =
    let all = all-done b front t r at (opened-so b front t r at open_is) in
    subst (λ (x : Read). Follows b front l r x Next.Stop new) (sym (over-event b front l r named (ap (is_over b) all ∙ over))) tt

pub same-read : (b : PlainBoard) (front l : List ℕ) (r : Reader) (t new : TraceReader) (event : Event) (named : Option Event) (did : Did) → IsAt b front t r → t.is_closed ≡ false → event_on b named ≡ Some event
    → did ≡ did_by b t.machine.course event → (did ≡ Entered → ⊥) → Follows b front l r (read_event b r l named) Next.Stop new
same-read b front l r t new event named did at open_is names is never =
    let read : read_event b r l named ≡ Stop = ap (read_event b r l) (event-named b named event names).0 ∙ event-stops b r l t.machine t.entries event did (opened-so b front t r at open_is) is never in
    subst (λ (x : Read). Follows b front l r x Next.Stop new) (sym read) tt

pub event-read_on : {E : Type 0} (b : PlainBoard) (front l : List ℕ) (r : Reader) (t : TraceReader) (m : MachineSeen) (seen : PlainBoard) (event : Event) (named : Option Event) (result : Result Next E) (new : TraceReader)
    → IsAt b front t r → r.due ≡ [] → t.is_closed ≡ false → event_on b named ≡ Some event → is_over b t.machine.course.journal ≡ false → seen ≡ b → HasEntered b t.machine.course m.course event
    → ((front : List ℕ) (r : Reader) (e : Entry) → HasMade seen front (record t { machine = m }) r e → IfOk result (λ next. Follows seen front l r (read_entry seen r l e m.course.state) next new))
    → IfOk result (λ next. Follows b front l r (read_event b r l named) next new)
event-read_on b front l r t m seen event named result new at none open_is names going board entered told =
    let is_open = opened-so b front t r at open_is in
    let here = event-named b named event names in
    let e : Entry = record { event = event; tick = entry_tick b event r.state m.course.state; lines = entered.lines } in
    let made : HasMade b front (record t { machine = m }) r e = has-made b front t r m event at none open_is is_open here.1 going entered in
    let read : read_event b r l named ≡ read_entry b r l e m.course.state = ap (read_event b r l) here.0 ∙ made-read b r l t.machine m event entered is_open.state in
    let f = told front r e (subst (λ (x : PlainBoard). HasMade x front (record t { machine = m }) r e) (sym board) made) in
    subst (λ (x : Read). IfOk result (λ next. Follows b front l r x next new)) (sym read)
    (subst (λ (x : PlainBoard). IfOk result (λ next. Follows x front l r (read_entry x r l e m.course.state) next new)) board f)

-- the header of an entry at a limit, and of one at none
pub entry-closed : (b : PlainBoard) (front l : List ℕ) (r : Reader) (e : Entry) (t : TraceReader) (new : MachineSeen) (text : List ℕ) → HasMade t.machine.board front t r e → text ≡ entry_text (length r.done + 1) e
    → behind_front (with_newline l) text ≡ Some (drop (length l + 1) text) → (is_late t.machine.board t.machine.course.journal t.machine.course.state ≡ false) × IsClosedBy t.machine new → new.board ≡ t.machine.board
    → (entries : ℕ) → entries ≡ length t.machine.course.journal
    → Follows t.machine.board front l r (read_entry t.machine.board r l e t.machine.course.state) Next.On (record { machine = new; entries = entries; is_closed = true; cut = t.cut; due = text; at = length l + 1 })
entry-closed b front l r e t new text made text_is front_is closes board entries all =
    let long : length t.machine.course.journal ≡ length r.done + 1 = ap length made.journal ∙ length-append r.done (e ∷ []) in
    header-read t.machine.board front l r e t.machine.course.state t (record { machine = new; entries = entries; is_closed = true; cut = t.cut; due = text; at = length l + 1 }) made
    (ap (λ (j : List Entry). is_late t.machine.board j t.machine.course.state) (sym made.journal) ∙ closes.0)
    (subst (λ (x : List ℕ). behind_front (with_newline l) x ≡ Some (drop (length l + 1) x)) text_is front_is)
    board (all ∙ long)
    (sym made.journal ∙ closes.1.front ∙ ap (λ (n : ℕ). take n new.course.journal) long)
    (subst (λ (n : ℕ). n ≤ length new.course.journal) long closes.1.some)
    (record { over = ap (is_over t.machine.board) (sym made.journal) ∙ closes.1.over; going = closes.1.going })
    refl text_is refl

pub entry-open : (b : PlainBoard) (front l : List ℕ) (r : Reader) (e : Entry) (t : TraceReader) (new : MachineSeen) (text : List ℕ) → HasMade t.machine.board front t r e → text ≡ entry_text (length r.done + 1) e
    → behind_front (with_newline l) text ≡ Some (drop (length l + 1) text) → (is_late t.machine.board t.machine.course.journal t.machine.course.state ≡ false) × (new.course ≡ t.machine.course) → new.board ≡ t.machine.board
    → t.machine.course.halt ≡ t.machine.course.state.halt → (entries : ℕ) → entries ≡ length t.machine.course.journal
    → Follows t.machine.board front l r (read_entry t.machine.board r l e t.machine.course.state) Next.On (record { machine = new; entries = entries; is_closed = t.is_closed; cut = t.cut; due = text; at = length l + 1 })
entry-open b front l r e t new text made text_is front_is closes board halt entries all =
    let long : length t.machine.course.journal ≡ length r.done + 1 = ap length made.journal ∙ length-append r.done (e ∷ []) in
    let same : new.course.journal ≡ t.machine.course.journal = ap (λ (c : Course). c.journal) closes.1 in
    let next : Reader = record { state = t.machine.course.state; done = r.done ++ e ∷ []; counted = r.counted; due = drop (length l + 1) (entry_text (length r.done + 1) e) } in
    header-read t.machine.board front l r e t.machine.course.state t (record { machine = new; entries = entries; is_closed = t.is_closed; cut = t.cut; due = text; at = length l + 1 }) made
    (ap (λ (j : List Entry). is_late t.machine.board j t.machine.course.state) (sym made.journal) ∙ closes.0)
    (subst (λ (x : List ℕ). behind_front (with_newline l) x ≡ Some (drop (length l + 1) x)) text_is front_is)
    board (all ∙ long)
    (sym made.journal ∙ sym same ∙ sym (take_all (length r.done + 1) new.course.journal (omega (arith, long, ap length same))))
    (omega (arith, long, ap length same))
    (subst (λ (x : Bool). Stands x t.machine.board new entries next) (sym made.is_open) (record {
      all = all ∙ ap length (sym same);
      state = ap (λ (c : Course). c.state) closes.1;
      halt = ap (λ (c : Course). c.halt) closes.1 ∙ halt ∙ ap (λ (c : Course). c.state.halt) (sym closes.1);
    }))
    refl text_is refl
