-- What stands behind the fields of a line: limits, schedules and calls are read as they are spelled.
use Rattle.std.proofs.Common.{◌≡◌, ℕ, suc, ◌+◌, ◌-◌, ◌≤◌, ◌<◌, Bool, true, false, ◌&&◌, eqb, leb, cond, List, [], ◌∷◌, ◌++◌, length, map, drop, Option, Some, None, Result, Ok, Err, refl, sym, ap, ◌∙◌, subst, arith, get_or, Bor, drop-cons, length-drop, append_assoc, decimal, codes, inl, inr}
use Rattle.std.specs.Prelude.{bytes_eq}
use Rattle.std.specs.List.{AllByRecursion}
use Rattle.std.proofs.lemmas.List.{nil_from_length, append-nil}
use Rattle.std.proofs.lemmas.List.Elements.{recursion_from_All, All-from_recursion}
use Rattle.std.proofs.lemmas.Bool.{and_parts, and_from, eqb-true, eq-eqb, leb-true, le-leb, cases_Bool}
use Rattle.std.proofs.lemmas.Fmt.{decimal_digit}
use Rattle.rt_base.specs.declared.codes.Event.{Event}
use Rattle.rt_plain.specs.declared.board.Schedule.{Schedule}
use Rattle.rt_plain.specs.declared.board_line.LimitClass.{LimitClass}
use Rattle.rt_plain.specs.declared.kind.StatementKind.{StatementKind}
use Rattle.rt_plain.specs.declared.stmt.Stmt.{Stmt}
use Rattle.rt_plain.specs.declared.why.Why.{Why}
use Rattle.rt_plain.specs.text.Splits.{word_at}
use Rattle.rt_plain.specs.text.Fields.{is_digit, is_number, number_in, result_map}
use Rattle.rt_plain.specs.text.StatementTable.{statement_word, statement_named, statement_count, statement_kind, statement_words, FitsStatement}
use Rattle.rt_plain.specs.declared.kind.Tail.{Tail}
use Rattle.rt_plain.specs.declared.kind.Tail.TheVariants.{Ends, SetsLimit, SetsSchedule, MakesCall}
use Rattle.rt_plain.specs.text.Tails.{TailValue, limit_word, event_text, schedule_words, timer_call_words, tail_words, limit_top, FitsEvent, FitsSchedule, FitsTimerCall, TailFits, is_counted_schedule, is_counted_statement, is_counted_call, is_counted, limit_named, limit_of, limit_in, event_in, event_before, events_in, schedule_in, statement_of, timer_call_in, tail_in}
use Rattle.rt_plain.proofs.text.FieldLemmas.{chosen, when, unless, kept, map_ok, ok_is, is_word, number-takes, number-again}
use Rattle.rt_plain.proofs.text.FieldListLemmas.{ArePrintable, AreBehind, digits_token, digit_byte, token_plain, token_printable, is_token, words_behind_plain}
use Rattle.rt_plain.proofs.text.StatementTableLemmas.{statement-takes, statement-again, statement_length, statement_are_words, statement_printable, statement_front, named-statement, statement-named, some_is}
use Rattle.rt_plain.proofs.text.SplitLemmas.{nows}

-- ---- limits

pub named-limit : (class : LimitClass) → limit_named (limit_word class) ≡ Some class
named-limit LimitClass.Sem = refl
named-limit _ = refl

limit-named : (w : List ℕ) (class : LimitClass) → limit_named w ≡ Some class → w ≡ limit_word class
limit-named w class e =
    elim (chosen (bytes_eq w (codes "sem")) (Some LimitClass.Sem) _ (Some class) e) [
      | inl h ↦ is_word w (codes "sem") h.0 ∙ ap limit_word (some_is LimitClass.Sem class h.1)
      | inr h ↦ elim (chosen (bytes_eq w (codes "event")) (Some LimitClass.Event) _ (Some class) h.1) [
        | inl k ↦ is_word w (codes "event") k.0 ∙ ap limit_word (some_is LimitClass.Event class k.1)
        | inr k ↦ elim (chosen (bytes_eq w (codes "mutex")) (Some LimitClass.Mutex) None (Some class) k.1) [
          | inl m ↦ is_word w (codes "mutex") m.0 ∙ ap limit_word (some_is LimitClass.Mutex class m.1)
          | inr m ↦ absurd (let z = m.1 in cc)
        ]
      ]
    ]

pub limit_small : (class : LimitClass) → limit_top class ≤ 256
limit_small LimitClass.Sem = omega arith
limit_small LimitClass.Event = omega arith
limit_small LimitClass.Mutex = omega arith

two_words : (ws : List (List ℕ)) → length ws ≡ 2 → ws ≡ word_at ws 0 ∷ word_at ws 1 ∷ []
two_words [] e = absurd (omega arith)
two_words (a ∷ []) e = absurd (omega arith)
two_words (a ∷ b ∷ []) e = refl
two_words (a ∷ b ∷ c ∷ ws) e = absurd (omega arith)

abbrev limit_words : LimitClass × ℕ → List (List ℕ)
limit_words v = limit_word v.0 ∷ decimal v.1 ∷ []

no_limit : (t : Bool) (v : LimitClass × ℕ) → cond t (Err Why.Choice) (Err Why.Number) ≡ Ok v → ⊥
no_limit true v e = absurd cc
no_limit false v e = absurd cc

limit_of-takes : (w word : List ℕ) (o : Option LimitClass) (v : LimitClass × ℕ) → limit_named w ≡ o → limit_of o word ≡ Ok v → (w ∷ word ∷ [] ≡ limit_words v) × (v.1 ≤ limit_top v.0)
limit_of-takes w word None v o e = absurd (no_limit (is_number word) v e)
limit_of-takes w word (Some class) v o e =
    let m = map_ok (λ n. (class, n)) (number_in 0 (limit_top class) word) v e in
    let k = number-takes 0 (limit_top class) word m.0 m.1 in
    subst (λ (u : LimitClass × ℕ). (w ∷ word ∷ [] ≡ limit_words u) × (u.1 ≤ limit_top u.0)) m.2
    (ap (λ (x : List ℕ). x ∷ word ∷ []) (limit-named w class o) ∙ ap (λ (x : List ℕ). limit_word class ∷ x ∷ []) (sym k.0), k.1.1)

limit-takes : (ws : List (List ℕ)) (v : LimitClass × ℕ) → length ws ≡ 2 → limit_in ws ≡ Ok v → (ws ≡ limit_words v) × (v.1 ≤ limit_top v.0)
limit-takes ws v len e =
    let k = limit_of-takes (word_at ws 0) (word_at ws 1) (limit_named (word_at ws 0)) v refl e in
    (two_words ws len ∙ k.0, k.1)

limit-again : (v : LimitClass × ℕ) → v.1 ≤ limit_top v.0 → limit_in (limit_words v) ≡ Ok v
limit-again v h =
    let small = limit_small v.0 in
    ap (λ (o : Option LimitClass). limit_of o (decimal v.1)) (named-limit v.0)
    ∙ ap (result_map (λ n. (v.0, n))) (number-again 0 (limit_top v.0) v.1 (omega arith) h (omega arith))

-- ---- schedules

event-takes : (w : List ℕ) (e : Event) → event_in w ≡ Ok e → (w ≡ event_text e) × FitsEvent e
event-takes [] e h = absurd cc
event-takes (b ∷ []) e h =
    let k = kept (eqb b 116) Why.Choice Event.Tick e h in
    subst (λ (x : Event). (b ∷ [] ≡ event_text x) × FitsEvent x) k.1 (ap (λ (x : ℕ). x ∷ []) (eqb-true b 116 k.0), tt)
event-takes (b ∷ d ∷ []) e h =
    let k = kept (eqb b 99 && is_digit d) Why.Choice (Event.Step (d - 48)) e h in
    let p = and_parts (eqb b 99) (is_digit d) k.0 in
    let q = and_parts (leb 48 d) (leb d 57) p.1 in
    let low : 48 ≤ d = leb-true 48 d q.0 in
    let high : d ≤ 57 = leb-true d 57 q.1 in
    let same : 48 + (d - 48) ≡ d = omega arith in
    subst (λ (x : Event). (b ∷ d ∷ [] ≡ event_text x) × FitsEvent x) k.1
    (ap (λ (x : ℕ). x ∷ d ∷ []) (eqb-true b 99 p.0) ∙ ap (λ (x : ℕ). 99 ∷ x ∷ []) (sym same) ∙ ap (λ (x : List ℕ). 99 ∷ x) (sym (decimal_digit (d - 48) (omega arith))), omega arith)
event-takes (b ∷ d ∷ c ∷ bs) e h = absurd cc

event-again : (e : Event) → FitsEvent e → event_in (event_text e) ≡ Ok e
event-again Event.Tick h = refl
event-again (Event.Step n) h =
    let digit : is_digit (48 + n) ≡ true = and_from _ _ (le-leb 48 (48 + n) (omega arith)) (le-leb (48 + n) 57 (omega arith)) in
    let back : 48 + n - 48 ≡ n = omega arith in
    ap (λ (x : List ℕ). event_in (99 ∷ x)) (decimal_digit n (omega arith))
    ∙ when (is_digit (48 + n)) (Ok (Event.Step (48 + n - 48))) (Err Why.Choice) digit
    ∙ ap (λ (x : ℕ). Ok (Event.Step x)) back

before_ok : (first : Result Event Why) (others : Result (List Event) Why) (es : List Event) → event_before first others ≡ Ok es → (e : Event) × (rest : List Event) × (first ≡ Ok e) × (others ≡ Ok rest) × (e ∷ rest ≡ es)
before_ok (Ok e) (Ok rest) es h = (e, rest, refl, refl, ok_is (e ∷ rest) es h)
before_ok (Ok e) (Err d) es h = absurd cc
before_ok (Err d) others es h = absurd cc

events-take : (ws : List (List ℕ)) (es : List Event) → events_in ws ≡ Ok es → (ws ≡ map event_text es) × AllByRecursion FitsEvent es
events-take [] es h = subst (λ (xs : List Event). ([] ≡ map event_text xs) × AllByRecursion FitsEvent xs) (ok_is [] es h) (refl, tt)
events-take (w ∷ ws) es h =
    let b = before_ok (event_in w) (events_in ws) es h in
    let first = event-takes w b.0 b.2 in
    let others = events-take ws b.1 b.3 in
    subst (λ (xs : List Event). (w ∷ ws ≡ map event_text xs) × AllByRecursion FitsEvent xs) b.4
    (ap (λ (x : List ℕ). x ∷ ws) first.0 ∙ ap (λ (t : List (List ℕ)). event_text b.0 ∷ t) others.0, (first.1, others.1))

events-again : (es : List Event) → AllByRecursion FitsEvent es → events_in (map event_text es) ≡ Ok es
events-again [] h = refl
events-again (e ∷ es) h = rw (event-again e h.0, events-again es h.1) refl

length_events : (es : List Event) → length (map event_text es) ≡ length es
length_events [] = refl
length_events (e ∷ es) = ap suc (length_events es)

one_word : (ws : List (List ℕ)) → length ws ≡ 1 → ws ≡ word_at ws 0 ∷ []
one_word [] e = absurd (omega arith)
one_word (a ∷ []) e = refl
one_word (a ∷ b ∷ ws) e = absurd (omega arith)

no_schedule : (s : Schedule) → Err Why.Choice ≡ Ok s → ⊥
no_schedule s e = absurd cc

schedule-takes : (ws : List (List ℕ)) (s : Schedule) → is_counted_schedule ws ≡ true → schedule_in ws ≡ Ok s → (ws ≡ schedule_words s) × FitsSchedule s
schedule-takes [] s n e = absurd cc
schedule-takes (w ∷ ws) s n e =
    elim (cases_Bool (bytes_eq w (codes "round"))) [
      | inl r ↦ (let count = eqb-true (suc (length ws)) 1 (sym (when (bytes_eq w (codes "round")) (eqb (suc (length ws)) 1) _ r) ∙ n) in
          let same = ok_is Schedule.Round s (sym (when (bytes_eq w (codes "round")) (Ok Schedule.Round) _ r) ∙ e) in
          subst (λ (x : Schedule). (w ∷ ws ≡ schedule_words x) × FitsSchedule x) same
          (ap (λ (x : List ℕ). x ∷ ws) (is_word w (codes "round") r) ∙ ap (λ (t : List (List ℕ)). codes "round" ∷ t) (nil_from_length ws (omega arith)), tt))
      | inr r ↦ behind_round (sym (unless (bytes_eq w (codes "round")) (eqb (suc (length ws)) 1) _ r) ∙ n) (sym (unless (bytes_eq w (codes "round")) (Ok Schedule.Round) _ r) ∙ e)
    ]
  where
    behind_seed : cond (bytes_eq w (codes "order")) (leb 2 (suc (length ws)) && leb (suc (length ws)) 1001) (leb 1 (suc (length ws))) ≡ true → cond (bytes_eq w (codes "order")) (result_map (λ events. Schedule.Order events) (events_in ws)) (Err Why.Choice) ≡ Ok s → (w ∷ ws ≡ schedule_words s) × FitsSchedule s
    behind_seed m f =
        elim (chosen (bytes_eq w (codes "order")) (result_map (λ events. Schedule.Order events) (events_in ws)) (Err Why.Choice) (Ok s) f) [
          | inl o ↦ (let count = and_parts (leb 2 (suc (length ws))) (leb (suc (length ws)) 1001) (sym (when (bytes_eq w (codes "order")) (leb 2 (suc (length ws)) && leb (suc (length ws)) 1001) (leb 1 (suc (length ws))) o.0) ∙ m) in
              let d = map_ok (λ events. Schedule.Order events) (events_in ws) s o.1 in
              let k = events-take ws d.0 d.1 in
              let size : length ws ≡ length d.0 = ap length k.0 ∙ length_events d.0 in
              let low = leb-true 2 (suc (length ws)) count.0 in
              let high = leb-true (suc (length ws)) 1001 count.1 in
              subst (λ (x : Schedule). (w ∷ ws ≡ schedule_words x) × FitsSchedule x) d.2
              (ap (λ (x : List ℕ). x ∷ ws) (is_word w (codes "order") o.0) ∙ ap (λ (t : List (List ℕ)). codes "order" ∷ t) k.0, (omega arith, omega arith, All-from_recursion FitsEvent d.0 k.1)))
          | inr o ↦ absurd (no_schedule s o.1)
        ]

    behind_round : cond (bytes_eq w (codes "seed")) (eqb (suc (length ws)) 2) (cond (bytes_eq w (codes "order")) (leb 2 (suc (length ws)) && leb (suc (length ws)) 1001) (leb 1 (suc (length ws)))) ≡ true → cond (bytes_eq w (codes "seed")) (result_map (λ seed. Schedule.Seed seed) (number_in 0 4294967295 (word_at ws 0))) (cond (bytes_eq w (codes "order")) (result_map (λ events. Schedule.Order events) (events_in ws)) (Err Why.Choice)) ≡ Ok s → (w ∷ ws ≡ schedule_words s) × FitsSchedule s
    behind_round m f =
        elim (cases_Bool (bytes_eq w (codes "seed"))) [
          | inl t ↦ (let count = eqb-true (suc (length ws)) 2 (sym (when (bytes_eq w (codes "seed")) (eqb (suc (length ws)) 2) _ t) ∙ m) in
              let one : length ws ≡ 1 = omega arith in
              let d = map_ok (λ seed. Schedule.Seed seed) (number_in 0 4294967295 (word_at ws 0)) s (sym (when (bytes_eq w (codes "seed")) (result_map (λ seed. Schedule.Seed seed) (number_in 0 4294967295 (word_at ws 0))) _ t) ∙ f) in
              let k = number-takes 0 4294967295 (word_at ws 0) d.0 d.1 in
              subst (λ (x : Schedule). (w ∷ ws ≡ schedule_words x) × FitsSchedule x) d.2
              (ap (λ (x : List ℕ). x ∷ ws) (is_word w (codes "seed") t) ∙ ap (λ (t : List (List ℕ)). codes "seed" ∷ t) (one_word ws one ∙ ap (λ (x : List ℕ). x ∷ []) (sym k.0)), omega (arith, k.1)))
          | inr t ↦ behind_seed (sym (unless (bytes_eq w (codes "seed")) (eqb (suc (length ws)) 2) _ t) ∙ m) (sym (unless (bytes_eq w (codes "seed")) (result_map (λ seed. Schedule.Seed seed) (number_in 0 4294967295 (word_at ws 0))) _ t) ∙ f)
        ]

schedule-again : (s : Schedule) → FitsSchedule s → (is_counted_schedule (schedule_words s) ≡ true) × (schedule_in (schedule_words s) ≡ Ok s)
schedule-again Schedule.Round h = (refl, refl)
schedule-again (Schedule.Seed seed) h = (refl, ap (result_map (λ n. Schedule.Seed n)) (number-again 0 4294967295 seed (omega arith) (omega arith) h))
schedule-again (Schedule.Order events) h =
    let size = length_events events in (
      and_from _ _ (le-leb 2 (suc (length (map event_text events))) (omega (arith, h.0))) (le-leb (suc (length (map event_text events))) 1001 (omega (arith, h.1))),
      ap (result_map (λ es. Schedule.Order es)) (events-again events (recursion_from_All FitsEvent events h.2)),
    )

-- ---- a timer's call

pub named_no_dash : (k : StatementKind) → bytes_eq (statement_word k) (codes "-") ≡ false
unfolding statement_word
named_no_dash StatementKind.Print = refl
named_no_dash _ = refl

of-takes : (levels : ℕ) (ws : List (List ℕ)) (o : Option StatementKind) (s : Stmt) → ArePrintable ws → statement_named (word_at ws 0) ≡ o → is_counted_statement o (length ws) ≡ true → statement_of levels ws o ≡ Ok s → (ws ≡ statement_words s) × FitsStatement levels s
of-takes levels ws None s p o n e = absurd cc
of-takes levels ws (Some k) s p o n e = statement-takes levels ws k s p (eqb-true (length ws) (1 + statement_count k) n) (sym (statement-named (word_at ws 0) k o)) e

dash_alone : (ws : List (List ℕ)) → length ws ≡ 1 → word_at ws 0 ≡ codes "-" → ws ≡ codes "-" ∷ []
dash_alone ws len e = one_word ws len ∙ ap (λ (x : List ℕ). x ∷ []) e

call-takes : (levels : ℕ) (ws : List (List ℕ)) (c : Option Stmt) → ArePrintable ws → is_counted_call ws ≡ true → timer_call_in levels ws ≡ Ok c → (ws ≡ timer_call_words c) × FitsTimerCall levels c
call-takes levels ws c p n e =
    let w = word_at ws 0 in
    let dash = bytes_eq w (codes "-") in
    let none : Result (Option Stmt) Why = Ok None in
    let some : Result (Option Stmt) Why = result_map (λ s. Some s) (statement_of levels ws (statement_named w)) in
    elim (cases_Bool dash) [
      | inl d ↦ (let count = eqb-true (length ws) 1 (sym (when dash (eqb (length ws) 1) (is_counted_statement (statement_named w) (length ws)) d) ∙ n) in
          let same = ok_is None c (sym (when dash none some d) ∙ e) in
          subst (λ (x : Option Stmt). (ws ≡ timer_call_words x) × FitsTimerCall levels x) same
          (dash_alone ws count (is_word w (codes "-") d), tt))
      | inr d ↦ (let count = sym (unless dash (eqb (length ws) 1) (is_counted_statement (statement_named w) (length ws)) d) ∙ n in
          let m = map_ok (λ s. Some s) (statement_of levels ws (statement_named w)) c (sym (unless dash none some d) ∙ e) in
          subst (λ (x : Option Stmt). (ws ≡ timer_call_words x) × FitsTimerCall levels x) m.2
          (of-takes levels ws (statement_named w) m.0 p refl count m.1))
    ]

statement-call : (levels : ℕ) (s : Stmt) → FitsStatement levels s → (is_counted_call (statement_words s) ≡ true) × (timer_call_in levels (statement_words s) ≡ Ok (Some s))
statement-call levels s h =
    let ws = statement_words s in
    let w = word_at ws 0 in
    let k = statement_kind s in
    let front : w ≡ statement_word k = statement_front s in
    let dash : bytes_eq w (codes "-") ≡ false = ap (λ (x : List ℕ). bytes_eq x (codes "-")) front ∙ named_no_dash k in
    let named : statement_named w ≡ Some k = ap statement_named front ∙ named-statement k in
    let none : Result (Option Stmt) Why = Ok None in (
      unless (bytes_eq w (codes "-")) (eqb (length ws) 1) (is_counted_statement (statement_named w) (length ws)) dash ∙ ap (λ (o : Option StatementKind). is_counted_statement o (length ws)) named ∙ eq-eqb (length ws) (1 + statement_count k) (statement_length s),
      unless (bytes_eq w (codes "-")) none (result_map (λ s. Some s) (statement_of levels ws (statement_named w))) dash
          ∙ ap (λ (o : Option StatementKind). result_map (λ s. Some s) (statement_of levels ws o)) named
          ∙ ap (result_map (λ s. Some s)) (statement-again levels s h),
    )

call-again : (levels : ℕ) (c : Option Stmt) → FitsTimerCall levels c → (is_counted_call (timer_call_words c) ≡ true) × (timer_call_in levels (timer_call_words c) ≡ Ok c)
call-again levels None h = (refl, refl)
call-again levels (Some s) h = statement-call levels s h

-- ---- events one by one

-- events in front of what is read of the rest
abbrev pub fronted : List Event → Result (List Event) Why → Result (List Event) Why
fronted es (Ok rest) = Ok (es ++ rest)
fronted es (Err e) = Err e

pub fronted_none : (r : Result (List Event) Why) → fronted [] r ≡ r
fronted_none (Ok rest) = refl
fronted_none (Err e) = refl

fronted_more : (es : List Event) (e : Event) (r : Result (List Event) Why) → fronted es (event_before (Ok e) r) ≡ fronted (es ++ e ∷ []) r
fronted_more es e (Ok rest) = ap (λ (u : List Event). Ok u) (sym (append_assoc es (e ∷ []) rest))
fronted_more es e (Err d) = refl

pub events_on : (es : List Event) (ws : List (Bor (List ℕ))) (i : ℕ) (d : Bor (List ℕ)) (e : Event) → i < length ws → event_in (get_or ws i d).now ≡ Ok e → fronted es (events_in (nows (drop i ws))) ≡ fronted (es ++ e ∷ []) (events_in (nows (drop (i + 1) ws)))
events_on es ws i d e lt h =
    let next : suc i ≡ i + 1 = omega arith in
    ap (λ (us : List (Bor (List ℕ))). fronted es (events_in (nows us))) (drop-cons ws i d lt)
    ∙ ap (λ (r : Result Event Why). fronted es (event_before r (events_in (nows (drop (suc i) ws))))) h
    ∙ fronted_more es e (events_in (nows (drop (suc i) ws))) ∙ ap (λ (n : ℕ). fronted (es ++ e ∷ []) (events_in (nows (drop n ws)))) next

pub events_stop : (es : List Event) (ws : List (Bor (List ℕ))) (i : ℕ) (d : Bor (List ℕ)) (e : Why) → i < length ws → event_in (get_or ws i d).now ≡ Err e → fronted es (events_in (nows (drop i ws))) ≡ Err e
events_stop es ws i d e lt h =
    ap (λ (us : List (Bor (List ℕ))). fronted es (events_in (nows us))) (drop-cons ws i d lt)
    ∙ ap (λ (r : Result Event Why). fronted es (event_before r (events_in (nows (drop (suc i) ws))))) h

pub events_end : (es : List Event) (ws : List (Bor (List ℕ))) (i : ℕ) → length ws ≤ i → fronted es (events_in (nows (drop i ws))) ≡ Ok es
events_end es ws i le = ap (λ (us : List (Bor (List ℕ))). fronted es (events_in (nows us))) (nil_from_length (drop i ws) (omega (arith, length-drop i ws))) ∙ ap (λ (u : List Event). Ok u) (append-nil es)

-- ---- all of them

pub tail-takes : (levels : ℕ) (t : Tail) (ws : List (List ℕ)) (v : TailValue t) → ArePrintable ws → is_counted t ws ≡ true → tail_in levels t ws ≡ Ok v → (ws ≡ tail_words t v) × TailFits levels t v
tail-takes levels Ends ws v p n e = (nil_from_length ws (eqb-true (length ws) 0 n), tt)
tail-takes levels SetsLimit ws v p n e = limit-takes ws v (eqb-true (length ws) 2 n) e
tail-takes levels SetsSchedule ws v p n e = schedule-takes ws v n e
tail-takes levels MakesCall ws v p n e = call-takes levels ws v p n e

pub tail-again : (levels : ℕ) (t : Tail) (v : TailValue t) → TailFits levels t v → tail_in levels t (tail_words t v) ≡ Ok v
tail-again levels Ends v h = refl
tail-again levels SetsLimit v h = limit-again v h
tail-again levels SetsSchedule v h = (schedule-again v h).1
tail-again levels MakesCall v h = (call-again levels v h).1

pub tail-counted : (levels : ℕ) (t : Tail) (v : TailValue t) → TailFits levels t v → is_counted t (tail_words t v) ≡ true
tail-counted levels Ends v h = refl
tail-counted levels SetsLimit v h = refl
tail-counted levels SetsSchedule v h = (schedule-again v h).0
tail-counted levels MakesCall v h = (call-again levels v h).0

limit_token : (class : LimitClass) → is_token (limit_word class) ≡ true
limit_token LimitClass.Sem = refl
limit_token _ = refl

event_token : (e : Event) → FitsEvent e → is_token (event_text e) ≡ true
event_token Event.Tick h = refl
event_token (Event.Step n) h = ap (λ (x : List ℕ). is_token (99 ∷ x)) (decimal_digit n (omega arith)) ∙ and_from _ _ (digit_byte (48 + n) (and_from _ _ (le-leb 48 (48 + n) (omega arith)) (le-leb (48 + n) 57 (omega arith)))) refl

events_plain : (es : List Event) → AllByRecursion FitsEvent es → AreBehind (map event_text es)
events_plain [] h = tt
events_plain (e ∷ es) h = words_behind_plain (event_text e) (map event_text es) (token_plain (event_text e) (event_token e h.0)) (events_plain es h.1)

events_printable : (es : List Event) → AllByRecursion FitsEvent es → ArePrintable (map event_text es)
events_printable [] h = tt
events_printable (e ∷ es) h = (token_printable (event_text e) (event_token e h.0), events_printable es h.1)

schedule_plain : (s : Schedule) → FitsSchedule s → AreBehind (schedule_words s)
schedule_plain Schedule.Round h = inl (token_plain (codes "round") refl)
schedule_plain (Schedule.Seed seed) h = (token_plain (codes "seed") refl, inl (token_plain (decimal seed) (digits_token seed (omega arith))))
schedule_plain (Schedule.Order events) h = words_behind_plain (codes "order") (map event_text events) (token_plain (codes "order") refl) (events_plain events (recursion_from_All FitsEvent events h.2))

schedule_printable : (s : Schedule) → FitsSchedule s → ArePrintable (schedule_words s)
schedule_printable Schedule.Round h = (refl, tt)
schedule_printable (Schedule.Seed seed) h = (refl, (token_printable (decimal seed) (digits_token seed (omega arith)), tt))
schedule_printable (Schedule.Order events) h = (refl, events_printable events (recursion_from_All FitsEvent events h.2))

call_plain : (levels : ℕ) (c : Option Stmt) → FitsTimerCall levels c → AreBehind (timer_call_words c)
call_plain levels None h = inl (token_plain (codes "-") refl)
call_plain levels (Some s) h = statement_are_words levels s h

call_printable : (levels : ℕ) (c : Option Stmt) → FitsTimerCall levels c → ArePrintable (timer_call_words c)
call_printable levels None h = (refl, tt)
call_printable levels (Some s) h = statement_printable levels s h

pub tail_plain : (levels : ℕ) (t : Tail) (v : TailValue t) → TailFits levels t v → AreBehind (tail_words t v)
tail_plain levels Ends v h = tt
tail_plain levels SetsLimit v h = let small = limit_small v.0 in (token_plain (limit_word v.0) (limit_token v.0), inl (token_plain (decimal v.1) (digits_token v.1 (omega arith))))
tail_plain levels SetsSchedule v h = schedule_plain v h
tail_plain levels MakesCall v h = call_plain levels v h

pub tail_printable : (levels : ℕ) (t : Tail) (v : TailValue t) → TailFits levels t v → ArePrintable (tail_words t v)
tail_printable levels Ends v h = tt
tail_printable levels SetsLimit v h = let small = limit_small v.0 in (token_printable (limit_word v.0) (limit_token v.0), (token_printable (decimal v.1) (digits_token v.1 (omega arith)), tt))
tail_printable levels SetsSchedule v h = schedule_printable v h
tail_printable levels MakesCall v h = call_printable levels v h
