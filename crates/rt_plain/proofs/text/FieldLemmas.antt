-- A field's value has one spelling: what is read is spelled so, and what is spelled is read.
use Rattle.std.proofs.Common.{◌≡◌, ℕ, take, drop, drop-cons, length-drop, take-append-drop, get_or, ◌+◌, suc, ◌<◌, ◌≤◌, ◌^◌, min, Bool, true, false, ◌&&◌, ◌||◌, eqb, leb, ltb, cond, List, [], ◌∷◌, ◌++◌, length, Option, Some, None, Result, Ok, Err, refl, sym, ap, ◌∙◌, subst, arith, decimal, codes, inl, inr, ◌⊎◌}
use Rattle.std.specs.Prelude.{IsTrue, bytes_eq}
use Rattle.std.specs.List.{list_all}
use Rattle.std.specs.Fmt.{digits}
use Rattle.std.proofs.lemmas.Bool.{and_parts, and_from, or_cases, eqb-true, eq-eqb, leb-true, le-leb, ltb-true, lt-ltb, ne_eqb, false_from_ne_true, both_ways}
use Rattle.std.proofs.lemmas.Fmt.{digits_decimal}
use Rattle.std.proofs.lemmas.Slice.Eq.{bytes_eq-Decides}
use Rattle.std.proofs.lemmas.List.{nil_from_length}
use Rattle.std.proofs.lemmas.List.Folds.{list_all-append}
use Rattle.std.proofs.lemmas.List.Elements.{recursion_from_All, All-from_recursion}
use Rattle.rt_base.specs.Grammar.{is_name, is_text}
use Rattle.rt_base.specs.declared.codes.Code.{Code}
use Rattle.rt_base.specs.declared.codes.Class.{Class}
use Rattle.rt_base.specs.declared.codes.Sleep.{Sleep}
use Rattle.rt_base.specs.declared.codes.RunMode.{RunMode}
use Rattle.rt_base.specs.declared.codes.WaitOrder.{WaitOrder}
use Rattle.rt_plain.specs.declared.board.TimerKind.{TimerKind}
use Rattle.rt_plain.specs.declared.line.Woke.{Woke}
use Rattle.rt_plain.specs.declared.line.Fired.{Fired}
use Rattle.rt_plain.specs.declared.stmt.What.{What}
use Rattle.rt_plain.specs.declared.why.Why.{Why}
use Rattle.rt_plain.specs.declared.quote.Quoting.TheVariants.{Plain}
use Rattle.rt_plain.specs.text.Words.{code_text, sleep_text, run_mode_text, order_text, class_text}
use Rattle.rt_plain.specs.text.Texts.{quoted_text, code_or_wait, woke_text, fired_text}
use Rattle.rt_plain.specs.text.Splits.{is_printable}
use Rattle.rt_plain.specs.text.Fields.{Field, Number, Moment, Levels, Core, Wait, Named, Indicated, Quoted, Coded, Ordered, Said, Classed, Moded, Ran, Repeated, Started, Armed, How, Keep, OnOff, Powered, Placed, Answered, Woken, Acted, Changed, Received, all_answers, answer_in, all_wakes, woke_in, all_acts, fired_in, split_more, split_last, paired, change_parts, change_in, received_parts, received_in, Value, Fits, spelled, value_in, listed_in, all_codes, all_orders, all_whats, deletable_classes, all_modes, all_run_modes, all_timer_kinds, code_in, order_in, what_in, what_text, class_in, is_deletable, mode_in, run_in, timer_kind_in, timer_kind_text, indicated_in, name_or_dash, number_in, is_within, moment_in, levels_in, core_in, wait_in, name_in, choice_in, text_in, text_or, unquoted, result_map, read_on, is_number, either, is_digit}
use Rattle.rt_plain.proofs.text.NumberLemmas.{own, number_takes, number_again}
use Rattle.rt_plain.proofs.text.QuoteLemmas.{text-again, text_takes}

-- which way a test went
pub chosen : {A : Type 0} (b : Bool) (x y z : A) → cond b x y ≡ z → ((b ≡ true) × (x ≡ z)) ⊎ ((b ≡ false) × (y ≡ z))
chosen true x y z e = inl (refl, e)
chosen false x y z e = inr (refl, e)

pub when : {A : Type 0} (b : Bool) (x y : A) → b ≡ true → cond b x y ≡ x
when true x y e = refl
when false x y e = absurd cc

pub unless : {A : Type 0} (b : Bool) (x y : A) → b ≡ false → cond b x y ≡ y
unless true x y e = absurd cc
unless false x y e = refl

-- a guarded value
pub kept : {A : Type 0} (b : Bool) (e : Why) (x y : A) → cond b (Ok x) (Err e) ≡ Ok y → (b ≡ true) × (x ≡ y)
kept true e x y h = (refl, cc)
kept false e x y h = absurd cc

pub kept_in : {A : Type 0} (b : Bool) (e : Why) (r : Result A Why) (y : A) → cond b r (Err e) ≡ Ok y → (b ≡ true) × (r ≡ Ok y)
kept_in true e r y h = (refl, h)
kept_in false e r y h = absurd cc

abbrev done : {A : Type 0} → A → Result A Why
done x = Ok x

pub ok_is : {A : Type 0} (x y : A) → done x ≡ done y → x ≡ y
ok_is x y e = cc

pub is_word : (w v : List ℕ) → bytes_eq w v ≡ true → w ≡ v
is_word w v e = (bytes_eq-Decides w v).0 e

pub is_same : (w : List ℕ) → bytes_eq w w ≡ true
is_same w = (bytes_eq-Decides w w).1 refl

-- ---- numbers

pub number-takes : (low high : ℕ) (w : List ℕ) (n : ℕ) → number_in low high w ≡ Ok n → (decimal n ≡ w) × ((low ≤ n) × (n ≤ high) × (n < 2 ^ 32))
number-takes low high w n e =
    let a = kept_in (is_number w) Why.Number _ n e in
    let b = kept (is_within low high (read_on 0 w)) Why.Range (read_on 0 w) n a.1 in
    let c = and_parts (leb low (read_on 0 w) && leb (read_on 0 w) high) (ltb (read_on 0 w) (2 ^ 32)) b.0 in
    let d = and_parts (leb low (read_on 0 w)) (leb (read_on 0 w) high) c.0 in
    let lt : read_on 0 w < 2 ^ 32 = ltb-true _ _ c.1 in
    subst (λ (m : ℕ). (decimal m ≡ w) × ((low ≤ m) × (m ≤ high) × (m < 2 ^ 32))) b.1 (number_takes w a.0 (omega arith), (leb-true _ _ d.0, leb-true _ _ d.1, lt))

pub number-again : (low high n : ℕ) → low ≤ n → n ≤ high → n < 2 ^ 32 → number_in low high (decimal n) ≡ Ok n
number-again low high n a b c =
    let t = number_again n (omega arith) in
    let within : is_within low high n ≡ true = and_from _ _ (and_from _ _ (le-leb low n a) (le-leb n high b)) (lt-ltb n (2 ^ 32) c) in
    rw (t.0, t.1, within) refl

moment-takes : (w : List ℕ) (n : ℕ) → moment_in w ≡ Ok n → (w ≡ decimal n) × Fits Moment n
moment-takes w n e =
    let a = kept_in (is_number w) Why.Number _ n e in
    let b = kept (leb 1 (read_on 0 w) && leb (read_on 0 w) 1099511627775) Why.Range (read_on 0 w) n a.1 in
    let c = and_parts (leb 1 (read_on 0 w)) (leb (read_on 0 w) 1099511627775) b.0 in
    let high : read_on 0 w ≤ 1099511627775 = leb-true _ _ c.1 in
    subst (λ (m : ℕ). (w ≡ decimal m) × Fits Moment m) b.1 (sym (number_takes w a.0 (omega arith)), (leb-true _ _ c.0, high))

moment-again : (n : ℕ) → Fits Moment n → moment_in (decimal n) ≡ Ok n
moment-again n h =
    let t = number_again n (omega (arith, h.1)) in
    rw (t.0, t.1, le-leb 1 n h.0, le-leb n 1099511627775 h.1) refl

-- ---- choices

pub choice-takes : (first second w : List ℕ) (b : Bool) → choice_in first second w ≡ Ok b → w ≡ either first second b
choice-takes first second w b e =
    elim (chosen (bytes_eq w first) (done true) _ (Ok b) e) [
      | inl h ↦ is_word w first h.0 ∙ ap (either first second) (ok_is true b h.1)
      | inr h ↦ (let k = kept (bytes_eq w second) Why.Choice false b h.1 in is_word w second k.0 ∙ ap (either first second) k.1)
    ]

pub choice-again : (first second : List ℕ) (b : Bool) → bytes_eq second first ≡ false → choice_in first second (either first second b) ≡ Ok b
choice-again first second true ne = rw (is_same first) refl
choice-again first second false ne = rw (ne, is_same second) refl

-- ---- all fields

-- what reading gives fits, but that 255 stands for all cores from there on
abbrev pub IsTold : (f : Field) → Value f → Type 0
IsTold Core v = Fits Core v
IsTold (Number low high) v = Unit {0}
IsTold Moment v = Unit {0}
IsTold Levels v = Unit {0}
IsTold Wait v = Unit {0}
IsTold Named v = Unit {0}
IsTold Quoted v = Unit {0}
IsTold Ordered v = Unit {0}
IsTold Repeated v = Unit {0}
IsTold Armed v = Unit {0}
IsTold Started v = Unit {0}
IsTold How v = Unit {0}
IsTold Keep v = Unit {0}
IsTold OnOff v = Unit {0}
IsTold Powered v = Unit {0}
IsTold Placed v = Unit {0}
IsTold Answered v = Unit {0}
IsTold Woken v = Unit {0}
IsTold Acted v = Unit {0}
IsTold Changed v = Unit {0}
IsTold Received v = Unit {0}
IsTold Coded v = Unit {0}
IsTold Said v = Unit {0}
IsTold Classed v = Unit {0}
IsTold Moded v = Unit {0}
IsTold Ran v = Unit {0}
IsTold Indicated v = Unit {0}

pub levels_small : (n : ℕ) → Fits Levels n → n < 2 ^ 64
levels_small n h =
    elim (or_cases (eqb n 8 || eqb n 32) (eqb n 256) h) [
      | inl g ↦ elim (or_cases (eqb n 8) (eqb n 32) g) [ inl e ↦ omega (arith, eqb-true n 8 e) | inr e ↦ omega (arith, eqb-true n 32 e) ]
      | inr e ↦ omega (arith, eqb-true n 256 e)
    ]

pub map_ok : {A B : Type 0} (f : A → B) (r : Result A Why) (y : B) → result_map f r ≡ Ok y → (x : A) × (r ≡ Ok x) × (f x ≡ y)
map_ok f (Ok x) y e = (x, refl, cc)
map_ok f (Err d) y e = absurd cc

pub levels-takes : (w : List ℕ) (n : ℕ) → levels_in w ≡ Ok n → (w ≡ decimal n) × Fits Levels n
levels-takes w n e =
    let a = kept_in (is_number w) Why.Number _ n e in
    let b = kept (eqb (read_on 0 w) 8 || eqb (read_on 0 w) 32 || eqb (read_on 0 w) 256) Why.Range (read_on 0 w) n a.1 in
    (sym (number_takes w a.0 (levels_small (read_on 0 w) b.0)) ∙ ap decimal b.1, subst (Fits Levels) b.1 b.0)

pub core-takes : (w : List ℕ) (v : Option ℕ) → core_in w ≡ Ok v → Fits Core v → w ≡ spelled Core v
core-takes w None e f =
    elim (chosen (bytes_eq w (codes "any")) (done None) _ (Ok None) e) [
      | inl h ↦ is_word w (codes "any") h.0
      | inr h ↦ absurd (let k = kept (is_number w) Why.Number (Some (min (read_on 0 w) 255)) None h.1 in cc)
    ]
core-takes w (Some n) e f =
    elim (chosen (bytes_eq w (codes "any")) (done None) _ (Ok (Some n)) e) [
      | inl h ↦ absurd (let k = h.1 in cc)
      | inr h ↦ (let k = kept (is_number w) Why.Number (Some (min (read_on 0 w) 255)) (Some n) h.1 in
          let same : min (read_on 0 w) 255 ≡ n = cc in
          let is : read_on 0 w ≡ n = omega arith in
          sym (number_takes w k.0 (omega arith)) ∙ ap decimal is)
    ]

pub wait-takes : (w : List ℕ) (v : Option ℕ) → wait_in w ≡ Ok v → (w ≡ spelled Wait v) × Fits Wait v
wait-takes w v e =
    elim (chosen (bytes_eq w (codes "ever")) (done None) _ (Ok v) e) [
      | inl h ↦ (let same : None ≡ v = ok_is None v h.1 in subst (λ (u : Option ℕ). (w ≡ spelled Wait u) × Fits Wait u) same (is_word w (codes "ever") h.0, tt))
      | inr h ↦ (let m = map_ok (λ n. Some n) (number_in 0 2147483647 w) v h.1 in
          let k = number-takes 0 2147483647 w m.0 m.1 in
          subst (λ (u : Option ℕ). (w ≡ spelled Wait u) × Fits Wait u) m.2 (sym k.0, omega (arith, k.1)))
    ]

text_some : (o : Option (List ℕ)) (v : List ℕ) → text_or o ≡ Ok v → (t : List ℕ) × (o ≡ Some t) × (cond (is_text t) (Ok t) (Err Why.Text) ≡ done v)
text_some None v e = absurd cc
text_some (Some t) v e = (t, refl, e)

pub text-takes : (w : List ℕ) (v : List ℕ) → list_all is_printable w ≡ true → text_in w ≡ Ok v → (w ≡ quoted_text v) × Fits Quoted v
text-takes [] v p e = absurd cc
text-takes (b ∷ bs) v p e =
    let q = and_parts (is_printable b) (list_all is_printable bs) p in
    let a = kept_in (eqb b 34) Why.Text (text_or (unquoted Plain bs)) v e in
    let t = text_some (unquoted Plain bs) v a.1 in
    let k = kept (is_text t.0) Why.Text t.0 v t.2 in
    let r = text_takes Plain bs t.0 q.1 tt t.1 in
    subst (λ (u : List ℕ). (b ∷ bs ≡ quoted_text u) × Fits Quoted u) k.1 (ap (λ (x : ℕ). x ∷ bs) (eqb-true b 34 a.0) ∙ ap (λ (x : List ℕ). 34 ∷ x) r.0, (k.0, All-from_recursion (λ (c : ℕ). c < 256) t.0 r.1))

pub name-takes : (w v : List ℕ) → name_in w ≡ Ok v → (w ≡ v) × Fits Named v
name-takes w v e = let k = kept (is_name w) Why.Name w v e in (k.1, subst (λ (u : List ℕ). IsTrue (is_name u)) k.1 k.0)

-- ---- listed words

abbrev pub AreTheWords : {A : Type 0} → (A → List ℕ) → List (List ℕ × A) → Type 0
AreTheWords word [] = Unit {0}
AreTheWords word (p ∷ ps) = (p.0 ≡ word p.1) × AreTheWords word ps

pub listed-takes : {A : Type 0} (reason : Why) (word : A → List ℕ) (ps : List (List ℕ × A)) (w : List ℕ) (v : A) → AreTheWords word ps → listed_in reason ps w ≡ Ok v → w ≡ word v
listed-takes reason word [] w v h e = absurd cc
listed-takes reason word (p ∷ ps) w v h e =
    elim (chosen (bytes_eq w p.0) (done p.1) (listed_in reason ps w) (Ok v) e) [
      | inl g ↦ is_word w p.0 g.0 ∙ h.0 ∙ ap word (ok_is p.1 v g.1)
      | inr g ↦ listed-takes reason word ps w v h.1 g.1
    ]

code-takes : (w : List ℕ) (v : Code) → code_in w ≡ Ok v → w ≡ code_text v
unfolding digits
code-takes w v e = listed-takes Why.Number code_text all_codes w v (refl, (refl, (refl, (refl, (refl, (refl, (refl, (refl, (refl, (refl, (refl, tt))))))))))) e

code-again : (v : Code) → code_in (code_text v) ≡ Ok v
unfolding digits
code-again Code.Ok = refl
code-again _ = refl

order-takes : (w : List ℕ) (v : WaitOrder) → order_in w ≡ Ok v → w ≡ order_text v
order-takes w v e = listed-takes Why.Choice order_text all_orders w v (refl, (refl, tt)) e

order-again : (v : WaitOrder) → order_in (order_text v) ≡ Ok v
order-again WaitOrder.Fifo = refl
order-again _ = refl

what-takes : (w : List ℕ) (v : What) → what_in w ≡ Ok v → w ≡ what_text v
what-takes w v e = listed-takes Why.Choice what_text all_whats w v (refl, (refl, (refl, tt))) e

what-again : (v : What) → what_in (what_text v) ≡ Ok v
what-again What.Code = refl
what-again _ = refl

class-takes : (w : List ℕ) (v : Class) → class_in w ≡ Ok v → w ≡ class_text v
class-takes w v e = listed-takes Why.Choice class_text deletable_classes w v (refl, (refl, (refl, (refl, (refl, tt))))) e

-- each listed value passes the test
abbrev AllPass : {A : Type 0} → (A → Bool) → List (List ℕ × A) → Type 0
AllPass test [] = Unit {0}
AllPass test (p ∷ ps) = IsTrue (test p.1) × AllPass test ps

listed-passes : {A : Type 0} (reason : Why) (test : A → Bool) (ps : List (List ℕ × A)) (w : List ℕ) (v : A) → AllPass test ps → listed_in reason ps w ≡ Ok v → IsTrue (test v)
listed-passes reason test [] w v h e = absurd cc
listed-passes reason test (p ∷ ps) w v h e =
    elim (chosen (bytes_eq w p.0) (done p.1) (listed_in reason ps w) (Ok v) e) [
      | inl g ↦ subst (λ x. IsTrue (test x)) (ok_is p.1 v g.1) h.0
      | inr g ↦ listed-passes reason test ps w v h.1 g.1
    ]

class-passes : (w : List ℕ) (v : Class) → class_in w ≡ Ok v → IsTrue (is_deletable v)
class-passes w v e = listed-passes Why.Choice is_deletable deletable_classes w v (refl, (refl, (refl, (refl, (refl, tt))))) e

class-again : (v : Class) → IsTrue (is_deletable v) → class_in (class_text v) ≡ Ok v
class-again Class.Sem h = refl
class-again Class.Event h = refl
class-again Class.Mutex h = refl
class-again Class.Mailbox h = refl
class-again Class.MsgQueue h = refl
class-again Class.Thread h = absurd cc
class-again Class.Timer h = absurd cc
class-again Class.Device h = absurd cc

mode-takes : (w : List ℕ) (v : Sleep) → mode_in w ≡ Ok v → w ≡ sleep_text v
mode-takes w v e = listed-takes Why.Choice sleep_text all_modes w v (refl, (refl, (refl, (refl, (refl, (refl, tt)))))) e

mode-again : (v : Sleep) → mode_in (sleep_text v) ≡ Ok v
mode-again Sleep.NoSleep = refl
mode-again _ = refl

run-takes : (w : List ℕ) (v : RunMode) → run_in w ≡ Ok v → w ≡ run_mode_text v
run-takes w v e = listed-takes Why.Choice run_mode_text all_run_modes w v (refl, (refl, (refl, (refl, tt)))) e

run-again : (v : RunMode) → run_in (run_mode_text v) ≡ Ok v
run-again RunMode.High = refl
run-again _ = refl

timer_kind-takes : (w : List ℕ) (v : TimerKind) → timer_kind_in w ≡ Ok v → w ≡ timer_kind_text v
timer_kind-takes w v e = listed-takes Why.Choice timer_kind_text all_timer_kinds w v (refl, (refl, (refl, (refl, tt)))) e

timer_kind-again : (v : TimerKind) → timer_kind_in (timer_kind_text v) ≡ Ok v
timer_kind-again TimerKind.OneShot = refl
timer_kind-again _ = refl

-- ---- a name or none

pub ind-takes : (w : List ℕ) (v : Option (List ℕ)) → indicated_in w ≡ Ok v → (w ≡ name_or_dash v) × Fits Indicated v
ind-takes w v e =
    elim (chosen (bytes_eq w (codes "-")) (done None) _ (Ok v) e) [
      | inl h ↦ (let same : None ≡ v = ok_is None v h.1 in subst (λ (u : Option (List ℕ)). (w ≡ name_or_dash u) × Fits Indicated u) same (is_word w (codes "-") h.0, tt))
      | inr h ↦ (let m = map_ok (λ n. Some n) (name_in w) v h.1 in
          let k = name-takes w m.0 m.1 in
          subst (λ (u : Option (List ℕ)). (w ≡ name_or_dash u) × Fits Indicated u) m.2 k)
    ]

name_no_dash : (n : List ℕ) → is_name n ≡ true → bytes_eq n (codes "-") ≡ false
name_no_dash n h = false_from_ne_true _ (λ e. both_ways (is_name (codes "-")) refl (ap is_name (sym (is_word n (codes "-") e)) ∙ h))

pub ind-again : (v : Option (List ℕ)) → Fits Indicated v → indicated_in (name_or_dash v) ≡ Ok v
ind-again None h = refl
ind-again (Some n) h = unless (bytes_eq n (codes "-")) _ (result_map (λ m. Some m) (name_in n)) (name_no_dash n h) ∙ ap (result_map (λ m. Some m)) (when (is_name n) (done n) (Err Why.Name) h)

-- ---- answers, wakes and what timers did

answer-takes : (w : List ℕ) (v : Option Code) → answer_in w ≡ Ok v → w ≡ code_or_wait v
unfolding digits
answer-takes w v e = listed-takes Why.Number code_or_wait all_answers w v (refl, (refl, (refl, (refl, (refl, (refl, (refl, (refl, (refl, (refl, (refl, (refl, tt)))))))))))) e

answer-again : (v : Option Code) → answer_in (code_or_wait v) ≡ Ok v
unfolding digits
answer-again None = refl
answer-again (Some Code.Ok) = refl
answer-again (Some _) = refl

woke-takes : (w : List ℕ) (v : Woke) → woke_in w ≡ Ok v → w ≡ woke_text v
unfolding digits
woke-takes w v e = listed-takes Why.Number woke_text all_wakes w v (refl, (refl, (refl, (refl, (refl, (refl, (refl, (refl, (refl, (refl, (refl, (refl, (refl, tt))))))))))))) e

woke-again : (v : Woke) → woke_in (woke_text v) ≡ Ok v
unfolding digits
woke-again Woke.Retry = refl
woke-again Woke.Start = refl
woke-again (Woke.Code Code.Ok) = refl
woke-again (Woke.Code _) = refl

fired-takes : (w : List ℕ) (v : Fired) → fired_in w ≡ Ok v → w ≡ fired_text v
unfolding digits
fired-takes w v e = listed-takes Why.Number fired_text all_acts w v (refl, (refl, (refl, (refl, (refl, (refl, (refl, (refl, (refl, (refl, (refl, (refl, (refl, tt))))))))))))) e

fired-again : (v : Fired) → fired_in (fired_text v) ≡ Ok v
unfolding digits
fired-again Fired.Nothing = refl
fired-again Fired.Soft = refl
fired-again (Fired.Code Code.Ok) = refl
fired-again (Fired.Code _) = refl

-- ---- words of two parts

-- the byte isn't among these
abbrev pub IsWithout : ℕ → List ℕ → Type 0
IsWithout byte [] = Unit {0}
IsWithout byte (b ∷ bs) = (eqb b byte ≡ false) × IsWithout byte bs

split-none : (byte : ℕ) (bs : List ℕ) → IsWithout byte bs → split_last byte bs ≡ None
split-none byte [] h = refl
split-none byte (b ∷ bs) h = rw (split-none byte bs h.1, h.0) refl

pub split-again : (byte : ℕ) (xs ys : List ℕ) → IsWithout byte ys → split_last byte (xs ++ byte ∷ ys) ≡ Some (xs, ys)
split-again byte [] ys h = rw (split-none byte ys h) (when (eqb byte byte) _ _ (eq-eqb byte byte refl))
split-again byte (x ∷ xs) ys h = rw (split-again byte xs ys h) refl

pub without_more : (byte : ℕ) (xs : List ℕ) (i : ℕ) → i < length xs → IsWithout byte (drop (i + 1) xs) → eqb (get_or xs i 0) byte ≡ false → IsWithout byte (drop i xs)
without_more byte xs i lt h e =
    let next : suc i ≡ i + 1 = omega arith in
    subst (IsWithout byte) (sym (drop-cons xs i 0 lt)) (e, subst (λ (n : ℕ). IsWithout byte (drop n xs)) (sym next) h)

pub last_found : (byte : ℕ) (xs : List ℕ) (i : ℕ) → i < length xs → IsWithout byte (drop (i + 1) xs) → eqb (get_or xs i 0) byte ≡ true → split_last byte xs ≡ Some (take i xs, drop (i + 1) xs)
last_found byte xs i lt h e =
    let next : suc i ≡ i + 1 = omega arith in
    let there : drop i xs ≡ byte ∷ drop (i + 1) xs = drop-cons xs i 0 lt ∙ ap (λ (b : ℕ). b ∷ drop (suc i) xs) (eqb-true (get_or xs i 0) byte e) ∙ ap (λ (n : ℕ). byte ∷ drop n xs) next in
    ap (split_last byte) (sym (take-append-drop i xs) ∙ ap (λ (t : List ℕ). take i xs ++ t) there) ∙ split-again byte (take i xs) (drop (i + 1) xs) h

pub none_found : (byte : ℕ) (xs : List ℕ) → IsWithout byte xs → split_last byte xs ≡ None
none_found byte xs h = split-none byte xs h

pub without_none : (byte n : ℕ) (xs : List ℕ) → length xs ≤ n → IsWithout byte (drop n xs)
without_none byte n xs le = subst (IsWithout byte) (sym (nil_from_length (drop n xs) (omega (arith, length-drop n xs)))) tt

abbrev IsSplitAt : ℕ → List ℕ → List ℕ × List ℕ → Type 0
IsSplitAt byte bs p = bs ≡ p.0 ++ byte ∷ p.1

split_here : (byte b : ℕ) (bs : List ℕ) (p : List ℕ × List ℕ) (t : Bool) → eqb b byte ≡ t → cond t (Some ([], bs)) None ≡ Some p → IsSplitAt byte (b ∷ bs) p
split_here byte b bs p true e is = subst (IsSplitAt byte (b ∷ bs)) (some_pair ([], bs) p is) (ap (λ (c : ℕ). c ∷ bs) (eqb-true b byte e)) where
  some_pair : (x y : List ℕ × List ℕ) → Some x ≡ Some y → x ≡ y
  some_pair x y e = cc
split_here byte b bs p false e is = absurd cc

same_pair : (x y : List ℕ × List ℕ) → Some x ≡ Some y → x ≡ y
same_pair x y e = cc

split_further : (byte b : ℕ) (bs : List ℕ) (p : List ℕ × List ℕ) → ((q : List ℕ × List ℕ) → split_last byte bs ≡ Some q → IsSplitAt byte bs q) → (o : Option (List ℕ × List ℕ)) → split_last byte bs ≡ o → split_more byte b bs o ≡ Some p → IsSplitAt byte (b ∷ bs) p
split_further byte b bs p rest None at is = split_here byte b bs p (eqb b byte) refl is
split_further byte b bs p rest (Some q) at is = subst (IsSplitAt byte (b ∷ bs)) (same_pair (b ∷ q.0, q.1) p is) (ap (λ (t : List ℕ). b ∷ t) (rest q at))

split-takes : (byte : ℕ) (bs : List ℕ) (p : List ℕ × List ℕ) → split_last byte bs ≡ Some p → IsSplitAt byte bs p
split-takes byte [] p e = absurd cc
split-takes byte (b ∷ bs) p e = split_further byte b bs p (split-takes byte bs) (split_last byte bs) refl e

paired-ok : {A B : Type 0} (a : Result A Why) (b : Result B Why) (v : A × B) → paired a b ≡ Ok v → (a ≡ Ok v.0) × (b ≡ Ok v.1)
paired-ok {A} {B} (Ok p) (Ok q) v e = (ap (λ (t : A × B). Ok t.0) (ok_is (p, q) v e), ap (λ (t : A × B). Ok t.1) (ok_is (p, q) v e))
paired-ok (Ok p) (Err d) v e = absurd cc
paired-ok (Err d) (Ok q) v e = absurd cc
paired-ok (Err d) (Err f) v e = absurd cc

change-takes : (w : List ℕ) (v : ℕ × ℕ) → change_in w ≡ Ok v → (w ≡ spelled Changed v) × Fits Changed v
change-takes w v e = from (split_last 62 w) refl e where
  from : (o : Option (List ℕ × List ℕ)) → split_last 62 w ≡ o → change_parts o ≡ Ok v → (w ≡ spelled Changed v) × Fits Changed v
  from None at is = absurd cc
  from (Some p) at is =
      let b = paired-ok (number_in 0 255 p.0) (number_in 0 255 p.1) v is in
      let x = number-takes 0 255 p.0 v.0 b.0 in
      let y = number-takes 0 255 p.1 v.1 b.1 in
      (split-takes 62 w p at ∙ ap (λ (t : List ℕ). t ++ 62 ∷ p.1) (sym x.0) ∙ ap (λ (t : List ℕ). decimal v.0 ++ 62 ∷ t) (sym y.0), (omega (arith, x.1), omega (arith, y.1)))

digits_without : (byte : ℕ) → is_digit byte ≡ false → (bs : List ℕ) → list_all is_digit bs ≡ true → IsWithout byte bs
digits_without byte other [] h = tt
digits_without byte other (b ∷ bs) h =
    let p = and_parts (is_digit b) (list_all is_digit bs) h in
    (ne_eqb b byte (λ e. absurd (both_ways (is_digit byte) other (ap is_digit (sym e) ∙ p.0))), digits_without byte other bs p.1)

change-again : (v : ℕ × ℕ) → Fits Changed v → change_in (spelled Changed v) ≡ Ok v
change-again v h =
    ap change_parts (split-again 62 (decimal v.0) (decimal v.1) (digits_without 62 refl (decimal v.1) (digits_decimal own v.1 (omega (arith, h.1)))))
    ∙ rw (number-again 0 255 v.0 (omega arith) (omega (arith, h.0)) (omega (arith, h.0)), number-again 0 255 v.1 (omega arith) (omega (arith, h.1)) (omega (arith, h.1))) refl

received-takes : (w : List ℕ) (v : List ℕ × ℕ) → list_all is_printable w ≡ true → received_in w ≡ Ok v → (w ≡ spelled Received v) × Fits Received v
received-takes w v print e = from (split_last 32 w) refl e where
  from : (o : Option (List ℕ × List ℕ)) → split_last 32 w ≡ o → received_parts o ≡ Ok v → (w ≡ spelled Received v) × Fits Received v
  from None at is = absurd cc
  from (Some p) at is =
      let b = paired-ok (text_in p.0) (number_in 0 255 p.1) v is in
      let there : w ≡ p.0 ++ 32 ∷ p.1 = split-takes 32 w p at in
      let shown = and_parts (list_all is_printable p.0) (list_all is_printable (32 ∷ p.1)) (sym (list_all-append is_printable p.0 (32 ∷ p.1)) ∙ ap (list_all is_printable) (sym there) ∙ print) in
      let x = text-takes p.0 v.0 shown.0 b.0 in
      let y = number-takes 0 255 p.1 v.1 b.1 in
      (there ∙ ap (λ (t : List ℕ). t ++ 32 ∷ p.1) x.0 ∙ ap (λ (t : List ℕ). quoted_text v.0 ++ 32 ∷ t) (sym y.0), (x.1, omega (arith, y.1)))

received-again : (v : List ℕ × ℕ) → Fits Received v → received_in (spelled Received v) ≡ Ok v
received-again v h =
    let read = text-again v.0 (recursion_from_All (λ (b : ℕ). b < 256) v.0 h.0.1) in
    let text : text_in (quoted_text v.0) ≡ Ok v.0 = ap text_or read ∙ when (is_text v.0) (done v.0) (Err Why.Text) h.0.0 in
    ap received_parts (split-again 32 (quoted_text v.0) (decimal v.1) (digits_without 32 refl (decimal v.1) (digits_decimal own v.1 (omega (arith, h.1)))))
    ∙ rw (text, number-again 0 255 v.1 (omega arith) (omega (arith, h.1)) (omega (arith, h.1))) refl

pub value-takes : (f : Field) (w : List ℕ) (v : Value f) → list_all is_printable w ≡ true → value_in f w ≡ Ok v → IsTold f v → (w ≡ spelled f v) × Fits f v
value-takes (Number low high) w v p e t = let k = number-takes low high w v e in (sym k.0, k.1)
value-takes Moment w v p e t = moment-takes w v e
value-takes Levels w v p e t = levels-takes w v e
value-takes Core w v p e t = (core-takes w v e t, t)
value-takes Wait w v p e t = wait-takes w v e
value-takes Named w v p e t = name-takes w v e
value-takes Quoted w v p e t = text-takes w v p e
value-takes Ordered w v p e t = (order-takes w v e, tt)
value-takes Repeated w v p e t = (timer_kind-takes w v e, tt)
value-takes Armed w v p e t = (choice-takes (codes "auto") (codes "manual") w v e, tt)
value-takes Started w v p e t = (choice-takes (codes "start") (codes "init") w v e, tt)
value-takes How w v p e t = (choice-takes (codes "and") (codes "or") w v e, tt)
value-takes Keep w v p e t = (choice-takes (codes "clear") (codes "keep") w v e, tt)
value-takes OnOff w v p e t = (choice-takes (codes "on") (codes "off") w v e, tt)
value-takes Powered w v p e t = (choice-takes (codes "pm") (codes "nopm") w v e, tt)
value-takes Placed w v p e t = (choice-takes (codes "head") (codes "tail") w v e, tt)
value-takes Answered w v p e t = (answer-takes w v e, tt)
value-takes Woken w v p e t = (woke-takes w v e, tt)
value-takes Acted w v p e t = (fired-takes w v e, tt)
value-takes Changed w v p e t = change-takes w v e
value-takes Received w v p e t = received-takes w v p e
value-takes Coded w v p e t = (code-takes w v e, tt)
value-takes Said w v p e t = (what-takes w v e, tt)
value-takes Classed w v p e t = (class-takes w v e, class-passes w v e)
value-takes Moded w v p e t = (mode-takes w v e, tt)
value-takes Ran w v p e t = (run-takes w v e, tt)
value-takes Indicated w v p e t = ind-takes w v e

-- digits are no word
pub not_digits : (n : ℕ) (v : List ℕ) → n < 2 ^ 64 → list_all is_digit v ≡ false → bytes_eq (decimal n) v ≡ false
not_digits n v lt h = false_from_ne_true _ (λ e. both_ways _ h (ap (list_all is_digit) (sym (is_word (decimal n) v e)) ∙ digits_decimal own n lt))

pub value-again : (f : Field) (v : Value f) → Fits f v → value_in f (spelled f v) ≡ Ok v
value-again (Number low high) v h = number-again low high v h.0 h.1 h.2
value-again Moment v h = moment-again v h
value-again Levels v h = let t = number_again v (levels_small v h) in rw (t.0, t.1, h) refl
value-again Core None h = refl
value-again Core (Some n) h = let t = number_again n (omega (arith, h)) in let small : min n 255 ≡ n = omega (arith, h) in rw (not_digits n (codes "any") (omega (arith, h)) refl, t.0, t.1, small) refl
value-again Wait None h = refl
value-again Wait (Some n) h = rw (not_digits n (codes "ever") (omega (arith, h)) refl, number-again 0 2147483647 n (omega arith) (omega (arith, h)) (omega (arith, h))) refl
value-again Named v h = when (is_name v) (done v) (Err Why.Name) h
value-again Quoted v h =
    let read = text-again v (recursion_from_All (λ (b : ℕ). b < 256) v h.1) in
    ap text_or read ∙ when (is_text v) (done v) (Err Why.Text) h.0
value-again Ordered v h = order-again v
value-again Repeated v h = timer_kind-again v
value-again Armed v h = choice-again (codes "auto") (codes "manual") v refl
value-again Started v h = choice-again (codes "start") (codes "init") v refl
value-again How v h = choice-again (codes "and") (codes "or") v refl
value-again Keep v h = choice-again (codes "clear") (codes "keep") v refl
value-again OnOff v h = choice-again (codes "on") (codes "off") v refl
value-again Powered v h = choice-again (codes "pm") (codes "nopm") v refl
value-again Placed v h = choice-again (codes "head") (codes "tail") v refl
value-again Answered v h = answer-again v
value-again Woken v h = woke-again v
value-again Acted v h = fired-again v
value-again Changed v h = change-again v h
value-again Received v h = received-again v h
value-again Coded v h = code-again v
value-again Said v h = what-again v
value-again Classed v h = class-again v h
value-again Moded v h = mode-again v
value-again Ran v h = run-again v
value-again Indicated v h = ind-again v h
