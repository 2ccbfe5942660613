-- A quoted_text text has one spelling.
use Rattle.std.proofs.Common.{◌≡◌, ℕ, suc, ◌+◌, ◌*◌, ◌/◌, ◌%◌, ◌<◌, ◌≤◌, Bool, true, false, not, ◌&&◌, eqb, leb, cond, List, [], ◌∷◌, ◌++◌, length, get_or, drop, drop-cons, length-drop, length-append, Option, Some, None, Ok, Err, refl, sym, ap, ◌∙◌, subst, arith, codes, inl, inr, ◌⊎◌, append_assoc}
use Rattle.std.specs.List.{list_all, flat_map, AllByRecursion}
use Rattle.std.specs.Fmt.{digit_glyph}
use Rattle.std.proofs.lemmas.List.{nil_from_length, append-nil}
use Rattle.std.proofs.lemmas.List.Concat.{flat_map-cons}
use Rattle.std.proofs.lemmas.List.Folds.{list_all-append}
use Rattle.std.proofs.lemmas.Bool.{and_parts, and_from, not-true, not_from_false, eqb-true, eq-eqb, ne_eqb, leb-true, le-leb, lt-ltb, cases_Bool, lt-leb, and_right}
use Rattle.std.proofs.lemmas.Bool.Decides.{nat_tests}
use Rattle.rt_base.specs.Grammar.{is_text}
use Rattle.rt_plain.specs.declared.why.Why.{Why}
use Rattle.rt_plain.specs.declared.quote.Quoting.{Quoting}
use Rattle.rt_plain.specs.declared.quote.Quoting.TheVariants.{Plain, Escape, High, Low}
use Rattle.rt_plain.specs.declared.quote.QuoteStep.{QuoteStep}
use Rattle.rt_plain.specs.declared.quote.QuoteStep.TheVariants.{To, Byte, End, Bad}
use Rattle.rt_plain.specs.text.Texts.{escape_of, quoted_text, is_shown}
use Rattle.rt_plain.specs.text.Splits.{is_printable}
use Rattle.rt_plain.specs.text.Fields.{hex_value, is_hex, needs_hex, with_front, unquoted, step_of, IsGood, text_or, text_in}

pub when : {A : Type 0} (b : Bool) (x y : A) → b ≡ true → cond b x y ≡ x
when true x y e = refl
when false x y e = absurd cc

pub unless : {A : Type 0} (b : Bool) (x y : A) → b ≡ false → cond b x y ≡ y
unless true x y e = absurd cc
unless false x y e = refl

pub hex_is : (n : ℕ) → n < 16 → is_hex (digit_glyph false n) ≡ true
hex_is n lt = grind (arith, nat_tests)

pub hex_back : (n : ℕ) → n < 16 → hex_value (digit_glyph false n) ≡ n
hex_back n lt = grind (arith, nat_tests)

needs : (b : ℕ) → is_shown b ≡ false → eqb b 10 ≡ false → needs_hex b ≡ true
needs b n n10 = and_from _ _ (not_from_false _ n) (not_from_false _ n10)

-- the spelling of a byte that stands for itself
itself : (b : ℕ) → is_shown b ≡ true → eqb b 34 ≡ false → eqb b 92 ≡ false → escape_of b ≡ b ∷ []
itself b s n34 n92 =
    let p = and_parts (leb 32 b) (leb b 126) s in
    let low : 32 ≤ b = leb-true 32 b p.0 in
    unless (eqb b 34) (codes "\\\"") _ n34 ∙ unless (eqb b 92) (codes "\\\\") _ n92 ∙ unless (eqb b 10) (codes "\\n") _ (ne_eqb b 10 (λ z. absurd (omega arith))) ∙ when (is_shown b) (b ∷ []) _ s

hex_again : (b : ℕ) (rest : List ℕ) → b < 256 → is_shown b ≡ false → eqb b 10 ≡ false → unquoted Plain ((codes "\\x" ++ digit_glyph false (b / 16) ∷ digit_glyph false (b % 16) ∷ []) ++ rest) ≡ with_front b (unquoted Plain rest)
hex_again b rest lt n n10 =
    let h = digit_glyph false (b / 16) in
    let l = digit_glyph false (b % 16) in
    let whole : 16 * (b / 16) + hex_value l ≡ b = ap (λ (v : ℕ). 16 * (b / 16) + v) (hex_back (b % 16) (omega arith)) ∙ omega arith in
    let good : (is_hex l && needs_hex (16 * (b / 16) + hex_value l)) ≡ true = and_from _ _ (hex_is (b % 16) (omega arith)) (ap needs_hex whole ∙ needs b n n10) in
    when (is_hex h) (unquoted (Low (hex_value h)) (l ∷ rest)) None (hex_is (b / 16) (omega arith))
    ∙ ap (λ (v : ℕ). unquoted (Low v) (l ∷ rest)) (hex_back (b / 16) (omega arith))
    ∙ when (is_hex l && needs_hex (16 * (b / 16) + hex_value l)) (with_front (16 * (b / 16) + hex_value l) (unquoted Plain rest)) None good
    ∙ ap (λ (v : ℕ). with_front v (unquoted Plain rest)) whole

-- one byte of a text is read again
pub byte_again : (b : ℕ) (rest : List ℕ) → b < 256 → unquoted Plain (escape_of b ++ rest) ≡ with_front b (unquoted Plain rest)
byte_again b rest lt =
    let behind = λ (t : List ℕ). unquoted Plain (t ++ rest) in
    elim (cases_Bool (eqb b 34)) [
      | inl e ↦ ap behind (when (eqb b 34) (codes "\\\"") _ e) ∙ ap (λ (x : ℕ). with_front x (unquoted Plain rest)) (sym (eqb-true b 34 e))
      | inr n34 ↦ elim (cases_Bool (eqb b 92)) [
        | inl e ↦ ap behind (unless (eqb b 34) (codes "\\\"") _ n34 ∙ when (eqb b 92) (codes "\\\\") _ e) ∙ ap (λ (x : ℕ). with_front x (unquoted Plain rest)) (sym (eqb-true b 92 e))
        | inr n92 ↦ elim (cases_Bool (eqb b 10)) [
          | inl e ↦ ap behind (unless (eqb b 34) (codes "\\\"") _ n34 ∙ unless (eqb b 92) (codes "\\\\") _ n92 ∙ when (eqb b 10) (codes "\\n") _ e) ∙ ap (λ (x : ℕ). with_front x (unquoted Plain rest)) (sym (eqb-true b 10 e))
          | inr n10 ↦ elim (cases_Bool (is_shown b)) [
            | inl s ↦ ap behind (itself b s n34 n92) ∙ unless (eqb b 34) _ _ n34 ∙ unless (eqb b 92) _ _ n92
            | inr n ↦ ap behind (unless (eqb b 34) (codes "\\\"") _ n34 ∙ unless (eqb b 92) (codes "\\\\") _ n92 ∙ unless (eqb b 10) (codes "\\n") _ n10 ∙ unless (is_shown b) (b ∷ []) _ n) ∙ hex_again b rest lt n n10
          ]
        ]
      ]
    ]

pub text-again : (text : List ℕ) → AllByRecursion (λ b. b < 256) text → unquoted Plain (flat_map escape_of text ++ 34 ∷ []) ≡ Some text
text-again [] h = refl
text-again (b ∷ bs) h =
    ap (λ (t : List ℕ). unquoted Plain (t ++ 34 ∷ [])) (flat_map-cons escape_of b bs) ∙ ap (unquoted Plain) (append_assoc (escape_of b) (flat_map escape_of bs) (34 ∷ []))
    ∙ byte_again b (flat_map escape_of bs ++ 34 ∷ []) h.0 ∙ ap (with_front b) (text-again bs h.1)

printable_if : (t : Bool) (x y : List ℕ) → (t ≡ true → list_all is_printable x ≡ true) → (t ≡ false → list_all is_printable y ≡ true) → list_all is_printable (cond t x y) ≡ true
printable_if true x y f g = f refl
printable_if false x y f g = g refl

hex_printable : (n : ℕ) → n < 16 → is_printable (digit_glyph false n) ≡ true
hex_printable n lt = grind (arith, nat_tests)

pub byte_printable : (b : ℕ) → b < 256 → list_all is_printable (escape_of b) ≡ true
byte_printable b lt =
    printable_if (eqb b 34) _ _ (λ e. refl) (λ e1. printable_if (eqb b 92) _ _ (λ e. refl) (λ e2. printable_if (eqb b 10) _ _ (λ e. refl)
    (λ e3. printable_if (is_shown b) _ _ (λ e. and_from _ _ e refl)
    (λ e4. and_from _ _ (hex_printable (b / 16) (omega arith)) (and_from _ _ (hex_printable (b % 16) (omega arith)) refl)))))

inside_printable : (text : List ℕ) → AllByRecursion (λ b. b < 256) text → list_all is_printable (flat_map escape_of text) ≡ true
inside_printable [] h = refl
inside_printable (b ∷ bs) h = ap (list_all is_printable) (flat_map-cons escape_of b bs) ∙ list_all-append is_printable (escape_of b) (flat_map escape_of bs) ∙ and_from _ _ (byte_printable b h.0) (inside_printable bs h.1)

pub text-printable : (text : List ℕ) → AllByRecursion (λ b. b < 256) text → list_all is_printable (quoted_text text) ≡ true
text-printable text h = list_all-append is_printable (flat_map escape_of text) (34 ∷ []) ∙ and_from _ _ (inside_printable text h) refl

-- ---- what is read is spelled so

hex_same : (b : ℕ) → is_hex b ≡ true → digit_glyph false (hex_value b) ≡ b
hex_same b h = grind (arith, nat_tests)

hex_small : (b : ℕ) → is_hex b ≡ true → hex_value b < 16
hex_small b h = grind (arith, nat_tests)

chosen : {A : Type 0} (b : Bool) (x y z : A) → cond b x y ≡ z → ((b ≡ true) × (x ≡ z)) ⊎ ((b ≡ false) × (y ≡ z))
chosen true x y z e = inl (refl, e)
chosen false x y z e = inr (refl, e)

front_some : (b : ℕ) (o : Option (List ℕ)) (t : List ℕ) → with_front b o ≡ Some t → (u : List ℕ) × (o ≡ Some u) × (b ∷ u ≡ t)
front_some b None t e = absurd cc
front_some b (Some u) t e = (u, refl, cc)

-- what stands before, in each mode
abbrev before : Quoting → List ℕ
before Plain = []
before Escape = 92 ∷ []
before High = 92 ∷ 120 ∷ []
before (Low high) = 92 ∷ 120 ∷ digit_glyph false high ∷ []

abbrev IsRead : Quoting → List ℕ → List ℕ → Type 0
IsRead mode bs t = (before mode ++ bs ≡ flat_map escape_of t ++ 34 ∷ []) × AllByRecursion (λ b. b < 256) t

-- one byte more
more : (b : ℕ) (piece bs u t : List ℕ) → escape_of b ≡ piece → b < 256 → IsRead Plain bs u → b ∷ u ≡ t → (piece ++ bs ≡ flat_map escape_of t ++ 34 ∷ []) × AllByRecursion (λ b. b < 256) t
more b piece bs u t e lt h is =
    subst (λ (x : List ℕ). (piece ++ bs ≡ flat_map escape_of x ++ 34 ∷ []) × AllByRecursion (λ b. b < 256) x) is
    (ap (λ (p : List ℕ). p ++ bs) (sym e) ∙ ap (λ (r : List ℕ). escape_of b ++ r) h.0 ∙ sym (append_assoc (escape_of b) (flat_map escape_of u) (34 ∷ [])) ∙ ap (λ (r : List ℕ). r ++ 34 ∷ []) (sym (flat_map-cons escape_of b u)), (lt, h.1))

moved : (b c : ℕ) (bs t : List ℕ) → b ≡ c → (92 ∷ c ∷ bs ≡ flat_map escape_of t ++ 34 ∷ []) × AllByRecursion (λ b. b < 256) t → (92 ∷ b ∷ bs ≡ flat_map escape_of t ++ 34 ∷ []) × AllByRecursion (λ b. b < 256) t
moved b c bs t e h = (ap (λ (x : ℕ). 92 ∷ x ∷ bs) e ∙ h.0, h.1)

-- how a byte with two digits is spelled
hex_piece : (high b : ℕ) → high < 16 → is_hex b ≡ true → needs_hex (16 * high + hex_value b) ≡ true → escape_of (16 * high + hex_value b) ≡ 92 ∷ 120 ∷ digit_glyph false high ∷ b ∷ []
hex_piece high b lt h n =
    let v = 16 * high + hex_value b in
    let small = hex_small b h in
    let p = and_parts (not (is_shown v)) (not (eqb v 10)) n in
    let first : v / 16 ≡ high = omega arith in
    let second : v % 16 ≡ hex_value b = omega arith in
    unless (eqb v 34) (codes "\\\"") _ (ne_eqb v 34 (λ z. not_shown v 34 z (not-true _ p.0) refl)) ∙ unless (eqb v 92) (codes "\\\\") _ (ne_eqb v 92 (λ z. not_shown v 92 z (not-true _ p.0) refl)) ∙ unless (eqb v 10) (codes "\\n") _ (not-true _ p.1) ∙ unless (is_shown v) (v ∷ []) _ (not-true _ p.0)
    ∙ ap (λ (x : ℕ). 92 ∷ 120 ∷ digit_glyph false x ∷ digit_glyph false (v % 16) ∷ []) first ∙ ap (λ (x : ℕ). 92 ∷ 120 ∷ digit_glyph false high ∷ x ∷ []) (ap (digit_glyph false) second ∙ hex_same b h)
  where
    not_shown : (v w : ℕ) → v ≡ w → is_shown v ≡ false → is_shown w ≡ true → ⊥
    not_shown v w e n s = absurd (let m : is_shown v ≡ is_shown w = ap is_shown e in let f : true ≡ false = sym s ∙ sym m ∙ n in cc)

pub text_takes : (mode : Quoting) (bs t : List ℕ) → list_all is_printable bs ≡ true → IsGood mode → unquoted mode bs ≡ Some t → IsRead mode bs t
text_takes Plain [] t p g e = absurd cc
text_takes Escape [] t p g e = absurd cc
text_takes High [] t p g e = absurd cc
text_takes (Low high) [] t p g e = absurd cc
text_takes Plain (b ∷ bs) t p g e =
    let q = and_parts (is_printable b) (list_all is_printable bs) p in
    elim (chosen (eqb b 34) (cond (eqb (length bs) 0) (Some []) None) (cond (eqb b 92) (unquoted Escape bs) (with_front b (unquoted Plain bs))) (Some t) e) [
      | inl h ↦ ended b bs t h.0 (eqb (length bs) 0) refl h.1
      | inr h ↦ elim (chosen (eqb b 92) (unquoted Escape bs) (with_front b (unquoted Plain bs)) (Some t) h.1) [
        | inl k ↦ (let r = text_takes Escape bs t q.1 tt k.1 in (ap (λ (x : ℕ). x ∷ bs) (eqb-true b 92 k.0) ∙ r.0, r.1))
        | inr k ↦ (let f = front_some b (unquoted Plain bs) t k.1 in
            let lt : b < 256 = (let z = and_parts (leb 32 b) (leb b 126) q.0 in let w = leb-true b 126 z.1 in omega arith) in
            more b (b ∷ []) bs f.0 t (itself b q.0 h.0 k.0) lt (text_takes Plain bs f.0 q.1 tt f.1) f.2)
      ]
    ]
  where
    ended : (b : ℕ) (bs t : List ℕ) → eqb b 34 ≡ true → (z : Bool) → eqb (length bs) 0 ≡ z → cond z (Some []) None ≡ Some t → IsRead Plain (b ∷ bs) t
    ended b bs t q true e h =
        let none : bs ≡ [] = nil_from_length bs (eqb-true (length bs) 0 e) in
        let same : [] ≡ t = cc in
        subst (λ (u : List ℕ). IsRead Plain (b ∷ bs) u) same (ap (λ (x : ℕ). x ∷ bs) (eqb-true b 34 q) ∙ ap (λ (r : List ℕ). 34 ∷ r) none, tt)
    ended b bs t q false e h = absurd cc
text_takes Escape (b ∷ bs) t p g e =
    let q = and_parts (is_printable b) (list_all is_printable bs) p in
    let known = λ (c : ℕ) (x : ℕ) (f : (u : List ℕ) × (unquoted Plain bs ≡ Some u) × (x ∷ u ≡ t)) (same : b ≡ c) (spelled : escape_of x ≡ 92 ∷ c ∷ []) (lt : x < 256). moved b c bs t same (more x (92 ∷ c ∷ []) bs f.0 t spelled lt (text_takes Plain bs f.0 q.1 tt f.1) f.2) in
    elim (chosen (eqb b 34) (with_front 34 (unquoted Plain bs)) (cond (eqb b 92) (with_front 92 (unquoted Plain bs)) (cond (eqb b 110) (with_front 10 (unquoted Plain bs)) (cond (eqb b 120) (unquoted High bs) None))) (Some t) e) [
      | inl h ↦ known 34 34 (front_some 34 (unquoted Plain bs) t h.1) (eqb-true b 34 h.0) refl (omega arith)
      | inr h ↦ elim (chosen (eqb b 92) (with_front 92 (unquoted Plain bs)) (cond (eqb b 110) (with_front 10 (unquoted Plain bs)) (cond (eqb b 120) (unquoted High bs) None)) (Some t) h.1) [
        | inl k ↦ known 92 92 (front_some 92 (unquoted Plain bs) t k.1) (eqb-true b 92 k.0) refl (omega arith)
        | inr k ↦ elim (chosen (eqb b 110) (with_front 10 (unquoted Plain bs)) (cond (eqb b 120) (unquoted High bs) None) (Some t) k.1) [
          | inl m ↦ known 110 10 (front_some 10 (unquoted Plain bs) t m.1) (eqb-true b 110 m.0) refl (omega arith)
          | inr m ↦ elim (chosen (eqb b 120) (unquoted High bs) None (Some t) m.1) [
            | inl x ↦ moved b 120 bs t (eqb-true b 120 x.0) (text_takes High bs t q.1 tt x.1)
            | inr x ↦ absurd (let z = x.1 in cc)
          ]
        ]
      ]
    ]
text_takes High (b ∷ bs) t p g e =
    let q = and_parts (is_printable b) (list_all is_printable bs) p in
    elim (chosen (is_hex b) (unquoted (Low (hex_value b)) bs) None (Some t) e) [
      | inl h ↦ (let r = text_takes (Low (hex_value b)) bs t q.1 (hex_small b h.0) h.1 in (ap (λ (x : ℕ). 92 ∷ 120 ∷ x ∷ bs) (sym (hex_same b h.0)) ∙ r.0, r.1))
      | inr h ↦ absurd (let z = h.1 in cc)
    ]
text_takes (Low high) (b ∷ bs) t p g e =
    let q = and_parts (is_printable b) (list_all is_printable bs) p in
    let v = 16 * high + hex_value b in
    elim (chosen (is_hex b && needs_hex v) (with_front v (unquoted Plain bs)) None (Some t) e) [
      | inl h ↦ (let r = and_parts (is_hex b) (needs_hex v) h.0 in
          let f = front_some v (unquoted Plain bs) t h.1 in
          let small = hex_small b r.0 in
          more v (92 ∷ 120 ∷ digit_glyph false high ∷ b ∷ []) bs f.0 t (hex_piece high b g r.0 r.1) (omega arith) (text_takes Plain bs f.0 q.1 tt f.1) f.2)
      | inr h ↦ absurd (let z = h.1 in cc)
    ]

-- ---- for the code

abbrev pub after_step : List ℕ → (Quoting → Option (List ℕ)) → QuoteStep → Option (List ℕ)
after_step bs others (To mode) = others mode
after_step bs others (Byte b) = with_front b (others Plain)
after_step bs others End = cond (eqb (length bs) 0) (Some []) None
after_step bs others Bad = None

through : {A B : Type 0} (f : A → B) (t : Bool) (x y : A) → f (cond t x y) ≡ cond t (f x) (f y)
through f true x y = refl
through f false x y = refl

pub one_step : (mode : Quoting) (b : ℕ) (bs : List ℕ) → unquoted mode (b ∷ bs) ≡ after_step bs (λ m. unquoted m bs) (step_of mode b)
one_step Plain b bs =
    let f = after_step bs (λ m. unquoted m bs) in
    sym (through f (eqb b 34) End (cond (eqb b 92) (To Escape) (Byte b)) ∙ ap (λ (x : Option (List ℕ)). cond (eqb b 34) (f End) x) (through f (eqb b 92) (To Escape) (Byte b)))
one_step Escape b bs =
    let f = after_step bs (λ m. unquoted m bs) in
    sym (through f (eqb b 34) (Byte 34) (cond (eqb b 92) (Byte 92) (cond (eqb b 110) (Byte 10) (cond (eqb b 120) (To High) Bad)))
    ∙ ap (λ (x : Option (List ℕ)). cond (eqb b 34) (f (Byte 34)) x) (through f (eqb b 92) (Byte 92) (cond (eqb b 110) (Byte 10) (cond (eqb b 120) (To High) Bad))
    ∙ ap (λ (x : Option (List ℕ)). cond (eqb b 92) (f (Byte 92)) x) (through f (eqb b 110) (Byte 10) (cond (eqb b 120) (To High) Bad)
    ∙ ap (λ (x : Option (List ℕ)). cond (eqb b 110) (f (Byte 10)) x) (through f (eqb b 120) (To High) Bad))))
one_step High b bs = sym (through (after_step bs (λ m. unquoted m bs)) (is_hex b) (To (Low (hex_value b))) Bad)
one_step (Low high) b bs = sym (through (after_step bs (λ m. unquoted m bs)) (is_hex b && needs_hex (16 * high + hex_value b)) (Byte (16 * high + hex_value b)) Bad)

-- bytes in front of what is read
abbrev pub fronted : List ℕ → Option (List ℕ) → Option (List ℕ)
fronted xs None = None
fronted xs (Some t) = Some (xs ++ t)

pub fronted_none : (o : Option (List ℕ)) → fronted [] o ≡ o
fronted_none None = refl
fronted_none (Some t) = refl

fronted_more : (xs : List ℕ) (b : ℕ) (o : Option (List ℕ)) → fronted xs (with_front b o) ≡ fronted (xs ++ b ∷ []) o
fronted_more xs b None = refl
fronted_more xs b (Some t) = ap (λ (u : List ℕ). Some u) (sym (append_assoc xs (b ∷ []) t))

here : (mode : Quoting) (w : List ℕ) (i : ℕ) (s : QuoteStep) → i < length w → s ≡ step_of mode (get_or w i 0) → unquoted mode (drop i w) ≡ after_step (drop (i + 1) w) (λ m. unquoted m (drop (i + 1) w)) s
here mode w i s lt e =
    let next : suc i ≡ i + 1 = omega arith in
    ap (unquoted mode) (drop-cons w i 0 lt) ∙ one_step mode (get_or w i 0) (drop (suc i) w) ∙ ap (λ (n : ℕ). after_step (drop n w) (λ m. unquoted m (drop n w)) (step_of mode (get_or w i 0))) next ∙ ap (after_step (drop (i + 1) w) (λ m. unquoted m (drop (i + 1) w))) (sym e)

-- so far, and on
pub on_to : (xs w : List ℕ) (i : ℕ) (mode to : Quoting) (all : Option (List ℕ)) → i < length w → To to ≡ step_of mode (get_or w i 0) → fronted xs (unquoted mode (drop i w)) ≡ all → fronted xs (unquoted to (drop (i + 1) w)) ≡ all
on_to xs w i mode to all lt e h = ap (fronted xs) (sym (here mode w i (To to) lt e)) ∙ h

pub on_byte : (xs w : List ℕ) (i b : ℕ) (mode : Quoting) (all : Option (List ℕ)) → i < length w → Byte b ≡ step_of mode (get_or w i 0) → fronted xs (unquoted mode (drop i w)) ≡ all → fronted (xs ++ b ∷ []) (unquoted Plain (drop (i + 1) w)) ≡ all
on_byte xs w i b mode all lt e h = sym (fronted_more xs b (unquoted Plain (drop (i + 1) w))) ∙ ap (fronted xs) (sym (here mode w i (Byte b) lt e)) ∙ h

pub at_end : (xs w : List ℕ) (i : ℕ) (mode : Quoting) (all : Option (List ℕ)) → i < length w → End ≡ step_of mode (get_or w i 0) → fronted xs (unquoted mode (drop i w)) ≡ all → all ≡ fronted xs (cond (eqb (length (drop (i + 1) w)) 0) (Some []) None)
at_end xs w i mode all lt e h = sym h ∙ ap (fronted xs) (here mode w i End lt e)

pub at_bad : (xs w : List ℕ) (i : ℕ) (mode : Quoting) (all : Option (List ℕ)) → i < length w → Bad ≡ step_of mode (get_or w i 0) → fronted xs (unquoted mode (drop i w)) ≡ all → all ≡ None
at_bad xs w i mode all lt e h = sym h ∙ ap (fronted xs) (here mode w i Bad lt e)

pub at_stop : (xs w : List ℕ) (i : ℕ) (mode : Quoting) (all : Option (List ℕ)) → length w ≤ i → fronted xs (unquoted mode (drop i w)) ≡ all → all ≡ None
at_stop xs w i mode all le h = sym h ∙ ap (λ (r : List ℕ). fronted xs (unquoted mode r)) (nil_from_length (drop i w) (omega (arith, length-drop i w)))

-- too long
fronted_long : (xs : List ℕ) (b : ℕ) (o : Option (List ℕ)) → 64 ≤ length xs → text_or (fronted xs (with_front b o)) ≡ Err Why.Text
fronted_long xs b None le = refl
fronted_long xs b (Some t) le = unless (is_text (xs ++ b ∷ t)) (Ok (xs ++ b ∷ t)) (Err Why.Text) (and_right _ _ (lt-leb (length (xs ++ b ∷ t)) 64 (omega (arith, length-append xs (b ∷ t)))))

pub at_full : (xs w : List ℕ) (i b : ℕ) (mode : Quoting) (all : Option (List ℕ)) → 64 ≤ length xs → i < length w → Byte b ≡ step_of mode (get_or w i 0) → fronted xs (unquoted mode (drop i w)) ≡ all → text_or all ≡ Err Why.Text
at_full xs w i b mode all le lt e h = ap text_or (sym h ∙ ap (fronted xs) (here mode w i (Byte b) lt e)) ∙ fronted_long xs b (unquoted Plain (drop (i + 1) w)) le

pub ended_well : (xs w : List ℕ) (i : ℕ) (mode : Quoting) (all : Option (List ℕ)) → i + 1 ≡ length w → 1 ≤ length xs → length xs ≤ 64 → End ≡ step_of mode (get_or w i 0) → fronted xs (unquoted mode (drop i w)) ≡ all → text_or all ≡ Ok xs
ended_well xs w i mode all last low high e h =
    ap text_or (at_end xs w i mode all (omega arith) e h ∙ ap (fronted xs) (when (eqb (length (drop (i + 1) w)) 0) (Some []) None (eq-eqb _ _ (omega (arith, length-drop (i + 1) w)))))
    ∙ ap (λ (t : List ℕ). text_or (Some t)) (append-nil xs) ∙ when (is_text xs) (Ok xs) (Err Why.Text) (and_from _ _ (lt-ltb 0 (length xs) (omega arith)) (le-leb (length xs) 64 high))

pub ended_early : (xs w : List ℕ) (i : ℕ) (mode : Quoting) (all : Option (List ℕ)) → i + 1 < length w → End ≡ step_of mode (get_or w i 0) → fronted xs (unquoted mode (drop i w)) ≡ all → text_or all ≡ Err Why.Text
ended_early xs w i mode all more e h = ap text_or (at_end xs w i mode all (omega arith) e h ∙ ap (fronted xs) (unless (eqb (length (drop (i + 1) w)) 0) (Some []) None (ne_eqb _ _ (λ z. absurd (omega (arith, length-drop (i + 1) w))))))

pub ended_empty : (w : List ℕ) (i : ℕ) (mode : Quoting) (all : Option (List ℕ)) → i < length w → End ≡ step_of mode (get_or w i 0) → fronted [] (unquoted mode (drop i w)) ≡ all → text_or all ≡ Err Why.Text
ended_empty w i mode all lt e h = ap text_or (at_end [] w i mode all lt e h) ∙ elim (cases_Bool (eqb (length (drop (i + 1) w)) 0)) [ inl t ↦ ap (λ (o : Option (List ℕ)). text_or (fronted [] o)) (when _ (Some []) None t) | inr f ↦ ap (λ (o : Option (List ℕ)). text_or (fronted [] o)) (unless _ (Some []) None f) ]

pub quote_first : (w : List ℕ) → 0 < length w → get_or w 0 0 ≡ 34 → text_in w ≡ text_or (unquoted Plain (drop 1 w))
quote_first [] lt e = absurd (omega arith)
quote_first (b ∷ bs) lt e = when (eqb b 34) (text_or (unquoted Plain bs)) (Err Why.Text) (eq-eqb b 34 e)
