-- Reading whole texts: a board comes out exactly where the lines are those of one.
use Rattle.std.proofs.Common.{◌≡◌, ℕ, ◌+◌, ◌≤◌, Bool, true, false, not, ◌||◌, eqb, cond, List, [], ◌∷◌, ◌++◌, ◌-◌, ◌<◌, suc, length, get_or, None, Result, Ok, Err, refl, sym, ap, ◌∙◌, arith, inl, inr, ◌⊎◌}
use Rattle.std.specs.Prelude.{IsTrue}
use Rattle.std.proofs.lemmas.Bool.{eqb-true, eqb-false, ne_eqb, not_from_false, not-true, or_cases}
use Rattle.rt_plain.specs.declared.why.Why.{Why}
use Rattle.rt_plain.specs.declared.board_line.BoardLine.{BoardLine}
use Rattle.rt_plain.specs.declared.board.ThreadDef.{ThreadDef}
use Rattle.rt_plain.specs.declared.board.Arrival.{Arrival}
use Rattle.rt_plain.specs.declared.stmt.Stmt.{Stmt}
use Rattle.rt_plain.specs.PlainBoard.{PlainBoard}
use Rattle.rt_plain.specs.text.Splits.{lines_of}
use Rattle.rt_plain.specs.text.BoardText.{SoFar, scripted, last_count, last_length, start, after, is_skipped, Stands, IsLine, AreLines, IsBoard, judged, Bad, with_judged, outcome, reading, error_of, first_bad}
use Rattle.rt_plain.proofs.text.FieldLemmas.{when, unless}
use Rattle.rt_plain.proofs.text.LineLemmas.{line-takes, line-again}

cores-kept : (s : SoFar) (l : BoardLine) → s.board.cores ≤ 8 → Stands s l → (after s l).board.cores ≤ 8
cores-kept s (BoardLine.Cores n) le h = h.fits.0.1
cores-kept s (BoardLine.Statement t) le h = le
cores-kept s _ le h = le

abbrev done : {A E : Type 0} → A → Result A E
done x = Ok x

ok_is : {A E : Type 0} (x y : A) → done {E = E} x ≡ done y → x ≡ y
ok_is x y e = cc

-- what comes of a line that was judged
abbrev pub next : SoFar → ℕ → List (List ℕ) → Result BoardLine Why → Result PlainBoard Bad
next s n rest r = with_judged n r (λ l. outcome (after s l) (n + 1) rest)

line-cases : (s : SoFar) (n : ℕ) (bytes : List ℕ) (rest : List (List ℕ)) (b : PlainBoard) → s.board.cores ≤ 8 → (r : Result BoardLine Why) → judged s bytes ≡ r → next s n rest r ≡ Ok b → (l : BoardLine) × IsLine s bytes l × (outcome (after s l) (n + 1) rest ≡ Ok b)
line-cases s n bytes rest b le (Ok l) e h = (l, line-takes s bytes l le e, h)
line-cases s n bytes rest b le (Err d) e h = absurd cc

ended : (s : SoFar) (n : ℕ) (b : PlainBoard) (t : Bool) → eqb s.rank 0 ≡ t → cond t (Err (record { line = n; reason = Why.Head })) (done {E = Bad} s.board) ≡ Ok b → (1 ≤ s.rank) × (s.board ≡ b)
ended s n b true e h = absurd cc
ended s n b false e h = let ne = eqb-false s.rank 0 e in (omega arith, ok_is {E = Bad} s.board b h)

skip-cases : (bytes : List ℕ) (b : PlainBoard) (t : Bool) (x y : Result PlainBoard Bad) → is_skipped bytes ≡ t → cond t x y ≡ Ok b → (IsTrue (is_skipped bytes) × (x ≡ Ok b)) ⊎ (IsTrue (not (is_skipped bytes)) × (y ≡ Ok b))
skip-cases bytes b true x y e h = inl (e, h)
skip-cases bytes b false x y e h = inr (not_from_false _ e, h)

pub board-takes : (s : SoFar) (n : ℕ) (lines : List (List ℕ)) (b : PlainBoard) → s.board.cores ≤ 8 → outcome s n lines ≡ Ok b → AreLines s lines b
board-takes s n [] b le e = ended s n b (eqb s.rank 0) refl e
board-takes s n (bytes ∷ rest) b le e =
    elim (skip-cases bytes b (is_skipped bytes) (outcome s (n + 1) rest) (next s n rest (judged s bytes)) refl e) [
      | inl h ↦ inl (h.0, board-takes s (n + 1) rest b le h.1)
      | inr h ↦ (let c = line-cases s n bytes rest b le (judged s bytes) refl h.1 in
          inr (c.0, h.0, c.1, board-takes (after s c.0) (n + 1) rest b (cores-kept s c.0 le c.1.stands) c.2))
    ]

pub board-again : (s : SoFar) (n : ℕ) (lines : List (List ℕ)) (b : PlainBoard) → AreLines s lines b → outcome s n lines ≡ Ok b
board-again s n [] b h = unless (eqb s.rank 0) _ (done {E = Bad} s.board) (ne_eqb s.rank 0 (λ e. absurd (omega (arith, h.0)))) ∙ ap (λ (x : PlainBoard). Ok x) h.1
board-again s n (bytes ∷ rest) b (inl h) = when (is_skipped bytes) _ _ h.0 ∙ board-again s (n + 1) rest b h.1
board-again s n (bytes ∷ rest) b (inr h) = unless (is_skipped bytes) _ (next s n rest (judged s bytes)) (not-true _ h.1) ∙ ap (next s n rest) (line-again s bytes h.0 h.2) ∙ board-again (after s h.0) (n + 1) rest b h.3

-- no text is two boards
pub one_board : (bytes : List ℕ) (a b : PlainBoard) → IsBoard bytes a → IsBoard bytes b → a ≡ b
one_board bytes a b g h = ok_is {E = Bad} a b (sym (board-again start 1 (lines_of bytes) a g) ∙ board-again start 1 (lines_of bytes) b h)

none_is : (r : Result PlainBoard Bad) → error_of r ≡ None → (b : PlainBoard) × (r ≡ Ok b)
none_is (Ok b) e = (b, refl)
none_is (Err x) e = absurd cc

-- there is no bad line exactly where the text is a board's
pub no_bad_line : (bytes : List ℕ) → (first_bad bytes ≡ None → (b : PlainBoard) × IsBoard bytes b) × ((b : PlainBoard) → IsBoard bytes b → first_bad bytes ≡ None)
no_bad_line bytes = (
  λ e. let n = none_is (reading bytes) e in (n.0, board-takes start 1 (lines_of bytes) n.0 (omega arith) n.1),
  λ b h. ap error_of (board-again start 1 (lines_of bytes) b h),
)

-- ---- for the code

levels-kept : (s : SoFar) (l : BoardLine) → 2 ≤ s.board.levels → s.board.levels ≤ 256 → Stands s l → (2 ≤ (after s l).board.levels) × ((after s l).board.levels ≤ 256)
levels-kept s (BoardLine.Levels n) low high h =
    elim (or_cases (eqb n 8 || eqb n 32) (eqb n 256) h.fits.0) [
      | inl g ↦ elim (or_cases (eqb n 8) (eqb n 32) g) [ inl e ↦ (omega (arith, eqb-true n 8 e), omega (arith, eqb-true n 8 e)) | inr e ↦ (omega (arith, eqb-true n 32 e), omega (arith, eqb-true n 32 e)) ]
      | inr e ↦ (omega (arith, eqb-true n 256 e), omega (arith, eqb-true n 256 e))
    ]
levels-kept s (BoardLine.Statement t) low high h = (low, high)
levels-kept s _ low high h = (low, high)

clock-kept : (s : SoFar) (l : BoardLine) → 1 ≤ s.board.lp_h → Stands s l → 1 ≤ (after s l).board.lp_h
clock-kept s (BoardLine.LpClock h q) le st = st.fits.0.0
clock-kept s (BoardLine.Statement t) le st = le
clock-kept s _ le st = le

-- what holds after any lines
pub record IsSound (s : SoFar) : Type 0 where
  pub low : 2 ≤ s.board.levels
  pub high : s.board.levels ≤ 256
  pub cores : s.board.cores ≤ 8
  pub clock : 1 ≤ s.board.lp_h

pub sound-start : IsSound start
sound-start = record { low = omega arith; high = omega arith; cores = omega arith; clock = omega arith }

pub sound-after : (s : SoFar) (bytes : List ℕ) (l : BoardLine) → IsSound s → judged s bytes ≡ Ok l → IsSound (after s l)
sound-after s bytes l h e =
    let stands = (line-takes s bytes l h.cores e).stands in
    let k = levels-kept s l h.low h.high stands in
    record { low = k.0; high = k.1; cores = cores-kept s l h.cores stands; clock = clock-kept s l h.clock stands }

pub outcome_skipped : (s : SoFar) (n : ℕ) (bytes : List ℕ) (rest : List (List ℕ)) → IsTrue (is_skipped bytes) → outcome s n (bytes ∷ rest) ≡ outcome s (n + 1) rest
outcome_skipped s n bytes rest h = when (is_skipped bytes) (outcome s (n + 1) rest) (next s n rest (judged s bytes)) h

pub outcome_judged : (s : SoFar) (n : ℕ) (bytes : List ℕ) (rest : List (List ℕ)) (r : Result BoardLine Why) → IsTrue (not (is_skipped bytes)) → judged s bytes ≡ r → outcome s n (bytes ∷ rest) ≡ next s n rest r
outcome_judged s n bytes rest r h e = unless (is_skipped bytes) (outcome s (n + 1) rest) (next s n rest (judged s bytes)) (not-true _ h) ∙ ap (next s n rest) e

pub scripted_last : (ts : List ThreadDef) (t : ThreadDef) (s : Stmt) → scripted (ts ++ t ∷ []) s ≡ ts ++ record t { script = t.script ++ s ∷ [] } ∷ []
scripted_last [] t s = refl
scripted_last (u ∷ []) t s = refl
scripted_last (u ∷ v ∷ ts) t s = ap (λ (us : List ThreadDef). u ∷ us) (scripted_last (v ∷ ts) t s)

pub last_arrival : (xs : List Arrival) (d : Arrival) → 0 < length xs → last_count xs ≡ (get_or xs (length xs - 1) d).count
last_arrival [] d lt = absurd (omega arith)
last_arrival (a ∷ []) d lt = refl
last_arrival (a ∷ c ∷ cs) d lt =
    let here : suc (suc (length cs)) - 1 ≡ suc (length cs) = omega arith in
    let there : suc (length cs) - 1 ≡ length cs = omega arith in
    last_arrival (c ∷ cs) d (omega arith) ∙ ap (λ (n : ℕ). (get_or (c ∷ cs) n d).count) there ∙ ap (λ (n : ℕ). (get_or (a ∷ c ∷ cs) n d).count) (sym here)

pub last_script : (xs : List ThreadDef) (d : ThreadDef) → 0 < length xs → last_length xs ≡ length (get_or xs (length xs - 1) d).script
last_script [] d lt = absurd (omega arith)
last_script (a ∷ []) d lt = refl
last_script (a ∷ c ∷ cs) d lt =
    let here : suc (suc (length cs)) - 1 ≡ suc (length cs) = omega arith in
    let there : suc (length cs) - 1 ≡ length cs = omega arith in
    last_script (c ∷ cs) d (omega arith) ∙ ap (λ (n : ℕ). length (get_or (c ∷ cs) n d).script) there ∙ ap (λ (n : ℕ). length (get_or (a ∷ c ∷ cs) n d).script) (sym here)
