-- Line after line, the outcome stays the same.
use Rattle.std.proofs.Common.{◌≡◌, ℕ, Bool, true, false, eqb, cond, ◌+◌, ◌≤◌, List, ◌∷◌, length, Some, Result, Ok, Err, refl, sym, ap, ◌∙◌, subst, inl, inr}
use Rattle.std.specs.Prelude.{IfOk, IfErr}
use Rattle.std.proofs.lemmas.List.{nil_from_length}
use Rattle.rt_plain.specs.declared.why.Why.{Why}
use Rattle.rt_plain.specs.PlainBoard.{PlainBoard}
use Rattle.rt_plain.specs.text.Splits.{lines_of}
use Rattle.rt_plain.specs.text.BoardText.{SoFar, start, Bad, outcome, reading, IsBoard, first_bad, error_of}
use Rattle.rt_plain.specs.text.Canon.{IsValid}
use Rattle.rt_plain.proofs.text.ValidLemmas.{read_is_valid}
use Rattle.rt_plain.proofs.text.BoardLemmas.{IsSound, sound-start, sound-after, outcome_skipped, outcome_judged, board-takes, board-again}
use Rattle.board_text.specs.declared.fault.Refusal.{Refusal}
use Rattle.board_text.specs.declared.fault.BoardFault.{BoardFault}
use Rattle.board_text.specs.Steps.{Passes, Stops}
use Rattle.board_text.specs.Faults.{Answers, IsOrMemory, IsCause, longest}

pub next_is : (s t : SoFar) (n : ℕ) (bytes : List ℕ) (rest : List (List ℕ)) → IsSound s → Passes s bytes t → IsSound t × (outcome t (n + 1) rest ≡ outcome s n (bytes ∷ rest))
next_is s t n bytes rest h (inl p) = (subst IsSound (sym p.1) h, ap (λ (u : SoFar). outcome u (n + 1) rest) p.1 ∙ sym (outcome_skipped s n bytes rest p.0))
next_is s t n bytes rest h (inr p) =
    let l = p.1.0 in (
      subst IsSound (sym p.1.2) (sound-after s bytes l h p.1.1),
      ap (λ (u : SoFar). outcome u (n + 1) rest) p.1.2 ∙ sym (outcome_judged s n bytes rest (Ok l) p.0 p.1.1),
    )

pub stop_is : (s : SoFar) (n : ℕ) (bytes : List ℕ) (rest : List (List ℕ)) (w : Why) → Stops s bytes (Refusal.Line w) → outcome s n (bytes ∷ rest) ≡ Err (record { line = n; reason = w })
stop_is s n bytes rest w p = outcome_judged s n bytes rest (Err w) p.0 p.1

-- what is read at the end
abbrev read : PlainBoard → Result PlainBoard Bad
read b = Ok b

finished : (s : SoFar) (n : ℕ) (t : Bool) (r : Result PlainBoard Bad) → eqb s.rank 0 ≡ t → t ≡ false → cond t (Err (record { line = n; reason = Why.Head })) (read s.board) ≡ r → r ≡ read s.board
finished s n true r e f h = absurd cc
finished s n false r e f h = sym h

-- the board comes out once all lines are read
pub finished_is : (bytes rest : List ℕ) (s : SoFar) (n : ℕ) → length rest ≡ 0 → outcome s n (lines_of rest) ≡ reading bytes → eqb s.rank 0 ≡ false → reading bytes ≡ read s.board
finished_is bytes rest s n none e f =
    finished s n (eqb s.rank 0) (reading bytes) refl f
    (ap (λ (r : List ℕ). outcome s n (lines_of r)) (sym (nil_from_length rest none)) ∙ e)

-- and it is valid
pub finished_is_valid : (bytes : List ℕ) (b : PlainBoard) → reading bytes ≡ read b → IsValid b
finished_is_valid bytes b e = read_is_valid bytes b (board-takes start 1 (lines_of bytes) b sound-start.cores e)

-- ---- what the answer says

pub is_found : (bytes : List ℕ) (r : Result PlainBoard BoardFault) → length bytes ≤ longest → Answers r (reading bytes) → IfOk r (λ b. (length bytes ≤ longest) × IsBoard bytes b)
is_found bytes (Ok b) le a = (le, board-takes start 1 (lines_of bytes) b (sound-start.cores) a)
is_found bytes (Err e) le a = tt

-- the boards of two equal answers
board_is : (a b : PlainBoard) → read a ≡ read b → a ≡ b
board_is a b e = cc

pub is_every : (bytes : List ℕ) (r : Result PlainBoard BoardFault) (b : PlainBoard) → Answers r (reading bytes) → IsBoard bytes b → IsOrMemory r (Ok b)
is_every bytes (Ok c) b a h = ap (λ (x : PlainBoard). Ok x) (board_is c b (sym a ∙ board-again start 1 (lines_of bytes) b h))
is_every bytes (Err BoardFault.Memory) b a h = tt
is_every bytes (Err (BoardFault.Line n w)) b a h = absurd (let e = sym a ∙ board-again start 1 (lines_of bytes) b h in cc)
is_every bytes (Err (BoardFault.TooLong n)) b a h = absurd a

pub is_cause : (bytes : List ℕ) (r : Result PlainBoard BoardFault) → length bytes ≤ longest → Answers r (reading bytes) → IfErr r (λ fault. IsCause bytes fault)
is_cause bytes (Ok c) le a = tt
is_cause bytes (Err BoardFault.Memory) le a = tt
is_cause bytes (Err (BoardFault.Line n w)) le a = (le, ap error_of a)
is_cause bytes (Err (BoardFault.TooLong n)) le a = absurd a

bad_is : (x y : Bad) → Some x ≡ Some y → x ≡ y
bad_is x y e = cc

pub is_bad : (bytes : List ℕ) (r : Result PlainBoard BoardFault) (bad : Bad) → Answers r (reading bytes) → first_bad bytes ≡ Some bad → IsOrMemory r (Err (BoardFault.Line bad.line bad.reason))
is_bad bytes (Ok c) bad a h = absurd (let e = sym (ap error_of a) ∙ h in cc)
is_bad bytes (Err BoardFault.Memory) bad a h = tt
is_bad bytes (Err (BoardFault.Line n w)) bad a h = ap (λ (x : Bad). Err (BoardFault.Line x.line x.reason)) (bad_is (record { line = n; reason = w }) bad (sym (ap error_of a) ∙ h))
is_bad bytes (Err (BoardFault.TooLong n)) bad a h = absurd a
