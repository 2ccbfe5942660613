-- A canonical text is that of one board.
use Rattle.std.proofs.Common.{◌≡◌, ℕ, ◌≤◌, List, length, Result, Ok, sym, subst}
use Rattle.rt_plain.specs.PlainBoard.{PlainBoard}
use Rattle.rt_plain.specs.text.BoardText.{IsBoard}
use Rattle.rt_plain.specs.text.Canon.{IsValid, canonical_text}
use Rattle.board_text.specs.declared.fault.BoardFault.{BoardFault}
use Rattle.board_text.specs.Faults.{longest, IsOrMemory}
use Rattle.rt_plain.proofs.text.ValidLemmas.{canonical_is_board}
use Rattle.rt_plain.proofs.text.BoardLemmas.{one_board as of_one_text}

pub is_read : (b : PlainBoard) → IsValid b → IsBoard (canonical_text b) b
is_read b valid = canonical_is_board b valid

pub one_board : (a b : PlainBoard) → IsValid a → IsValid b → canonical_text a ≡ canonical_text b → a ≡ b
one_board a b va vb same = of_one_text (canonical_text a) a b (is_read a va) (subst (λ (t : List ℕ). IsBoard t b) (sym same) (is_read b vb))

-- what is read of a board's canonical text is that board
pub read_back : (r : Result PlainBoard BoardFault) (text : List ℕ) (b : PlainBoard) → text ≡ canonical_text b → IsValid b → ((x : PlainBoard) → length text ≤ longest → IsBoard text x → IsOrMemory r (Ok x)) → length (canonical_text b) ≤ longest → IsOrMemory r (Ok b)
read_back r text b same valid every short = every b (subst (λ (t : List ℕ). length t ≤ longest) (sym same) short) (subst (λ (t : List ℕ). IsBoard t b) (sym same) (is_read b valid))
