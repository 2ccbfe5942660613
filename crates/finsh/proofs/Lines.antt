-- Lines of at most 40 bytes, byte by byte and part by part.
use Rattle.std.proofs.Common.{◌≡◌, ◌∙◌, refl, ℕ, zero, suc, ◌<◌, ◌≤◌, List, [], ◌∷◌, ◌++◌, length, take, ap, arith, length-append, append_assoc, append-nil}
use Rattle.std.proofs.Math.Seq.{take_all}
use Rattle.std.proofs.lemmas.List.{take_at}
use Rattle.rt_plain.specs.kernel.Shell.{longer_line}

-- a full line stays
pub full : (line : List ℕ) (byte : ℕ) → length line ≡ 40 → longer_line line (byte ∷ []) ≡ line
full line byte h = take_at line (byte ∷ []) 40 h

-- another one grows
pub longer : (line : List ℕ) (byte : ℕ) → length line < 40 → longer_line line (byte ∷ []) ≡ line ++ byte ∷ []
longer line byte h = take_all 40 (line ++ byte ∷ []) (omega (arith, length-append line (byte ∷ [])))

-- what fits is taken in two parts as in one
pub taken_more : (n : ℕ) (xs ys : List ℕ) → take n (take n xs ++ ys) ≡ take n (xs ++ ys)
taken_more zero xs ys = refl
taken_more (suc n) [] ys = refl
taken_more (suc n) (x ∷ xs) ys = ap (λ zs. x ∷ zs) (taken_more n xs ys)

-- bytes that come in two parts make a line as they do in one
pub longer_more : (line bytes more : List ℕ) → longer_line (longer_line line bytes) more ≡ longer_line line (bytes ++ more)
longer_more line bytes more = taken_more 40 (line ++ bytes) more ∙ ap (take 40) (append_assoc line bytes more)

-- no bytes leave a line as it is
pub longer_none : (line : List ℕ) → length line ≤ 40 → longer_line line [] ≡ line
longer_none line h = ap (take 40) (append-nil line) ∙ take_all 40 line h
