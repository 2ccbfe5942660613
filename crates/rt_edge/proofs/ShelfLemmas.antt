-- The first file of a name.
use Rattle.std.proofs.Common.{◌≡◌, ◌<◌, ℕ, zero, suc, List, [], ◌∷◌, Some, true, drop, length, get_or, subst, refl, arith}
use Rattle.std.specs.Str.{bytes_eq}
use Rattle.rt_edge.specs.Named.{Named}
use Rattle.rt_edge.specs.Shelved.{names_of, content_of}

-- from the file with a number on, the name holds what that file holds, if it is the file's name
pub names_of-drop : (files : List Named) (number : ℕ) (name : List ℕ) (file : Named) → number < length files → file ≡ get_or files number file
    → bytes_eq file.0 name ≡ true → names_of (drop number files) name ≡ Some (content_of files number)
names_of-drop [] number name file within is same = absurd (omega arith)
names_of-drop (first ∷ files) zero name file within is same =
    let here : bytes_eq first.0 name ≡ true = subst (λ (f : Named). bytes_eq f.0 name ≡ true) is same in
    rw here refl
names_of-drop (first ∷ files) (suc number) name file within is same = names_of-drop files number name file (omega arith) is same
