-- The command that a line names, in the table of the code and in that of the definitions.
use Rattle.std.proofs.Common.{◌≡◌, ◌∙◌, refl, sym, ap, ℕ, Bool, true, false, cond, Option, Some, None, List, [], ◌∷◌, map}
use Rattle.std.specs.List.{find}
use Rattle.std.specs.Str.{bytes_eq}
use Rattle.std.specs.Option.{option_map}
use Rattle.rt_plain.specs.kernel.Tables.{Command, CommandRow, Seen, commands, printed_pieces, unknown_pieces, pieces_for}
use Rattle.finsh.specs.Commands.{deed_of, row_of}
use Rattle.finsh.specs.declared.commands.Named.{Named}

abbrev pub is_named : List ℕ → Named → Bool
is_named line named = bytes_eq named.0.now line

first : (t : Bool) (n : Named) (r : Option CommandRow) (o : Option Named) → r ≡ option_map row_of o → cond t (Some (row_of n)) r ≡ option_map row_of (cond t (Some n) o)
first true n r o e = refl
first false n r o e = e

found_in : (line : List ℕ) (ns : List Named) → find (λ (row : CommandRow). bytes_eq row.name line) (map row_of ns) ≡ option_map row_of (find (is_named line) ns)
found_in line [] = refl
found_in line (n ∷ ns) = first (is_named line n) n (find (λ (row : CommandRow). bytes_eq row.name line) (map row_of ns)) (find (is_named line) ns) (found_in line ns)

deed_found : (o : Option Named) → option_map deed_of (option_map (λ n. n.1) o) ≡ option_map (λ row. row.command) (option_map row_of o)
deed_found None = refl
deed_found (Some n) = refl

-- what the line's command does is found in either table
pub same_deed : (line : List ℕ) (ns : List Named) (found : Option Named) → map row_of ns ≡ commands → find (is_named line) ns ≡ found
    → option_map deed_of (option_map (λ n. n.1) found) ≡ option_map (λ row. row.command) (find (λ (row : CommandRow). bytes_eq row.name line) commands)
same_deed line ns found all e =
    deed_found found ∙ ap (λ o. option_map (λ row. row.command) (option_map row_of o)) (sym e)
    ∙ ap (option_map (λ row. row.command)) (sym (found_in line ns))
    ∙ ap (λ rows. option_map (λ row. row.command) (find (λ (row : CommandRow). bytes_eq row.name line) rows)) all

some_same : {x y : Command} → Some x ≡ Some y → x ≡ y
some_same e = cc

-- the pieces of a command that was found, and of none
pub found_pieces : (o : Option CommandRow) (command : Command) (line : List ℕ) (seen : Seen) → Some command ≡ option_map (λ row. row.command) o → pieces_for o line seen ≡ printed_pieces command seen
found_pieces None command line seen e = absurd (cc)
found_pieces (Some row) command line seen e = ap (λ (c : Command). printed_pieces c seen) (sym (some_same e))

pub other_pieces : (o : Option CommandRow) (line : List ℕ) (seen : Seen) → None ≡ option_map (λ row. row.command) o → pieces_for o line seen ≡ unknown_pieces line
other_pieces None line seen e = refl
other_pieces (Some row) line seen e = absurd (cc)
