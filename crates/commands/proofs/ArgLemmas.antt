-- The words are the command that the definitions read, where it is built.
use Rattle.std.proofs.Common.{◌≡◌, ℕ, ◌+◌, List, [], ◌∷◌, Option, Some, None, Bool, true, false, refl, sym, subst}
use Rattle.std.specs.Prelude.{map, codes, nat_le, String, string_bytes, if◌then◌else◌}
use Rattle.std.specs.Option.{option_map, option_and_then}
use Rattle.std.specs.Str.{bytes_eq}
use Rattle.std.proofs.lemmas.Slice.Eq.{bytes_eq-Decides}
use Rattle.std.specs.declared.alloc.Global.{Global}
use Rattle.rt_plain.specs.runs.Commands.{Command, number_within, numbered_command, live_of, sweep_of, cycle_of, two_words, three_words, four_words, command_of as defined_command_of}
use Rattle.commands.specs.Command.{command_of, one_file, two_files, if_built}

-- no command that is built comes of it
abbrev IsUnbuilt : Option Command → Type 0
IsUnbuilt command = None ≡ option_and_then if_built command

no-map : (f : ℕ → Command) → ((n : ℕ) → if_built (f n) ≡ None) → (n : Option ℕ) → IsUnbuilt (option_map f n)
no-map f none None = refl
no-map f none (Some n) = sym (none n)

no-then : (f : ℕ → Option Command) → ((n : ℕ) → IsUnbuilt (f n)) → (n : Option ℕ) → IsUnbuilt (option_and_then f n)
no-then f none None = refl
no-then f none (Some n) = none n

no-live : (turns file : List ℕ) → IsUnbuilt (live_of turns file)
no-live turns file = no-map (λ n. Command.Live n file) (λ n. refl) (number_within 1 1000000 turns)

no-sweep : (from count file : List ℕ) → IsUnbuilt (sweep_of from count file)
no-sweep from count file = no-then _ (λ n. no-then _ (λ k. within (nat_le (n + k) 4294967296) n k) (number_within 1 32 count)) (number_within 0 4294967295 from) where
  within : (fits : Bool) (n k : ℕ) → IsUnbuilt (if fits then Some (Command.Sweep n k file) else None)
  within true n k = refl
  within false n k = refl

no-cycle : (alarm times file : List ℕ) → IsUnbuilt (cycle_of alarm times file)
no-cycle alarm times file = no-then _ (λ n. no-map (λ k. Command.Cycle n k file) (λ k. refl) (number_within 1 16 times)) (number_within 1 4294967295 alarm)

-- no name is both
one-name : (name : List ℕ) → bytes_eq name (codes "run") ≡ true → bytes_eq name (codes "trace") ≡ true → ⊥
one-name name run trace =
    let both : bytes_eq (codes "run") (codes "trace") ≡ true = subst (λ word. bytes_eq word (codes "trace") ≡ true) ((bytes_eq-Decides name (codes "run")).0 run) trace in
    cc

two : (name file : List ℕ) → one_file name file ≡ option_and_then if_built (two_words name file)
two name file = by (bytes_eq name (codes "run")) (bytes_eq name (codes "trace")) (bytes_eq name (codes "show")) (bytes_eq name (codes "usage")) (bytes_eq name (codes "gen")) (bytes_eq name (codes "soak")) (one-name name) where
  by : (run trace show usage gen soak : Bool) → (run ≡ true → trace ≡ true → ⊥)
      → (if trace then Some (Command.Trace file) else if run then Some (Command.Run file) else if show then Some (Command.Show file) else None)
      ≡ option_and_then if_built (if run then Some (Command.Run file) else if trace then Some (Command.Trace file) else if show then Some (Command.Show file)
      else if usage then Some (Command.Usage file) else if gen then numbered_command Command.Gen file else if soak then numbered_command Command.Soak file else None)
  by true true show usage gen soak apart = absurd (apart refl refl)
  by true false show usage gen soak apart = refl
  by false true show usage gen soak apart = refl
  by false false true usage gen soak apart = refl
  by false false false true gen soak apart = refl
  by false false false false true soak apart = no-map Command.Gen (λ n. refl) (number_within 0 4294967295 file)
  by false false false false false true apart = no-map Command.Soak (λ n. refl) (number_within 0 4294967295 file)
  by false false false false false false apart = refl

-- no name is both of these either
one-of_two : (name : List ℕ) → bytes_eq name (codes "live") ≡ true → bytes_eq name (codes "replay") ≡ true → ⊥
one-of_two name live replay =
    let both : bytes_eq (codes "live") (codes "replay") ≡ true = subst (λ word. bytes_eq word (codes "replay") ≡ true) ((bytes_eq-Decides name (codes "live")).0 live) replay in
    cc

three : (name a b : List ℕ) → two_files name a b ≡ option_and_then if_built (three_words name a b)
three name a b = by (bytes_eq name (codes "live")) (bytes_eq name (codes "replay")) (one-of_two name) where
  by : (live replay : Bool) → (live ≡ true → replay ≡ true → ⊥) → (if replay then Some (Command.Replay a b) else None) ≡ option_and_then if_built (if live then live_of a b else if replay then Some (Command.Replay a b) else None)
  by true true apart = absurd (apart refl refl)
  by true false apart = no-live a b
  by false true apart = refl
  by false false apart = refl

four : (name a b c : List ℕ) → IsUnbuilt (four_words name a b c)
four name a b c = by (bytes_eq name (codes "sweep")) (bytes_eq name (codes "cycle")) where
  by : (sweep cycle : Bool) → IsUnbuilt (if sweep then sweep_of a b c else if cycle then cycle_of a b c else None)
  by true cycle = no-sweep a b c
  by false true = no-cycle a b c
  by false false = refl

-- words are the command that the definitions read, where it is built
pub read-as-defined : (words : List (String Global)) → command_of words ≡ option_and_then if_built (defined_command_of (map string_bytes words))
read-as-defined [] = refl
read-as-defined (name ∷ []) = refl
read-as-defined (name ∷ file ∷ []) = two (string_bytes name) (string_bytes file)
read-as-defined (name ∷ a ∷ b ∷ []) = three (string_bytes name) (string_bytes a) (string_bytes b)
read-as-defined (name ∷ a ∷ b ∷ c ∷ []) = four (string_bytes name) (string_bytes a) (string_bytes b) (string_bytes c)
read-as-defined (name ∷ a ∷ b ∷ c ∷ d ∷ more) = refl
