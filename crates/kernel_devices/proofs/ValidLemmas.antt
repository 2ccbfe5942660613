-- The devices and the arrivals of a valid board.
use Rattle.std.proofs.Common.{ℕ, suc, ◌≡◌, ◌≢◌, ◌≤◌, true, false, List, [], ◌∷◌, ◌++◌, length, sym, subst, arith, append_assoc}
use Rattle.std.specs.List.{All, AllByRecursion, AllPairs}
use Rattle.std.specs.Str.{bytes_eq}
use Rattle.std.proofs.lemmas.Bool.{ltb-false}
use Rattle.std.proofs.lemmas.List.{append-nil}
use Rattle.std.proofs.lemmas.List.Elements.{All-from_recursion}
use Rattle.std.proofs.lemmas.List.Quantifiers.{all_pairs_push}
use Rattle.std.proofs.lemmas.Slice.Eq.{bytes_eq-Decides}
use Rattle.rt_plain.specs.declared.board.Arrival.{Arrival}
use Rattle.rt_plain.specs.declared.board.DeviceDef.{DeviceDef}
use Rattle.rt_plain.specs.declared.kind.LineKind.{LineKind}
use Rattle.rt_plain.specs.PlainBoard.{PlainBoard}
use Rattle.rt_plain.specs.kernel.Shell.{console_name}
use Rattle.rt_plain.specs.text.BoardText.{last_count}
use Rattle.rt_plain.specs.text.Canon.{IsValid}
use Rattle.rt_plain.proofs.TestLemmas.{or-left}
use Rattle.rt_plain.proofs.runs.RunnableLemmas.{grows-each, valid_stocked}
use Rattle.rt_plain.proofs.text.ValidLemmas.{Grows, DeviceComes, ArriveComes, valid_grows}

abbrev IsRated : DeviceDef → Type 0
IsRated def = (1 ≤ def.rate) × (def.rate ≤ 64)

abbrev IsOther : DeviceDef → Type 0
IsOther def = def.name ≢ console_name

-- what opening needs of a board
pub record HasFit (b : PlainBoard) : Type 0 where
  pub few : length b.devices ≤ 15
  pub apart : AllPairs (λ one other. one.name ≢ other.name) b.devices
  pub no_console : All (λ def. def.name ≢ console_name) b.devices
  pub rates : All (λ def. (1 ≤ def.rate) × (def.rate ≤ 64)) b.devices
  pub in_order : AllPairs (λ one other. one.count ≤ other.count) b.arrivals
  pub counts : 1 ≤ b.lp_h

-- counts never fall

below-last : (front : List Arrival) → AllPairs (λ one other. one.count ≤ other.count) front → AllByRecursion (λ (a : Arrival). a.count ≤ last_count front) front
below-last [] in_order = tt
below-last (a ∷ []) in_order = (omega arith, tt)
below-last (a ∷ c ∷ cs) in_order =
    let rest : AllByRecursion (λ (x : Arrival). x.count ≤ last_count (c ∷ cs)) (c ∷ cs) = below-last (c ∷ cs) (λ i j d before there. in_order (suc i) (suc j) d (omega (arith, before)) (omega (arith, there))) in
    let first : a.count ≤ c.count = in_order 0 1 a (omega arith) (omega arith) in
    let last : c.count ≤ last_count (c ∷ cs) = rest.0 in
    (omega (arith, first, last), rest)

behind : (last count : ℕ) (xs : List Arrival) → last ≤ count → AllByRecursion (λ (a : Arrival). a.count ≤ last) xs → AllByRecursion (λ (a : Arrival). a.count ≤ count) xs
behind last count [] less all = tt
behind last count (x ∷ xs) less all = (let first : x.count ≤ last = all.0 in omega arith, behind last count xs less all.1)

counts-grow : (b : PlainBoard) (front xs : List Arrival) → AllPairs (λ one other. one.count ≤ other.count) front → Grows (ArriveComes b) front xs → AllPairs (λ one other. one.count ≤ other.count) (front ++ xs)
counts-grow b front [] in_order h = subst (λ (l : List Arrival). AllPairs (λ one other. one.count ≤ other.count) l) (sym (append-nil front)) in_order
counts-grow b front (x ∷ xs) in_order h =
    let less : last_count front ≤ x.count = ltb-false x.count (last_count front) (or-left _ _ h.0.3) in
    let all : All (λ (a : Arrival). a.count ≤ x.count) front = All-from_recursion (λ (a : Arrival). a.count ≤ x.count) front (behind (last_count front) x.count front less (below-last front in_order)) in
    subst (λ (l : List Arrival). AllPairs (λ one other. one.count ≤ other.count) l) (append_assoc front (x ∷ []) xs) (counts-grow b (front ++ x ∷ []) xs (all_pairs_push (λ (one other : Arrival). one.count ≤ other.count) front x in_order all) h.1)

-- no device of the board has the console's name
other-name : (b : PlainBoard) (front : List DeviceDef) (def : DeviceDef) → DeviceComes b front def → IsOther def
other-name b front def h same =
    let is : bytes_eq console_name def.name ≡ true = (bytes_eq-Decides console_name def.name).1 (sym same) in
    let not : bytes_eq console_name def.name ≡ false = or-left _ _ h.1 in
    absurd cc

pub valid-fit : (b : PlainBoard) → IsValid b → HasFit b
valid-fit b is =
    let grown = (valid_grows b is).1 in
    record {
      few = (valid_stocked b is).devices.0;
      apart = (valid_stocked b is).devices.1;
      no_console = All-from_recursion IsOther b.devices (grows-each (DeviceComes b) IsOther (other-name b) [] b.devices (grown LineKind.Device));
      rates = All-from_recursion IsRated b.devices (grows-each (DeviceComes b) IsRated (λ front def h. (h.0.1.1.1.0.0, h.0.1.1.1.0.1)) [] b.devices (grown LineKind.Device));
      in_order = counts-grow b [] b.arrivals (λ i j d before there. absurd (omega (arith, before, there))) (grown LineKind.Arrive);
      counts = ((valid_grows b is).0 LineKind.LpClock).0.0;
    }
