-- Who owns the mutex of a name.
use Rattle.std.proofs.Common.{ℕ, ◌≡◌, List, [], ◌∷◌, Option, Some, None, refl, sym, ap, ◌∙◌}
use Rattle.std.specs.Prelude.{find}
use Rattle.std.specs.Option.{option_map}
use Rattle.rt_plain.specs.kernel.State.{State, Holding, is_number}
use Rattle.rt_plain.specs.kernel.Ownership.{Ownership, Taken, owner_in, taken_of}
use Rattle.rt_plain.specs.kernel.Priority.{holding_of}
use Rattle.object_box.specs.Objects.{ClassObjects, number_of}
use Rattle.mutex_chain.specs.Graph.{hold_of}
use Rattle.mutex_tie.specs.Tie.{StandsFor, plain_holding}
use Rattle.mutex_tie.proofs.HoldingLemmas.{holding-tied}
use Rattle.mutex_tables.proofs.TakeLemmas.{holding-is}

never : (hs : List Taken) → find (λ (h : Taken). is_number h.mutex None) hs ≡ None
never [] = refl
never (h ∷ hs) = never hs

-- nobody owns a mutex that isn't there
pub holding-none : (s : State) (c : ClassObjects) (o : Ownership) (name : List ℕ) → StandsFor s c o → number_of c.objects name ≡ None → holding_of s name ≡ None
holding-none s c o name tie is =
    holding-tied s c o name tie
    ∙ ap (λ (n : Option ℕ). option_map (plain_holding c.objects) (find (λ (h : Taken). is_number h.mutex n) o.taken)) is
    ∙ ap (option_map (plain_holding c.objects)) (never o.taken)

-- who owns it, and how often it was taken
abbrev pub held : Option Holding → Option (ℕ × ℕ)
held o = option_map (λ h. (h.owner, h.hold)) o

pub held-none : (s : State) (c : ClassObjects) (o : Ownership) (name : List ℕ) → StandsFor s c o → number_of c.objects name ≡ None → None ≡ held (holding_of s name)
held-none s c o name tie is = sym (ap held (holding-none s c o name tie is))

pub held-free : (s : State) (c : ClassObjects) (o : Ownership) (name : List ℕ) (i : ℕ) → StandsFor s c o → number_of c.objects name ≡ Some i → owner_in o i ≡ None → None ≡ held (holding_of s name)
held-free s c o name i tie is free = by_taken (taken_of o i) free ∙ sym (ap held (holding-is s c o name i tie is)) where
  by_taken : (r : Option Taken) → option_map (λ (h : Taken). h.owner) r ≡ None → None ≡ held (option_map (plain_holding c.objects) r)
  by_taken None none = refl
  by_taken (Some h) none = absurd cc

pub held-by : (s : State) (c : ClassObjects) (o : Ownership) (name : List ℕ) (i t : ℕ) → StandsFor s c o → number_of c.objects name ≡ Some i → owner_in o i ≡ Some t → Some (t, hold_of (taken_of o i)) ≡ held (holding_of s name)
held-by s c o name i t tie is owned = by_taken (taken_of o i) owned ∙ sym (ap held (holding-is s c o name i tie is)) where
  by_taken : (r : Option Taken) → option_map (λ (h : Taken). h.owner) r ≡ Some t → Some (t, hold_of r) ≡ held (option_map (plain_holding c.objects) r)
  by_taken None owned = absurd cc
  by_taken (Some h) owned = ap (λ (u : ℕ). Some (u, h.hold)) (sym (same owned)) where
    same : Some h.owner ≡ Some t → h.owner ≡ t
    same e = cc
