-- No edit brings a thread that wasn't there.
use Rattle.std.proofs.Common.{ℕ, ◌≡◌, ◌<◌, ◌≤◌, List, length, Bool, true, false, cond, Option, Some, None, refl, sym, ap, ◌∙◌, arith, ◌⊎◌, inl, inr, [], ◌∷◌, get_or, get_or-set_same, get_or-set_other}
use Rattle.std.specs.Prelude.{slice_set, nat_lt, ◌-◌, ◌==◌}
use Rattle.std.specs.Option.{option_map}
use Rattle.std.proofs.Math.ListN.{length-set}
use Rattle.std.proofs.lemmas.Bool.{cases_lt, cases_eq, false≢true}
use Rattle.std.proofs.lemmas.List.{get_or_past}
use Rattle.rt_plain.specs.kernel.Ownership.{Ownership, Member, member_at, is_there, member_edit, with_member, with_wait, leave_edit, leave_edits, first_in, pass_edit_to, pass_edit, pass_edits, Taken, taken_of, with_taken_times, release_edit, release_edit_of}
use Rattle.mutex_chain.specs.Owners.{has_thread}
use Rattle.mutex_chain.specs.Graph.{Keeps}

-- the same threads
pub keeps_same : (o p : Ownership) → p.members ≡ o.members → Keeps o p
keeps_same o p e = record { size = sym (ap length e); there = λ t h. sym (ap (λ ms. is_there (get_or ms t None)) e) ∙ h }

-- another row of a thread that is there
pub keeps_member : (change : Member → Member) (t : ℕ) (o : Ownership) → Keeps o (member_edit change t o)
keeps_member change t o = record { size = sym (length-set o.members t (option_map change (member_at o t))); there = λ u h. at u h (cases_eq u t) (cases_lt t (length o.members)) }
  where
    kept : (m : Option Member) → is_there (option_map change m) ≡ true → is_there m ≡ true
    kept None h = h
    kept (Some m) h = refl

    at : (u : ℕ) → has_thread (member_edit change t o) u ≡ true → (u ≡ t) ⊎ (u ≡ t → ⊥) → (t < length o.members) ⊎ (length o.members ≤ t) → has_thread o u ≡ true
    at u h (inl e) (inl k) =
        ap (has_thread o) e ∙ kept (member_at o t) (sym (ap is_there (get_or-set_same o.members t (option_map change (member_at o t)) None k)) ∙ (rw e at h))
    at u h (inl e) (inr k) =
        let long : length (slice_set o.members t (option_map change (member_at o t))) ≤ u = omega (arith, length-set o.members t (option_map change (member_at o t))) in
        absurd (false≢true (sym (ap is_there (get_or_past (slice_set o.members t (option_map change (member_at o t))) u None long)) ∙ h))
    at u h (inr ne) k = sym (ap is_there (get_or-set_other o.members t u (option_map change (member_at o t)) None ne)) ∙ h

pub keeps_trans : (o p q : Ownership) → Keeps o p → Keeps p q → Keeps o q
keeps_trans o p q a b = record { size = a.size ∙ b.size; there = λ t h. a.there t (b.there t h) }

-- a thread that is gone
pub keeps_gone : (o : Ownership) (t : ℕ) → Keeps o (with_member o t None)
keeps_gone o t = record { size = sym (length-set o.members t None); there = λ u h. at u h (cases_eq u t) (cases_lt t (length o.members)) }
  where
    at : (u : ℕ) → has_thread (with_member o t None) u ≡ true → (u ≡ t) ⊎ (u ≡ t → ⊥) → (t < length o.members) ⊎ (length o.members ≤ t) → has_thread o u ≡ true
    at u h (inl e) (inl k) = absurd (false≢true (sym (ap is_there (get_or-set_same o.members t None None k)) ∙ (rw e at h)))
    at u h (inl e) (inr k) =
        let long : length (slice_set o.members t None) ≤ u = omega (arith, length-set o.members t None) in
        absurd (false≢true (sym (ap is_there (get_or_past (slice_set o.members t None) u None long)) ∙ h))
    at u h (inr ne) k = sym (ap is_there (get_or-set_other o.members t u None None ne)) ∙ h

pub gone : (o : Ownership) (t : ℕ) → has_thread (with_member o t None) t ≡ false
gone o t = by_size (cases_lt t (length o.members))
  where
    by_size : (t < length o.members) ⊎ (length o.members ≤ t) → has_thread (with_member o t None) t ≡ false
    by_size (inl k) = ap is_there (get_or-set_same o.members t None None k)
    by_size (inr k) = let long : length (slice_set o.members t None) ≤ t = omega (arith, length-set o.members t None) in ap is_there (get_or_past (slice_set o.members t None) t None long)

pub keeps_leaves : (ts : List ℕ) (o : Ownership) → Keeps o (leave_edits ts o)
keeps_leaves [] o = keeps_same o o refl
keeps_leaves (t ∷ ts) o = keeps_trans o (leave_edit t o) (leave_edits ts (leave_edit t o)) (keeps_member (with_wait None) t o) (keeps_leaves ts (leave_edit t o))

pub keeps_pass : (mutex : ℕ) (first : Option ℕ) (o : Ownership) → Keeps o (pass_edit_to mutex first o)
keeps_pass mutex None o = keeps_same o (pass_edit_to mutex None o) refl
keeps_pass mutex (Some t) o = keeps_trans o (leave_edit t o) (pass_edit_to mutex (Some t) o) (keeps_member (with_wait None) t o) (keeps_same (leave_edit t o) (pass_edit_to mutex (Some t) o) refl)

pub keeps_passes : (mutexes : List ℕ) (o : Ownership) → Keeps o (pass_edits mutexes o)
keeps_passes [] o = keeps_same o o refl
keeps_passes (mutex ∷ mutexes) o =
    keeps_trans o (pass_edit mutex o) (pass_edits mutexes (pass_edit mutex o)) (keeps_pass mutex (first_in o mutex) o) (keeps_passes mutexes (pass_edit mutex o))

pub keeps_release : (t mutex : ℕ) (o : Ownership) → Keeps o (release_edit t mutex o)
keeps_release t mutex o = by_row (taken_of o mutex)
  where
    by_row : (row : Option Taken) → Keeps o (release_edit_of t mutex row o)
    by_row None = keeps_same o o refl
    by_row (Some h) = by_tests (h.owner == t) (nat_lt 1 h.hold)
      where
        by_tests : (b c : Bool) → Keeps o (cond b (cond c (with_taken_times mutex (h.hold - 1) o) (pass_edit mutex o)) o)
        by_tests true true = keeps_same o (with_taken_times mutex (h.hold - 1) o) refl
        by_tests true false = keeps_pass mutex (first_in o mutex) o
        by_tests false c = keeps_same o o refl
