-- Which current priorities an edit changed.
use Rattle.std.proofs.Common.{ℕ, ◌≡◌, ◌+◌, ◌<◌, ◌≤◌, zero, suc, List, [], ◌∷◌, length, map, true, Option, Some, None, refl, sym, ap, ◌∙◌, arith, ◌⊎◌, inl, inr}
use Rattle.std.specs.Prelude.{fold, min, slice_index_or}
use Rattle.std.specs.List.{filter_map, range_with_len, cons_option}
use Rattle.std.proofs.lemmas.Bool.{cases_lt, false≢true}
use Rattle.std.proofs.lemmas.List.{get_or_past}
use Rattle.std.proofs.lemmas.List.Elements.{All-get_or}
use Rattle.rt_plain.specs.kernel.Priority.{urgency_of, reach}
use Rattle.rt_plain.specs.kernel.Ownership.{Ownership, Member, member_at, base_of, is_there, member_urgency, owned_in, graph_in, cur_in}
use Rattle.mutex_chain.specs.Owners.{IsSound, IsSmall, has_thread}
use Rattle.mutex_chain.proofs.CurLemmas.{graph_urgency}

pub fold_le : (a : ℕ) (xs : List ℕ) → fold min a xs ≤ a
fold_le a [] = omega arith
fold_le a (x ∷ xs) = omega (arith, fold_le (min a x) xs)

pub thread_within : (o : Ownership) (t : ℕ) → has_thread o t ≡ true → t < length o.members
thread_within o t h = by_size (cases_lt t (length o.members))
  where
    by_size : (t < length o.members) ⊎ (length o.members ≤ t) → t < length o.members
    by_size (inl k) = k
    by_size (inr k) = absurd (false≢true (sym (ap is_there (get_or_past o.members t None k)) ∙ h))

-- the number of a thread that is there fits a byte
pub cur_small : (o : Ownership) (t : ℕ) → IsSound o → has_thread o t ≡ true → cur_in o t < 256
cur_small o t s h =
    let within : t < length o.members = thread_within o t h in
    let own : urgency_of (graph_in o) t ≡ member_urgency o t = graph_urgency o t within in
    let low : cur_in o t ≤ urgency_of (graph_in o) t = fold_le (urgency_of (graph_in o) t) (map (urgency_of (graph_in o)) (reach (graph_in o) t)) in
    let small : base_of (member_at o t) < 256 = by_row (member_at o t) h (All-get_or IsSmall o.members t None within s.small) in
    let base : member_urgency o t ≤ base_of (member_at o t) = fold_le (base_of (member_at o t)) (filter_map (λ mutex. slice_index_or o.ceilings mutex None) (owned_in o t)) in
    omega arith
  where
    by_row : (m : Option Member) → is_there m ≡ true → IsSmall m → base_of m < 256
    by_row None k r = absurd (false≢true k)
    by_row (Some m) k r = r

pub filter_map_range : {X : Type 0} (f g : ℕ → Option X) (a n : ℕ) → ((x : ℕ) → a ≤ x → x < a + n → f x ≡ g x) → filter_map f (range_with_len a n) ≡ filter_map g (range_with_len a n)
filter_map_range f g a zero e = refl
filter_map_range f g a (suc n) e =
    ap (λ r. cons_option r (filter_map f (range_with_len (a + 1) n))) (e a (omega arith) (omega arith))
    ∙ ap (cons_option (g a)) (filter_map_range f g (a + 1) n (λ x low high. e x (omega arith) (omega arith)))
