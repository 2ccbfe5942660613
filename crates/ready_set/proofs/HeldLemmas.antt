-- Which threads a set holds, by the ready lists that it stands for.
use Rattle.std.proofs.Common.{ℕ, ◌≡◌, ◌+◌, ◌*◌, ◌/◌, ◌%◌, ◌<◌, zero, suc, Bool, true, eqb, List, [], ◌∷◌, length, filter, Option, Some, None, get_or, sym, refl, ap, ◌∙◌, subst, inl, inr, arith}
use Rattle.std.specs.List.{list_any}
use Rattle.std.proofs.lemmas.Nat.{div_below}
use Rattle.std.proofs.Math.Nat.{mod-add-div', mul_comm}
use Rattle.std.proofs.lemmas.Bool.{false≢true, or_cases, or_left, or_right, and_from, eqb-true, eq-eqb, cases_Bool, cases_lt}
use Rattle.rt_plain.specs.kernel.Pick.{ReadyRow, is_bound_so, is_in_queue}
use Rattle.rt_base.specs.Chains.{IsAmong}
use Rattle.ready_set.specs.ReadyLists.{ReadyView, binding_place, queue_place, queue_of, IsBinding, is_held, StandsForRows}
use Rattle.rt_base.proofs.Chains.{true_from_among}
use Rattle.ready_set.proofs.LinkLemmas.{found_in}
use Rattle.ready_set.proofs.PickLemmas.{queued_at}
use Rattle.ready_set.proofs.RowLemmas.{threads_of, bound_same, filter_yes, filter_no}

-- whether a list has a row of the thread
abbrev pub has_row : ℕ → List ReadyRow → Bool
has_row t rows = list_any (λ (row : ReadyRow). eqb row.thread t) rows

row_of_queued : (Q : ReadyRow → Bool) (t : ℕ) (rows : List ReadyRow) → IsAmong t (threads_of (filter Q rows)) → has_row t rows ≡ true
row_of_queued Q t [] is = absurd is
row_of_queued Q t (r ∷ rows) is =
    elim (cases_Bool (Q r)) [
      | inl here ↦
          let at : IsAmong t (r.thread ∷ threads_of (filter Q rows)) = subst (λ l. IsAmong t (threads_of l)) (filter_yes Q r rows here) is in
          elim at [
            | inl same ↦ or_left (eqb r.thread t) (has_row t rows) (eq-eqb r.thread t (sym same))
            | inr later ↦ or_right (eqb r.thread t) (has_row t rows) (row_of_queued Q t rows later)
          ]
      | inr off ↦ or_right (eqb r.thread t) (has_row t rows) (row_of_queued Q t rows (subst (λ l. IsAmong t (threads_of l)) (filter_no Q r rows off) is))
    ]

queued_of_row : (Q : ReadyRow → Bool) (t i : ℕ) (d : ReadyRow) (rows : List ReadyRow) → i < length rows → (get_or rows i d).thread ≡ t → Q (get_or rows i d) ≡ true → IsAmong t (threads_of (filter Q rows))
queued_of_row Q t i d [] low e in_it = absurd (omega (arith, low))
queued_of_row Q t zero d (r ∷ rows) low e in_it =
    let here : IsAmong t (r.thread ∷ threads_of (filter Q rows)) = inl (sym e) in
    subst (λ l. IsAmong t (threads_of l)) (sym (filter_yes Q r rows in_it)) here
queued_of_row Q t (suc i) d (r ∷ rows) low e in_it =
    let rest = queued_of_row Q t i d rows (omega (arith, low)) e in_it in
    elim (cases_Bool (Q r)) [
      | inl first ↦
          let later : IsAmong t (r.thread ∷ threads_of (filter Q rows)) = inr rest in
          subst (λ l. IsAmong t (threads_of l)) (sym (filter_yes Q r rows first)) later
      | inr off ↦ subst (λ l. IsAmong t (threads_of l)) (sym (filter_no Q r rows off)) rest
    ]

row_at : (t : ℕ) (d : ReadyRow) (rows : List ReadyRow) → has_row t rows ≡ true → (i : ℕ) × (i < length rows) × ((get_or rows i d).thread ≡ t)
row_at t d [] is = absurd (false≢true is)
row_at t d (r ∷ rows) is =
    elim (or_cases (eqb r.thread t) (has_row t rows) is) [
      | inl here ↦ (0, omega arith, eqb-true r.thread t here)
      | inr later ↦ let rest = row_at t d rows later in (suc rest.0, omega (arith, rest.1), rest.2)
    ]

-- the binding of a number
binding_of : ℕ → Option ℕ
binding_of zero = None
binding_of (suc core) = Some core

binding_of_is : (b : ℕ) → binding_place (binding_of b) ≡ b
unfolding binding_of
binding_of_is zero = refl
binding_of_is (suc core) = omega arith

binding_of_below : (cores b : ℕ) → b < cores + 1 → IsBinding cores (binding_of b)
unfolding binding_of
binding_of_below cores zero low = tt
binding_of_below cores (suc core) low = omega (arith, low)

pub held_rows : (v : ReadyView) (t : ℕ) → length v.queues ≡ (v.cores + 1) * v.levels → (rows : List ReadyRow) → StandsForRows v rows → is_held v t ≡ has_row t rows
held_rows v t long rows st =
    elim (cases_Bool (has_row t rows)) [
      | inl there ↦
          let d : ReadyRow = record { thread = 0; prio = 0; core = None } in
          let at = row_at t d rows there in
          let r = get_or rows at.0 d in
          let all = st.within at.0 d at.1 in
          let own : is_in_queue r.prio r.core r ≡ true = and_from (eqb r.prio r.prio) (is_bound_so r.core r.core) (eq-eqb r.prio r.prio refl) (bound_same r.core) in
          let among = queued_of_row (is_in_queue r.prio r.core) t at.0 d rows at.1 at.2 own in
          queued_at v.queues (queue_place v.levels r.prio r.core) t
          (true_from_among t (queue_of v r.prio r.core) (subst (IsAmong t) (sym (st.queues r.prio r.core all.0 all.1)) among))
          ∙ sym there
      | inr not_there ↦
          elim (cases_Bool (is_held v t)) [
            | inl held ↦
                let found = found_in v.queues t held in
                let k = found.0 in
                let parts = mod-add-div' k v.levels in
                let some_level : 0 < v.levels = elim (cases_lt 0 v.levels) [
                  | inl more ↦ more
                  | inr none_more ↦
                      let no_levels : v.levels ≡ 0 = omega (arith, none_more) in
                      absurd (omega (arith, found.1, long, ap (λ n. (v.cores + 1) * n) no_levels))
                ] in
                let row_low : k / v.levels < v.cores + 1 = div_below k v.levels (v.cores + 1) some_level (omega (arith, found.1, long)) in
                let column_low : k % v.levels < v.levels = omega (arith, some_level) in
                let place : queue_place v.levels (k % v.levels) (binding_of (k / v.levels)) ≡ k = omega (arith, ap (λ b. b * v.levels) (binding_of_is (k / v.levels)), parts, mul_comm v.levels (k / v.levels)) in
                let among = subst (IsAmong t) (ap (λ i. get_or v.queues i []) (sym place) ∙ st.queues (k % v.levels) (binding_of (k / v.levels)) column_low (binding_of_below v.cores (k / v.levels) row_low)) found.2 in
                absurd (false≢true (sym not_there ∙ row_of_queued (is_in_queue (k % v.levels) (binding_of (k / v.levels))) t rows among))
            | inr absent ↦ absent ∙ sym not_there
          ]
    ]
