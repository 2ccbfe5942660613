-- The first state of the table, and the last.
use Rattle.std.proofs.Common.{◌≡◌, ℕ, zero, suc, ◌<◌, ◌≤◌, true, false, List, [], ◌∷◌, Option, Some, sym, refl, ap, subst, ◌∙◌, inl, inr, ⊎_elim, arith}
use Rattle.std.proofs.lemmas.Bool.{cases_lt}
use mathlib.Core.Option.{Option as Place, some, some-injective, some-ne-none}
use lib.ListN.{get_elem?}
use Rattle.atomic_table.specs.Table.{opening, Final, Seen}
use Rattle.atomic_table.proofs.Lists.{at_map}
use Rattle.rt_base.specs.declared.codes.Event.{Event}
use Rattle.rt_plain.specs.runs.Logs.{Continues}
use Rattle.cpus_lock.specs.declared.knows.Knows.{Knows}
use Rattle.cpus_lock.specs.declared.nested.Nested.{Ghosts}
use Rattle.cpus_lock.specs.Passes.{AreOwnersBelow, IsNestBelow}
use Rattle.cpus_lock.specs.Rule.{Fits, Who, who, HasCore, KeptFit, IsUntried, Locked, first_seat, IsBack}
use Rattle.cpus_lock.proofs.Turns.{not_holder, continues_itself, goes_on_itself}

only_one : {A : Type 0} (v w : A) (j : ℕ) → get_elem? (v ∷ []) j ≡ some w → (j ≡ 0) × (v ≡ w)
only_one v w zero e = (refl, some-injective v w e)
only_one v w (suc j) e = absurd (some-ne-none w (sym e))

module _ {T : Type 0} (meanings : Ghosts T) (cores : ℕ) where
  pub opens : (value : T) → 1 ≤ cores → cores ≤ 8 → AreOwnersBelow cores (meanings.log value) → IsNestBelow cores (meanings.nest value)
      → Locked meanings cores value (opening (0 ∷ []) (Some value ∷ []) (first_seat cores (meanings.root value) (meanings.log value)))
  opens value some_core most owners nest =
      let log = meanings.log value in
      let v : Knows = first_seat cores (meanings.root value) log in
      record {
        word = 0;
        now = log;
        root = meanings.root value;
        words = refl;
        few = most;
        owners = owners;
        free = λ _. record { value = value; home = refl; log_is = refl; root_is = refl; nest = nest };
        taken = λ busy. absurd (omega (arith, busy));
        seats = λ j x aj lx.
            let P : Knows → Type 0 = λ k. Fits cores 0 (meanings.root value) log k in
            subst P (only_one v x j aj).1 record {
              cores_is = refl;
              core = omega (arith, some_core);
              root_is = refl;
              log = continues_itself 0 log;
              holds = λ y. cc;
              kept = tt;
              given = λ _. goes_on_itself 1 log;
            };
        roster = record {
          apart = λ i j x y c ai aj lx ly hx hy. (only_one (who v) x i ai).0 ∙ sym (only_one (who v) y j aj).0;
          below = λ i j x y c ai aj lx ly g hy.
              let P : Who → Type 0 = λ k. HasCore k c in
              let given : 1 ≡ x.given = ap (λ (k : Who). k.given) (only_one (who v) x i ai).1 in
              let mine : HasCore (who v) c = subst P (sym (only_one (who v) y j aj).1) hy in
              ⊎_elim (λ e. omega (arith, e, given)) (λ b. absurd b) mine;
          one = λ i j x y ai aj lx ly gx gy. (only_one (who v) x i ai).0 ∙ sym (only_one (who v) y j aj).0;
        };
        untried = λ _. refl;
      }

  -- where one seat that doesn't hold has every core, the value is at home
  pub closes : (first : T) (id : ℕ) (v : Knows) (ws : List ℕ) (xs : List (Option T)) (r : Option T) → v.live ≡ true → v.holding ≡ false → ((c : ℕ) → c < cores → HasCore (who v) c)
      → Final (Seen (Locked meanings cores first) id v) ws xs → get_elem? xs 0 ≡ some r → (value : T) × (r ≡ Some value) × IsBack meanings cores first v value
  closes first id v ws xs r live idle all last taken =
      let s = last.0 in
      let h = last.1.0 in
      let at = last.1.1 in
      let f = h.seats id v at live in
      let alone : (j : ℕ) (x : Knows) → get_elem? s.views j ≡ some x → x.live ≡ true → id ≡ j =
      λ j x aj lx. h.roster.apart id j (who v) (who x) x.core (at_map who s.views id v at) (at_map who s.views j x aj) live lx (all x.core (h.seats j x aj lx).core) (inl refl) in
      let free : h.word ≡ 0 =
      elim (cases_lt 0 h.word) [
        | inl busy ↦ absurd (let t = (h.taken busy).1 in not_holder meanings cores first s id v h.word at idle t (sym (alone t.place t.view t.at t.live)))
        | inr none_is ↦ omega (arith, none_is)
      ] in
      let t = h.free free in
      let there : get_elem? s.homes 0 ≡ some (some (Some t.value)) = ap (λ (hs : List (Place (Option T))). get_elem? hs 0) t.home in
      let P : List Event → Type 0 = λ l. Continues v.core v.log l in
      let Q : List Event → Type 0 = λ l. KeptFit cores (meanings.root t.value) l v.kept in
      let R : List ℕ → Type 0 = λ r. KeptFit cores r h.now v.kept in
      let O : List Event → Type 0 = λ l. AreOwnersBelow cores l in
      let U : Knows → Type 0 = λ k. IsUntried k in (
        t.value,
        some-injective r (Some t.value) (sym taken ∙ last.4 0 (Some t.value) there),
        record {
          root_is = t.root_is ∙ sym f.root_is;
          log = subst P (sym t.log_is) f.log;
          kept = subst Q (sym t.log_is) (subst R (sym t.root_is) f.kept);
          owners = subst O (sym t.log_is) h.owners;
          first_is = λ untried.
              let homes : s.homes ≡ some (Some first) ∷ [] =
              h.untried (λ j x aj lx.
              let W : ℕ → Type 0 = λ k. get_elem? s.views k ≡ some v in
              subst U (some-injective v x (sym (subst W (alone j x aj lx) at) ∙ aj)) untried) in
              let same : some (some (Some t.value)) ≡ some (some (Some first)) = sym there ∙ ap (λ (hs : List (Place (Option T))). get_elem? hs 0) homes in
              cc (same, some-injective (some (Some t.value)) (some (Some first)) same);
        },
      )
