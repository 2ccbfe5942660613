-- Current priorities by names are those by numbers.
use Rattle.std.proofs.Common.{ℕ, ◌≡◌, ◌≢◌, ◌+◌, ◌<◌, ◌≤◌, zero, suc, List, [], ◌∷◌, Option, None, Bool, true, false, cond, ◌||◌, refl, sym, ap, ◌∙◌, arith, eqb, length, ◌⊎◌, inl, inr}
use Rattle.std.specs.Prelude.{filter}
use Rattle.std.specs.List.{range_with_len}
use Rattle.std.specs.Option.{option_map, option_and_then}
use Rattle.std.proofs.lemmas.Bool.{false≢true, ne_eqb, cases_lt}
use Rattle.std.proofs.lemmas.List.{get_or_past, length-map}
use Rattle.rt_plain.specs.kernel.State.{State, Thread, Stage, Waiting, thread_at, is_closed, is_among}
use Rattle.rt_plain.specs.kernel.Priority.{Graph, blocker_of, urgency_of, reach, cur, graph_of, owner_of, awaited_mutex, own_urgency}
use Rattle.rt_plain.specs.kernel.Ownership.{Ownership, Member, MutexWait, owner_in, member_urgency, graph_in, cur_in}
use Rattle.object_box.specs.declared.object.Object.{Object}
use Rattle.object_box.specs.Objects.{ClassObjects}
use Rattle.mutex_chain.specs.Owners.{blocker_in}
use Rattle.mutex_chain.specs.Equations.{SameBut, IsAway}
use Rattle.mutex_chain.proofs.CurLemmas.{blocker_same, graph_urgency, map_range_at, length-map_range}
use Rattle.mutex_chain.proofs.ReachLemmas.{among_range, hits, hits_end, reach_hits}
use Rattle.mutex_chain.proofs.LawLemmas.{same_away}
use Rattle.mutex_tie.specs.Tie.{member_of, wait_in, StandsFor}
use Rattle.mutex_tie.proofs.HoldingLemmas.{wait-tied, blocker-tied}
use Rattle.mutex_tie.proofs.UrgencyLemmas.{urgency-tied}

-- the reach

not-above : (p : ℕ → Bool) (a n x : ℕ) → a + n ≤ x → is_among (filter p (range_with_len a n)) x ≡ false
not-above p a zero x h = refl
not-above p a (suc n) x h = by_test (p a) (not-above p (a + 1) n x (omega (arith, h))) (ne_eqb a x (λ e. omega (arith, h, e)))
  where
    by_test : (b : Bool) → is_among (filter p (range_with_len (a + 1) n)) x ≡ false → eqb a x ≡ false
        → is_among (cond b (a ∷ filter p (range_with_len (a + 1) n)) (filter p (range_with_len (a + 1) n))) x ≡ false
    by_test true r ne = ap (λ c. c || is_among (filter p (range_with_len (a + 1) n)) x) ne ∙ r
    by_test false r ne = r

-- who waits for nobody is in nobody's reach but its own
alone : (g : Graph) (t x : ℕ) → t < length g.blockers → blocker_of g x ≡ None → t ≢ x → is_among (reach g t) x ≡ false
alone g t x h none apart = ap (λ (l : List ℕ). is_among l x) (reach_hits g t h) ∙ by_size (cases_lt x (length g.blockers))
  where
    one : is_among (t ∷ []) x ≡ false
    one = ap (λ b. b || false) (ne_eqb t x apart)

    by_size : (x < length g.blockers) ⊎ (length g.blockers ≤ x) → is_among (filter (λ y. hits (length g.blockers) (blocker_of g) (t ∷ []) y) (range_with_len 0 (length g.blockers))) x ≡ false
    by_size (inl low) = among_range (λ y. hits (length g.blockers) (blocker_of g) (t ∷ []) y) 0 (length g.blockers) x (omega arith) (omega (arith, low)) ∙ hits_end (length g.blockers) (blocker_of g) (t ∷ []) x none ∙ one
    by_size (inr high) = not-above (λ y. hits (length g.blockers) (blocker_of g) (t ∷ []) y) 0 (length g.blockers) x (omega (arith, high))

-- the threads that have ended
abbrev pub is_ended : State → ℕ → Bool
is_ended s t = is_closed (thread_at s t).stage

abbrev ended : State → List ℕ
ended s = filter (is_ended s) (range_with_len 0 (length s.threads))

ended-is : (s : State) (x : ℕ) → x < length s.threads → is_among (ended s) x ≡ is_ended s x
ended-is s x low = among_range (is_ended s) 0 (length s.threads) x (omega arith) (omega (arith, low))

pub closed-waits : (xs : List Object) (stage : Stage) → is_closed stage ≡ true → wait_in xs stage ≡ None
closed-waits xs (Waiting what number) is = absurd (false≢true is)
closed-waits xs _ is = refl

closed-blocker : (s : State) (c : ClassObjects) (o : Ownership) (x : ℕ) → StandsFor s c o → is_ended s x ≡ true → blocker_in o x ≡ None
closed-blocker s c o x tie is = ap (λ w. option_and_then (owner_in o) (option_map (λ (y : MutexWait). y.mutex) w)) (wait-tied s c o x tie ∙ closed-waits c.objects (thread_at s x).stage is)

pub members-length : (s : State) (c : ClassObjects) (o : Ownership) → StandsFor s c o → length o.members ≡ length s.threads
members-length s c o tie = ap (λ (ms : List (Option Member)). length ms) tie.owned.members ∙ length-map s.threads (member_of c.objects)

blockers-length : (s : State) → length (graph_of s).blockers ≡ length s.threads
blockers-length s = length-map s.threads (λ (row : Thread). option_and_then (owner_of s) (awaited_mutex row.stage))

state-urgency : (s : State) (t : ℕ) → t < length s.threads → urgency_of (graph_of s) t ≡ own_urgency s t
state-urgency s t h = let e : 0 + t ≡ t = omega arith in map_range_at (own_urgency s) 0 (length s.threads) t 0 h ∙ ap (own_urgency s) e

same-graphs : (s : State) (c : ClassObjects) (o : Ownership) → StandsFor s c o → SameBut (ended s) (graph_of s) (graph_in o)
same-graphs s c o tie = record {
  size = blockers-length s ∙ sym (members-length s c o tie) ∙ sym (length-map_range (blocker_in o) 0 (length o.members));
  blockers = λ x e. inl (blocker-tied s c o x tie ∙ sym (blocker_same o x));
  urgencies = λ x e. by_size x e (cases_lt x (length s.threads));
}
  where
    by_size : (x : ℕ) → is_among (ended s) x ≡ false → (x < length s.threads) ⊎ (length s.threads ≤ x) → urgency_of (graph_of s) x ≡ urgency_of (graph_in o) x
    by_size x e (inl low) =
        state-urgency s x low
        ∙ urgency-tied s c o x tie (sym (ended-is s x low) ∙ e)
        ∙ sym (graph_urgency o x (omega (arith, low, members-length s c o tie)))
    by_size x e (inr high) =
        get_or_past (graph_of s).urgencies x 0 (omega (arith, high, length-map_range (own_urgency s) 0 (length s.threads)))
        ∙ sym (get_or_past (graph_in o).urgencies x 0 (omega (arith, high, members-length s c o tie, length-map_range (member_urgency o) 0 (length o.members))))

away : (s : State) (c : ClassObjects) (o : Ownership) (g : Graph) (t : ℕ) → StandsFor s c o → t < length s.threads → length g.blockers ≡ length s.threads → ((x : ℕ) → blocker_of g x ≡ blocker_in o x) → is_ended s t ≡ false → IsAway (ended s) g t
away s c o g t tie low size same is x among = by_size (cases_lt x (length s.threads))
  where
    by_size : (x < length s.threads) ⊎ (length s.threads ≤ x) → is_among (reach g t) x ≡ false
    by_size (inl h) =
        let gone : is_ended s x ≡ true = sym (ended-is s x h) ∙ among in
        alone g t x (omega (arith, low, size)) (same x ∙ closed-blocker s c o x tie gone) (λ e. false≢true (sym is ∙ ap (is_ended s) e ∙ gone))
    by_size (inr h) = absurd (false≢true (sym (not-above (is_ended s) 0 (length s.threads) x (omega (arith, h))) ∙ among))

-- for a thread that hasn't ended the current priority by names is that by numbers
pub cur-tied : (s : State) (c : ClassObjects) (o : Ownership) (t : ℕ) → StandsFor s c o → t < length s.threads → is_closed (thread_at s t).stage ≡ false → cur s t ≡ cur_in o t
cur-tied s c o t tie low is =
    same_away (ended s) (graph_of s) (graph_in o) t (same-graphs s c o tie) (omega (arith, low, blockers-length s))
    (away s c o (graph_of s) t tie low (blockers-length s) (λ x. blocker-tied s c o x tie) is)
    (away s c o (graph_in o) t tie low (length-map_range (blocker_in o) 0 (length o.members) ∙ members-length s c o tie) (λ x. blocker_same o x) is)
