-- What the end of a thread does to a whole state, by what it does to the tables.
use Rattle.std.proofs.Common.{ℕ, ◌≡◌, ◌++◌, ◌∷◌, [], List, Option, Some, None, refl, sym, ap, ◌∙◌}
use Rattle.std.specs.Prelude.{filter, not, slice_set}
use Rattle.rt_base.specs.declared.codes.Code.{Code}
use Rattle.rt_base.specs.declared.codes.WaitOrder.{WaitOrder}
use Rattle.rt_plain.specs.declared.line.Line.{Line}
use Rattle.rt_plain.specs.declared.line.Woke.{Woke}
use Rattle.rt_plain.specs.kernel.State.{State, Thread, Active, Closed, Mutex, Holding, no_thread, thread_at}
use Rattle.rt_plain.specs.kernel.Effects.{Effect, each_effect, name_of}
use Rattle.rt_plain.specs.kernel.Owners.{close_effect, give_back_effect, mutexes_of, pass_effect, withdrawn_state}
use Rattle.rt_plain.specs.kernel.Waiting.{first_waiter, takes_mutex}
use Rattle.rt_plain.proofs.kernel.TallyLemmas.{same-set}
use Rattle.kernel_tables.specs.Threads.{row_at}
use Rattle.mutex_tables.specs.declared.passed.Passed.{Passed}
use Rattle.mutex_tables.specs.MutexTabled.{MutexTabled, plain_state}
use Rattle.mutex_tables.specs.Passed.{armed_left, ended_by, given_by, like, passed_at_end, passed_first, passed_from, passed_lines}

-- the lines of passes look at names alone
lines-same : (a b : List Thread) → ((u : ℕ) → (row_at a u).name ≡ (row_at b u).name) → (ps : List Passed) → passed_lines a ps ≡ passed_lines b ps
lines-same a b same [] = refl
lines-same a b same (p ∷ ps) =
    ap (λ (n : List ℕ). Line.Own p.mutex n ∷ Line.Wake n (Woke.Code Code.Ok) ∷ passed_lines a ps) (same p.thread)
    ∙ ap (λ (ls : List Line). Line.Own p.mutex (row_at b p.thread).name ∷ Line.Wake (row_at b p.thread).name (Woke.Code Code.Ok) ∷ ls) (lines-same a b same ps)

abbrev Gives : List (List ℕ) → State → State → Type 0
Gives ms s x = each_effect give_back_effect ms s ≡ given_by s (each_effect give_back_effect ms (like x s)).state (passed_from ms (like x s))

abbrev GivesFirst : List ℕ → List (List ℕ) → State → State → Option ℕ → Type 0
GivesFirst m ms s x r =
    record { state = (each_effect give_back_effect ms (pass_effect m r s).state).state; lines = (pass_effect m r s).lines ++ (each_effect give_back_effect ms (pass_effect m r s).state).lines }
    ≡ given_by s (each_effect give_back_effect ms (pass_effect m r (like x s)).state).state (passed_first m r (passed_from ms (pass_effect m r (like x s)).state))

-- mutexes pass one after the other
gives : (ms : List (List ℕ)) (s x : State) → Gives ms s x
gives [] s x = refl
gives (m ∷ ms) s x = by_first (first_waiter s WaitOrder.Prio (takes_mutex m)) (λ y. gives ms (give_back_effect m s).state y)
  where
    names : (w u : ℕ) → (row_at (pass_effect m (Some w) s).state.threads u).name ≡ (row_at s.threads u).name
    names w u =
        let coded : List Thread = slice_set s.threads w (record (row_at s.threads w) { code = Code.Ok }) in
        same-set (λ (r : Thread). r.name) coded w u (record (row_at coded w) { stage = Active }) no_thread refl
        ∙ same-set (λ (r : Thread). r.name) s.threads w u (record (row_at s.threads w) { code = Code.Ok }) no_thread refl

    by_first : (r : Option ℕ) → ((y : State) → Gives ms (pass_effect m r s).state y) → GivesFirst m ms s x r
    by_first None rest = rest x
    by_first (Some w) rest =
        let own : Line = Line.Own m (name_of s w) in
        let wake : Line = Line.Wake (name_of s w) (Woke.Code Code.Ok) in
        let after : State = (pass_effect m (Some w) (like x s)).state in
        ap (λ (e : Effect). record { state = e.state; lines = own ∷ wake ∷ e.lines }) (rest after)
        ∙ ap (λ (ls : List Line). record { state = (given_by (pass_effect m (Some w) s).state (each_effect give_back_effect ms after).state (passed_from ms after)).state; lines = own ∷ wake ∷ ls }) (lines-same (pass_effect m (Some w) s).state.threads s.threads (names w) (passed_from ms after))

-- a thread ends
ended-like : (s x : State) (t : ℕ) → close_effect t s ≡ ended_by s t (close_effect t (like x s)).state (passed_at_end t (like x s))
ended-like s x t =
    ap (λ (e : Effect). record { state = e.state; lines = Line.Close (name_of s t) ∷ e.lines }) (gives (mutexes_of s t) (withdrawn_state s t) (withdrawn_state (like x s) t))
    ∙ ap (λ (ls : List Line). record { state = (given_by (withdrawn_state s t) (close_effect t (like x s)).state (passed_at_end t (like x s))).state; lines = Line.Close (name_of s t) ∷ ls })
    (lines-same (withdrawn_state s t).threads s.threads (λ u. same-set (λ (r : Thread). r.name) s.threads t u (record (row_at s.threads t) { stage = Closed; retry = None }) no_thread refl) (passed_at_end t (like x s)))

pub ended : (s : State) (v : MutexTabled) (t : ℕ) → s.threads ≡ v.threads → s.mutexes ≡ v.mutexes → s.holdings ≡ v.holdings → s.ready ≡ v.ready
    → close_effect t s ≡ ended_by s t (close_effect t (plain_state v)).state (passed_at_end t (plain_state v))
ended s v t threads mutexes holdings ready =
    ended-like s (plain_state v) t
    ∙ ap (λ (x : State). ended_by s t (close_effect t x).state (passed_at_end t x)) (λ j. record (plain_state v) { threads = threads j; mutexes = mutexes j; holdings = holdings j; ready = ready j })
