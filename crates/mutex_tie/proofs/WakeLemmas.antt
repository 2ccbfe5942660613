-- Further edits: another base, and a wait that ends.
use Rattle.std.proofs.Common.{ℕ, ◌≡◌, List, Option, Some, None, Bool, true, false, refl, sym, ap, ◌∙◌, subst, eqb}
use Rattle.std.specs.Prelude.{slice_set}
use Rattle.std.specs.Option.{option_map}
use Rattle.std.proofs.lemmas.Bool.{eqb-true, eqb-false}
use Rattle.rt_base.specs.declared.codes.Code.{Code}
use Rattle.rt_plain.specs.declared.line.Line.{Line}
use Rattle.rt_plain.specs.PlainBoard.{PlainBoard}
use Rattle.rt_plain.specs.kernel.State.{State, Thread, Active, no_thread, thread_at, with_thread, find_thread, is_closed}
use Rattle.rt_plain.specs.kernel.Effects.{Effect, wake_effect}
use Rattle.rt_plain.specs.kernel.Outcome.{silent_success, refusal, found_outcome}
use Rattle.rt_plain.specs.kernel.ThreadCalls.{set_prio}
use Rattle.rt_plain.specs.kernel.Statements.{call_effect, with_next}
use Rattle.rt_plain.specs.kernel.Calls.{settled_effect}
use Rattle.rt_plain.specs.kernel.Ownership.{Ownership, Member, member_at, with_member, with_base, with_wait, base_edit, leave_edit, changes}
use Rattle.rt_plain.proofs.kernel.TallyLemmas.{other-set, length-set_at}
use Rattle.object_box.specs.Objects.{ClassObjects}
use Rattle.mutex_tie.specs.Tie.{member_of, StandsFor}
use Rattle.mutex_tie.specs.Changes.{followed_effect, CameFrom, AreLive}
use Rattle.mutex_tie.proofs.HoldingLemmas.{member-tied}
use Rattle.mutex_tie.proofs.ChangeLemmas.{settled-tied}
use Rattle.mutex_tie.proofs.EditLemmas.{member_if, stands-row, stands-kept, stage-kept}
use Rattle.mutex_tie.proofs.CloseLemmas.{free_member, same-base}

-- another base of a thread that hasn't ended
pub stands-based : (s after : State) (c : ClassObjects) (o : Ownership) (t prio : ℕ) → StandsFor s c o → is_closed (thread_at s t).stage ≡ false → after.threads ≡ slice_set s.threads t (record (thread_at s t) { base = prio }) → after.mutexes ≡ s.mutexes → after.holdings ≡ s.holdings → StandsFor after c (base_edit t prio o)
stands-based s after c o t prio tie lives threads mutexes holdings =
    subst (λ (m : Option Member). StandsFor after c (with_member o t m)) same (stands-row s after c o t row tie (tie.owned.known t) threads mutexes holdings)
  where
    row : Thread
    row = record (thread_at s t) { base = prio }

    same : member_of c.objects row ≡ option_map (with_base prio) (member_at o t)
    same =
        ap (λ d. member_if d c.objects row) lives
        ∙ sym (ap (option_map (with_base prio)) (member-tied s c o t tie) ∙ ap (λ d. option_map (with_base prio) (member_if d c.objects (thread_at s t))) lives)

-- a thread that hasn't ended wakes, and waits on no mutex more
pub stands-woken : (s : State) (c : ClassObjects) (o : Ownership) (t : ℕ) (code : Code) → StandsFor s c o → is_closed (thread_at s t).stage ≡ false → StandsFor (wake_effect code t s).state c (leave_edit t o)
stands-woken s c o t code tie lives =
    subst (λ (m : Option Member). StandsFor (wake_effect code t s).state c (with_member o t m)) same
    (stands-row coded (wake_effect code t s).state c o t row (stands-kept s coded c o t (record (thread_at s t) { code = code }) tie refl refl refl refl refl) refl refl refl refl)
  where
    coded : State
    coded = with_thread s t (record (thread_at s t) { code = code })

    row : Thread
    row = record (thread_at coded t) { stage = Active }

    same : member_of c.objects row ≡ option_map (with_wait None) (member_at o t)
    same =
        ap (λ n. free_member n) (same-base s.threads t (record (thread_at s t) { code = code }) refl)
        ∙ sym (ap (option_map (with_wait None)) (member-tied s c o t tie) ∙ ap (λ d. option_map (with_wait None) (member_if d c.objects (thread_at s t))) lives)

-- what follows where a wait ends, also at its due tick
pub wake-settles : (b : PlainBoard) (s : State) (c : ClassObjects) (o : Ownership) (t : ℕ) (code : Code) → StandsFor s c o → is_closed (thread_at s t).stage ≡ false → AreLive (wake_effect code t s).state
    → settled_effect b s (wake_effect code t s) ≡ followed_effect b s (changes o (leave_edit t o)) (wake_effect code t s)
wake-settles b s c o t code tie lives live = settled-tied b s (wake_effect code t s) c c o (leave_edit t o) tie (stands-woken s c o t code tie lives) came live
  where
    coded : State
    coded = with_thread s t (record (thread_at s t) { code = code })

    row : Thread
    row = record (thread_at coded t) { stage = Active }

    coded_stage : (u : ℕ) → (thread_at coded u).stage ≡ (thread_at s u).stage
    coded_stage u = stage-kept s.threads t u (record (thread_at s t) { code = code }) refl

    by_case : (u : ℕ) (d : Bool) → eqb u t ≡ d → is_closed (thread_at (wake_effect code t s).state u).stage ≡ false → is_closed (thread_at s u).stage ≡ false
    by_case u true same h = ap (λ v. is_closed (thread_at s v).stage) (eqb-true u t same) ∙ lives
    by_case u false apart h = ap is_closed (sym (coded_stage u)) ∙ sym (ap (λ (r : Thread). is_closed r.stage) (other-set coded.threads t u row no_thread (eqb-false u t apart))) ∙ h

    came : CameFrom s (wake_effect code t s).state
    came = record {
      size = sym (length-set_at coded.threads t row ∙ length-set_at s.threads t (record (thread_at s t) { code = code }));
      ended = λ u h. by_case u (eqb u t) refl h;
    }

-- another base of a thread that is found, by a statement of a thread
pub prio-settles : (b : PlainBoard) (s : State) (c : ClassObjects) (o : Ownership) (t k u prio : ℕ) (name : List ℕ) (line : Option Code → Line) → StandsFor s c o → find_thread (with_next s t k) name ≡ Some u → is_closed (thread_at s u).stage ≡ false
    → AreLive (call_effect t line (silent_success (with_thread (with_next s t k) u (record (thread_at (with_next s t k) u) { base = prio })))).state
    → settled_effect b s (call_effect t line (set_prio name prio (with_next s t k))) ≡ followed_effect b s (changes o (base_edit u prio o)) (call_effect t line (silent_success (with_thread (with_next s t k) u (record (thread_at (with_next s t k) u) { base = prio }))))
prio-settles b s c o t k u prio name line tie is lives live =
    ap (λ (r : Option ℕ). settled_effect b s (call_effect t line (found_outcome r (refusal next Code.Inval) (λ v. silent_success (with_thread next v (record (thread_at next v) { base = prio })))))) is
    ∙ settled-tied b s e c c o (base_edit u prio o) tie ended came live
  where
    next : State
    next = with_next s t k

    based : State
    based = with_thread next u (record (thread_at next u) { base = prio })

    e : Effect
    e = call_effect t line (silent_success based)

    next_stage : (v : ℕ) → (thread_at next v).stage ≡ (thread_at s v).stage
    next_stage v = stage-kept s.threads t v (record (thread_at s t) { next = k }) refl

    ended : StandsFor e.state c (base_edit u prio o)
    ended =
        stands-kept based e.state c (base_edit u prio o) t (record (thread_at based t) { code = Code.Ok })
        (stands-based next based c o u prio (stands-kept s next c o t (record (thread_at s t) { next = k }) tie refl refl refl refl refl) (ap is_closed (next_stage u) ∙ lives) refl refl refl)
        refl refl refl refl refl

    stages : (v : ℕ) → (thread_at e.state v).stage ≡ (thread_at s v).stage
    stages v = stage-kept based.threads t v (record (thread_at based t) { code = Code.Ok }) refl ∙ stage-kept next.threads u v (record (thread_at next u) { base = prio }) refl ∙ next_stage v

    came : CameFrom s e.state
    came = record {
      size = sym (length-set_at based.threads t (record (thread_at based t) { code = Code.Ok }) ∙ length-set_at next.threads u (record (thread_at next u) { base = prio }) ∙ length-set_at s.threads t (record (thread_at s t) { next = k }));
      ended = λ v h. ap is_closed (sym (stages v)) ∙ h;
    }
