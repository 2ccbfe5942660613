-- A valid board's priorities, bindings, timers and arrivals are in their ranges.
use Rattle.std.proofs.Common.{◌≡◌, ℕ, ◌+◌, ◌-◌, ◌*◌, ◌/◌, ◌<◌, ◌≤◌, ◌||◌, Bool, true, false, not, eqb, Option, Some, None, List, [], ◌∷◌, refl, arith, eqb-true, lt-ltb, IsTrue, IfSome, All}
use Rattle.std.specs.List.{AllByRecursion, list_all}
use Rattle.std.proofs.lemmas.Bool.{leb-false}
use Rattle.std.proofs.lemmas.List.Elements.{All-from_recursion}
use Rattle.std.proofs.lemmas.Nat.{mul-le}
use Rattle.std.proofs.Math.Nat.{le-div_iff_mul-le}
use Rattle.rt_plain.specs.declared.board.ThreadDef.{ThreadDef}
use Rattle.rt_plain.specs.declared.board.TimerDef.{TimerDef}
use Rattle.rt_plain.specs.declared.board.Arrival.{Arrival}
use Rattle.rt_plain.specs.declared.kind.LineKind.{LineKind}
use Rattle.rt_plain.specs.declared.stmt.Call.{Call}
use Rattle.rt_plain.specs.declared.stmt.Stmt.{Stmt}
use Rattle.rt_plain.specs.PlainBoard.{PlainBoard}
use Rattle.rt_plain.specs.text.StatementTable.{FitsStatement}
use Rattle.rt_plain.specs.text.BoardText.{is_beyond, is_barred}
use Rattle.rt_plain.specs.text.Canon.{IsValid}
use Rattle.rt_plain.specs.kernel.Opening.{arrival_moment}
use Rattle.rt_plain.specs.kernel.TimerKinds.{is_timer_call, is_timer_statement, is_timer_action}
use Rattle.rt_plain.specs.kernel.Sound.{is_levelled_call, is_levelled, is_levelled_action, IsLevelled}
use Rattle.rt_plain.proofs.text.ValidLemmas.{OwnFits, StatementComes, ThreadComes, TimerComes, ArriveComes, valid_grows}
use Rattle.rt_plain.proofs.runs.RunnableLemmas.{grows-each}
use Rattle.rt_plain.proofs.kernel.TallyLemmas.{all-weaker}
use Rattle.rt_plain.proofs.TestLemmas.{or-left}

-- a board has levels
many_levels : (levels : ℕ) → IsTrue (eqb levels 8 || eqb levels 32 || eqb levels 256) → 2 ≤ levels
many_levels levels is = by_tests (eqb levels 8) (eqb levels 32) (eqb levels 256) refl refl refl is where
  by_tests : (a c d : Bool) → eqb levels 8 ≡ a → eqb levels 32 ≡ c → eqb levels 256 ≡ d → (a || c || d) ≡ true → 2 ≤ levels
  by_tests true c d a_is c_is d_is is = omega (arith, eqb-true levels 8 a_is)
  by_tests false true d a_is c_is d_is is = omega (arith, eqb-true levels 32 c_is)
  by_tests false false true a_is c_is d_is is = omega (arith, eqb-true levels 256 d_is)
  by_tests false false false a_is c_is d_is is = absurd cc

valid_levels : (b : PlainBoard) → IsValid b → 2 ≤ b.levels
valid_levels b is = many_levels b.levels ((valid_grows b is).0 LineKind.Levels).0

-- a statement in its ranges sets a priority below the levels
levelled : (levels : ℕ) (x : Stmt) → 2 ≤ levels → FitsStatement levels x → is_levelled levels x ≡ true
levelled levels (Stmt.Do (Call.SetPrio name prio)) many h = lt-ltb prio levels (omega (arith, many, h.1.0.1))
levelled levels (Stmt.Do _) many h = refl
levelled levels _ many h = refl

levelled_script : (levels : ℕ) (script : List Stmt) → AllByRecursion (λ x. is_levelled levels x ≡ true) script → list_all (is_levelled levels) script ≡ true
levelled_script levels [] h = refl
levelled_script levels (x ∷ xs) h = rw (h.0, levelled_script levels xs h.1) refl

-- what a timer may do
may_act : (action : Option Stmt) → is_barred action ≡ false → is_timer_action action ≡ true
may_act None is = refl
may_act (Some x) is = by_test (is_timer_statement x) is where
  by_test : (c : Bool) → not c ≡ false → c ≡ true
  by_test true is = refl
  by_test false is = absurd cc

levelled_call : (levels : ℕ) (call : Call) → is_timer_call call ≡ true → is_levelled_call levels call ≡ true
levelled_call levels (Call.SetPrio name prio) may = absurd cc
levelled_call levels _ may = refl

levelled_action : (levels : ℕ) (action : Option Stmt) → is_timer_action action ≡ true → is_levelled_action levels action ≡ true
levelled_action levels None may = refl
levelled_action levels (Some (Stmt.Do call)) may = levelled_call levels call may
levelled_action levels (Some _) may = refl

abbrev IsTimer : TimerDef → Type 0
IsTimer def = IsTrue (is_timer_action def.call)

timers_may : (b : PlainBoard) → IsValid b → AllByRecursion IsTimer b.timers
timers_may b is = grows-each (TimerComes b) IsTimer (λ front def h. may_act def.call (or-left (is_barred def.call) _ h.3)) [] b.timers ((valid_grows b is).1 LineKind.Timer)

pub valid_timers : (b : PlainBoard) → IsValid b → All (λ def. IsTrue (is_timer_action def.call)) b.timers
valid_timers b is = All-from_recursion IsTimer b.timers (timers_may b is)

-- a binding
bound : (cores : ℕ) (core : Option ℕ) → is_beyond cores core ≡ false → IfSome core (λ c. c < cores)
bound cores None is = tt
bound cores (Some core) is = leb-false cores core is

-- a thread without a script
own_level : (levels : ℕ) (prio : Option ℕ) → 2 ≤ levels → OwnFits levels prio → IfSome prio (λ p. p < levels)
own_level levels None many h = tt
own_level levels (Some prio) many h = omega (arith, many, h.0.1)

abbrev HasBase : PlainBoard → ThreadDef → Type 0
HasBase b def = def.prio < b.levels

abbrev HasBinding : PlainBoard → ThreadDef → Type 0
HasBinding b def = IfSome def.core (λ core. core < b.cores)

abbrev HasScript : PlainBoard → ThreadDef → Type 0
HasScript b def = IsTrue (list_all (is_levelled b.levels) def.script)

has_script : (b : PlainBoard) → 2 ≤ b.levels → (front : List ThreadDef) (t : ThreadDef) → ThreadComes b front t → HasScript b t
has_script b many front t h = levelled_script b.levels t.script (grows-each (StatementComes b front t) (λ x. is_levelled b.levels x ≡ true) (λ done x p. levelled b.levels x many p.0) [] t.script h.1)

pub valid_levelled : (b : PlainBoard) → IsValid b → IsLevelled b
valid_levelled b is =
    let many : 2 ≤ b.levels = valid_levels b is in
    let settings = (valid_grows b is).0 in
    let threads = (valid_grows b is).1 LineKind.Thread in
    record {
      bases = All-from_recursion (HasBase b) b.threads (grows-each (ThreadComes b) (HasBase b) (λ front t h. omega (arith, many, h.0.0.1.0.1)) [] b.threads threads);
      bindings = All-from_recursion (HasBinding b) b.threads (grows-each (ThreadComes b) (HasBinding b) (λ front t h. bound b.cores t.core h.0.3) [] b.threads threads);
      scripts = All-from_recursion (HasScript b) b.threads (grows-each (ThreadComes b) (HasScript b) (has_script b many) [] b.threads threads);
      timers = All-from_recursion (λ (def : TimerDef). IsTrue (is_levelled_action b.levels def.call)) b.timers (all-weaker IsTimer (λ (def : TimerDef). IsTrue (is_levelled_action b.levels def.call)) b.timers (λ def may. levelled_action b.levels def.call may) (timers_may b is));
      shell = own_level b.levels b.shell many (settings LineKind.Shell);
      soft = own_level b.levels b.soft many (settings LineKind.Soft);
    }

-- no arrival comes at the moment of the opening
later : (h q count : ℕ) → 1 ≤ h → 1 ≤ q → 1 ≤ count → 1 ≤ (count * q + (h - 1)) / h
later h q count clock rate some = (le-div_iff_mul-le {k = h} {x = 1} {y = count * q + (h - 1)} (omega (arith, clock))).1 (omega (arith, clock, mul-le 1 1 count q some rate))

abbrev IsLater : PlainBoard → Arrival → Type 0
IsLater b a = 1 ≤ arrival_moment b a

pub valid_arrivals : (b : PlainBoard) → IsValid b → All (λ a. 1 ≤ arrival_moment b a) b.arrivals
valid_arrivals b is =
    let clock = (valid_grows b is).0 LineKind.LpClock in
    All-from_recursion (IsLater b) b.arrivals (grows-each (ArriveComes b) (IsLater b) (λ front a h. later b.lp_h b.lp_q a.count clock.0.0 clock.1.0.0 h.0.0.0) [] b.arrivals ((valid_grows b is).1 LineKind.Arrive))
