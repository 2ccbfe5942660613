-- What the test of a built board says.
use Rattle.std.proofs.Common.{◌≡◌, ℕ, zero, suc, ◌-◌, ◌≤◌, ◌&&◌, eqb, length, arith, List, [], ◌∷◌, Option, Some, None, Bool, true, false, not, refl}
use Rattle.std.specs.Prelude.{is_some, unwrap_or, slice_get}
use Rattle.std.specs.List.{list_all, find, AllByRecursion}
use Rattle.std.specs.Option.{option_map}
use Rattle.std.specs.Str.{bytes_eq}
use Rattle.rt_plain.specs.declared.board.ThreadDef.{ThreadDef}
use Rattle.rt_plain.specs.declared.stmt.Stmt.{Stmt}
use Rattle.rt_plain.specs.PlainBoard.{PlainBoard}
use Rattle.rt_plain.specs.kernel.Statements.{script_of, statement_at}
use Rattle.rt_plain.specs.text.Canon.{IsValid}
use Rattle.rt_plain.proofs.runs.RunnableLemmas.{IsStocked, valid_stocked, valid_proper, valid_until, valid_scripts, valid_sized, valid_threads, valid_cores}
use Rattle.rt_plain.proofs.kernel.TallyLemmas.{all-found}
use Rattle.std.proofs.lemmas.List.Elements.{recursion_from_All}
use Rattle.rt_plain.specs.declared.kind.LineKind.{LineKind}
use Rattle.rt_plain.proofs.text.ValidLemmas.{valid_grows}
use Rattle.rt_plain.proofs.kernel.LevelLemmas.{valid_levelled, valid_timers, valid_arrivals}
use Rattle.rt_plain.specs.kernel.Sound.{is_levelled}
use Rattle.ready_list.specs.Depths.{is_depth}
use Rattle.kernel_tables.specs.Opened.{HasFittingObjects}
use Rattle.rt_kernel.specs.Built.{is_built, IsBuilt, is_built_thread, is_built_statement}
use Rattle.std.proofs.lemmas.List.Elements.{recursion_from_All}
use Rattle.rt_plain.specs.kernel.Sound.{IsProper, is_timed}

no_items : {A : Type 0} (xs : List A) → eqb (length xs) 0 ≡ true → xs ≡ []
no_items [] is = refl
no_items (x ∷ xs) is = absurd (grind arith)

no_one : {A : Type 0} (o : Option A) → not (is_some o) ≡ true → o ≡ None
no_one None is = refl
no_one (Some x) is = absurd cc

both : (a b : Bool) → a && b ≡ true → (a ≡ true) × (b ≡ true)
both true true is = (refl, refl)
both true false is = absurd cc
both false b is = absurd cc

-- the objects of a valid board
fitting : (b : PlainBoard) → IsStocked b → HasFittingObjects b
fitting b stock = record {
  sem_room = stock.sems.0;
  event_room = stock.events.0;
  mailbox_room = stock.mailboxes.0;
  queue_room = stock.queues.0;
  sem_names = stock.sems.1;
  event_names = stock.events.1;
  mailbox_names = stock.mailboxes.1;
  queue_names = stock.queues.1;
}

-- how many levels a valid board has
valid_depth : (b : PlainBoard) → IsValid b → is_depth b.levels ≡ true
valid_depth b valid = ((valid_grows b valid).0 LineKind.Levels).0

pub built : (b : PlainBoard) → IsValid b → is_built b ≡ true → IsBuilt b
built b valid is =
    let top = both _ _ is in
    let scripts = both _ _ top.1 in
    let own_calls = both _ _ scripts.1 in
    let own = both _ _ scripts.0 in
    record {
      proper = valid_proper b valid;
      sized = valid_sized b valid;
      levelled = valid_levelled b valid;
      depth = valid_depth b valid;
      objects = fitting b (valid_stocked b valid);
      until = valid_until b valid;
      few = omega (arith, valid_threads b valid);
      short = valid_scripts b valid;
      mutexes = no_items b.mutexes top.0;
      mutex_room = (valid_stocked b valid).mutexes.0;
      mutex_names = (valid_stocked b valid).mutexes.1;
      few_devices = (valid_stocked b valid).devices.0;
      later = valid_arrivals b valid;
      some_core = (valid_cores b valid).0;
      shell = no_one b.shell own.0;
      soft = no_one b.soft own.1;
      threads = own_calls.0;
      timers = own_calls.1;
      few_timers = omega (arith, (valid_stocked b valid).timers.0);
      actions = valid_timers b valid;
      apart = (valid_stocked b valid).threads.1;
    }

list_all-each : {A : Type 0} (p : A → Bool) (P : A → Type 0) → ((x : A) → p x ≡ true → P x) → (xs : List A) → list_all p xs ≡ true → AllByRecursion P xs
list_all-each p P says [] all = tt
list_all-each p P says (x ∷ xs) all = let parts = both (p x) (list_all p xs) all in (says x parts.0, list_all-each p P says xs parts.1)

script-all : (b : PlainBoard) (name : List ℕ) (P : List Stmt → Type 0) → P [] → AllByRecursion (λ (def : ThreadDef). P def.script) b.threads → P (script_of b name)
script-all b name P none all = by_found (find (λ (def : ThreadDef). bytes_eq def.name name) b.threads) refl where
  by_found : (o : Option ThreadDef) → find (λ (def : ThreadDef). bytes_eq def.name name) b.threads ≡ o → P (unwrap_or (option_map (λ (def : ThreadDef). def.script) o) [])
  by_found None is = none
  by_found (Some def) is = all-found (λ (d : ThreadDef). P d.script) (λ (d : ThreadDef). bytes_eq d.name name) b.threads def is all

-- no script is long
pub script-short : (b : PlainBoard) (name : List ℕ) → IsBuilt b → length (script_of b name) ≤ 512
script-short b name built = script-all b name (λ script. length script ≤ 512) (omega arith) built.short

statement-built : (script : List Stmt) (i : ℕ) → list_all is_built_statement script ≡ true → is_built_statement (unwrap_or (slice_get script i) Stmt.Exit) ≡ true
statement-built [] i all = refl
statement-built (st ∷ script) zero all = (both (is_built_statement st) (list_all is_built_statement script) all).0
statement-built (st ∷ script) (suc i) all = statement-built script i (both (is_built_statement st) (list_all is_built_statement script) all).1

-- each statement of a built board is built
pub all-built : (b : PlainBoard) (name : List ℕ) (k : ℕ) → IsBuilt b → is_built_statement (statement_at (script_of b name) k) ≡ true
all-built b name k built = statement-built (script_of b name) (k - 1) (script-all b name (λ script. list_all is_built_statement script ≡ true) refl
    (list_all-each is_built_thread (λ (def : ThreadDef). list_all is_built_statement def.script ≡ true) (λ def is. is) b.threads built.threads))

-- no statement of a built board sets a priority that the levels don't have
statement-levelled : (levels : ℕ) (script : List Stmt) (i : ℕ) → list_all (is_levelled levels) script ≡ true → is_levelled levels (unwrap_or (slice_get script i) Stmt.Exit) ≡ true
statement-levelled levels [] i all = refl
statement-levelled levels (st ∷ script) zero all = (both (is_levelled levels st) (list_all (is_levelled levels) script) all).0
statement-levelled levels (st ∷ script) (suc i) all = statement-levelled levels script i (both (is_levelled levels st) (list_all (is_levelled levels) script) all).1

pub all-levelled : (b : PlainBoard) (name : List ℕ) (k : ℕ) → IsBuilt b → is_levelled b.levels (statement_at (script_of b name) k) ≡ true
all-levelled b name k built = statement-levelled b.levels (script_of b name) (k - 1) (script-all b name (λ script. list_all (is_levelled b.levels) script ≡ true) refl (recursion_from_All (λ (def : ThreadDef). list_all (is_levelled b.levels) def.script ≡ true) b.threads built.levelled.scripts))

-- each statement of a board waits no longer than it may
statement-timed : (script : List Stmt) (i : ℕ) → list_all is_timed script ≡ true → is_timed (unwrap_or (slice_get script i) Stmt.Exit) ≡ true
statement-timed [] i all = refl
statement-timed (st ∷ script) zero all = (both (is_timed st) (list_all is_timed script) all).0
statement-timed (st ∷ script) (suc i) all = statement-timed script i (both (is_timed st) (list_all is_timed script) all).1

pub all-timed : (b : PlainBoard) (name : List ℕ) (k : ℕ) → IsProper b → is_timed (statement_at (script_of b name) k) ≡ true
all-timed b name k proper = statement-timed (script_of b name) (k - 1) (script-all b name (λ script. list_all is_timed script ≡ true) refl (recursion_from_All (λ (def : ThreadDef). list_all is_timed def.script ≡ true) b.threads proper.scripts))
