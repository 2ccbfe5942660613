-- Threads that wait for no mutex stand somewhere else.
use Rattle.std.proofs.Common.{ℕ, ◌≡◌, ◌<◌, List, Option, None, true, false, refl, sym, ap, ◌∙◌, length}
use Rattle.std.proofs.lemmas.Option.{none-some}
use Rattle.std.proofs.lemmas.Bool.{false≢true}
use Rattle.rt_plain.specs.declared.stmt.Call.{Call}
use Rattle.rt_plain.specs.kernel.State.{Thread, Stage, Active, Waiting, InCall, is_closed}
use Rattle.rt_plain.specs.kernel.Priority.{awaited_mutex}
use Rattle.object_box.specs.declared.object.Object.{Object}
use Rattle.kernel_tables.specs.Tabled.{Tabled, knows as knows_in}
use Rattle.kernel_tables.specs.Repeated.{is_repeated}
use Rattle.kernel_tables.specs.Threads.{retried_row, row_at, with_row}
use Rattle.mutex_tie.specs.Tie.{wait_in, knows_mutex}
use Rattle.mutex_tables.specs.declared.tables.MutexTables.TheInside.{Inside}
use Rattle.mutex_tables.specs.Kept.{AreMutexTables}
use Rattle.mutex_tables.specs.Known.{knows}
use Rattle.mutex_tables.specs.MutexTabled.{MutexTabled}
use Rattle.mutex_tables.proofs.SeenLemmas.{view_of, Keeps, IsSameFor, inside-there, inside-row, keeps-row}

-- who waits for no mutex waits for none in the graph
pub unawaited : (objects : List Object) (stage : Stage) → awaited_mutex stage ≡ None → (wait_in objects stage ≡ None) × (knows_mutex objects stage ≡ true)
unawaited objects (Waiting (InCall (Call.MutexTake name timeout)) number) none = absurd (none-some name (sym none))
unawaited objects _ none = (refl, refl)

-- for the graph it is the same whether a thread stands here or there, where it waits for no mutex
pub same-stages : (objects : List Object) (new old : Thread) → new.base ≡ old.base → is_closed old.stage ≡ false → is_closed new.stage ≡ false → awaited_mutex old.stage ≡ None → awaited_mutex new.stage ≡ None → IsSameFor objects new old
same-stages objects new old base was is before after =
    let one = unawaited objects old.stage before in
    let two = unawaited objects new.stage after in
    record { base = base; closed = is ∙ sym was; wait = two.0 ∙ sym one.0; known = two.1 ∙ sym one.1 }

-- the stage of a thread in the lists
pub inside-stage : (k : Inside) (v : MutexTabled) (t : ℕ) → view_of k ≡ v → Keeps k → t < length v.threads → (row_at k.tables.threads t).stage ≡ (row_at v.threads t).stage
inside-stage k v t is keeps there = sym (ap (λ (r : Thread). r.stage) (inside-row k v t is keeps there))

-- a thread that waits for no mutex stands somewhere else, where it waits for none
pub stage-keeps : (k : Inside) (v : MutexTabled) (t : ℕ) (stage : Stage) (new : Tabled) → view_of k ≡ v → Keeps k → t < length v.threads → is_closed (row_at v.threads t).stage ≡ false → awaited_mutex (row_at v.threads t).stage ≡ None
    → is_closed stage ≡ false → awaited_mutex stage ≡ None → new.threads ≡ with_row k.tables.threads t (λ row. record row { stage = stage }) → new.levels ≡ k.tables.levels
    → AreMutexTables new k.bases.items k.names.mutex k.graph
stage-keeps k v t stage new is keeps there live apart opens other threads levels =
    let row : Thread = row_at k.tables.threads t in
    let same : row.stage ≡ (row_at v.threads t).stage = inside-stage k v t is keeps there in
    keeps-row k.tables new k.bases.items k.names.mutex k.graph t (record row { stage = stage }) keeps (inside-there k v t is there) threads levels
    (same-stages k.names.mutex.objects (record row { stage = stage }) row refl (ap is_closed same ∙ live) opens (ap awaited_mutex same ∙ apart) other)

-- the object of a call is there in the lists
pub inside-knows : (k : Inside) (v : MutexTabled) (call : Call) → view_of k ≡ v → knows_in k.tables call ≡ knows v call
inside-knows k v call is = by_call call ∙ ap (λ (x : MutexTabled). knows x call) is
  where
    by_call : (call : Call) → knows_in k.tables call ≡ knows (view_of k) call
    by_call (Call.SemTake name timeout) = refl
    by_call (Call.EventRecv name mask all clear timeout) = refl
    by_call (Call.MbSend name word timeout) = refl
    by_call (Call.MbRecv name timeout) = refl
    by_call (Call.MqSend name timeout message) = refl
    by_call (Call.MqRecv name timeout) = refl
    by_call _ = refl

-- who waits in a call on a mailbox or a message queue hasn't ended, and waits for no mutex
pub repeated-apart : (stage : Stage) → is_repeated stage ≡ true → (is_closed stage ≡ false) × (awaited_mutex stage ≡ None)
repeated-apart (Waiting (InCall (Call.MutexTake name timeout)) number) is = absurd (false≢true is)
repeated-apart (Waiting what number) is = (refl, refl)
repeated-apart _ is = absurd (false≢true is)

-- it wakes to make the call again
pub retried-keeps : (k : Inside) (v : MutexTabled) (t : ℕ) (due : Option ℕ) (new : Tabled) → view_of k ≡ v → Keeps k → t < length v.threads → is_repeated (row_at v.threads t).stage ≡ true
    → new.threads ≡ with_row k.tables.threads t (retried_row due) → new.levels ≡ k.tables.levels
    → AreMutexTables new k.bases.items k.names.mutex k.graph
retried-keeps k v t due new is keeps there waits threads levels =
    let row : Thread = row_at k.tables.threads t in
    let apart = repeated-apart row.stage (ap is_repeated (inside-stage k v t is keeps there) ∙ waits) in
    keeps-row k.tables new k.bases.items k.names.mutex k.graph t (retried_row due row) keeps (inside-there k v t is there) threads levels
    (same-stages k.names.mutex.objects (retried_row due row) row refl apart.0 refl apart.1 refl)
