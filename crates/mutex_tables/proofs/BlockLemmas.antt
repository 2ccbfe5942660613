-- Who waits first for a block of a memory pool.
use Rattle.std.proofs.Common.{ℕ, ◌≡◌, ◌<◌, ◌≤◌, List, [], ◌∷◌, Option, Some, None, Bool, true, false, refl, sym, ap, ◌∙◌, subst, length, is_some, inl, inr, IfSome}
use Rattle.std.specs.List.{AllByRecursion}
use Rattle.std.proofs.lemmas.Bool.{false≢true, cases_lt}
use Rattle.std.proofs.lemmas.List.{get_or_past}
use Rattle.rt_base.specs.declared.codes.WaitOrder.{WaitOrder}
use Rattle.rt_plain.specs.declared.stmt.Call.{Call}
use Rattle.rt_plain.specs.kernel.State.{Thread, Stage, no_thread}
use Rattle.rt_plain.specs.kernel.Waiting.{head_of, number_in, waiters}
use Rattle.kernel_tables.specs.Tabled.{line_of}
use Rattle.kernel_tables.specs.Threads.{row_at}
use Rattle.mutex_tables.specs.declared.tables.MutexTables.TheInside.{Inside}
use Rattle.mutex_tables.specs.MutexTabled.{MutexTabled, plain_state}
use Rattle.mutex_tables.proofs.BaseLemmas.{based-stage}
use Rattle.mutex_tables.proofs.LineLemmas.{WaitsIn, line-seen, line-waits}
use Rattle.mutex_tables.proofs.SeenLemmas.{view_of, Keeps}

first-has : (Q : ℕ → Type 0) (ts : List ℕ) (t : ℕ) → AllByRecursion Q ts → head_of ts ≡ Some t → Q t
first-has Q [] t all is = absurd (let never : ◌≡◌ {A = Option ℕ} None (Some t) = is in cc)
first-has Q (u ∷ ts) t all is = subst Q (let same : u ≡ t = cc in same) all.0

-- where nobody stands, nobody waits
waits-there : (threads : List Thread) (p : Call → Bool) (t : ℕ) → WaitsIn threads p t → t < length threads
waits-there threads p t waits =
    elim (cases_lt t (length threads)) [
      | inl less ↦ less
      | inr more ↦ absurd (false≢true (ap (λ (row : Thread). is_some (number_in p row.stage)) (sym (get_or_past threads t no_thread more)) ∙ waits))
    ]

-- the first of those that wait, as contracts see them
pub first-waits : (k : Inside) (v : MutexTabled) (order : WaitOrder) (p : Call → Bool) (first : Option ℕ) → view_of k ≡ v → first ≡ head_of (line_of k.tables.threads order p) → IfSome first (λ t. is_some (number_in p (row_at v.threads t).stage) ≡ true)
first-waits k v order p None is same = tt
first-waits k v order p (Some t) is same =
    ap is_some (ap (λ (x : MutexTabled). number_in p (row_at x.threads t).stage) (sym is) ∙ ap (number_in p) (based-stage k.bases.items k.tables.threads t))
    ∙ first-has (WaitsIn k.tables.threads p) (line_of k.tables.threads order p) t (line-waits k.tables.threads order p) (sym same)

pub first-there : (v : MutexTabled) (p : Call → Bool) (first : Option ℕ) → IfSome first (λ t. is_some (number_in p (row_at v.threads t).stage) ≡ true) → IfSome first (λ t. t < length v.threads)
first-there v p None waits = tt
first-there v p (Some t) waits = waits-there v.threads p t waits

pub first-seen : (k : Inside) (v : MutexTabled) (order : WaitOrder) (p : Call → Bool) (first : Option ℕ) → view_of k ≡ v → Keeps k → first ≡ head_of (line_of k.tables.threads order p) → first ≡ head_of (waiters (plain_state v) order p)
first-seen k v order p first is keeps same = same ∙ ap head_of (line-seen k v order p is keeps)
