use Rattle.std.proofs.Common.{◌≡◌, ◌+◌, ◌<◌, ◌≤◌, suc, arith, ℕ, List, Option, None, ap, ◌∙◌, length, slice_set, slice_index_or, if◌then◌else◌}
use Rattle.std.proofs.lemmas.List.{with_items_is}
use Rattle.rt_plain.specs.kernel.State.{is_number}
use Rattle.kernel_cores.specs.PlainCores.{PlainCores, without_thread}
use Rattle.kernel_cores.proofs.FrontLemmas.{changed_front, front-more, front-all}
use Rattle.kernel_cores.proofs.cores.Cores.leave.Goals as goal

pub loop-r-preserved : goal.loop-r-preserved
loop-r-preserved c =
    let f : Option ℕ → Option ℕ = λ r. if is_number c.args.t r then None else r in
    let running : List (Option ℕ) = c.args.self.now.running in
    let i : ℕ = c.loop-r.r-index in
    let there : i < length running = omega (arith, c.loop-r-test.true, ap length c.deref_mut-r-items.ensures.value, ap (λ (k : PlainCores). length k.running) c.self.view_is) in
    let next : suc i ≡ i + 1 = omega arith in
    ap (λ (v : Option ℕ). slice_set c.loop-r.r-items i v) c.without.ensures
    ∙ ap (λ (xs : List (Option ℕ)). slice_set xs i (f (slice_index_or xs i c.r-item.result))) c.loop-r.invariant
    ∙ front-more f i running c.r-item.result there
    ∙ ap (λ n. changed_front f n running) next

pub returns : goal.returns
returns c =
    let f : Option ℕ → Option ℕ = λ r. if is_number c.args.t r then None else r in
    let running : List (Option ℕ) = c.args.self.now.running in
    let past : length running ≤ c.loop-r.r-index = omega (arith, c.loop-r-test.false, ap length c.deref_mut-r-items.ensures.value, ap (λ (k : PlainCores). length k.running) c.self.view_is) in
    let left : c.loop-r.r-items ≡ without_thread c.args.t running = c.loop-r.invariant ∙ front-all f c.loop-r.r-index running past in
    let same : length c.loop-r.r-items ≡ c.self.inside.running.len = omega (arith, c.loop-r.auto.r-items, ap length c.deref_mut-r-items.ensures.value) in
    ap (λ (rs : List (Option ℕ)). record { running = rs; nest = c.self.inside.nest }) (with_items_is c.self.inside.running c.loop-r.r-items same)
    ∙ ap (λ (k : PlainCores). record { running = c.loop-r.r-items; nest = k.nest }) c.self.view_is
    ∙ ap (λ (rs : List (Option ℕ)). record { running = rs; nest = c.args.self.now.nest }) left
