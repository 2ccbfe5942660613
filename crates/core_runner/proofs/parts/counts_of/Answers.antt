use Rattle.std.proofs.Common.{◌≡◌, ◌∙◌, ℕ, ◌<◌, List, [], ◌∷◌, ◌++◌, length, take, ap, sym, arith}
use Rattle.std.proofs.lemmas.List.FromFn.{length-map-range_with_len}
use Rattle.rt_plain.specs.runs.Runs.{events_of}
use Rattle.rt_plain.specs.runs.Live.{owner_counts}
use Rattle.core_runner.specs.Parts.{owned_by}
use Rattle.core_runner.proofs.PartLemmas.{counts-more}
use Rattle.core_runner.proofs.parts.counts_of.Goals as goal

pub push-requires : goal.push-requires
push-requires c =
    let events = events_of (take c.args.entries c.args.journal.now.entries) in
    let long : length c.loop-core.counts.items ≡ c.loop-core.core = ap length c.loop-core.invariant ∙ length-map-range_with_len (λ (core : ℕ). owned_by core events) 0 c.loop-core.core in
    let short : length c.loop-core.counts.items < 8 = omega (arith, long, c.loop-core-test.true, c.requires.cores) in
    (omega arith, short)

pub loop-core-preserved : goal.loop-core-preserved
loop-core-preserved c =
    let events = events_of (take c.args.entries c.args.journal.now.entries) in
    c.push.ensures.items
    ∙ ap (λ (ns : List ℕ). ns ++ c.count_of.result ∷ []) c.loop-core.invariant
    ∙ ap (λ (n : ℕ). owner_counts c.loop-core.core events ++ n ∷ []) c.count_of.ensures
    ∙ sym (counts-more events c.loop-core.core)
