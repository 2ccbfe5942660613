use Rattle.std.proofs.Common.{◌≡◌, ◌∙◌, Ok, length, map, drop, sym, ap, arith}
use Rattle.std.proofs.lemmas.List.{length-map}
use Rattle.std.proofs.lemmas.Bool.{eqb-true, eqb-false}
use Rattle.rt_plain.specs.text.TraceRows.{are_counts, counts_in}
use Rattle.rt_plain.proofs.text.TraceLemmas.{cut_with_cores, cut_without_cores}
use Rattle.journal.proofs.reading.read_cut.Goals as goal
use Rattle.journal.proofs.reading.read_cut.Goals.{then-is_empty-via-then-is_empty, then-is_empty-via-else-is_empty+then-counts-gt8}

pub returns-then-is_empty : goal.returns-then-is_empty
returns-then-is_empty c =
    let counts = drop 1 (map (λ w. w.now) c.args.words.now) in
    let same : length counts ≡ length c.behind-counts.result.now = ap length (sym c.behind-counts.ensures) ∙ length-map c.behind-counts.result.now (λ w. w.now) in
    let numbers : are_counts (counts_in counts) ≡ Ok tt = ap (λ ws. are_counts (counts_in ws)) (sym c.behind-counts.ensures) ∙ sym c.counts_in.ensures ∙ c.in_ok-counts_in.was in
    elim c.then-is_empty.branch [
      | then-is_empty-via-then-is_empty w ↦ sym (cut_without_cores counts numbers (λ some few. let none = eqb-true (length c.behind-counts.result.now) 0 (sym c.is_empty.ensures ∙ w.if-is_empty.true) in omega arith))
      | then-is_empty-via-else-is_empty+then-counts-gt8 w ↦ sym (cut_without_cores counts numbers (λ some few. let many = w.if-counts-gt8.true in omega arith))
    ]

pub returns : goal.returns
returns c =
    let counts = drop 1 (map (λ w. w.now) c.args.words.now) in
    let same : length counts ≡ length c.behind-counts.result.now = ap length (sym c.behind-counts.ensures) ∙ length-map c.behind-counts.result.now (λ w. w.now) in
    let numbers : are_counts (counts_in counts) ≡ Ok tt = ap (λ ws. are_counts (counts_in ws)) (sym c.behind-counts.ensures) ∙ sym c.counts_in.ensures ∙ c.in_ok-counts_in.was in
    let some = eqb-false (length c.behind-counts.result.now) 0 (sym c.is_empty.ensures ∙ c.if-is_empty.false) in
    let few = c.if-counts-gt8.false in
    sym (cut_with_cores counts numbers (omega arith) (omega arith))
