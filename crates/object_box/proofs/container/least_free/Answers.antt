use Rattle.std.proofs.Common.{arith, sym, ◌∙◌, ◌≡◌, ◌+◌, ◌<◌, ℕ, true}
use borrow.Author.Count.{below_more}
use Rattle.object_box.specs.Objects.{has_number}
use Rattle.object_box.proofs.ObjectLemmas.{at_least}
use Rattle.object_box.proofs.container.least_free.Goals as goal

pub overflow_add-no : goal.overflow_add-no
overflow_add-no c =
    let all : (k : ℕ) → k < c.loop-no.no + 1 → has_number c.args.objects.now k ≡ true = below_more (λ (k : ℕ). has_number c.args.objects.now k ≡ true) c.loop-no.no c.loop-no.invariant (sym c.has_number.ensures ∙ c.loop-no-test.true) in
    record { fits = omega (arith, at_least (c.loop-no.no + 1) c.args.objects.now all, c.requires) }

pub loop-no-smaller : goal.loop-no-smaller
loop-no-smaller c =
    let all : (k : ℕ) → k < c.loop-no.no + 1 → has_number c.args.objects.now k ≡ true = below_more (λ (k : ℕ). has_number c.args.objects.now k ≡ true) c.loop-no.no c.loop-no.invariant (sym c.has_number.ensures ∙ c.loop-no-test.true) in
    omega (arith, at_least (c.loop-no.no + 1) c.args.objects.now all)
