use Rattle.std.proofs.Common.{◌≡◌, ◌≤◌, drop, length}
use Rattle.rt_plain.specs.text.Fields.{unquoted, IsGood}
use Rattle.rt_plain.specs.declared.quote.Quoting.TheVariants.{Plain}
use Rattle.rt_plain.proofs.text.QuoteLemmas.{fronted}
use Rattle.rt_plain.proofs.quotes.inside.Given as goal

abbrev pub invariant-loop-i : goal.invariant-loop-i
invariant-loop-i l = record {
  size : length l.bytes.items ≤ 64;
  good : IsGood l.mode;
  so_far : fronted l.bytes.items (unquoted l.mode (drop l.i l.word)) ≡ unquoted Plain l.word;
}
