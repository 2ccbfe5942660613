use Rattle.std.proofs.Common.{◌≡◌, drop}
use Rattle.std.specs.Prelude.{bytes_eq}
use Rattle.std.specs.List.{find}
use Rattle.rt_plain.specs.text.TraceRows.{trace_word}
use Rattle.journal.proofs.rows.trace_named.Given as goal

abbrev pub invariant-loop-kind : goal.invariant-loop-kind
invariant-loop-kind l = find (λ k. bytes_eq (trace_word k) l.given) (drop l.kind-index l.kind-items) ≡ find (λ k. bytes_eq (trace_word k) l.given) l.kind-items
