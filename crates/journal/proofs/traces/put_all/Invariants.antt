use Rattle.std.proofs.Common.{◌≡◌, ◌++◌, ◌+◌, length, drop}
use Rattle.rt_plain.specs.text.Texts.{entries_text}
use Rattle.journal.specs.Headers.{entries_of, lines_in}
use Rattle.journal.proofs.traces.put_all.Given as goal

-- the text so far and that of what is left are the whole text
abbrev pub invariant-loop-i : goal.invariant-loop-i
invariant-loop-i l = record {
  place : l.at + lines_in (drop l.i l.headers) ≡ length l.lines;
  text : l.out ++ entries_text (l.number + l.i) (entries_of (drop l.i l.headers) (drop l.at l.lines)) ≡ l.initial.out ++ entries_text l.number (entries_of l.headers l.lines);
}
