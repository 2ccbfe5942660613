use Rattle.std.proofs.Common.{◌≡◌, drop}
use Rattle.rt_plain.specs.text.Tails.{events_in}
use Rattle.rt_plain.proofs.text.SplitLemmas.{nows}
use Rattle.rt_plain.proofs.text.TailLemmas.{fronted}
use Rattle.board_text.proofs.tails.read_events.Given as goal

abbrev pub invariant-loop-word : goal.invariant-loop-word
invariant-loop-word l = fronted l.events (events_in (nows (drop l.word-index l.words))) ≡ events_in (nows l.words)
