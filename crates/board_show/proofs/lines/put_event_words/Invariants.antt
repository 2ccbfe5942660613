use Rattle.std.proofs.Common.{◌≡◌, ◌++◌, ◌∷◌, take}
use Rattle.std.specs.List.{flat_map}
use Rattle.rt_plain.specs.text.Tails.{event_text}
use Rattle.board_show.proofs.lines.put_event_words.Given as goal

abbrev pub invariant-loop-event : goal.invariant-loop-event
invariant-loop-event l = l.out ≡ l.initial.out ++ flat_map (λ event. 32 ∷ event_text event) (take l.event-index l.events)
