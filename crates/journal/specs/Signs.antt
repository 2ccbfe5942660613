-- What stands between the numbers of an entry's header.
use Rattle.std.specs.Prelude.{ℕ, List, ◌++◌, decimal, codes}
use Rattle.rt_base.specs.declared.codes.Event.{Event}

-- the core of a step and the sign of its tick, or the word for a tick
abbrev pub event_sign : Event → List ℕ
event_sign (Event.Step core) = codes " c" ++ decimal core ++ codes " @"
event_sign Event.Tick = codes " tick "
