-- A journal as it is kept: headers, and one list of all lines.
use Rattle.std.specs.Prelude.{◌≡◌, ◌+◌, ◌-◌, ◌^◌, ◌<◌, ℕ, List, [], ◌∷◌, take, drop, sum_by, min}
use Rattle.rt_plain.specs.declared.entry.Entry.{Entry}
use Rattle.rt_plain.specs.declared.line.Line.{Line}
use Rattle.rt_plain.specs.text.TraceRows.{CanHappen}
use Rattle.journal.specs.declared.header.Header.{Header}

-- each header has the next lines
abbrev pub entries_of : List Header → List Line → List Entry
entries_of [] lines = []
entries_of (h ∷ headers) lines =
    (record { event = h.event; tick = h.tick; lines = take h.count lines }) ∷ entries_of headers (drop h.count lines)

-- how many lines the headers have
abbrev pub lines_in : List Header → ℕ
lines_in headers = sum_by (λ h. h.count) headers

-- each header knows the place of its first line, and the first of them this one
abbrev pub StandFrom : ℕ → List Header → Type 0
StandFrom place [] = Unit {0}
StandFrom place (h ∷ headers) = (h.first ≡ place) × StandFrom (place + h.count) headers

-- what stands in a header can be written
abbrev pub CanHead : Header → Type 0
CanHead h = CanHappen h.event × (h.tick < 2 ^ 32)

-- how many more fit, of a list of at most 4,294,967,295 items
abbrev pub room_left : ℕ → ℕ → ℕ
room_left capacity len = min capacity 4294967295 - len
