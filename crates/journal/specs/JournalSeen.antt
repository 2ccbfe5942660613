-- What contracts see of a journal.
use Rattle.std.specs.Prelude.{◌≡◌, ℕ, List, Option, length, take, flat_map, slice_get}
use Rattle.rt_base.specs.declared.codes.Event.{Event}
use Rattle.rt_plain.specs.declared.entry.Entry.{Entry}
use Rattle.rt_plain.specs.declared.line.Line.{Line}
use Rattle.rt_plain.specs.runs.Runs.{line_count}

-- the entries, and for how many more entries and lines there is room
pub record JournalSeen : Type 0 where
  pub entries : List Entry
  pub spare_entries : ℕ
  pub spare_lines : ℕ

-- all lines, entry after entry
abbrev pub lines_of : List Entry → List Line
lines_of entries = flat_map (λ e. e.lines) entries

-- the event and the tick of the entry at a place, the place of its first line among all lines, and how many it has
pub record IsEntryAt (entries : List Entry) (at : ℕ) (event : Event) (tick first count : ℕ) : Type 0 where
  pub entry : Entry
  pub there : slice_get entries at ≡ Option.Some entry
  pub event_is : event ≡ entry.event
  pub tick_is : tick ≡ entry.tick
  pub first_is : first ≡ line_count (take at entries)
  pub count_is : count ≡ length entry.lines
