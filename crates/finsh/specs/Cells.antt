-- What stands in a cell of a table.
use Rattle.std.specs.Prelude.{ℕ, zero, suc, ◌/◌, ◌%◌, Bool, true, false, ◌&&◌, List, [], ◌∷◌, Option, decimal, codes, unwrap_or, nat_le, if◌then◌else◌}
use Rattle.std.specs.Fmt.{digit_glyph}
use Rattle.rt_plain.specs.text.Words.{code_text, sleep_text, hex_eight}
use Rattle.rt_plain.specs.kernel.Tables.{Column as PlainColumn, left_column, right_column, state_text, kind_text, number_or}
use Rattle.finsh.specs.declared.columns.Column.{Column}
use Rattle.finsh.specs.declared.cells.Cell.{Cell}

-- a column, as the tables have it
abbrev pub column_of : Column → PlainColumn
column_of (Column.Left title width) = left_column title.now width
column_of (Column.Right title width) = right_column title.now width

-- a name, or a dash where there is none
abbrev pub name_or_dash : Option (List ℕ) → List ℕ
name_or_dash name = unwrap_or name (codes "-")

-- the word of a device's type
abbrev pub device_text : Bool → List ℕ
device_text console = if console then codes "console" else codes "serial"

-- the text of a cell
abbrev pub cell_text : Cell → List ℕ
cell_text (Cell.Name name) = name.now
cell_text (Cell.Owner name) = name_or_dash name.now
cell_text (Cell.Prio prio) = decimal prio
cell_text (Cell.State state) = state_text state
cell_text (Cell.Core core) = number_or (codes "any") core
cell_text (Cell.Code code) = code_text code
cell_text (Cell.Flags flags) = hex_eight flags
cell_text (Cell.Kind soft periodic) = kind_text soft periodic
cell_text (Cell.Due tick) = number_or (codes "-") tick
cell_text (Cell.Device console) = device_text console
cell_text (Cell.Mode mode) = sleep_text mode
cell_text (Cell.Byte n) = decimal n
cell_text (Cell.Half n) = decimal n
cell_text (Cell.Number n) = decimal n

-- the most bytes that a cell's text has
abbrev pub room_of : Cell → ℕ
room_of (Cell.Name name) = 8
room_of (Cell.Owner name) = 8
room_of (Cell.Prio prio) = 3
room_of (Cell.State state) = 7
room_of (Cell.Core core) = 3
room_of (Cell.Code code) = 3
room_of (Cell.Flags flags) = 8
room_of (Cell.Kind soft periodic) = 8
room_of (Cell.Due tick) = 10
room_of (Cell.Device console) = 7
room_of (Cell.Mode mode) = 8
room_of (Cell.Byte n) = 3
room_of (Cell.Half n) = 5
room_of (Cell.Number n) = 10

-- the last digits of a number in base 16, so many, before what stands
abbrev pub hex_onto : ℕ → ℕ → List ℕ → List ℕ
hex_onto zero n behind = behind
hex_onto (suc k) n behind = hex_onto k (n / 16) (digit_glyph false (n % 16) ∷ behind)

-- whether numbers are at most others, place by place
abbrev pub fits : List ℕ → List ℕ → Bool
fits rs [] = true
fits [] (n ∷ ns) = false
fits (r ∷ rs) (n ∷ ns) = nat_le n r && fits rs ns

-- the most bytes of a title, a cell and a column of a table, by their place in the line
abbrev pub rooms : List ℕ
rooms = 8 ∷ 8 ∷ 10 ∷ 10 ∷ 7 ∷ 5 ∷ 5 ∷ []

-- what stands before the cell at a place: a space, but before the first one
abbrev pub separator : ℕ → List ℕ
separator zero = []
separator (suc place) = 32 ∷ []
