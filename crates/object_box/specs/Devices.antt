-- The rows of devices.
use Rattle.std.specs.Prelude.{ℕ, ◌≡◌, ◌+◌, ◌<◌, ◌≤◌, Bool, true, false, ◌&&◌, Option, Some, None, Result, Ok, Err, slice_get, slice_set, codes, ◌==◌, if◌then◌else◌}
use Rattle.std.specs.List.{list_any}
use Rattle.std.specs.Str.{bytes_eq}
use Rattle.object_box.specs.declared.device.DeviceRow.{DeviceRow}
use Rattle.object_box.specs.declared.fault.CountFull.{CountFull}
use Rattle.object_box.specs.declared.fault.NotOpen.{NotOpen}
use Rattle.object_box.specs.declared.fault.NoRate.{NoRate}
use Rattle.object_box.specs.Classes.{AllObjects}

-- a row of the table, or that of a new device
abbrev pub row_or_new : Option DeviceRow → DeviceRow
row_or_new (Some row) = row
row_or_new None = record { opened = 0; rate = 1 }

-- the row of a device
abbrev pub row_of : AllObjects → ℕ → DeviceRow
row_of a number = row_or_new (slice_get a.rows number)

-- with another open count of a device
abbrev pub with_opened : AllObjects → ℕ → ℕ → AllObjects
with_opened a number opened = record a { rows = slice_set a.rows number (record (row_of a number) { opened = opened }) }

-- with another rate of a device
abbrev pub with_rate : AllObjects → ℕ → ℕ → AllObjects
with_rate a number rate = record a { rows = slice_set a.rows number (record (row_of a number) { rate = rate }) }

-- whether it is the device of the name `console`
abbrev pub is_console : AllObjects → ℕ → Bool
is_console a number = list_any (λ o. (o.no == number) && bytes_eq o.name (codes "console")) a.device.objects

-- each answer of `open_dev` with its cause, and what it leaves
abbrev pub Opens : AllObjects → AllObjects → ℕ → Result ℕ CountFull → Type 0
Opens old new number (Ok opened) = (opened ≡ (row_of old number).opened + 1) × (((row_of old number).opened < 255) × (new ≡ with_opened old number opened))
Opens old new number (Err fault) = ((row_of old number).opened ≡ 255) × (new ≡ old)

-- how often a device stays open at least: the console once
abbrev pub least_opened : AllObjects → ℕ → ℕ
least_opened a number = if is_console a number then 1 else 0

-- each answer of `close_dev` with its cause, and what it leaves
abbrev pub Closes : AllObjects → AllObjects → ℕ → Result ℕ NotOpen → Type 0
Closes old new number (Ok opened) = (opened + 1 ≡ (row_of old number).opened) × ((least_opened old number < (row_of old number).opened) × (new ≡ with_opened old number opened))
Closes old new number (Err fault) = ((row_of old number).opened ≤ least_opened old number) × (new ≡ old)

-- each answer of `set_rate` with its cause, and what it leaves
abbrev pub SetsRate : AllObjects → AllObjects → ℕ → ℕ → Result Unit NoRate → Type 0
SetsRate old new number rate (Ok done) = (is_console old number ≡ false) × (new ≡ with_rate old number rate)
SetsRate old new number rate (Err fault) = (is_console old number ≡ true) × (new ≡ old)
