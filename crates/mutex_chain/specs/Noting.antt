-- Notes of the numbers before an edit, of which its changes are made.
use Rattle.std.specs.Prelude.{ℕ, ◌≡◌, ◌<◌, ◌≤◌, min, Bool, false, not, List, length, map, filter, Option, Some, None, slice_index, slice_get, if◌then◌else◌, ◌==◌}
use Rattle.std.specs.List.{filter_map, range_with_len}
use Rattle.rt_plain.specs.kernel.Ownership.{Ownership, CurChange}
use Rattle.mutex_chain.specs.Owners.{has_thread}
use Rattle.mutex_chain.specs.Raising.{place_among, put_change}

-- the note of a thread: the number before stands for both
abbrev pub note_of : ℕ → ℕ → CurChange
note_of t old = record { thread = t; old = min old 255; new = min old 255 }

-- whether it is the note of a thread
abbrev pub is_note_of : ℕ → Option CurChange → Bool
is_note_of t None = false
is_note_of t (Some c) = c.thread == t

-- whether a thread has a note among some in thread order
abbrev pub has_note : ℕ → List CurChange → Bool
has_note t notes = is_note_of t (slice_get notes (place_among t notes))

-- one note more in thread order, where the thread has none yet
abbrev pub with_note : ℕ → ℕ → List CurChange → List CurChange
with_note t old notes = if has_note t notes then notes else put_change (Some (note_of t old)) notes

-- the note of a thread that was met
abbrev pub noted_at : (ℕ → Bool) → List ℕ → ℕ → Option CurChange
noted_at met olds t = if met t then Some (note_of t (slice_index olds t)) else None

-- the notes of all threads that were met, in thread order
abbrev pub noted : (ℕ → Bool) → List ℕ → List CurChange
noted met olds = filter_map (noted_at met olds) (range_with_len 0 (length olds))

-- notes of the numbers before, among them those of all threads whose number differs now
pub record AreNotes (olds numbers : List ℕ) (notes : List CurChange) : Type 0 where
  pub met : ℕ → Bool
  pub places : length numbers ≡ length olds
  pub list : notes ≡ noted met olds
  pub rest : (t : ℕ) → t < length olds → met t ≡ false → slice_index numbers t ≡ slice_index olds t

-- numbers below the mark
abbrev pub AreSmall : List ℕ → Type 0
AreSmall numbers = (t : ℕ) → t < length numbers → slice_index numbers t ≤ 256

-- there are such notes of some numbers before
pub record HasNotes (size : ℕ) (numbers : List ℕ) (notes : List CurChange) : Type 0 where
  pub olds : List ℕ
  pub places : length olds ≡ size
  pub are : AreNotes olds numbers notes

-- there are such notes of some numbers before that are below the mark
pub record HasSmallNotes (size : ℕ) (numbers : List ℕ) (notes : List CurChange) : Type 0 where
  pub olds : List ℕ
  pub places : length olds ≡ size
  pub small : AreSmall olds
  pub are : AreNotes olds numbers notes

-- a note with the number of now, where the thread is there
abbrev pub settled_note : Ownership → List ℕ → CurChange → CurChange
settled_note o numbers c = if has_thread o c.thread then record c { new = min (slice_index numbers c.thread) 255 } else c

-- the changes that notes become
abbrev pub settled : Ownership → List ℕ → List CurChange → List CurChange
settled o numbers notes = filter (λ c. not (c.old == c.new)) (map (settled_note o numbers) notes)
