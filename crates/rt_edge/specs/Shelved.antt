-- Files in memory, by name and by number.
use Rattle.std.specs.Prelude.{ℕ, List, [], ◌∷◌, Option, Some, None, if◌then◌else◌, drop, slice_get}
use Rattle.std.specs.Str.{bytes_eq}
use Rattle.rt_edge.specs.Contents.{Names}
use Rattle.rt_edge.specs.Named.{Named}
use Rattle.rt_edge.specs.declared.shelf.Place.{Place}

-- what each name holds: of two files of one name the first counts
abbrev pub names_of : List Named → Names
names_of [] name = None
names_of (file ∷ files) name = if bytes_eq file.0 name then Some file.1 else names_of files name

-- what a file holds, if there is one
abbrev pub content_in : Option Named → List ℕ
content_in None = []
content_in (Some file) = file.1

-- what the file with a number holds
abbrev pub content_of : List Named → ℕ → List ℕ
content_of files number = content_in (slice_get files number)

-- what the open file has left
abbrev pub left_of : List Named → Option Place → List ℕ
left_of files None = []
left_of files (Some place) = drop place.at (content_of files place.number)
