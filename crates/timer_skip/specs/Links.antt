-- Nodes that are linked on each level in the order in which their rows fire.
use Rattle.std.specs.Prelude.{ℕ, zero, suc, ◌≡◌, ◌≢◌, ◌⊎◌, ◌<◌, ◌≤◌, Bool, true, false, nat_le, List, [], ◌∷◌, ◌++◌, length, map, filter, Option, Some, None, slice_index_or, if◌then◌else◌}
use Rattle.std.specs.List.{AllByRecursion}
use Rattle.std.specs.Option.{option_map}
use Rattle.slab.specs.Slab.{get, slab_len}
use Rattle.timer_skip.specs.declared.node.Node.{Node}
use Rattle.timer_skip.specs.declared.rows.Rows.{Rows}
use Rattle.timer_skip.specs.Armed.{ArmedRow, is_row_of}
use Rattle.timer_skip.specs.Firing.{armed_row, sooner, IsLine}

-- what a level has of a node: its row, the highest level that it is on, and the key of the next one
pub record Slot : Type 0 where
  pub row : ArmedRow
  pub top : ℕ
  pub next : Option ℕ

abbrev pub slot_of : {L : ℕ} → ℕ → ℕ → Option (Node L) → Option Slot
slot_of tick level None = None
slot_of tick level (Some n) = Some (record { row = armed_row tick n.row; top = n.top; next = slice_index_or n.links level None })

-- what a level has of the node at a key
abbrev pub slot_at : {L : ℕ} → Rows L → ℕ → ℕ → Option Slot
slot_at r level key = slot_of r.tick level (get r.nodes key)

-- a node's key, its row, and the highest level that it is on
pub record Entry : Type 0 where
  pub key : ℕ
  pub row : ArmedRow
  pub top : ℕ

abbrev pub entry_of : ℕ → Slot → Entry
entry_of key s = record { key = key; row = s.row; top = s.top }

abbrev pub entry_at : (ℕ → Option Slot) → ℕ → Option Entry
entry_at at key = option_map (entry_of key) (at key)

-- a node, and those that follow it
abbrev pub go_on : ℕ → Option Slot → (Option ℕ → List Entry) → List Entry
go_on key None rest = []
go_on key (Some s) rest = entry_of key s ∷ rest s.next

-- the nodes from a link on, at most so many
abbrev pub walk : (ℕ → Option Slot) → ℕ → Option ℕ → List Entry
walk at zero link = []
walk at (suc n) None = []
walk at (suc n) (Some key) = go_on key (at key) (walk at n)

-- the key of the first node of a level
abbrev pub first_link : {L : ℕ} → Rows L → ℕ → Option ℕ
first_link r level = slice_index_or r.heads level None

-- all nodes, in the order of the lowest level's links
abbrev pub entries : {L : ℕ} → Rows L → List Entry
entries r = walk (slot_at r 0) r.nodes.capacity (first_link r 0)

-- the rows of nodes
abbrev pub rows_of : List Entry → List ArmedRow
rows_of es = map (λ (e : Entry). e.row) es

-- all rows, in the order of the lowest level's links
abbrev pub line : {L : ℕ} → Rows L → List ArmedRow
line r = rows_of (entries r)

-- below which number the timers' numbers lie
abbrev pub count : {L : ℕ} → Rows L → ℕ
count r = length r.places.items

-- whether a node is on a level
abbrev pub is_on : ℕ → Entry → Bool
is_on level e = nat_le level e.top

-- the nodes that are on a level: those on a higher one are a part of them, in the same order
abbrev pub on_level : ℕ → List Entry → List Entry
on_level level es = filter (is_on level) es

-- from a link on these nodes follow, and then none
abbrev pub IsChain : (ℕ → Option Slot) → Option ℕ → List Entry → Type 0
IsChain at link [] = link ≡ None
IsChain at link (e ∷ es) = (link ≡ Some e.key) × (next : Option ℕ) × (at e.key ≡ Some (record { row = e.row; top = e.top; next = next })) × IsChain at next es

-- the node is one of a list
abbrev pub IsIn : Entry → List Entry → Type 0
IsIn e [] = ⊥
IsIn e (f ∷ es) = (e ≡ f) ⊎ IsIn e es

-- the key of a timer's node
abbrev pub key_of : ℕ → List Entry → Option ℕ
key_of timer [] = None
key_of timer (e ∷ es) = if is_row_of timer e.row then Some e.key else key_of timer es

-- these nodes are all that there are, each level links those of them that are on it, in their order,
-- and each timer's is found by its number
pub record Links {L : ℕ} (r : Rows L) (es : List Entry) : Type 0 where
  pub some_level : 0 < L
  pub tick : r.tick < 4294967296
  pub chain : (level : ℕ) → level < L → IsChain (slot_at r level) (first_link r level) (on_level level es)
  pub in_order : IsLine (length r.places.items) (rows_of es)
  pub counted : slab_len r.nodes ≡ length es
  pub room : length r.places.items ≤ r.nodes.capacity
  pub each : (key : ℕ) (e : Entry) → entry_at (slot_at r 0) key ≡ Some e → IsIn e es
  pub placed : (timer : ℕ) → timer < length r.places.items → slice_index_or r.places.items timer None ≡ key_of timer es

-- what always holds of a skip list
abbrev pub IsLinked : {L : ℕ} → Rows L → Type 0
IsLinked r = Links r (entries r)

-- the link of a node
abbrev pub next_of : Option Slot → Option ℕ
next_of None = None
next_of (Some s) = s.next

-- the link that follows a node, or where there is no node the first one
abbrev pub link_after : (ℕ → Option Slot) → Option ℕ → Option ℕ → Option ℕ
link_after at first None = first
link_after at first (Some key) = next_of (at key)

-- the link that follows a node on a level
abbrev pub link_on : {L : ℕ} → Rows L → ℕ → Option ℕ → Option ℕ
link_on r level from = link_after (slot_at r level) (first_link r level) from

-- the node is there, and fires before a row
abbrev pub is_before : ArmedRow → Option Slot → Type 0
is_before row None = ⊥
is_before row (Some s) = sooner s.row row ≡ true

-- there is no node, or one of a level that fires before a row
abbrev pub IsFrom : {L : ℕ} → Rows L → ℕ → ArmedRow → Option ℕ → Type 0
IsFrom r level row None = Unit {0}
IsFrom r level row (Some key) = (e : Entry) × IsIn e (on_level level (entries r)) × (e.key ≡ key) × (sooner e.row row ≡ true)

-- the node behind one on a level doesn't fire before a row, if there is one
abbrev pub IsEnd : {L : ℕ} → Rows L → ℕ → ArmedRow → Option ℕ → Type 0
IsEnd r level row from = (key : ℕ) (s : Slot) → link_on r level from ≡ Some key → slot_at r level key ≡ Some s → sooner s.row row ≡ false

-- the last key of a list
abbrev pub last_key : List Entry → Option ℕ
last_key [] = None
last_key (e ∷ []) = Some e.key
last_key (e ∷ f ∷ es) = last_key (f ∷ es)

-- the first of a list doesn't fire before a row
abbrev pub IsBehind : ArmedRow → List Entry → Type 0
IsBehind row [] = Unit {0}
IsBehind row (e ∷ es) = sooner e.row row ≡ false

-- the nodes of a level up to one fire before a row, and those behind it don't
pub record IsStop {L : ℕ} (r : Rows L) (level : ℕ) (row : ArmedRow) (last : Option ℕ) : Type 0 where
  pub front : List Entry
  pub rest : List Entry
  pub parts : on_level level (entries r) ≡ front ++ rest
  pub ends : last_key front ≡ last
  pub before : AllByRecursion (λ (e : Entry). sooner e.row row ≡ true) front
  pub behind : IsBehind row rest

-- on each level, the last node there that fires before a row
abbrev pub AreStops : {L : ℕ} → Rows L → ArmedRow → List (Option ℕ) → Type 0
AreStops {L} r row lasts = (level : ℕ) → level < L → IsStop r level row (slice_index_or lasts level None)

-- the links behind some nodes, one of each level
abbrev pub AreLinks : {L : ℕ} → Rows L → List (Option ℕ) → List (Option ℕ) → Type 0
AreLinks {L} r lasts links = (level : ℕ) → level < L → slice_index_or links level None ≡ link_on r level (slice_index_or lasts level None)

-- a level is as before
pub record SameLevel {L : ℕ} (old new : Rows L) (level : ℕ) : Type 0 where
  pub slots : (key : ℕ) → slot_at new level key ≡ slot_at old level key
  pub first : first_link new level ≡ first_link old level

-- all but nodes and links is as before
pub record SameRest {L : ℕ} (old new : Rows L) : Type 0 where
  pub places : new.places ≡ old.places
  pub tick : new.tick ≡ old.tick
  pub capacity : new.nodes.capacity ≡ old.nodes.capacity
  pub counted : slab_len new.nodes ≡ slab_len old.nodes

-- the link behind a node is another one
abbrev pub with_next : Option ℕ → Option Slot → Option Slot
with_next to None = None
with_next to (Some s) = Some (record s { next = to })

-- the first link, where the link behind a node is another one
abbrev pub first_after : Option ℕ → Option ℕ → Option ℕ → Option ℕ
first_after None to first = to
first_after (Some key) to first = first

-- the link behind one node of a level, or the first one there, is another one
pub record IsRelinked {L : ℕ} (old new : Rows L) (level : ℕ) (from to : Option ℕ) : Type 0 where
  pub first : first_link new level ≡ first_after from to (first_link old level)
  pub changed : (key : ℕ) → from ≡ Some key → slot_at new level key ≡ with_next to (slot_at old level key)
  pub others : (key : ℕ) → from ≢ Some key → slot_at new level key ≡ slot_at old level key

-- one link of each level up to the top is another one
pub record AreRelinked {L : ℕ} (old new : Rows L) (top : ℕ) (lasts links : List (Option ℕ)) : Type 0 where
  pub low : (level : ℕ) → level < L → level ≤ top → IsRelinked old new level (slice_index_or lasts level None) (slice_index_or links level None)
  pub high : (level : ℕ) → top < level → SameLevel old new level
  pub rest : SameRest old new
