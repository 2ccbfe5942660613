-- A ring of links by thread number, with one more number, the root, between the last and the first.
use Rattle.std.specs.Prelude.{ℕ, ◌≡◌, ◌+◌, List, [], ◌∷◌, ◌++◌, length, map, Some, slice_get}
use Rattle.rt_plain.specs.kernel.Waiting.{Waiter, in_order, put_in_order}
use Rattle.susp_list.specs.Rows.{Waits, waiters, line}

-- each number from one end to the other is linked to the one behind it
abbrev pub IsLinkedOn : List ℕ → ℕ → List ℕ → ℕ → Type 0
IsLinkedOn next from [] to = slice_get next from ≡ Some to
IsLinkedOn next from (t ∷ ts) to = (slice_get next from ≡ Some t) × IsLinkedOn next t ts to

-- each number from one end to the other is linked to the one before it
abbrev pub IsLinkedBack : List ℕ → ℕ → List ℕ → ℕ → Type 0
IsLinkedBack prev from [] to = slice_get prev to ≡ Some from
IsLinkedBack prev from (t ∷ ts) to = (slice_get prev t ≡ Some from) × IsLinkedBack prev t ts to

-- the links are those of the list's threads in order
pub record IsRing (w : Waits) (next prev : List ℕ) (root len : ℕ) : Type 0 where
  pub root_is : root ≡ length w.rows
  pub next_len : length next ≡ root + 1
  pub prev_len : length prev ≡ root + 1
  pub on : IsLinkedOn next root (line w) root
  pub back : IsLinkedBack prev root (line w) root
  pub counted : len ≡ length (line w)

-- the last of a list, or the root
abbrev pub last_or : ℕ → List ℕ → ℕ
last_or root [] = root
last_or root (t ∷ ts) = last_or t ts

-- the first of a list, or the root
abbrev pub first_or : ℕ → List ℕ → ℕ
first_or root [] = root
first_or root (t ∷ ts) = t

-- the threads of some waiters
abbrev pub threads_of : List Waiter → List ℕ
threads_of ws = map (λ w. w.thread) ws

-- a new waiter belongs behind this number
pub record IsPlace (w : Waits) (new : Waiter) (before : ℕ) : Type 0 where
  pub front : List Waiter
  pub rest : List Waiter
  pub old_line : in_order w.order (waiters w) ≡ front ++ rest
  pub new_line : put_in_order w.order new (in_order w.order (waiters w)) ≡ front ++ new ∷ rest
  pub last : before ≡ last_or (length w.rows) (threads_of front)
