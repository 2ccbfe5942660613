-- The first of those that wait for a block, found from the last thread on.
use Rattle.std.proofs.Common.{ℕ, suc, ◌≡◌, ◌+◌, ◌-◌, ◌<◌, ◌≤◌, arith, List, [], ◌∷◌, Option, Some, None, Bool, true, false, refl, sym, ap, ◌∙◌, subst, length, map}
use Rattle.std.specs.Prelude.{if◌then◌else◌}
use Rattle.std.specs.List.{range_with_len, filter_map, cons_option}
use Rattle.std.specs.Option.{option_map}
use Rattle.rt_base.specs.declared.codes.WaitOrder.{WaitOrder}
use Rattle.rt_plain.specs.declared.stmt.Call.{Call}
use Rattle.rt_plain.specs.kernel.State.{Thread}
use Rattle.rt_plain.specs.kernel.Waiting.{Waiter, head_of, in_order, put_in_order, stands_before, threads_in_order}
use Rattle.kernel_tables.specs.Foremost.{foremost, nearer}
use Rattle.kernel_tables.specs.Tabled.{base_waiter, line_of}

abbrev pub front : List Waiter → Option Waiter
front [] = None
front (w ∷ ws) = Some w

-- the first of the waiters from a thread on
abbrev pub first_from : List Thread → WaitOrder → (Call → Bool) → ℕ → ℕ → Option Waiter
first_from threads order p t n = front (in_order order (filter_map (base_waiter threads p) (range_with_len t n)))

front-put : (order : WaitOrder) (w : Waiter) (ws : List Waiter) → front (put_in_order order w ws) ≡ Some (foremost order w (front ws))
front-put order w [] = refl
front-put order w (b ∷ bs) = by_test (stands_before order w b)
  where
    by_test : (c : Bool) → front (if c then w ∷ b ∷ bs else b ∷ put_in_order order w bs) ≡ Some (if c then w else b)
    by_test true = refl
    by_test false = refl

front-cons : (order : WaitOrder) (o : Option Waiter) (ws : List Waiter) → front (in_order order (cons_option o ws)) ≡ nearer order o (front (in_order order ws))
front-cons order None ws = refl
front-cons order (Some w) ws = front-put order w (in_order order ws)

-- one thread more in front
pub one-more : (threads : List Thread) (order : WaitOrder) (p : Call → Bool) (t n : ℕ) → first_from threads order p t (suc n) ≡ nearer order (base_waiter threads p t) (first_from threads order p (t + 1) n)
one-more threads order p t n = front-cons order (base_waiter threads p t) (filter_map (base_waiter threads p) (range_with_len (t + 1) n))

front-head : (ws : List Waiter) → head_of (map (λ w. w.thread) ws) ≡ option_map (λ w. w.thread) (front ws)
front-head [] = refl
front-head (w ∷ ws) = refl

-- all of them
pub all-seen : (threads : List Thread) (order : WaitOrder) (p : Call → Bool) (first : Option Waiter) → first ≡ first_from threads order p 0 (length threads) → option_map (λ w. w.thread) first ≡ head_of (line_of threads order p)
all-seen threads order p first is = ap (option_map (λ w. w.thread)) is ∙ sym (front-head (in_order order (filter_map (base_waiter threads p) (range_with_len 0 (length threads)))))
