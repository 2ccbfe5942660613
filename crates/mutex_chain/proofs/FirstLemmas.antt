-- The first of some waiters in order.
use Rattle.std.proofs.Common.{◌≡◌, List, [], ◌∷◌, map, Bool, true, false, cond, Option, Some, None, refl}
use Rattle.std.specs.Option.{option_map}
use Rattle.rt_base.specs.declared.codes.WaitOrder.{WaitOrder}
use Rattle.rt_plain.specs.kernel.Waiting.{Waiter, stands_before, put_in_order, head_of}
use Rattle.mutex_chain.specs.Graph.{sooner_of}

abbrev pub first_waiter : List Waiter → Option Waiter
first_waiter [] = None
first_waiter (w ∷ ws) = Some w

pub first_put : (w : Waiter) (ws : List Waiter) → first_waiter (put_in_order WaitOrder.Prio w ws) ≡ Some (sooner_of w (first_waiter ws))
first_put w [] = refl
first_put w (v ∷ vs) = by_test (stands_before WaitOrder.Prio w v)
  where
    by_test : (b : Bool) → first_waiter (cond b (w ∷ v ∷ vs) (v ∷ put_in_order WaitOrder.Prio w vs)) ≡ Some (cond b w v)
    by_test true = refl
    by_test false = refl

pub first_head : (ws : List Waiter) → option_map (λ (w : Waiter). w.thread) (first_waiter ws) ≡ head_of (map (λ w. w.thread) ws)
first_head [] = refl
first_head (w ∷ ws) = refl
