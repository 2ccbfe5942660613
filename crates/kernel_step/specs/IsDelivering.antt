-- What is left to arrive at a moment.
use Rattle.std.specs.Prelude.{◌≡◌, ◌≤◌, ◌++◌, All, List}
use Rattle.rt_plain.specs.declared.line.Line.{Line}
use Rattle.rt_plain.specs.kernel.Ticks.{deliveries}
use Rattle.rt_kernel.specs.PlainKernel.{PlainKernel}

-- what has arrived and what is left make up all that arrives
pub record IsDelivering (old now : PlainKernel) (old_lines lines : List Line) : Type 0 where
  pub board : now.board ≡ old.board
  pub state : (deliveries now.state).state ≡ (deliveries old.state).state
  pub shown : lines ++ (deliveries now.state).lines ≡ old_lines ++ (deliveries old.state).lines
  pub ahead : All (λ a. now.state.moment ≤ a.moment) now.state.arrivals
