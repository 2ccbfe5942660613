-- What a serial device keeps.
use Rattle.std.specs.Prelude.{ℕ, List}

-- the bytes of the receive ring and of the transmit ring, the oldest first, and how many each may hold
pub record PlainSerial : Type 0 where
  pub rx : List ℕ
  pub rx_size : ℕ
  pub tx : List ℕ
  pub tx_size : ℕ
