pub mod Bits
pub mod Pools
pub mod Frees
pub mod LendsWaiters
