pub mod Counted
pub mod Released
pub mod LendsWaiters
pub mod Flags
pub mod Sent
