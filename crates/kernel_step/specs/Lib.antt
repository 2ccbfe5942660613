pub mod Built
pub mod Engine
pub mod IsDelivering
pub mod IsFiring
pub mod Did
pub mod MachineSeen
pub mod IsMachine
pub mod Fired
