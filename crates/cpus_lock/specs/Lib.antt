pub mod Depths
pub mod Passes
pub mod Rule
pub mod Seats
pub mod Holds
pub mod Lending
pub mod Tries
