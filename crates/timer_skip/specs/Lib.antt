pub mod Armed
pub mod Firing
pub mod Links
