pub mod Joins
pub mod BoardLemmas
pub mod Spelled
pub mod DrawLemmas
