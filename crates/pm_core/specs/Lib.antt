pub mod Votes
pub mod Clock
pub mod Moments
