pub mod Tie
pub mod Changes
