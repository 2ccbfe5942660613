pub mod Starts
pub mod Lines
pub mod Chains
pub mod Levels
pub mod Wraps
pub mod Changes
