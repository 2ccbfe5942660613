pub mod Gives
pub mod Drafts
pub mod Faults
pub mod Steps
