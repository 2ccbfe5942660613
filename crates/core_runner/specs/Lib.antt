pub mod Places
pub mod Limits
pub mod Sleeps
pub mod Moves
pub mod Parts
pub mod Replaying
pub mod Replays
