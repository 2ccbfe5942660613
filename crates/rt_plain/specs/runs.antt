-- Runs: journals, schedules, ends, and what is made of them.
pub mod Runs
pub mod Schedules
pub mod Live
pub mod Replays
pub mod Logs
pub mod Agreement
pub mod Generated
pub mod WorkLog
pub mod Ends
pub mod Cycles
pub mod Usage
pub mod Commands
pub mod Tickless
