pub mod JournalSeen
pub mod Headers
pub mod Ending
pub mod Spelled
pub mod Signs
