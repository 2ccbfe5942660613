pub mod Command
pub mod Held
pub mod Reads
pub mod Boards
pub mod Ending
pub mod Asked
