pub mod Alarmed
pub mod Arming
