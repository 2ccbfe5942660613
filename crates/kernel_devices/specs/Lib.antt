pub mod Acts
pub mod Deviced
