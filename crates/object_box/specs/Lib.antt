pub mod Objects
pub mod Classes
pub mod Devices
