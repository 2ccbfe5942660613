pub mod Lines
pub mod Hex
pub mod Short
pub mod Joined
pub mod Found
pub mod Printed
