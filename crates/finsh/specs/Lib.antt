pub mod Cells
pub mod Commands
pub mod Families
